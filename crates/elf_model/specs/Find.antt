-- The lookup of a name in a file: the checks before it, its result, and how many bytes it may read.
use Rattle.std.specs.Prelude.{ℕ, zero, suc, ◌+◌, ◌*◌, ◌==◌, ◌&&◌, ◌||◌, nat_lt, not, Bool, true, false, List, [], ◌∷◌, ◌++◌, length, Option, None, Some}
use Rattle.elf_model.specs.Checks.{Check, refuse, first_refusal, header_checks, before_headers, load_checks, range_checks}
use Rattle.elf_model.specs.Hash.{nbucket, nchain, Lookup, refused_after, looked_up}
use Rattle.elf_model.specs.Numbers.{EM_ALPHA, SHT_HASH}
use Rattle.elf_model.specs.Records.{FILE_HEADER_SIZE, SECTION_HEADER_SIZE, e_machine, e_shnum, sh_type, sh_size, sh_link, sh_entsize, section_at}
use Rattle.elf_model.specs.Names.{pad64}
use Rattle.elf_model.specs.Tables.{SYMBOL_SIZE, linked_at, has_symbols, symbol_table_checks}
use Rattle.elf_model.specs.declared.causes.Cause.TheVariants.{BadLink, NoHash, HashShape}

-- the first number, starting at a first one, among this many, that passes a test
unfoldable pub first_that : (ℕ → Bool) → ℕ → ℕ → Option ℕ
first_that test first zero = None
first_that test first (suc n) = elim (test first) [ true ↦ Some first | false ↦ first_that test (suc first) n ]

-- the first HASH section
unfoldable pub first_hash : List ℕ → Option ℕ
first_hash file = first_that (λ i. sh_type file (section_at file i) == SHT_HASH) 0 (e_shnum file)

-- a section's gABI hash table has words of 8 bytes, as Alpha's files have them and their entry size
-- says, not of 4
abbrev pub has_64_bit_words : List ℕ → ℕ → Bool
has_64_bit_words file at = e_machine file == EM_ALPHA && (sh_type file at == SHT_HASH && sh_entsize file at == 8)

-- the checks of a section that is a hash table, of this many bytes at least, before its words are
-- read
abbrev pub hash_checks_from : ℕ → List ℕ → ℕ → List Check
hash_checks_from least file at =
    range_checks file at
    ++ (refuse (nat_lt (sh_size file at) least || has_64_bit_words file at) at HashShape ∷ refuse (sh_link file at == 0 || not (has_symbols file at)) at BadLink ∷ [])
    ++ symbol_table_checks file (linked_at file at)

-- those of a HASH section
unfoldable pub hash_checks : List ℕ → ℕ → List Check
hash_checks file at = hash_checks_from 8 file at

-- the check of a hash table's counts against its size
unfoldable pub shape_checks : List ℕ → ℕ → List Check
shape_checks file at =
    refuse (nbucket file at == 0 || nat_lt (sh_size file at) (8 + 4 * nbucket file at + 4 * nchain file at)) at HashShape ∷ []

-- the result of a lookup in a HASH section once its checks pass, otherwise the first refusal
unfoldable pub looked_in : List ℕ → ℕ → List ℕ → Lookup
looked_in file at wanted =
    elim (first_refusal (hash_checks file at ++ shape_checks file at)) [
      | Some refusal ↦ refused_after 0 refusal
      | None ↦ looked_up file at wanted
    ]

-- the result of a lookup in a file, with this many headers allowed
unfoldable pub looked : List ℕ → ℕ → List ℕ → Lookup
looked file headers wanted =
    elim (first_refusal (header_checks file ++ load_checks file headers)) [
      | Some refusal ↦ refused_after 0 refusal
      | None ↦ elim (first_hash file) [
        | None ↦ refused_after 0 (record { at = 0x28; cause = NoHash })
        | Some section ↦ looked_in file (section_at file section) wanted
      ]
    ]

-- how many bytes a lookup may read: the file header alone if the section headers are not read,
-- otherwise that, the section headers, three words, and a word, a symbol and a name for each symbol
-- compared
unfoldable pub find_cost : List ℕ → ℕ → List ℕ → ℕ
find_cost file headers wanted =
    elim (first_refusal (before_headers file headers)) [
      | Some refusal ↦ FILE_HEADER_SIZE
      | None ↦
          FILE_HEADER_SIZE + 12 + SECTION_HEADER_SIZE * e_shnum file
          + (looked file headers wanted).compared * (4 + SYMBOL_SIZE + pad64 (length wanted + 1))
    ]
