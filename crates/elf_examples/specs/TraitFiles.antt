-- A small program to compute on, which has every trait, and the words in which the worked examples
-- are stated.
use Rattle.std.specs.Prelude.{◌≡◌, ℕ, List, [], ◌∷◌, ◌++◌, codes, Ok, Err}
use Rattle.elf_model.specs.Prelude.{check_line, little, object, plain_note, program_header, symbol, tagged, trait_line, traits_cost, traits_of, words, zeros}
use Rattle.elf_model.specs.declared.formats.Format.TheVariants.{Columns}
use Rattle.elf_model.specs.declared.states.FileStatus.TheVariants.{Refused}

-- its program headers, starting at 0x40: all of it is loaded at address 0; the interpreter; the
-- dynamic entries; the permissions of the stack; what is read-only after relocation; the notes
unfoldable pub headers_of_program : List ℕ
headers_of_program =
    program_header 1 5 0 0 0x2a8 0x1000 ++ program_header 3 4 0x217 0x217 1 1 ++ program_header 2 6 0x238 0x238 0x70 8
    ++ program_header 0x6474e551 6 0 0 0 16 ++ program_header 0x6474e552 4 0x238 0x238 0x70 1
    ++ program_header 4 4 0x218 0x218 0x20 8

-- its GNU hash table, at 0x190, which has no symbol: there are three, all before `first`
unfoldable pub program_hash : List ℕ
program_hash = words (1 ∷ 3 ∷ 1 ∷ 6 ∷ 0 ∷ 0 ∷ 0 ∷ 0 ∷ [])

-- its symbols, at 0x1b0, which it references, and their strings, at 0x1f8
unfoldable pub program_symbols : List ℕ
program_symbols = symbol 0 0 0 0 0 ++ symbol 1 0x12 0 0 0 ++ symbol 18 0x12 0 0 0

unfoldable pub program_strings : List ℕ
program_strings = zeros 1 ++ codes "__stack_chk_fail" ++ zeros 1 ++ codes "__printf_chk" ++ zeros 2

-- a property with padding: its type, the size of its data, the data
unfoldable pub property : (type datasz : ℕ) → List ℕ → List ℕ
property type datasz content = little 4 type ++ little 4 datasz ++ content

-- its note, at 0x218, whose list of properties begins at 0x228: both x86 features
unfoldable pub program_note : List ℕ
program_note = plain_note (codes "GNU" ++ zeros 1) (property 0xc0000002 4 (little 8 3)) 5

-- its dynamic entries, at 0x238: GNU_HASH, STRTAB, SYMTAB, STRSZ, FLAGS, FLAGS_1, NULL
unfoldable pub program_entries : List ℕ
program_entries =
    tagged 0x6ffffef5 0x190 ++ tagged 5 0x1f8 ++ tagged 6 0x1b0 ++ tagged 10 0x20 ++ tagged 30 8 ++ tagged 0x6ffffffb 0x8000001
    ++ tagged 0 0

-- A PROGRAM of 680 bytes without section headers
unfoldable pub program_with_traits : List ℕ
program_with_traits =
    object 6 (headers_of_program ++ program_hash ++ program_symbols ++ program_strings ++ program_note ++ program_entries)

-- the line of a file at a path, with eight headers allowed: its traits, or its refusal
unfoldable pub trait_line_of : List ℕ → List ℕ
trait_line_of file = elim (traits_of file 8) [
  | Err refusal ↦ check_line Columns (Refused refusal) (codes "p")
  | Ok traits ↦ trait_line Columns traits (codes "p")
]

abbrev pub TraitsAre : List ℕ → List ℕ → Type 0
TraitsAre file line = trait_line_of file ≡ line

-- it reads this many bytes
abbrev pub TraitsCost : List ℕ → ℕ → Type 0
TraitsCost file cost = traits_cost file 8 ≡ cost
