-- Relocations applied to a section of a relocatable file (gABI 4, Relocation). The header of a
-- section is at an offset `at` of the file, a relocation entry at an offset `rela`.
use Rattle.std.specs.Prelude.{ℕ, zero, suc, ◌+◌, ◌==◌, ◌&&◌, ◌||◌, nat_lt, not, Bool, true, false, if◌then◌else◌, List, [], ◌∷◌, ◌++◌, length, take, drop, flat_map, Option, None, Some, Result, Ok, Err}
use Rattle.std.specs.Int.RustNames.{bit_and}
use Rattle.elf_model.specs.Checks.{Check, refuse, first_refusal, header_checks, load_checks, range_checks}
use Rattle.elf_model.specs.Hash.{symbol_at}
use Rattle.elf_model.specs.Numbers.{ET_REL, EM_X86_64, SHT_NULL, SHT_NOBITS, SHT_RELA, SHF_COMPRESSED, R_X86_64_NONE}
use Rattle.elf_model.specs.Placing.{Layout, base_value, unnamed_value, has_base, place_value}
use Rattle.elf_model.specs.Records.{e_type, e_machine, e_shnum, sh_type, sh_flags, sh_info, r_offset, r_sym, r_type, r_addend, twos_complement, section_at}
use Rattle.elf_model.specs.Tables.{RELA_SIZE, section_bytes, linked_at, strings_of, entry_count, entry_at, relocation_table_checks, symbol_checks_of}
use Rattle.elf_model.specs.Values.{FormulaTerms, takes_place, kind_of, overflows, low_bytes}
use Rattle.elf_model.specs.declared.relocation_types.RelocationBase.{RelocationBase}
use Rattle.elf_model.specs.declared.relocation_types.RelocationType.{RelocationType}
use Rattle.elf_model.specs.declared.causes.Cause.TheVariants.{NotRel, BadLink, Unsupported, Overflow, PlaceOutside}
use Rattle.elf_model.specs.declared.causes.Refusal.{Refusal}

-- a section has no bytes in the file (gABI 4, Section Types)
abbrev pub has_no_bytes : List ℕ → ℕ → Bool
has_no_bytes file at = sh_type file at == SHT_NOBITS || sh_type file at == SHT_NULL

-- a section is compressed: relocation entries apply to its uncompressed bytes, not to those in the
-- file (gABI 4, Section Compression)
abbrev pub is_compressed : List ℕ → ℕ → Bool
is_compressed file at = bit_and (sh_flags file at) SHF_COMPRESSED == SHF_COMPRESSED

-- the bytes that a section has in the file
unfoldable pub held_bytes : List ℕ → ℕ → List ℕ
held_bytes file at = elim (has_no_bytes file at) [ true ↦ [] | false ↦ section_bytes file at ]

-- what relocations are applied to: the file, the section's index, its size in bytes, and the layout
pub record ApplyTarget : Type 0 where
  pub file : List ℕ
  pub section : ℕ
  pub size : ℕ
  pub layout : Layout

-- B, by its base, of the symbol that an entry names
unfoldable pub named_value : RelocationBase → ApplyTarget → ℕ → ℕ → Result ℕ Refusal
named_value base target at rela =
    let file = target.file in
    let symbols = linked_at file at in
    elim (r_sym file rela == 0) [
      | true ↦ unnamed_value base rela
      | false ↦ base_value base file (strings_of file symbols) target.layout rela (symbol_at file symbols (r_sym file rela))
    ]

-- the symbol that an entry names is one of the linked table's, or symbol 0
abbrev pub symbol_checks : List ℕ → ℕ → ℕ → List Check
symbol_checks file at rela = symbol_checks_of file at rela (r_sym file rela)

-- a value that the formula uses is there
abbrev pub value_checks : Bool → Result ℕ Refusal → List Check
value_checks taken (Ok value) = []
value_checks taken (Err refusal) = record { fails = taken; refusal = refusal } ∷ []

-- a value, or 0 if it is not there
abbrev value_or_zero : Result ℕ Refusal → ℕ
value_or_zero (Ok value) = value
value_or_zero (Err refusal) = 0

-- B, A and P of a relocation entry
abbrev pub terms_of : ApplyTarget → ℕ → ℕ → RelocationType → FormulaTerms
terms_of target at rela type =
    record {
      base = value_or_zero (named_value type.base target at rela);
      addend = twos_complement (r_addend target.file rela);
      place = value_or_zero (place_value target.file target.layout target.section rela);
    }

-- The checks of a relocation entry by its type, in their order; the first that fails refuses the
-- entry. Its bytes lie in the section; its symbol is one of the table's; B is there, and P if the
-- formula uses it; its value is in the type's range. They refuse at the entry, except for a name
-- that cannot be compared: that is refused at its symbol.
unfoldable pub entry_checks : ApplyTarget → ℕ → ℕ → RelocationType → List Check
entry_checks target at rela type =
    refuse (nat_lt target.size (r_offset target.file rela + type.width)) rela PlaceOutside
    ∷ symbol_checks target.file at rela
    ++ value_checks true (named_value type.base target at rela)
    ++ value_checks (takes_place type.formula) (place_value target.file target.layout target.section rela)
    ++ refuse (overflows type (terms_of target at rela type)) rela Overflow
    ∷ []

-- bytes that are stored at an offset of a section
pub record StoredBytes : Type 0 where
  pub at : ℕ
  pub bytes : List ℕ

-- what an entry does to the section: bytes are stored, or it is refused
pub data SectionChange : Type 0 where
  Put : StoredBytes → SectionChange
  Fails : Refusal → SectionChange

-- what an entry does: before all other checks it is refused if its type does not store a value
unfoldable pub change_of : ApplyTarget → ℕ → ℕ → Option RelocationType → SectionChange
change_of target at rela None = Fails (record { at = rela; cause = Unsupported })
change_of target at rela (Some type) =
    elim (first_refusal (entry_checks target at rela type)) [
      | Some refusal ↦ Fails refusal
      | None ↦ Put (record { at = r_offset target.file rela; bytes = low_bytes type (terms_of target at rela type) })
    ]

-- a relocation type, if a layout has addresses for its base
unfoldable pub where_based : Layout → Option RelocationType → Option RelocationType
where_based layout None = None
where_based layout (Some type) = elim (has_base layout type.base) [ true ↦ Some type | false ↦ None ]

-- what an entry does, if anything: R_X86_64_NONE does nothing, and nothing of it is checked
unfoldable pub entry_changes : ApplyTarget → ℕ → ℕ → List SectionChange
entry_changes target at rela =
    elim (r_type target.file rela == R_X86_64_NONE) [
      | true ↦ []
      | false ↦ change_of target at rela (where_based target.layout (kind_of (r_type target.file rela))) ∷ []
    ]

-- the offsets of this many entries of a table, from an index on
unfoldable pub places_from : (ℕ → ℕ) → ℕ → ℕ → List ℕ
places_from place i zero = []
places_from place i (suc n) = place i ∷ places_from place (suc i) n

-- the offsets of the section headers of a file
abbrev pub section_headers : List ℕ → List ℕ
section_headers file = places_from (section_at file) 0 (e_shnum file)

-- the offsets of the relocation entries of a section
abbrev pub relocation_entries : List ℕ → ℕ → List ℕ
relocation_entries file at = places_from (entry_at file at RELA_SIZE) 0 (entry_count file at RELA_SIZE)

-- a section has relocation entries for another
abbrev pub applies_to : List ℕ → ℕ → ℕ → Bool
applies_to file section at = sh_type file at == SHT_RELA && sh_info file at == section

-- what a section does: nothing unless it has entries for the target; its first refusal, or what its
-- entries do
unfoldable pub section_changes : ApplyTarget → ℕ → List SectionChange
section_changes target at =
    elim (applies_to target.file target.section at) [
      | false ↦ []
      | true ↦ elim (first_refusal (relocation_table_checks target.file at)) [
        | Some refusal ↦ Fails refusal ∷ []
        | None ↦ flat_map (entry_changes target at) (relocation_entries target.file at)
      ]
    ]

-- what all sections do, in the order of their index
unfoldable pub changes_of : ApplyTarget → List SectionChange
changes_of target = flat_map (section_changes target) (section_headers target.file)

-- a patch before others, unless there is a refusal among those
unfoldable pub and_patches : StoredBytes → Result (List StoredBytes) Refusal → Result (List StoredBytes) Refusal
and_patches patch (Err refusal) = Err refusal
and_patches patch (Ok patches) = Ok (patch ∷ patches)

-- all that is stored, or the first refusal
unfoldable pub patches_of : List SectionChange → Result (List StoredBytes) Refusal
patches_of [] = Ok []
patches_of (Fails refusal ∷ changes) = Err refusal
patches_of (Put patch ∷ changes) = and_patches patch (patches_of changes)

-- bytes are stored
unfoldable pub put : StoredBytes → List ℕ → List ℕ
put patch base = take patch.at base ++ (patch.bytes ++ drop (patch.at + length patch.bytes) base)

-- bytes are stored one after another, so that of two that overlap the later wins
unfoldable pub patched : List StoredBytes → List ℕ → List ℕ
patched [] base = base
patched (patch ∷ patches) base = patched patches (put patch base)

-- the checks of the request to apply relocations to a section
unfoldable pub apply_checks : List ℕ → ℕ → List Check
apply_checks file section =
    refuse (not (e_type file == ET_REL)) 0x10 NotRel
    ∷ refuse (not (e_machine file == EM_X86_64)) 0x12 NotRel
    ∷ refuse (section == 0 || not (nat_lt section (e_shnum file))) 0x3c BadLink
    ∷ refuse (is_compressed file (section_at file section)) (section_at file section) Unsupported
    ∷ (if has_no_bytes file (section_at file section) then [] else range_checks file (section_at file section))

-- all checks before the relocation entries, with this many headers allowed
abbrev pub before_entries : List ℕ → ℕ → ℕ → List Check
before_entries file headers section = (header_checks file ++ load_checks file headers) ++ apply_checks file section

-- how many bytes a section, by its index, has in the file
abbrev pub held_size : List ℕ → ℕ → ℕ
held_size file section = length (held_bytes file (section_at file section))

-- a section of a file as a target
abbrev pub target_of : List ℕ → ℕ → Layout → ApplyTarget
target_of file section layout =
    record { file = file; section = section; size = held_size file section; layout = layout }

-- the section's bytes with all relocations applied, or the first refusal
unfoldable pub applied : List ℕ → ℕ → ℕ → Layout → Result (List ℕ) Refusal
applied file headers section layout =
    elim (first_refusal (before_entries file headers section)) [
      | Some refusal ↦ Err refusal
      | None ↦ elim (patches_of (changes_of (target_of file section layout))) [
        | Err refusal ↦ Err refusal
        | Ok patches ↦ Ok (patched patches (held_bytes file (section_at file section)))
      ]
    ]
