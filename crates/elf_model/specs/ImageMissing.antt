-- WHAT A PROCESS'S ITEMS LACK for the image of a file: the relocation entries that have no value by
-- them, and their lines. An entry is at an offset of the file.
use Rattle.std.specs.Prelude.{ℕ, true, List, [], ◌∷◌, flat_map, codes, None, Some, Result, Ok, Err}
use Rattle.elf_model.specs.Causes.{cause_word}
use Rattle.elf_model.specs.Checks.{first_refusal}
use Rattle.elf_model.specs.Fields.{Fields, closed_line}
use Rattle.elf_model.specs.Fields.Field.{ArgSpec, Decimal, Hexadecimal}
use Rattle.elf_model.specs.ImageChecks.{image_checks}
use Rattle.elf_model.specs.Image.{ImageChange, Keeps, Lacks, Refuses, Stores, image_changes}
use Rattle.elf_model.specs.ImageItems.{ItemValues}
use Rattle.elf_model.specs.NameTables.{relocation_type_text}
use Rattle.elf_model.specs.Numbers.{EM_X86_64}
use Rattle.elf_model.specs.Records.{r_offset, r_sym, r_type}
use Rattle.elf_model.specs.Style.{without_sections}
use Rattle.elf_model.specs.declared.causes.Refusal.{Refusal}
use Rattle.elf_model.specs.declared.formats.Format.TheVariants.{Columns}

-- an entry before others, unless there is a refusal among those
unfoldable pub and_lacks : Refusal → Result (List Refusal) Refusal → Result (List Refusal) Refusal
and_lacks lack (Err refusal) = Err refusal
and_lacks lack (Ok lacks) = Ok (lack ∷ lacks)

-- the entries among changes that have no value, each with its cause, or the first refusal
unfoldable pub lacks_of : List ImageChange → Result (List Refusal) Refusal
lacks_of [] = Ok []
lacks_of (Keeps ∷ changes) = lacks_of changes
lacks_of (Refuses refusal ∷ changes) = Err refusal
lacks_of (Lacks lack ∷ changes) = and_lacks lack (lacks_of changes)
lacks_of (Stores write ∷ changes) = lacks_of changes

unfoldable pub missing_by_segments : (whole file : List ℕ) → (headers : ℕ) → ItemValues → Result (List Refusal) Refusal
missing_by_segments whole file headers items = elim (first_refusal (image_checks file headers [])) [
  | Some refusal ↦ Err refusal
  | None ↦ lacks_of (image_changes whole file items)
]

-- THE ENTRIES OF A FILE THAT LACK AN ITEM, in the order in which a loader applies them, with this many
-- headers allowed; or the first refusal
unfoldable pub missing_entries : List ℕ → (headers : ℕ) → ItemValues → Result (List Refusal) Refusal
missing_entries file headers items = missing_by_segments file (without_sections file) headers items

-- the line of an entry: its offset, the address that it changes, its type, the index of its symbol,
-- and the cause
abbrev missing_fields : List ℕ → (rela : ℕ) → Fields
missing_fields file rela = record {
  letter = codes "M";
  fields =
      Hexadecimal (codes "place") 16 9 rela
      ∷ Hexadecimal (codes "offset") 16 9 (r_offset file rela)
      ∷ ArgSpec (codes "type") 10 (relocation_type_text true EM_X86_64 (r_type file rela))
      ∷ Decimal (codes "symbol") 10 (r_sym file rela)
      ∷ [];
}

unfoldable pub missing_entry_line : List ℕ → Refusal → List ℕ
missing_entry_line file lack = closed_line Columns (missing_fields file lack.at) (ArgSpec (codes "cause") 0 (cause_word lack.cause))

-- their lines
unfoldable pub missing_text : List ℕ → List Refusal → List ℕ
missing_text file lacks = flat_map (missing_entry_line file) lacks
