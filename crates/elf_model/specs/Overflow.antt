-- The value of a relocation entry that was refused because it does not fit.
use Rattle.std.specs.Prelude.{ℕ, ◌==◌, true, false, List, Option, None, Some, Result, Ok, Err}
use Rattle.elf_model.specs.Apply.{ApplyTarget, named_value, symbol_checks}
use Rattle.elf_model.specs.Checks.{first_refusal}
use Rattle.elf_model.specs.Explain.{refused_in, resolved_symbol_name}
use Rattle.elf_model.specs.Hash.{symbol_at}
use Rattle.elf_model.specs.Names.{DisplayedName}
use Rattle.elf_model.specs.Placing.{Layout, place_value}
use Rattle.elf_model.specs.Records.{r_addend, r_offset, r_sym, r_type, section_at, st_name, twos_complement}
use Rattle.elf_model.specs.Tables.{linked_at, strings_of}
use Rattle.elf_model.specs.Values.{FormulaTerms, kind_of, overflows, takes_place, value_of}
use Rattle.elf_model.specs.declared.causes.Cause.{Cause}
use Rattle.elf_model.specs.declared.causes.Refusal.{Refusal}
use Rattle.elf_model.specs.declared.missing.OverflowedValue.{OverflowedValue}
use Rattle.elf_model.specs.declared.relocation_types.Formula.{Formula}
use Rattle.elf_model.specs.declared.relocation_types.RelocationType.{RelocationType}

-- a value that is there
abbrev pub value_there : Result ℕ Refusal → Option ℕ
value_there (Ok value) = Some value
value_there (Err refusal) = None

-- B, if the symbol is one of the table's and has an address
unfoldable pub base_there : ApplyTarget → (header rela : ℕ) → RelocationType → Option ℕ
base_there target header rela type = elim (first_refusal (symbol_checks target.file header rela)) [
  | Some refusal ↦ None
  | None ↦ value_there (named_value type.base target header rela)
]

-- P, or 0 if the formula does not use it
unfoldable pub place_there : ApplyTarget → (rela : ℕ) → Formula → Option ℕ
place_there target rela formula = elim (takes_place formula) [
  | true ↦ value_there (place_value target.file target.layout target.section rela)
  | false ↦ Some 0
]

-- the value, if it is outside the type's range
abbrev pub value_outside : RelocationType → FormulaTerms → Option ℕ
value_outside type terms = elim (overflows type terms) [ true ↦ Some (value_of type terms) | false ↦ None ]

-- the value of an entry of a type, by B and P, if they are there
abbrev pub value_by : List ℕ → (rela : ℕ) → RelocationType → Option ℕ → Option ℕ → Option ℕ
value_by file rela type None place = None
value_by file rela type (Some base) None = None
value_by file rela type (Some base) (Some place) =
    value_outside type (record { base = base; addend = twos_complement (r_addend file rela); place = place })

-- the value of an entry in a section of entries with this header, if it does not fit; nothing if the
-- type stores no value
unfoldable pub value_unfit : ApplyTarget → (header rela : ℕ) → Option ℕ
value_unfit target header rela = elim (kind_of (r_type target.file rela)) [
  | None ↦ None
  | Some type ↦ value_by target.file rela type (base_there target header rela type) (place_there target rela type.formula)
]

-- that value, with its entry and the name of its symbol
pub record OverflowEntry : Type 0 where
  pub overflowed : OverflowedValue
  pub name : DisplayedName

-- the name of the symbol that an entry names; symbol 0 has none
unfoldable pub entry_symbol_name : List ℕ → (header rela : ℕ) → Result DisplayedName Cause
entry_symbol_name file header rela =
    let symbols = linked_at file header in
    resolved_symbol_name (strings_of file symbols)
    (elim (r_sym file rela == 0) [ true ↦ 0 | false ↦ st_name file (symbol_at file symbols (r_sym file rela)) ])

-- the entry of a value in a section, if the name has no fault
abbrev pub overflow_with : List ℕ → (section rela value : ℕ) → Result DisplayedName Cause → Option OverflowEntry
overflow_with file section rela value (Err cause) = None
overflow_with file section rela value (Ok name) = Some (record {
  overflowed = record { kind = r_type file rela; symbol = r_sym file rela; section = section; offset = r_offset file rela; value = value };
  name = name;
})

-- the same of an entry in a section of entries with this header
unfoldable pub overflow_in : ApplyTarget → (header rela : ℕ) → Option OverflowEntry
overflow_in target header rela = elim (value_unfit target header rela) [
  | None ↦ None
  | Some value ↦ overflow_with target.file target.section rela value (entry_symbol_name target.file header rela)
]

-- THE VALUE THAT DOES NOT FIT if a section, by its index, was refused for it at an offset: that of
-- the entry there, in the section of entries that the refusal points into
unfoldable pub overflowed : List ℕ → ℕ → Layout → ℕ → Option OverflowEntry
overflowed file section layout rela = elim (refused_in file section rela) [
  | None ↦ None
  | Some index ↦ overflow_in (record { file = file; section = section; size = 0; layout = layout }) (section_at file index) rela
]
