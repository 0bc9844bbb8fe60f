-- The line of a value that does not fit, for standard error: where it would be stored, what a linker
-- says of it, and the value.
use Rattle.std.specs.Prelude.{ℕ, ◌==◌, Bool, true, false, if◌then◌else◌, List, [], ◌++◌, codes, decimal, Option, None, Some, unwrap_or}
use Rattle.elf_model.specs.Explain.{explained}
use Rattle.elf_model.specs.ExplainLine.{explanation, is_unnamed}
use Rattle.elf_model.specs.Lines.{name_text}
use Rattle.elf_model.specs.NameTables.{number_sign}
use Rattle.elf_model.specs.Numbers.{EM_X86_64}
use Rattle.elf_model.specs.Overflow.{OverflowEntry, overflowed}
use Rattle.elf_model.specs.Placing.{Layout}
use Rattle.elf_model.specs.RelocationNames.{psabi_relocation_types}
use Rattle.elf_model.specs.Text.{name_of, newline, short_hex}
use Rattle.elf_model.specs.declared.causes.Cause.{Cause}
use Rattle.elf_model.specs.declared.causes.Cause.TheVariants.{Overflow}
use Rattle.elf_model.specs.declared.causes.Refusal.{Refusal}
use Rattle.elf_model.specs.declared.missing.OverflowedValue.{OverflowedValue}

-- the relocation type, named as in the processor supplement
unfoldable pub whole_type_text : ℕ → List ℕ
whole_type_text kind = unwrap_or (name_of (psabi_relocation_types EM_X86_64) kind) (number_sign kind)

-- the section and the offset in it, and the words of GNU ld with the type
unfoldable pub truncated_text : OverflowedValue → List ℕ
truncated_text o =
    codes "elfsee: section " ++ decimal o.section ++ codes ", offset 0x" ++ short_hex o.offset
    ++ codes ": relocation truncated to fit: " ++ whole_type_text o.kind

-- a symbol without a name, by its index; symbol 0 is none
unfoldable pub numbered_symbol : ℕ → List ℕ
numbered_symbol symbol = if symbol == 0 then [] else codes " against symbol " ++ decimal symbol

-- the end of the line
unfoldable pub unfit_text : ℕ → List ℕ
unfit_text value = codes ": value 0x" ++ short_hex value ++ newline

-- the line
unfoldable pub overflow_line : OverflowEntry → List ℕ
overflow_line entry = elim (is_unnamed entry.name) [
  | true ↦ truncated_text entry.overflowed ++ numbered_symbol entry.overflowed.symbol ++ unfit_text entry.overflowed.value
  | false ↦ (truncated_text entry.overflowed ++ codes " against symbol `") ++ (name_text entry.name ++ (codes "'" ++ unfit_text entry.overflowed.value))
]

-- that line, or nothing
abbrev pub overflow_text : Option OverflowEntry → List ℕ
overflow_text None = []
overflow_text (Some entry) = overflow_line entry

-- an entry that is refused for this cause has a value that does not fit
unfoldable pub is_overflow : Cause → Bool
is_overflow Overflow = true
is_overflow _ = false

-- WHAT IS PRINTED of a refusal of a section: the value that does not fit, or what the layout lacks
unfoldable pub why_refused : List ℕ → ℕ → Layout → Refusal → List ℕ
why_refused file section layout refusal = elim (is_overflow refusal.cause) [
  | true ↦ overflow_text (overflowed file section layout refusal.at)
  | false ↦ explanation (explained file section layout refusal)
]
