-- The value that does not fit, as it is found.
use Rattle.std.specs.Prelude.{ℕ, ◌≡◌, ◌+◌, ◌*◌, ◌++◌, true, false, Bool, List, Option, None, Some, Result, Ok, Err}
use Rattle.elf_model.specs.Prelude.{IsBudgetRefusal, Layout, OverflowEntry, first_refusal, header_checks, layout_names_cost, load_checks}
use Rattle.elf_model.specs.declared.causes.Refusal.{Refusal}
use Rattle.elf_model.specs.declared.missing.OverflowedValue.{OverflowedValue}
use Rattle.elf_table.specs.Prelude.{IsOfRead, shown_by}
use Rattle.elf_table.specs.declared.fault.Fault.{Fault}
use Rattle.elf_table.specs.declared.fault.Fault.TheVariants.{Refused, Source}
use Rattle.elf_table.specs.declared.names.NameEnd.{NameEnd}
use Rattle.elf_reloc.specs.Explained.{entry_bytes, explain_bytes}

-- how many bytes of the entry, its symbol for its value and for its name, that name, and the names
-- of the layout
abbrev pub overflow_entry_bytes : Layout → ℕ
overflow_entry_bytes layout = entry_bytes + 24 + layout_names_cost layout

-- THE UPPER BOUND of reads: the file header, a section header for each slot, and those
abbrev pub overflow_bytes : ℕ → Layout → ℕ
overflow_bytes slots layout = explain_bytes slots + 24 + layout_names_cost layout

-- a value is found, or a read failed
abbrev pub FindsValue : Option ℕ → Result (Option ℕ) Fault → Type 0
FindsValue value (Ok found) = value ≡ found
FindsValue value (Err fault) = IsOfRead fault

-- a fault is the refusal of a check; or it is one of a read
abbrev pub IsByCheck : Fault → Bool → Type 0
IsByCheck fault true = (refusal : Refusal) × (fault ≡ Refused refusal) × (IsBudgetRefusal refusal → ⊥)
IsByCheck fault false = IsOfRead fault

-- the value with the bytes of the symbol's name
abbrev pub overflow_as : List ℕ → Option (OverflowedValue × NameEnd) → Option OverflowEntry
overflow_as name None = None
overflow_as name (Some found) = Some (record { overflowed = found.0; name = shown_by found.1 name })

-- THE VALUE of a known file that does not fit; or the refusal of the file's own checks, unless it
-- is `Budget`
abbrev pub ExplainsOverflow : List ℕ → (headers : ℕ) → Option OverflowEntry → Result (Option (OverflowedValue × NameEnd)) Fault → List ℕ → Type 0
ExplainsOverflow file headers entry (Ok found) name = overflow_as name found ≡ entry
ExplainsOverflow file headers entry (Err (Refused refusal)) name = (IsBudgetRefusal refusal → ⊥) → first_refusal (header_checks file ++ load_checks file headers) ≡ Some refusal
ExplainsOverflow file headers entry (Err (Source fault at)) name = Unit {0}

-- the same after those checks: nothing is refused except with `Budget`
abbrev pub OverflowLoaded : Option OverflowEntry → Result (Option (OverflowedValue × NameEnd)) Fault → List ℕ → Type 0
OverflowLoaded entry (Ok found) name = overflow_as name found ≡ entry
OverflowLoaded entry (Err fault) name = IsOfRead fault
