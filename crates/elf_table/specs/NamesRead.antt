-- The result of reading a name.
use Rattle.std.specs.Prelude.{ℕ, ◌≡◌, ◌<◌, ◌≢◌, Bool, List, length, slice_index, true, false, Result, Ok, Err}
use Rattle.elf_model.specs.Prelude.{Cut as ShownCut, DisplayedName, IsBudgetRefusal, NulFound}
use Rattle.elf_model.specs.declared.causes.Cause.{Cause}
use Rattle.elf_model.specs.Names.DisplayedName.{Whole as ShownWhole}
use Rattle.elf_table.specs.declared.fault.Fault.{Fault}
use Rattle.elf_table.specs.declared.fault.Fault.TheVariants.{Refused, Source}
use Rattle.elf_table.specs.declared.names.NameEnd.{NameEnd}
use Rattle.elf_table.specs.declared.names.NameEnd.TheVariants.{Whole, Cut}

-- a refusal points to the entry that holds the index, and has the cause of the refused result,
-- unless that is `Budget`
abbrev pub Refuses : {X : Type 0} → ℕ → Fault → Result X Cause → Type 0
Refuses at (Refused refusal) answer = (IsBudgetRefusal refusal → ⊥) → (refusal.at ≡ at) × (answer ≡ Err refusal.cause)
Refuses at (Source fault offset) answer = Unit {0}

-- a read of a name returns what is shown of it, or refuses for its cause
abbrev pub NameRead : ℕ → Result NameEnd Fault → List ℕ → Result DisplayedName Cause → Type 0
NameRead at (Ok Whole) bytes answer = answer ≡ Ok (ShownWhole bytes)
NameRead at (Ok Cut) bytes answer = answer ≡ Ok (ShownCut bytes)
NameRead at (Err fault) bytes answer = Refuses at fault answer

-- a comparison returns whether the name is the wanted one, or refuses for its cause
abbrev pub ComparesName : ℕ → Result Bool Fault → Result Bool Cause → Type 0
ComparesName at (Ok equal) answer = answer ≡ Ok equal
ComparesName at (Err fault) answer = Refuses at fault answer

-- bytes were searched for a NUL, and those up to the limit are kept
abbrev pub Searched : List ℕ → ℕ → Result Bool Fault → List ℕ → Type 0
Searched front cap (Ok found) kept = NulFound front cap found kept
Searched front cap (Err fault) kept = Unit {0}

-- two lists have the same bytes at the indices below a number, missing bytes being 0
abbrev pub SameBelow : ℕ → List ℕ → List ℕ → Type 0
SameBelow n a b = (k : ℕ) → k < n → slice_index a k ≡ slice_index b k

-- two lists have different bytes at an index below a number, missing bytes being 0
abbrev pub DifferBelow : ℕ → List ℕ → List ℕ → Type 0
DifferBelow n a b = (k : ℕ) × (k < n) × (slice_index a k ≢ slice_index b k)

-- bytes were compared with the wanted name and its NUL
abbrev pub Matched : List ℕ → List ℕ → Result Bool Fault → Type 0
Matched front wanted (Ok true) = SameBelow (length front) front wanted
Matched front wanted (Ok false) = DifferBelow (length front) front wanted
Matched front wanted (Err fault) = Unit {0}

-- a name as it is shown, by how its bytes end
abbrev pub shown_by : NameEnd → List ℕ → DisplayedName
shown_by Whole bytes = ShownWhole bytes
shown_by Cut bytes = ShownCut bytes
