-- Two listings have the same first fault.
use Rattle.std.proofs.Common.{◌≡◌, ℕ, zero, suc, if◌then◌else◌, Bool, true, false, List, [], ◌∷◌, ◌++◌, Option, None, Some, Result, Ok, Err, refl, sym, ap, ap₂, ◌∙◌}
use Rattle.elf_model.specs.Prelude.{Check, DisplayedName, Fault, Line, LinePrefix, ListingItem, NoSuffix, RowFilter, Suffix, after_refusal, chooses, chosen_row, each, fault_of, first_refusal, guarded, or_refusal, suffixed_row}
use Rattle.elf_model.specs.declared.causes.Cause.{Cause}
use Rattle.elf_model.specs.declared.causes.Refusal.{Refusal}

-- two listings have the same first fault
pub record SameFault (a b : List ListingItem) : Type 0 where
  pub same : fault_of a ≡ fault_of b

-- the first fault of two listings one after another
pub fault_split : (a b : List ListingItem) → fault_of (a ++ b) ≡ or_refusal (fault_of a) (fault_of b)
fault_split [] b = refl
fault_split (Line text ∷ a) b = fault_split a b
fault_split (Fault refusal ∷ a) b = refl

pub alike : {a : List ListingItem} → SameFault a a
alike = record { same = refl }

pub equal : {a b : List ListingItem} → a ≡ b → SameFault a b
equal is = record { same = ap fault_of is }

pub appended : {a b c d : List ListingItem} → SameFault a b → SameFault c d → SameFault (a ++ c) (b ++ d)
appended {a} {b} {c} {d} first second = record { same = fault_split a c ∙ ap₂ or_refusal first.same second.same ∙ sym (fault_split b d) }

-- of rows
pub each_fault : (row other : ℕ → List ListingItem) → ((i : ℕ) → SameFault (row i) (other i)) → (first count : ℕ) → SameFault (each row first count) (each other first count)
unfolding each
each_fault row other rows first zero = alike
each_fault row other rows first (suc count) = appended (rows first) (each_fault row other rows (suc first) count)

pub guarded_fault : (checks : List Check) {a b : List ListingItem} → SameFault a b → SameFault (guarded checks a) (guarded checks b)
guarded_fault checks {a} {b} items = by (first_refusal checks)
  where
    by : (first : Option Refusal)
        → SameFault (elim first as (λ _. List ListingItem) [ None ↦ a | Some refusal ↦ Fault refusal ∷ [] ])
        (elim first as (λ _. List ListingItem) [ None ↦ b | Some refusal ↦ Fault refusal ∷ [] ])
    by None = items
    by (Some refusal) = alike

pub after_fault : (first : Option Refusal) {a b : List ListingItem} → SameFault a b → SameFault (after_refusal first a) (after_refusal first b)
after_fault None items = items
after_fault (Some refusal) items = alike

pub where_fault : (asked : Bool) {a b : List ListingItem} → SameFault a b
    → SameFault (elim asked as (λ _. List ListingItem) [ true ↦ a | false ↦ [] ]) (elim asked as (λ _. List ListingItem) [ true ↦ b | false ↦ [] ])
where_fault true items = items
where_fault false items = alike

-- of a row with a name, whether it is shown or not
pub line_fault : (one other : Bool) (line : List ℕ) → SameFault (if one then Line line ∷ [] else []) (if other then Line line ∷ [] else [])
line_fault true true line = record { same = refl }
line_fault true false line = record { same = refl }
line_fault false true line = record { same = refl }
line_fault false false line = record { same = refl }

pub chosen_fault : (one other : RowFilter) (front : LinePrefix) (at : ℕ) (name : Result DisplayedName Cause) → SameFault (chosen_row one front at name) (chosen_row other front at name)
chosen_fault one other front at (Ok name) = line_fault (chooses one name NoSuffix) (chooses other name NoSuffix) _
chosen_fault one other front at (Err cause) = alike

pub suffixed_fault : (one other : RowFilter) (front : LinePrefix) (at : ℕ) (name : Result DisplayedName Cause) (suffix : Result Suffix Refusal)
    → SameFault (suffixed_row one front at name suffix) (suffixed_row other front at name suffix)
suffixed_fault one other front at (Ok name) (Ok suffix) = line_fault (chooses one name suffix) (chooses other name suffix) _
suffixed_fault one other front at (Ok name) (Err refusal) = alike
suffixed_fault one other front at (Err cause) suffix = alike
