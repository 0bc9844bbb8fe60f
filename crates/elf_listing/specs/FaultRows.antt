-- The row at fault that a listing says, and the headers by which it is found.
use Rattle.std.specs.Prelude.{ℕ, ◌≡◌, List, Result, Ok, Err}
use Rattle.elf_model.specs.Prelude.{IsBudgetRefusal, ListingStyle, counts_in, fault_row, listing_fault_row, row_among}
use Rattle.elf_model.specs.declared.causes.Refusal.{Refusal}
use Rattle.elf_model.specs.declared.fault_rows.FaultRow.{FaultRow}
use Rattle.elf_model.specs.declared.fault_rows.FaultRow.TheVariants.{NoRow}
use Rattle.elf_table.specs.Store.{StoreState}
use Rattle.elf_table.specs.declared.run_fault.RunFault.{RunFault}
use Rattle.elf_table.specs.declared.run_fault.RunFault.TheVariants.{Out, Refused, Source}
use Rattle.elf_listing.specs.Parts.{store_sections, store_segments}

-- the headers in the store say of a refusal which row it is in, if it is not for lack of budget
abbrev pub HoldsFaultRow : {X : Type 0} → List ℕ → ListingStyle → (parts : ℕ) → StoreState → Result X RunFault → Type 0
HoldsFaultRow file style parts store (Ok x) = Unit {0}
HoldsFaultRow file style parts store (Err (Refused refusal)) =
    (IsBudgetRefusal refusal → ⊥)
    → row_among (counts_in file) (store_sections store) (store_segments store) refusal.at ≡ fault_row file style parts refusal.at
HoldsFaultRow file style parts store (Err (Source fault at)) = Unit {0}
HoldsFaultRow file style parts store (Err (Out fault)) = Unit {0}

-- the row of a refusal: that of the listing; none for lack of budget
pub record IsFaultRow (file : List ℕ) (style : ListingStyle) (parts : ℕ) (refusal : Refusal) (row : FaultRow) : Type 0 where
  pub unknown : IsBudgetRefusal refusal → row ≡ NoRow
  pub known : (IsBudgetRefusal refusal → ⊥) → row ≡ listing_fault_row file style parts refusal.at

-- the row of what stopped a listing
abbrev pub FindsFaultRow : {X : Type 0} → List ℕ → ListingStyle → (parts : ℕ) → Result X RunFault → FaultRow → Type 0
FindsFaultRow file style parts (Ok x) row = Unit {0}
FindsFaultRow file style parts (Err (Refused refusal)) row = IsFaultRow file style parts refusal row
FindsFaultRow file style parts (Err (Source fault at)) row = Unit {0}
FindsFaultRow file style parts (Err (Out fault)) row = Unit {0}
