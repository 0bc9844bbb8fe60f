-- A listing within a budget: at most this many bytes may be read.
use Rattle.std.specs.Prelude.{ℕ, ◌≡◌, ◌<◌, List, ◌++◌, length, Option, None, Some, ◌⊎◌}
use Rattle.elf_model.specs.Cost.{listing_cost}
use Rattle.elf_model.specs.Lines.{refusal_line}
use Rattle.elf_model.specs.Listing.{ListingItem, lines_of, fault_of, report_by}
use Rattle.elf_model.specs.Report.{listing, listing_refusal_line}
use Rattle.elf_model.specs.Style.{ListingStyle}
use Rattle.elf_model.specs.declared.causes.Refusal.{Refusal}
use Rattle.elf_model.specs.declared.formats.Format.{Format}
use Rattle.elf_model.specs.declared.causes.Cause.TheVariants.{Budget}

-- a refusal is a budget refusal
abbrev pub IsBudgetRefusal : Refusal → Type 0
IsBudgetRefusal refusal = refusal.cause ≡ Budget

-- a text is the whole report of the items, with the line of a refusal that is given, and a fault is
-- their first
pub record IsReport (line : Refusal → List ℕ) (items : List ListingItem) (text : List ℕ) (fault : Option Refusal) : Type 0 where
  pub text_is : text ≡ report_by line items
  pub fault_is : fault ≡ fault_of items

-- a text is a prefix of the items, each a whole line, and then the line of a budget refusal, whose
-- offset is below the file's length
pub record IsCut (format : Format) (size : ℕ) (items : List ListingItem) (text : List ℕ) (fault : Option Refusal) : Type 0 where
  pub front : List ListingItem
  pub rest : List ListingItem
  pub split : items ≡ front ++ rest
  pub no_fault : fault_of front ≡ None
  pub refusal : Refusal
  pub for_budget : IsBudgetRefusal refusal
  pub inside : refusal.at < size
  pub text_is : text ≡ lines_of front ++ refusal_line format refusal
  pub fault_is : fault ≡ Some refusal

-- what a listing within a budget writes, and the fault that it returns: its report, or a prefix of
-- it if it costs more than the budget. Without a budget it is the report
abbrev pub IsBudgeted : Option ℕ → List ℕ → ℕ → ListingStyle → ℕ → List ℕ → Option Refusal → Type 0
IsBudgeted None file headers style parts text fault =
    IsReport (listing_refusal_line file style parts) (listing file headers style parts) text fault
IsBudgeted (Some budget) file headers style parts text fault =
    IsReport (listing_refusal_line file style parts) (listing file headers style parts) text fault
    ⊎ ((budget < listing_cost file headers style parts) × IsCut style.format (length file) (listing file headers style parts) text fault)
