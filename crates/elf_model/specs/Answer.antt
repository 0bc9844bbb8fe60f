-- The result of `show`: a text, and an exit status. `sample` is `show` of a file that the program
-- contains.
use Rattle.std.specs.Prelude.{ℕ, ◌≡◌, List, Option, None, Some}
use Rattle.elf_model.specs.Budget.{IsBudgeted}
use Rattle.elf_model.specs.Listing.{fault_of}
use Rattle.elf_model.specs.Report.{listing, listing_report}
use Rattle.elf_model.specs.Style.{ListingStyle, standard}
use Rattle.elf_model.specs.declared.causes.Refusal.{Refusal}

-- a result: what is written to standard output, and the status
pub record Answer : Type 0 where
  pub text : List ℕ
  pub status : ℕ

-- 0 without a fault, 1 with one
abbrev pub status_of : Option Refusal → ℕ
status_of None = 0
status_of (Some refusal) = 1

-- `show`: the listing of a file in a style
abbrev pub show_answer_by : List ℕ → ℕ → ListingStyle → ℕ → Answer
show_answer_by file headers style parts =
    record { text = listing_report file headers style parts; status = status_of (fault_of (listing file headers style parts)) }

-- with this limit on bytes of a name, in the standards' names, by the section headers if there are
-- any
abbrev pub show_answer : List ℕ → ℕ → ℕ → ℕ → Answer
show_answer file headers cap parts = show_answer_by file headers (standard cap) parts

-- `show` within a budget: what a listing within it writes, and the status of the fault that it
-- returns. So without a budget it is `show_answer_by`; with one it is that too, or, only if it
-- costs more than the budget, cut short, with status 1
pub record IsShown (budget : Option ℕ) (file : List ℕ) (headers : ℕ) (style : ListingStyle) (parts : ℕ) (answer : Answer) : Type 0 where
  pub fault : Option Refusal
  pub listed : IsBudgeted budget file headers style parts answer.text fault
  pub status_is : answer.status ≡ status_of fault
