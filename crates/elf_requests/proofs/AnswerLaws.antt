-- What a listing's report is as the answer of a run.
use Rattle.std.proofs.Common.{◌≡◌, ℕ, ◌+◌, ◌≤◌, List, ◌++◌, Option, None, Some, Result, Ok, Err, ap, sym, ◌∙◌, inl, inr, refl}
use Rattle.std.specs.Prelude.{IfErr}
use Rattle.elf_model.specs.Prelude.{Answer, IsBudgetRefusal, IsBudgeted, IsReport, ListingItem, ListingStyle, end_by, lines_of, listing, listing_cost, listing_fault_row, listing_refusal_line, listing_report, show_answer_by, status_of}
use Rattle.elf_model.specs.declared.fault_rows.FaultRow.TheVariants.{NoRow}
use Rattle.elf_model.specs.declared.causes.Refusal.{Refusal}
use Rattle.elf_options.specs.Prelude.{style_of}
use Rattle.elf_options.specs.declared.caps.Caps.{Caps}
use Rattle.elf_source.specs.Prelude.{CountedState, OutGrows, OutState}
use Rattle.elf_table.specs.declared.run_fault.RunFault.TheVariants.{Out}
use Rattle.elf_table.specs.declared.run_fault.RunFault.{RunFault}
use Rattle.elf_table.specs.declared.run_fault.RunFault.TheVariants.{Refused, Source}
use Rattle.elf_listing.specs.Reports.{WroteReport, AsksWithin, FaultSays, KeepsSourceUnlimited, WroteText}
use Rattle.elf_requests.specs.Prelude.{EndsInRefusal, RunsShow, WholeOrUsedUp, WroteAnswer}

abbrev answer_of : List ℕ → Option Refusal → Answer
answer_of text fault = record { text = text; status = status_of fault }

report_shown : (file : List ℕ) (headers : ℕ) (style : ListingStyle) (parts : ℕ) (text : List ℕ) (fault : Option Refusal) → IsReport (listing_refusal_line file style parts) (listing file headers style parts) text fault
    → answer_of text fault ≡ show_answer_by file headers style parts
report_shown file headers style parts text fault is =
    ap (λ t. answer_of t fault) is.text_is ∙ ap (λ f. answer_of (listing_report file headers style parts) f) is.fault_is

-- a report whose fault is not for lack of budget is the whole answer
whole_report : (budget : Option ℕ) (file : List ℕ) (headers : ℕ) (style : ListingStyle) (parts : ℕ) (text : List ℕ) (fault : Option Refusal) → IsBudgeted budget file headers style parts text fault
    → ((refusal : Refusal) → fault ≡ Some refusal → IsBudgetRefusal refusal → ⊥) → answer_of text fault ≡ show_answer_by file headers style parts
whole_report None file headers style parts text fault is other = report_shown file headers style parts text fault is
whole_report (Some budget) file headers style parts text fault (inl is) other = report_shown file headers style parts text fault is
whole_report (Some budget) file headers style parts text fault (inr is) other = absurd (other is.1.refusal is.1.fault_is is.1.for_budget)

-- the line of its fault ends a report
report_ends : (file : List ℕ) (headers : ℕ) (style : ListingStyle) (parts : ℕ) (text : List ℕ) (fault : Option Refusal) (refusal : Refusal) → Some refusal ≡ fault
    → IsReport (listing_refusal_line file style parts) (listing file headers style parts) text fault → EndsInRefusal refusal text
report_ends file headers style parts text fault refusal some is =
    let all : List ListingItem = listing file headers style parts in (
      style.format,
      listing_fault_row file style parts refusal.at,
      lines_of all,
      is.text_is ∙ ap (λ end. lines_of all ++ end_by (listing_refusal_line file style parts) end) (sym (some ∙ is.fault_is)),
    )

ends_in : (budget : Option ℕ) (file : List ℕ) (headers : ℕ) (style : ListingStyle) (parts : ℕ) (text : List ℕ) (fault : Option Refusal) (refusal : Refusal) → Some refusal ≡ fault
    → IsBudgeted budget file headers style parts text fault → EndsInRefusal refusal text
ends_in None file headers style parts text fault refusal some is = report_ends file headers style parts text fault refusal some is
ends_in (Some budget) file headers style parts text fault refusal some (inl is) = report_ends file headers style parts text fault refusal some is
ends_in (Some budget) file headers style parts text fault refusal some (inr is) =
    let same : is.1.refusal ≡ refusal = let two = some ∙ is.1.fault_is in cc in (style.format, NoRow, lines_of is.1.front, rw same at is.1.text_is)

-- the result of a task that lists
abbrev pub listed_status : Result (Unit {0}) RunFault → Result ℕ RunFault
listed_status (Ok x) = Ok 0
listed_status (Err stop) = Err stop

module _ (file : List ℕ) (caps : Caps) (parts : ℕ) (s t : CountedState) (a b : OutState) (text : List ℕ) (fault : Option Refusal)
    (is : IsBudgeted caps.limits.budget file caps.limits.headers (style_of caps.style) parts text fault) where
  wrote_as : (result : Result (Unit {0}) RunFault) → WroteText a b result text fault → WroteAnswer a b (listed_status result) (answer_of text fault)
  wrote_as (Ok x) wrote = (wrote.0, ap status_of wrote.1)
  wrote_as (Err (Refused refusal)) wrote =
      (wrote.0, ap status_of wrote.1, ends_in caps.limits.budget file caps.limits.headers (style_of caps.style) parts text fault refusal wrote.1 is)
  wrote_as (Err (Source cause at)) wrote = wrote
  wrote_as (Err (Out cause)) wrote = wrote

  whole_or_used : (result : Result (Unit {0}) RunFault) → WroteText a b result text fault → AsksWithin caps parts s t result
      → WholeOrUsedUp caps.limits.budget s t (listed_status result) (show_answer_by file caps.limits.headers (style_of caps.style) parts) (answer_of text fault)
  whole_or_used (Ok x) wrote asks =
      whole_report caps.limits.budget file caps.limits.headers (style_of caps.style) parts text fault is (λ refusal some budget. let none = wrote.1 in cc)
  whole_or_used (Err (Refused refusal)) wrote asks = (
    λ budget. (asks.late refusal refl budget, asks.place refusal refl budget),
    λ other. whole_report caps.limits.budget file caps.limits.headers (style_of caps.style) parts text fault is (λ same some budget.
        let one : same ≡ refusal = let two = wrote.1 in cc in other (ap (λ (r : Refusal). r.cause) (sym one) ∙ budget)),
  )
  whole_or_used (Err (Source cause at)) wrote asks = tt
  whole_or_used (Err (Out cause)) wrote asks = tt

-- what is read, and what a fault says, are those of the listing
asks_as : {s t : CountedState} (caps : Caps) (parts : ℕ) (result : Result (Unit {0}) RunFault) → AsksWithin caps parts s t result → AsksWithin caps parts s t (listed_status result)
asks_as caps parts (Ok x) asks =
    record { ceiling = asks.ceiling; unread = asks.unread; alone = asks.alone; budget = asks.budget; late = λ refusal is. cc; place = λ refusal is. cc }
asks_as caps parts (Err stop) asks =
    record { ceiling = asks.ceiling; unread = asks.unread; alone = asks.alone; budget = asks.budget; late = λ refusal is. asks.late refusal cc; place = λ refusal is. asks.place refusal cc }

says_as : (s t : CountedState) (out : OutState) (result : Result (Unit {0}) RunFault) → IfErr result (FaultSays s t out) → IfErr (listed_status result) (FaultSays s t out)
says_as s t out (Ok x) says = says
says_as s t out (Err stop) says = says

-- a listing, as a task
pub show_runs : {s t : CountedState} {a b : OutState} (caps : Caps) (parts : ℕ) (result : Result (Unit {0}) RunFault) → OutGrows a b → KeepsSourceUnlimited s t → IfErr result (FaultSays s t b)
    → AsksWithin caps parts s t result → ((file : List ℕ) → s.seen.file ≡ Some file → t.asked ≤ s.asked + listing_cost file caps.limits.headers (style_of caps.style) parts)
    → ((file : List ℕ) → s.seen.file ≡ Some file → WroteReport file caps parts a b result) → RunsShow caps parts s t a b (listed_status result)
show_runs {s} {t} {a} {b} caps parts result grows leaves says asks costs reports = record {
  grows = grows;
  leaves = leaves;
  says = says_as s t b result says;
  asks = asks_as caps parts result asks;
  cost = costs;
  text = λ file held.
      let it = reports file held in
      record {
        answer = answer_of it.text it.fault;
        permitted = record { fault = it.fault; listed = it.listed; status_is = refl };
        wrote = wrote_as file caps parts s t a b it.text it.fault it.listed result it.wrote;
        holds = whole_or_used file caps parts s t a b it.text it.fault it.listed result it.wrote asks;
      };
}
