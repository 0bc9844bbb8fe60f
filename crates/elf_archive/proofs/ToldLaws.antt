-- The listing of a member in that of its archive: the line of its first fault ends it, and nothing
-- else.
use Rattle.std.proofs.Common.{◌≡◌, ℕ, Bool, List, [], ◌∷◌, ◌++◌, Option, None, Some, is_some, Result, Ok, Err, false, true, refl, sym, ap, ◌∙◌, inl, inr, ◌⊎◌, append-nil, append_assoc}
use Rattle.std.specs.Prelude.{IfOk, IfSome}
use Rattle.elf_model.specs.Prelude.{Fault, IsBudgetRefusal, Line, ListingItem, fault_of, lines_of, refusal_line, report_of, told}
use Rattle.elf_model.specs.declared.formats.Format.{Format}
use Rattle.elf_model.specs.declared.causes.Refusal.{Refusal}
use Rattle.elf_model.proofs.BudgetLaws.{is_budget_fault}
use Rattle.elf_model.proofs.ListingLemmas.{listings_append}
use Rattle.elf_source.specs.Prelude.{OutState, SinkTakes, SinkTakesPrefix}
use Rattle.elf_source.specs.declared.faults.OutFault.{OutFault}
use Rattle.elf_source.proofs.PutsLaws.{SinkTakes-then, SinkTakesPrefix-then, SinkTakesPrefix-more}
use Rattle.elf_table.specs.Prelude.{IsOfRead, stop_of}
use Rattle.elf_table.specs.declared.fault.Fault.{Fault as Failure}
use Rattle.elf_table.specs.declared.run_fault.RunFault.TheVariants.{Out}
use Rattle.elf_table.specs.declared.run_fault.RunFault.{RunFault}
use Rattle.elf_table.specs.declared.fault.Fault.TheVariants.{Refused as Refuses, Source as Unread}
use Rattle.elf_table.specs.declared.run_fault.RunFault.TheVariants.{Refused, Source}
use Rattle.elf_listing.specs.Shows.{WroteItems, WrotePrefix, WroteUntilRefusal, WroteSome}
use Rattle.elf_listing.proofs.RowLaws.{WrotePrefix-none}
use Rattle.elf_archive.specs.Listed.{EndsPart, ListsMember, ListsMembers}

-- the listing of a member, and how its end was returned
pub lists_part : {X : Type 0} (a b : OutState) (items : List ListingItem) (start : ℕ) (listed : Result X RunFault) (result : Result (Option Refusal) RunFault) → WroteSome a b listed items → EndsPart start listed result
    → ListsMember a b result items
lists_part a b items start (Ok x) result p ends = rw ends p
lists_part a b items start (Err (Refused refusal)) result p ends = by_cause (is_budget_fault refusal.cause)
  where
    by_cause : (IsBudgetRefusal refusal) ⊎ (IsBudgetRefusal refusal → ⊥) → ListsMember a b result items
    by_cause (inl budget) = rw (ends.0 budget) (budget, record { front = p.front; next = λ other. absurd (other budget) })
    by_cause (inr other) = rw (ends.1 other) p
lists_part a b items start (Err (Source fault at)) result p ends = rw ends p
lists_part a b items start (Err (Out fault)) result p ends = rw ends p

-- a read fault before anything of it was listed
pub part_unread : (a : OutState) (fault : Failure) (items : List ListingItem) → IsOfRead fault → ListsMember a a (Err (stop_of fault)) items
part_unread a (Refuses refusal) items read = (read, record { front = WrotePrefix-none a items; next = λ other. absurd (other read) })
part_unread a (Unread fault at) items read = WrotePrefix-none a items

-- a refusal that is returned is not for lack of budget
pub own_part : {X : Type 0} (start : ℕ) (listed : Result X RunFault) (result : Result (Option Refusal) RunFault) → EndsPart start listed result → IfOk result (λ told. IfSome told (λ refusal. IsBudgetRefusal refusal → ⊥))
own_part start (Ok x) result ends = rw ends tt
own_part start (Err (Refused refusal)) result ends = by_cause (is_budget_fault refusal.cause)
  where
    by_cause : (IsBudgetRefusal refusal) ⊎ (IsBudgetRefusal refusal → ⊥) → IfOk result (λ told. IfSome told (λ refusal. IsBudgetRefusal refusal → ⊥))
    by_cause (inl budget) = rw (ends.0 budget) tt
    by_cause (inr other) = rw (ends.1 other) other
own_part start (Err (Source fault at)) result ends = rw ends tt
own_part start (Err (Out fault)) result ends = rw ends tt

-- and it is the fault
pub part_fault : {a b : OutState} (items : List ListingItem) (refusal : Refusal) → (IsBudgetRefusal refusal → ⊥) → WroteUntilRefusal a b refusal items → fault_of items ≡ Some refusal
part_fault items refusal other p =
    let next = p.next other in
    let front = p.front in
    ap fault_of (front.split ∙ ap (λ rest. front.front ++ rest) next.is_next) ∙ (listings_append front.front (Fault refusal ∷ next.later) front.no_fault).1

module _ (format : Format) where
  -- without a fault nothing changes
  reported_none : (items : List ListingItem) → fault_of items ≡ None → told format items ≡ items
  reported_none [] none = refl
  reported_none (Line text ∷ items) none = ap (λ rest. Line text ∷ rest) (reported_none items none)
  reported_none (Fault refusal ∷ items) none = cc

  -- the lines are the text of its report
  told_lines : (items : List ListingItem) → lines_of (told format items) ≡ report_of format items
  told_lines [] = refl
  told_lines (Line text ∷ items) = ap (λ rest. text ++ rest) (told_lines items) ∙ sym (append_assoc text _ _)
  told_lines (Fault refusal ∷ items) = append-nil (refusal_line format refusal)

  -- items before the first fault are kept
  told_front : (front rest : List ListingItem) → fault_of front ≡ None → told format (front ++ rest) ≡ front ++ told format rest
  told_front [] rest none = refl
  told_front (Line text ∷ front) rest none = ap (λ more. Line text ∷ more) (told_front front rest none)
  told_front (Fault refusal ∷ front) rest none = cc

  told_split : (items front rest : List ListingItem) → items ≡ front ++ rest → fault_of front ≡ None → told format items ≡ front ++ told format rest
  told_split items front rest split none = ap (told format) split ∙ told_front front rest none

  -- a listing without a fault
  pub whole_told : {a b : OutState} (items : List ListingItem) → WroteItems a b items → ListsMembers a b (Ok false) (told format items) (is_some (fault_of items))
  whole_told items p =
      let same = reported_none items p.no_fault in
      (rw same p, sym (ap is_some p.no_fault))

  -- a prefix of a listing
  front_told : {a b : OutState} (items : List ListingItem) → WrotePrefix a b items → WrotePrefix a b (told format items)
  front_told items p = record {
    front = p.front;
    rest = told format p.rest;
    split = told_split items p.front p.rest p.split p.no_fault;
    takes = p.takes;
    no_fault = p.no_fault;
  }

  -- a listing that was stopped
  pub stop_told : (a b : OutState) (items : List ListingItem) (stop : RunFault) (any : Bool) → ListsMember a b (Err stop) items → ListsMembers a b (Err stop) (told format items) any
  stop_told a b items (Refused refusal) any p = (record { front = front_told items p.1.front; next = λ other. absurd (other p.0) }, tt)
  stop_told a b items (Source fault at) any p = (front_told items p, tt)
  stop_told a b items (Out fault) any p = (rw (told_lines items) (SinkTakesPrefix-more (lines_of items) _ p), tt)

  -- a listing that ended in a refusal, whose line was written
  module _ (a b c : OutState) (items : List ListingItem) (refusal : Refusal) (other : IsBudgetRefusal refusal → ⊥) (p : WroteUntilRefusal a b refusal items) where
    whole : items ≡ p.front.front ++ (Fault refusal ∷ (p.next other).later)
    whole = p.front.split ∙ ap (λ rest. p.front.front ++ rest) (p.next other).is_next

    is_told : told format items ≡ p.front.front ++ (Line (refusal_line format refusal) ∷ [])
    is_told = told_split items p.front.front (Fault refusal ∷ (p.next other).later) whole p.front.no_fault

    lines : lines_of (told format items) ≡ lines_of p.front.front ++ refusal_line format refusal
    lines = ap lines_of is_told ∙ ((listings_append p.front.front (Line (refusal_line format refusal) ∷ []) p.front.no_fault).0 ∙ ap (λ line. lines_of p.front.front ++ line) (append-nil (refusal_line format refusal)))

    none : fault_of (told format items) ≡ None
    none = ap fault_of is_told ∙ (listings_append p.front.front (Line (refusal_line format refusal) ∷ []) p.front.no_fault).1

    pub refused_told : SinkTakes b c (refusal_line format refusal) → ListsMembers a c (Ok true) (told format items) (is_some (fault_of items))
    refused_told line =
        (record { takes = rw lines (SinkTakes-then (lines_of p.front.front) (refusal_line format refusal) p.front.takes line); no_fault = none }, sym (ap is_some (part_fault items refusal other p)))

    pub failed_told : (fault : OutFault) (any : Bool) → SinkTakesPrefix b c (refusal_line format refusal) → ListsMembers a c (Err (Out fault)) (told format items) any
    failed_told fault any line = (rw lines (SinkTakesPrefix-then (lines_of p.front.front) (refusal_line format refusal) p.front.takes line), tt)
