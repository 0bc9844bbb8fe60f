-- The report of a listing, and of one that a budget cuts short.
use Rattle.elf_options.specs.Prelude.{style_of}
use Rattle.elf_options.specs.declared.caps.Caps.{Caps}
use Rattle.std.proofs.Common.{◌≡◌, ℕ, ◌^◌, ◌≤◌, List, ◌∷◌, ◌++◌, length, None, Some, Ok, Err, Option, option_map, refl, sym, ap, ◌∙◌, inl, inr, ◌⊎◌, append-nil, arith}
use Rattle.elf_model.specs.Prelude.{Fault as FaultItem, IsBudgetRefusal, IsBudgeted, IsReport, ListingItem, ListingStyle, end_by, fault_of, lines_of, listing, listing_cost, listing_fault_row, listing_refusal_line, listing_report, refusal_line_in, report_by}
use Rattle.elf_model.specs.declared.causes.Cause.TheVariants.{Budget}
use Rattle.elf_model.specs.declared.causes.Refusal.{Refusal}
use Rattle.elf_model.specs.declared.fault_rows.FaultRow.{FaultRow}
use Rattle.elf_model.specs.declared.fault_rows.FaultRow.TheVariants.{NoRow}
use Rattle.elf_model.proofs.BudgetLaws.{is_budget_fault}
use Rattle.elf_model.proofs.ListingLemmas.{listings_append}
use Rattle.elf_source.specs.Prelude.{CountedState, OutState, SetsLimit, SinkTakesPrefix, counted}
use Rattle.elf_source.proofs.LimitLaws.{budget_below}
use Rattle.elf_source.proofs.PutsLaws.{SinkTakes-then, SinkTakesPrefix-then, SinkTakesPrefix-more, SinkTakesPrefix-all}
use Rattle.elf_table.specs.Prelude.{IsReadRefusal}
use Rattle.elf_table.specs.declared.run_fault.RunFault.TheVariants.{Out}
use Rattle.elf_table.specs.declared.run_fault.RunFault.{RunFault}
use Rattle.elf_table.specs.declared.run_fault.RunFault.TheVariants.{Refused, Source}
use Rattle.elf_listing.specs.Prelude.{FindsFaultRow, IsFaultRow, IsNext, ReturnsStopIn, StopSays, WroteItems, WrotePrefix, WroteRefusalIn, WroteReport, WroteText, WroteUntilRefusal, WroteUntilStop}
use Rattle.elf_listing.proofs.EachLaws.{lines_front}

-- a report is what is listed, within every budget
report_listed : (budget : Option ℕ) (file : List ℕ) (headers : ℕ) (style : ListingStyle) (parts : ℕ) (text : List ℕ) (fault : Option Refusal) → IsReport (listing_refusal_line file style parts) (listing file headers style parts) text fault
    → IsBudgeted budget file headers style parts text fault
report_listed None file headers style parts text fault is = is
report_listed (Some budget) file headers style parts text fault is = inl is

-- a listing without a fault is its report
pub whole_report : {a b : OutState} (file : List ℕ) (caps : Caps) (parts : ℕ) → WroteItems a b (listing file caps.limits.headers (style_of caps.style) parts) → WroteReport {X = Unit {0}} file caps parts a b (Ok tt)
whole_report file caps parts whole =
    let all : List ListingItem = listing file caps.limits.headers (style_of caps.style) parts in
    let line : Refusal → List ℕ = listing_refusal_line file (style_of caps.style) parts in
    let text : lines_of all ≡ report_by line all = sym (ap (λ end. lines_of all ++ end_by line end) whole.no_fault ∙ append-nil (lines_of all)) in
    record {
      text = lines_of all;
      fault = None;
      listed = report_listed caps.limits.budget file caps.limits.headers (style_of caps.style) parts (lines_of all) None (record { text_is = text; fault_is = sym whole.no_fault });
      wrote = (whole.takes, refl);
    }

-- a fault that is not a refusal
abbrev IsFault : RunFault → Type 0
IsFault (Refused refusal) = ⊥
IsFault (Source cause at) = Unit {0}
IsFault (Out cause) = Unit {0}

wrote_front : {a b : OutState} (stop : RunFault) (text : List ℕ) (fault : Option Refusal) → IsFault stop → SinkTakesPrefix a b text → WroteText {X = Unit {0}} a b (Err stop) text fault
wrote_front (Refused refusal) text fault is front = absurd is
wrote_front (Source cause at) text fault is front = front
wrote_front (Out cause) text fault is front = front

-- a prefix of a listing is a prefix of its report
front_report : {a b : OutState} (file : List ℕ) (caps : Caps) (parts : ℕ) (stop : RunFault) → IsFault stop → SinkTakesPrefix a b (lines_of (listing file caps.limits.headers (style_of caps.style) parts))
    → WroteReport {X = Unit {0}} file caps parts a b (Err stop)
front_report file caps parts stop is front =
    let all : List ListingItem = listing file caps.limits.headers (style_of caps.style) parts in
    let whole : List ℕ = listing_report file caps.limits.headers (style_of caps.style) parts in
    record {
      text = whole;
      fault = fault_of all;
      listed = report_listed caps.limits.budget file caps.limits.headers (style_of caps.style) parts whole (fault_of all) (record { text_is = refl; fault_is = refl });
      wrote = wrote_front stop whole (fault_of all) is (SinkTakesPrefix-more (lines_of all) (end_by (listing_refusal_line file (style_of caps.style) parts) (fault_of all)) front);
    }

-- whole lines of a listing are a prefix of its lines
front_lines : {a b : OutState} (all : List ListingItem) → WrotePrefix a b all → SinkTakesPrefix a b (lines_of all)
front_lines all front =
    let more = lines_front front.front front.rest in
    let split = ap lines_of front.split ∙ more.1 in
    rw split (SinkTakesPrefix-all (lines_of front.front) more.0 front.takes)

-- a listing that ended in a refusal, and what was written of its line
ended : {a b : OutState} (refusal : Refusal) (all : List ListingItem) (ends : WroteUntilRefusal a b refusal all) → IsNext refusal ends.front.rest
    → (lines_of all ≡ lines_of ends.front.front) × (fault_of all ≡ Some refusal)
ended refusal all ends next =
    let front = ends.front.front in
    let whole : all ≡ front ++ (FaultItem refusal ∷ next.later) = ends.front.split ∙ ap (λ rest. front ++ rest) next.is_next in
    let both = listings_append front (FaultItem refusal ∷ next.later) ends.front.no_fault in
    (ap lines_of whole ∙ both.0 ∙ append-nil (lines_of front), ap fault_of whole ∙ both.1)

-- the text of a listing that ended in a refusal
ended_listed : {a b : OutState} (file : List ℕ) (caps : Caps) (parts : ℕ) (refusal : Refusal) (row : FaultRow) (before limited after : CountedState) → before.asked ≤ 2 ^ 127
    → SetsLimit before limited caps.limits.budget → before.seen.size ≡ length file → IsReadRefusal limited after (listing_cost file caps.limits.headers (style_of caps.style) parts) refusal
    → (ends : WroteUntilRefusal a b refusal (listing file caps.limits.headers (style_of caps.style) parts))
    → IsFaultRow file (style_of caps.style) parts refusal row
    → IsBudgeted caps.limits.budget file caps.limits.headers (style_of caps.style) parts (lines_of ends.front.front ++ refusal_line_in caps.style.format row refusal) (Some refusal)
ended_listed file caps parts refusal row before limited after small limits sized says ends found = by_cause (is_budget_fault refusal.cause)
  where
    lines_in : (row same : FaultRow) → row ≡ same
        → lines_of ends.front.front ++ refusal_line_in caps.style.format row refusal ≡ lines_of ends.front.front ++ refusal_line_in caps.style.format same refusal
    lines_in row same is = ap (λ (row : FaultRow). lines_of ends.front.front ++ refusal_line_in caps.style.format row refusal) is

    cut : (budget : Option ℕ) → caps.limits.budget ≡ budget → IsBudgetRefusal refusal
        → IsBudgeted budget file caps.limits.headers (style_of caps.style) parts (lines_of ends.front.front ++ refusal_line_in caps.style.format row refusal) (Some refusal)
    cut None none for_budget =
        let over = (says for_budget).1 in
        let most = limits.most ∙ ap (option_map (counted before.asked)) none in
        let set = over.is_set in
        cc
    cut (Some budget) some for_budget =
        let said = says for_budget in
        let over = said.1 in
        let most : Some (counted before.asked budget) ≡ Some over.most = ap (option_map (counted before.asked)) (sym some) ∙ sym limits.most ∙ over.is_set in
        let is : counted before.asked budget ≡ over.most = cc in
        let same = limits.asked in
        let fits = limits.small budget some in
        let size = ap (λ seen. seen.size) limits.seen in
        inr (
          budget_below budget before.asked over.most (listing_cost file caps.limits.headers (style_of caps.style) parts) small (sym is) fits (omega (arith, over.above, same)),
          record {
            front = ends.front.front;
            rest = ends.front.rest;
            split = ends.front.split;
            no_fault = ends.front.no_fault;
            refusal = refusal;
            for_budget = for_budget;
            inside = omega (arith, said.0, size, sized);
            text_is = lines_in row NoRow (found.unknown for_budget);
            fault_is = refl;
          },
        )

    by_cause : (refusal.cause ≡ Budget) ⊎ (refusal.cause ≡ Budget → ⊥)
        → IsBudgeted caps.limits.budget file caps.limits.headers (style_of caps.style) parts (lines_of ends.front.front ++ refusal_line_in caps.style.format row refusal) (Some refusal)
    by_cause (inl for_budget) = cut caps.limits.budget refl for_budget
    by_cause (inr other) =
        let all : List ListingItem = listing file caps.limits.headers (style_of caps.style) parts in
        let line : Refusal → List ℕ = listing_refusal_line file (style_of caps.style) parts in
        let is = ended refusal all ends (ends.next other) in
        let whole : report_by line all ≡ lines_of ends.front.front ++ line refusal =
        ap (λ lines. lines ++ end_by line (fault_of all)) is.0 ∙ ap (λ end. lines_of ends.front.front ++ end_by line end) is.1 in
        report_listed caps.limits.budget file caps.limits.headers (style_of caps.style) parts _ _
        (record { text_is = lines_in row (listing_fault_row file (style_of caps.style) parts refusal.at) (found.known other) ∙ sym whole; fault_is = sym is.1 })

-- a listing that ended in a refusal, whose line was written
ended_report : {a b c : OutState} (file : List ℕ) (caps : Caps) (parts : ℕ) (refusal : Refusal) (told : RunFault) (row : FaultRow) (before limited after : CountedState) → before.asked ≤ 2 ^ 127
    → SetsLimit before limited caps.limits.budget → before.seen.size ≡ length file → IsReadRefusal limited after (listing_cost file caps.limits.headers (style_of caps.style) parts) refusal
    → WroteUntilRefusal a b refusal (listing file caps.limits.headers (style_of caps.style) parts) → IsFaultRow file (style_of caps.style) parts refusal row
    → WroteRefusalIn row caps.style.format b c refusal told → WroteReport {X = Unit {0}} file caps parts a c (Err told)
ended_report {a} {b} {c} file caps parts refusal told row before limited after small limits sized says ends found line = record {
  text = lines_of ends.front.front ++ refusal_line_in caps.style.format row refusal;
  fault = Some refusal;
  listed = ended_listed file caps parts refusal row before limited after small limits sized says ends found;
  wrote = wrote told line;
}
  where
    wrote : (told : RunFault) → WroteRefusalIn row caps.style.format b c refusal told
        → WroteText {X = Unit {0}} a c (Err told) (lines_of ends.front.front ++ refusal_line_in caps.style.format row refusal) (Some refusal)
    wrote (Refused same) line = (SinkTakes-then (lines_of ends.front.front) (refusal_line_in caps.style.format row refusal) ends.front.takes line.1, ap Some line.0)
    wrote (Source cause at) line = absurd line
    wrote (Out cause) line = SinkTakesPrefix-then (lines_of ends.front.front) (refusal_line_in caps.style.format row refusal) ends.front.takes line.1

-- a listing that stopped, and what was reported of that
pub stopped_report : {a c : OutState} (b : OutState) (file : List ℕ) (caps : Caps) (parts : ℕ) (stop told : RunFault) (row : FaultRow) (before limited after : CountedState) (out : OutState) → before.asked ≤ 2 ^ 127
    → SetsLimit before limited caps.limits.budget → before.seen.size ≡ length file → StopSays limited after out (listing_cost file caps.limits.headers (style_of caps.style) parts) stop
    → WroteUntilStop a b stop (listing file caps.limits.headers (style_of caps.style) parts) → FindsFaultRow {X = Unit {0}} file (style_of caps.style) parts (Err stop) row
    → ReturnsStopIn row caps.style.format b c stop told → WroteReport {X = Unit {0}} file caps parts a c (Err told)
stopped_report b file caps parts (Refused refusal) told row before limited after out small limits sized says ends found tells =
    ended_report file caps parts refusal told row before limited after small limits sized says ends found tells
stopped_report b file caps parts (Source cause at) told row before limited after out small limits sized says ends found tells =
    rw (tells.0, tells.1) (front_report file caps parts (Source cause at) tt (front_lines _ ends))
stopped_report b file caps parts (Out cause) told row before limited after out small limits sized says ends found tells =
    rw (tells.0, tells.1) (front_report file caps parts (Out cause) tt ends)
