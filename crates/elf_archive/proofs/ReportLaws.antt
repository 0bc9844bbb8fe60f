-- The report of an archive, and of one that a budget cuts short.
use Rattle.std.proofs.Common.{◌≡◌, ℕ, Bool, ◌+◌, ◌^◌, ◌<◌, ◌≤◌, List, ◌∷◌, ◌++◌, length, None, Some, Result, Ok, Err, Option, refl, sym, ap, subst, ◌∙◌, inl, inr, ◌⊎◌, append-nil, arith}
use Rattle.std.specs.Prelude.{IfSome}
use Rattle.elf_model.specs.Prelude.{Fault as FaultItem, IsArchiveBudgeted, IsReport, ListingItem, ListingStyle, any_refused, archive_ceiling, archive_cost, archive_items, archive_length_checks, end_text, fault_of, first_refusal, lines_of, refusal_line, report_of}
use Rattle.elf_model.specs.declared.causes.Cause.TheVariants.{Budget}
use Rattle.elf_model.specs.declared.formats.Format.{Format}
use Rattle.elf_model.specs.declared.causes.Refusal.{Refusal}
use Rattle.elf_model.proofs.BudgetLaws.{is_budget_fault}
use Rattle.elf_model.proofs.ListingLemmas.{listings_append}
use Rattle.elf_source.specs.Prelude.{CountedState, ExceedsBudget, OutState, ReadsUpTo, SetsLimit, SinkTakesPrefix, SourceState, counted}
use Rattle.elf_source.proofs.LimitLaws.{budget_below, late_budget, within_budget}
use Rattle.elf_source.proofs.PutsLaws.{SinkTakes-then, SinkTakesPrefix-then, SinkTakesPrefix-more, SinkTakesPrefix-all}
use Rattle.elf_options.specs.Prelude.{style_of}
use Rattle.elf_options.specs.declared.caps.Caps.{Caps}
use Rattle.elf_table.specs.declared.run_fault.RunFault.TheVariants.{Out}
use Rattle.elf_table.specs.declared.run_fault.RunFault.{RunFault}
use Rattle.elf_table.specs.declared.run_fault.RunFault.TheVariants.{Refused, Source}
use Rattle.elf_listing.specs.Prelude.{IsNext, KeepsSourceUnlimited, ReturnsStop, WroteItems, WrotePrefix, WroteRefusal, WroteText, WroteUntilRefusal, WroteUntilStop}
use Rattle.elf_listing.proofs.EachLaws.{lines_front}
use Rattle.elf_archive.specs.Listed.{ArchiveSays, AsksInArchive, BudgetSays, StopTells, ReportsArchive}

-- a report is what is listed, within every budget
report_listed : (alone : Bool) (budget : Option ℕ) (file : List ℕ) (headers : ℕ) (style : ListingStyle) (parts : ℕ) (text : List ℕ) (fault : Option Refusal) → IsReport (refusal_line style.format) (archive_items alone file headers style parts) text fault
    → IsArchiveBudgeted alone budget file headers style parts text fault
report_listed alone None file headers style parts text fault is = is
report_listed alone (Some budget) file headers style parts text fault is = inl is

-- what is listed with these caps
abbrev items_with : (alone : Bool) → List ℕ → Caps → ℕ → List ListingItem
items_with alone file caps parts = archive_items alone file caps.limits.headers (style_of caps.style) parts

-- a listing without a fault is its report
pub whole_archive : {a b : OutState} (alone : Bool) (file : List ℕ) (caps : Caps) (parts : ℕ) (any : Bool) → any ≡ any_refused file caps.limits.headers (style_of caps.style) parts
    → WroteItems a b (archive_items alone file caps.limits.headers (style_of caps.style) parts) → ReportsArchive alone file caps parts a b (Ok any)
whole_archive alone file caps parts any is whole =
    let all : List ListingItem = items_with alone file caps parts in
    let text : lines_of all ≡ report_of caps.style.format all = sym (ap (λ end. lines_of all ++ end_text caps.style.format end) whole.no_fault ∙ append-nil (lines_of all)) in
    record {
      text = lines_of all;
      fault = None;
      listed = report_listed alone caps.limits.budget file caps.limits.headers (style_of caps.style) parts (lines_of all) None (record { text_is = text; fault_is = sym whole.no_fault });
      wrote = (whole.takes, refl);
      refused = λ same e. let here : any ≡ same = cc in sym here ∙ is;
    }

-- a fault that is not a refusal
abbrev IsFault : RunFault → Type 0
IsFault (Refused refusal) = ⊥
IsFault (Source cause at) = Unit {0}
IsFault (Out cause) = Unit {0}

wrote_front : {a b : OutState} (stop : RunFault) (text : List ℕ) (fault : Option Refusal) → IsFault stop → SinkTakesPrefix a b text → WroteText {X = Bool} a b (Err stop) text fault
wrote_front (Refused refusal) text fault is front = absurd is
wrote_front (Source cause at) text fault is front = front
wrote_front (Out cause) text fault is front = front

-- a prefix of a listing is a prefix of its report
front_report : {a b : OutState} (alone : Bool) (file : List ℕ) (caps : Caps) (parts : ℕ) (stop : RunFault) → IsFault stop → SinkTakesPrefix a b (lines_of (items_with alone file caps parts)) → ReportsArchive alone file caps parts a b (Err stop)
front_report alone file caps parts stop is front =
    let all : List ListingItem = items_with alone file caps parts in
    record {
      text = report_of caps.style.format all;
      fault = fault_of all;
      listed = report_listed alone caps.limits.budget file caps.limits.headers (style_of caps.style) parts (report_of caps.style.format all) (fault_of all) (record { text_is = refl; fault_is = refl });
      wrote = wrote_front stop (report_of caps.style.format all) (fault_of all) is (SinkTakesPrefix-more (lines_of all) (end_text caps.style.format (fault_of all)) front);
      refused = λ any e. cc;
    }

-- whole lines of a listing are a prefix of its lines
front_lines : {a b : OutState} (all : List ListingItem) → WrotePrefix a b all → SinkTakesPrefix a b (lines_of all)
front_lines all front =
    let more = lines_front front.front front.rest in
    let split = ap lines_of front.split ∙ more.1 in
    rw split (SinkTakesPrefix-all (lines_of front.front) more.0 front.takes)

-- a listing that ended in a refusal, and what was written of its line
ended : {a b : OutState} (refusal : Refusal) (all : List ListingItem) (ends : WroteUntilRefusal a b refusal all) → IsNext refusal ends.front.rest
    → (lines_of all ≡ lines_of ends.front.front) × (fault_of all ≡ Some refusal)
ended refusal all ends next =
    let front = ends.front.front in
    let whole : all ≡ front ++ (FaultItem refusal ∷ next.later) = ends.front.split ∙ ap (λ rest. front ++ rest) next.is_next in
    let both = listings_append front (FaultItem refusal ∷ next.later) ends.front.no_fault in
    (ap lines_of whole ∙ both.0 ∙ append-nil (lines_of front), ap fault_of whole ∙ both.1)

-- if a call had no room for a read that it costs, its budget is below its cost
pub over_budget : (budget : Option ℕ) (cost : ℕ) (before limited after : CountedState) → before.asked ≤ 2 ^ 127 → SetsLimit before limited budget → ExceedsBudget limited after cost
    → (bytes : ℕ) × (budget ≡ Some bytes) × (bytes < cost)
over_budget None cost before limited after small limits over = let most = limits.most in let set = over.is_set in absurd (cc)
over_budget (Some bytes) cost before limited after small limits over =
    let most : Some (counted before.asked bytes) ≡ Some over.most = sym limits.most ∙ over.is_set in
    let is : counted before.asked bytes ≡ over.most = cc in
    let fits = limits.small bytes refl in
    let same = limits.asked in
    (bytes, refl, budget_below bytes before.asked over.most cost small (sym is) fits (omega (arith, over.above, same)))

-- the text of a listing that ended in a refusal
ended_listed : {a b : OutState} (alone : Bool) (file : List ℕ) (caps : Caps) (parts : ℕ) (refusal : Refusal) (before limited after : CountedState) → before.asked ≤ 2 ^ 127
    → SetsLimit before limited caps.limits.budget → before.seen.size ≡ length file → BudgetSays limited after (archive_cost file caps.limits.headers (style_of caps.style) parts) refusal
    → (ends : WroteUntilRefusal a b refusal (items_with alone file caps parts))
    → IsArchiveBudgeted alone caps.limits.budget file caps.limits.headers (style_of caps.style) parts (lines_of ends.front.front ++ refusal_line caps.style.format refusal) (Some refusal)
ended_listed alone file caps parts refusal before limited after small limits sized says ends = by_cause (is_budget_fault refusal.cause)
  where
    by_cause : (refusal.cause ≡ Budget) ⊎ (refusal.cause ≡ Budget → ⊥)
        → IsArchiveBudgeted alone caps.limits.budget file caps.limits.headers (style_of caps.style) parts (lines_of ends.front.front ++ refusal_line caps.style.format refusal) (Some refusal)
    by_cause (inl for_budget) =
        let said = says for_budget in
        let over = over_budget caps.limits.budget (archive_cost file caps.limits.headers (style_of caps.style) parts) before limited after small limits said.1 in
        let size = ap (λ seen. seen.size) limits.seen in
        rw over.1 (inr (
          over.2,
          record {
            front = ends.front.front;
            rest = ends.front.rest;
            split = ends.front.split;
            no_fault = ends.front.no_fault;
            refusal = refusal;
            for_budget = for_budget;
            inside = omega (arith, said.0, size, sized);
            text_is = refl;
            fault_is = refl;
          },
        ))
    by_cause (inr other) =
        let all : List ListingItem = items_with alone file caps parts in
        let is = ended refusal all ends (ends.next other) in
        report_listed alone caps.limits.budget file caps.limits.headers (style_of caps.style) parts _ _
        (record { text_is = sym (ap (λ lines. lines ++ end_text caps.style.format (fault_of all)) is.0 ∙ ap (λ end. lines_of ends.front.front ++ end_text caps.style.format end) is.1); fault_is = sym is.1 })

-- a listing that ended in a refusal, whose line was written
ended_report : {a b c : OutState} (alone : Bool) (file : List ℕ) (caps : Caps) (parts : ℕ) (refusal : Refusal) (told : RunFault) (before limited after : CountedState) → before.asked ≤ 2 ^ 127
    → SetsLimit before limited caps.limits.budget → before.seen.size ≡ length file → BudgetSays limited after (archive_cost file caps.limits.headers (style_of caps.style) parts) refusal
    → WroteUntilRefusal a b refusal (items_with alone file caps parts) → WroteRefusal caps.style.format b c refusal told → ReportsArchive alone file caps parts a c (Err told)
ended_report {a} {b} {c} alone file caps parts refusal told before limited after small limits sized says ends line = record {
  text = lines_of ends.front.front ++ refusal_line caps.style.format refusal;
  fault = Some refusal;
  listed = ended_listed alone file caps parts refusal before limited after small limits sized says ends;
  wrote = wrote told line;
  refused = λ any e. cc;
}
  where
    wrote : (told : RunFault) → WroteRefusal caps.style.format b c refusal told → WroteText {X = Bool} a c (Err told) (lines_of ends.front.front ++ refusal_line caps.style.format refusal) (Some refusal)
    wrote (Refused same) line = (SinkTakes-then (lines_of ends.front.front) (refusal_line caps.style.format refusal) ends.front.takes line.1, ap Some line.0)
    wrote (Source cause at) line = absurd line
    wrote (Out cause) line = SinkTakesPrefix-then (lines_of ends.front.front) (refusal_line caps.style.format refusal) ends.front.takes line.1

-- a listing that stopped, and what was reported of that
pub stopped_archive : {a c : OutState} (b : OutState) (alone : Bool) (file : List ℕ) (caps : Caps) (parts : ℕ) (stop told : RunFault) (before limited after : CountedState) (out : OutState) → before.asked ≤ 2 ^ 127
    → SetsLimit before limited caps.limits.budget → before.seen.size ≡ length file → StopTells limited after out (archive_cost file caps.limits.headers (style_of caps.style) parts) stop
    → WroteUntilStop a b stop (archive_items alone file caps.limits.headers (style_of caps.style) parts) → ReturnsStop caps.style.format b c stop told → ReportsArchive alone file caps parts a c (Err told)
stopped_archive b alone file caps parts (Refused refusal) told before limited after out small limits sized says ends tells =
    ended_report alone file caps parts refusal told before limited after small limits sized says ends tells
stopped_archive b alone file caps parts (Source cause at) told before limited after out small limits sized says ends tells =
    rw (tells.0, tells.1) (front_report alone file caps parts (Source cause at) tt (front_lines _ ends))
stopped_archive b alone file caps parts (Out cause) told before limited after out small limits sized says ends tells =
    rw (tells.0, tells.1) (front_report alone file caps parts (Out cause) tt ends)

-- what is kept, and what is read, if a limit was set meanwhile
pub leaves_limited : (s0 s1 s2 s3 : CountedState) (n : ℕ) (budget : Option ℕ) → SetsLimit s0 s1 budget → ReadsUpTo s1 s2 n → SetsLimit s2 s3 None → KeepsSourceUnlimited s0 s3
leaves_limited s0 s1 s2 s3 n budget set reads unset = record { keeps = rw (unset.seen, sym set.seen) reads.keeps; free = unset.most }

pub asked_limited : (s0 s1 s2 s3 : CountedState) (n : ℕ) (budget : Option ℕ) → SetsLimit s0 s1 budget → ReadsUpTo s1 s2 n → SetsLimit s2 s3 None → s3.asked ≤ s0.asked + n
asked_limited s0 s1 s2 s3 n budget set reads unset = omega (arith, reads.at_most, set.asked, unset.asked)

-- what is read within a budget
pub asks_in_archive : {X : Type 0} (caps : Caps) (s0 s1 s2 s3 : CountedState) (n : ℕ) (result : Result X RunFault) → s0.asked ≤ 2 ^ 127 → SetsLimit s0 s1 caps.limits.budget
    → ReadsUpTo s1 s2 (archive_ceiling s1.seen.size caps.limits.headers (style_of caps.style)) → SetsLimit s2 s3 None
    → ((refusal : Refusal) → first_refusal (archive_length_checks s1.seen.size) ≡ Some refusal → s2 ≡ s1)
    → ((refusal : Refusal) → result ≡ Err (Refused refusal) → BudgetSays s1 s2 n refusal) → AsksInArchive caps s0 s3 result
asks_in_archive caps s0 s1 s2 s3 n result small set reads unset unread late =
    let same = ap (λ (seen : SourceState). archive_ceiling seen.size caps.limits.headers (style_of caps.style)) set.seen in
    let size : s1.seen.size ≡ s0.seen.size = ap (λ (seen : SourceState). seen.size) set.seen in
    let within : IfSome caps.limits.budget (λ bytes. s2.asked ≤ s0.asked + bytes) = within_budget caps.limits.budget s0 s1 s2 set reads.same_limit in
    record {
      ceiling = omega (arith, reads.at_most, set.asked, unset.asked, same);
      unread = λ refusal first.
          let is = unread refusal (ap (λ (seen : SourceState). first_refusal (archive_length_checks seen.size)) set.seen ∙ first) in
          (unset.seen ∙ (ap (λ (s : CountedState). s.seen) is ∙ set.seen), unset.asked ∙ (ap (λ (s : CountedState). s.asked) is ∙ set.asked));
      budget = rw unset.asked within;
      late = λ refusal is budget.
          let over = late_budget caps.limits.budget s0 s1 s2 n small set (late refusal is budget).1 in
          (over.0, over.1, omega (arith, over.2, unset.asked));
      inside = λ refusal is budget. omega (arith, (late refusal is budget).0, size);
    }

-- the refusal reported is the one that stopped the listing
pub reported_late : (format : Format) (s1 s2 : CountedState) (a b out : OutState) (n : ℕ) (stop told : RunFault) → ReturnsStop format a b stop told → StopTells s1 s2 out n stop
    → (refusal : Refusal) → told ≡ Refused refusal → BudgetSays s1 s2 n refusal
reported_late format s1 s2 a b out n (Refused first) (Refused same) tells says refusal is =
    let all : first ≡ refusal = cc in subst (λ (r : Refusal). BudgetSays s1 s2 n r) all says
reported_late format s1 s2 a b out n (Refused first) (Source cause at) tells says refusal is = absurd tells
reported_late format s1 s2 a b out n (Refused first) (Out cause) tells says refusal is = cc
reported_late format s1 s2 a b out n (Source cause at) told tells says refusal is = let other = tells.1 in cc
reported_late format s1 s2 a b out n (Out cause) told tells says refusal is = let other = tells.1 in cc

-- what was reported of a fault implies for the source and the output what the fault did
pub told_says : (format : Format) (s0 s1 s2 s3 : CountedState) (a b : OutState) (n : ℕ) (budget : Option ℕ) (stop told : RunFault) → SetsLimit s0 s1 budget → SetsLimit s2 s3 None
    → ReturnsStop format a b stop told → StopTells s1 s2 a n stop → ArchiveSays s0 s3 b told
told_says format s0 s1 s2 s3 a b n budget (Refused first) (Refused same) set unset tells says = tt
told_says format s0 s1 s2 s3 a b n budget (Refused first) (Source cause at) set unset tells says = absurd tells
told_says format s0 s1 s2 s3 a b n budget (Refused first) (Out cause) set unset tells says = tells.0
told_says format s0 s1 s2 s3 a b n budget (Source cause at) told set unset tells says =
    rw (tells.1, unset.seen, sym set.seen) says
told_says format s0 s1 s2 s3 a b n budget (Out cause) told set unset tells says = rw (tells.0, tells.1) says
