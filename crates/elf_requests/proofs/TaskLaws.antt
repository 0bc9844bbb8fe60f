-- What a task that is not a listing did, between the call that sets its limit and the one that
-- removes it.
use Rattle.std.proofs.Common.{◌≡◌, ◌⊎◌, ℕ, ◌+◌, ◌^◌, ◌<◌, ◌≤◌, List, [], ◌++◌, Option, None, Some, Result, Ok, Err, ap, sym, ◌∙◌, inl, inr, refl, subst, arith}
use Rattle.std.specs.Prelude.{IfErr, IfSome}
use Rattle.elf_model.specs.Prelude.{Answer, IsAnswered, IsBudgetRefusal, Layout, applied, applied_status, applied_text, apply_answer, refusal_line}
use Rattle.elf_model.specs.declared.causes.Cause.TheVariants.{Budget}
use Rattle.elf_model.specs.declared.formats.Format.TheVariants.{Columns}
use Rattle.elf_model.specs.declared.formats.Format.{Format}
use Rattle.elf_model.specs.declared.causes.Refusal.{Refusal}
use Rattle.elf_model.specs.declared.fault_rows.FaultRow.TheVariants.{NoRow}
use Rattle.elf_model.proofs.BudgetLaws.{is_budget_fault}
use Rattle.elf_source.specs.Prelude.{CountedState, KeepsSource, OutGrows, OutState, SetsLimit, SinkTakes, SinkTakesPrefix, counted}
use Rattle.elf_source.proofs.LimitLaws.{budget_below, late_budget}
use Rattle.elf_source.proofs.PutsLaws.{SinkTakes-nothing, SinkTakesPrefix-all, SinkTakesPrefix-more, SinkTakesPrefix-then}
use Rattle.elf_table.specs.Prelude.{IsReadFault, stop_of}
use Rattle.elf_table.specs.declared.fault.Fault.{Fault}
use Rattle.elf_table.specs.declared.run_fault.RunFault.TheVariants.{Out}
use Rattle.elf_table.specs.declared.run_fault.RunFault.{RunFault}
use Rattle.elf_table.specs.declared.fault.Fault.TheVariants.{Refused as Refuses, Source as Unread}
use Rattle.elf_table.specs.declared.run_fault.RunFault.TheVariants.{Refused, Source}
use Rattle.elf_reloc.specs.Prelude.{Applies, ApplySays, BudgetTooSmall, text_of}
use Rattle.elf_reloc.specs.declared.apply_section.Applied.{Applied}
use Rattle.elf_listing.specs.Prelude.{FaultSays, IsOfOutput, ReturnsStop}
use Rattle.elf_requests.specs.Prelude.{Answers, AsksUpTo, Runs, WholeOrUsedUp, WroteAnswer}

-- a text and a prefix of the next
pub front_then : {a b c : OutState} (xs ys : List ℕ) → SinkTakes a b xs → SinkTakesPrefix b c ys → SinkTakesPrefix a c (xs ++ ys)
front_then xs ys first next = SinkTakesPrefix-then xs ys first next

-- a prefix of a section is one of the answer's text: nothing was written of a section that is
-- refused
pub front_of_answer : {old new : OutState} (answer : Result (List ℕ) Refusal) → SinkTakesPrefix old new (text_of answer) → SinkTakesPrefix old new (applied_text answer)
front_of_answer (Ok text) front = front
front_of_answer (Err refusal) front = SinkTakesPrefix-more [] (refusal_line Columns refusal) front

-- a refusal for lack of budget is within the source, and n more bytes would exceed the limit
abbrev pub IsOver : CountedState → ℕ → Refusal → Type 0
IsOver src n refusal = IsBudgetRefusal refusal → (refusal.at < src.seen.size) × ((most : ℕ) × (src.most ≡ Some most) × (most < src.asked + n))

-- the answer of a refusal
abbrev pub refused_answer : Format → Refusal → Answer
refused_answer format refusal = record { text = refusal_line format refusal; status = 1 }

-- what was written when a task stopped, whose whole answer this is: nothing before the line of a
-- refusal, otherwise a prefix
abbrev pub StopsIn : Format → CountedState → ℕ → OutState → OutState → Answer → RunFault → Type 0
StopsIn format src n old new whole (Refused refusal) =
    IsOver src n refusal × (new ≡ old) × ((IsBudgetRefusal refusal → ⊥) → whole ≡ refused_answer format refusal)
StopsIn format src n old new whole (Source fault at) = SinkTakesPrefix old new whole.text
StopsIn format src n old new whole (Out fault) = SinkTakesPrefix old new whole.text

whole_answered : (format : Format) (budget : Option ℕ) (size cost : ℕ) (whole : Answer) → IsAnswered format budget size cost whole whole
whole_answered format None size cost whole = refl
whole_answered format (Some budget) size cost whole = inl refl

-- all of it was written
pub answered_whole : {a b : OutState} {Holds : Answer → Type 0} (format : Format) (budget : Option ℕ) (size cost : ℕ) (whole : Answer) (result : Result ℕ RunFault)
    → WroteAnswer a b result whole → Holds whole → Answers a b result (IsAnswered format budget size cost whole) Holds
answered_whole format budget size cost whole result wrote holds =
    record { answer = whole; permitted = whole_answered format budget size cost whole; wrote = wrote; holds = holds }

-- a refusal for lack of budget is one that the budget is too small for
over_answered : (format : Format) (budget : Option ℕ) (size cost : ℕ) (whole : Answer) (refusal : Refusal) (s0 s1 : CountedState) → s0.asked ≤ 2 ^ 127 → SetsLimit s0 s1 budget
    → size ≡ s1.seen.size → IsOver s1 cost refusal → IsBudgetRefusal refusal → IsAnswered format budget size cost whole (refused_answer format refusal)
over_answered format None size cost whole refusal s0 s1 small set sized over is =
    let none = set.most in
    let some = (over is).1.1 in
    cc
over_answered format (Some bytes) size cost whole refusal s0 s1 small set sized over is =
    let (inside, (limit, some, above)) = over is in
    let most : Some (counted s0.asked bytes) ≡ Some limit = sym set.most ∙ some in
    let same : counted s0.asked bytes ≡ limit = cc in
    let asked = set.asked in
    inr (
      budget_below bytes s0.asked limit cost small (sym same) (set.small bytes refl) (omega (arith, above, asked)),
      record { refusal = refusal; for_budget = is; inside = omega (arith, inside, sized); answer_is = refl },
    )

-- what was reported of a refusal is its line, or a prefix of it
told_refusal : (format : Format) (a b : OutState) (refusal : Refusal) (told : RunFault) → ReturnsStop format a b (Refused refusal) told
    → WroteAnswer a b (Err told) (refused_answer format refusal)
told_refusal format a b refusal (Refused same) tells = rw (tells.0) (tells.1, refl, (format, NoRow, [], refl))
told_refusal format a b refusal (Source fault at) tells = absurd tells
told_refusal format a b refusal (Out fault) tells = tells.1

-- a task stopped, and what was reported of that
pub answered_stop : {a c : OutState} {Holds : Answer → Type 0} (format : Format) (b : OutState) (budget : Option ℕ) (size cost : ℕ) (whole : Answer) (stop told : RunFault) (s0 s1 : CountedState) → s0.asked ≤ 2 ^ 127
    → SetsLimit s0 s1 budget → size ≡ s1.seen.size → StopsIn format s1 cost a b whole stop → ReturnsStop format b c stop told
    → ((answer : Answer) → ((refusal : Refusal) → stop ≡ Refused refusal → (IsBudgetRefusal refusal → ⊥) → answer ≡ whole) → Holds answer)
    → Answers a c (Err told) (IsAnswered format budget size cost whole) Holds
answered_stop {a} {c} {Holds} format b budget size cost whole (Refused refusal) told s0 s1 small set sized stops tells holds = by_cause (is_budget_fault refusal.cause)
  where
    wrote : WroteAnswer a c (Err told) (refused_answer format refusal)
    wrote = subst (λ (old : OutState). WroteAnswer old c (Err told) (refused_answer format refusal)) stops.1 (told_refusal format b c refusal told tells)

    by_cause : (refusal.cause ≡ Budget) ⊎ (refusal.cause ≡ Budget → ⊥) → Answers a c (Err told) (IsAnswered format budget size cost whole) Holds
    by_cause (inr other) =
        answered_whole format budget size cost whole (Err told) (subst (λ (answer : Answer). WroteAnswer a c (Err told) answer) (sym (stops.2 other)) wrote)
        (holds whole (λ same is not. refl))
    by_cause (inl is) = record {
      answer = refused_answer format refusal;
      permitted = over_answered format budget size cost whole refusal s0 s1 small set sized stops.0 is;
      wrote = wrote;
      holds = holds (refused_answer format refusal) (λ same one other. let two : refusal ≡ same = cc in absurd (other (ap (λ (r : Refusal). r.cause) (sym two) ∙ is)));
    }
answered_stop format b budget size cost whole (Source fault at) told s0 s1 small set sized stops tells holds =
    rw (tells.0, tells.1) (answered_whole format budget size cost whole (Err (Source fault at)) stops (holds whole (λ same is not. refl)))
answered_stop format b budget size cost whole (Out fault) told s0 s1 small set sized stops tells holds =
    rw (tells.0, tells.1) (answered_whole format budget size cost whole (Err (Out fault)) stops (holds whole (λ same is not. refl)))

-- what a task did, by what was read after the limit
pub runs :
    {a b : OutState} {Gives : List ℕ → Type 0} {result : Result ℕ RunFault} (budget : Option ℕ) (s0 s1 s3 : CountedState) (n : ℕ) (cost : List ℕ → ℕ) → SetsLimit s0 s1 budget → OutGrows a b
    → KeepsSource s1.seen s3.seen → s3.most ≡ None → s3.asked ≤ s1.asked + n → IfSome budget (λ bytes. s3.asked ≤ s0.asked + bytes) → IfErr result (FaultSays s0 s3 b)
    → ((file : List ℕ) → s1.seen.file ≡ Some file → (s3.asked ≤ s1.asked + cost file) × Gives file)
    → Runs s0 s3 a b result (AsksUpTo budget s0 s3 n) cost Gives
runs budget s0 s1 s3 n cost set grows keeps free most within says known =
    let asked = set.asked in
    record {
      grows = grows;
      leaves = record { keeps = rw (set.seen) at keeps; free = free };
      says = says;
      asks = record { most = omega (arith, most, asked); within = within };
      cost = λ file held. let costs = (known file (ap (λ seen. seen.file) set.seen ∙ held)).0 in omega (arith, costs, asked);
      text = λ file held. (known file (ap (λ seen. seen.file) set.seen ∙ held)).1;
    }

-- a fault of the output alone, and otherwise the whole answer
pub output_alone : (budget : Option ℕ) (s t : CountedState) (out : OutState) (result : Result ℕ RunFault) → IfErr result (IsOfOutput out)
    → IfErr result (FaultSays s t out) × ((whole : Answer) → WholeOrUsedUp budget s t result whole whole)
output_alone budget s t out (Ok status) fails = (tt, λ whole. refl)
output_alone budget s t out (Err (Refused refusal)) fails = absurd fails
output_alone budget s t out (Err (Source fault at)) fails = absurd fails
output_alone budget s t out (Err (Out fault)) fails = (fails, λ whole. tt)

-- a refusal is the whole answer, unless it is for lack of budget
abbrev pub RefusesAs : Format → Answer → Fault → Type 0
RefusesAs format whole (Refuses refusal) = (IsBudgetRefusal refusal → ⊥) → whole ≡ refused_answer format refusal
RefusesAs format whole (Unread fault at) = Unit {0}

-- when a lookup stopped
pub lookup_stops : (format : Format) (s1 s2 : CountedState) (a : OutState) (n : ℕ) (fault : Fault) (whole : Answer) → IsReadFault s1 s2 n fault → RefusesAs format whole fault
    → StopsIn format s1 n a a whole (stop_of fault)
lookup_stops format s1 s2 a n (Refuses refusal) whole says refuses =
    (λ budget. let said = says budget in (said.0, (said.1.most, said.1.is_set, said.1.above)), refl, refuses)
lookup_stops format s1 s2 a n (Unread fault at) whole says refuses = SinkTakesPrefix-all [] _ (SinkTakes-nothing a)

-- a lookup's budget is exhausted if its refusal is for lack of it, and the refusal names the read
-- that did not fit
pub lookup_used : (format : Format) (a b : OutState) (budget : Option ℕ) (s0 s1 s2 s3 : CountedState) (n : ℕ) (fault : Fault) (told : RunFault) (whole answer : Answer) → s0.asked ≤ 2 ^ 127 → SetsLimit s0 s1 budget
    → SetsLimit s2 s3 None → IsReadFault s1 s2 n fault → ReturnsStop format a b (stop_of fault) told → ((refusal : Refusal) → stop_of fault ≡ Refused refusal → (IsBudgetRefusal refusal → ⊥) → answer ≡ whole)
    → WholeOrUsedUp budget s0 s3 (Err told) whole answer
lookup_used format a b budget s0 s1 s2 s3 n (Unread cause at) told whole answer small set unset says tells other = rw (tells.1) tt
lookup_used format a b budget s0 s1 s2 s3 n (Refuses first) (Source cause at) whole answer small set unset says tells other = tt
lookup_used format a b budget s0 s1 s2 s3 n (Refuses first) (Out cause) whole answer small set unset says tells other = tt
lookup_used format a b budget s0 s1 s2 s3 n (Refuses first) (Refused same) whole answer small set unset says tells other = rw (tells.0) (
  λ is.
      let said = says is in
      let late = late_budget budget s0 s1 s2 n small set said.1 in
      ((late.0, late.1, omega (arith, late.2, unset.asked)), said.2 ∙ sym unset.stopped),
  other first refl,
)

-- a section was written
pub section_wrote : {a b : OutState} {done : Applied} {entries : ℕ} (answer : Result (List ℕ) Refusal) → Applies a b (Ok done) entries answer
    → WroteAnswer a b (Ok 0) (record { text = applied_text answer; status = applied_status answer })
section_wrote answer wrote = rw wrote.1 (wrote.2, refl)

-- when the writing of a section stopped
pub section_stops : (entries : ℕ) (s1 s2 : CountedState) (a b out : OutState) (file : List ℕ) (headers section : ℕ) (layout : Layout) (n cost : ℕ) (stop : RunFault) → ApplySays s1 s2 out n stop → BudgetTooSmall s1 cost stop
    → Applies a b (Err stop) entries (applied file headers section layout) → StopsIn Columns s1 cost a b (apply_answer file headers section layout) stop
section_stops entries s1 s2 a b out file headers section layout n cost (Refused refusal) says wants wrote =
    (λ budget. let over = wants budget in ((says budget).0, (over.most, over.is_set, over.above)), wrote.1, λ other. rw (wrote.0 other) refl)
section_stops entries s1 s2 a b out file headers section layout n cost (Source fault at) says wants wrote = front_of_answer (applied file headers section layout) wrote
section_stops entries s1 s2 a b out file headers section layout n cost (Out fault) says wants wrote = front_of_answer (applied file headers section layout) wrote

-- what was reported of a fault implies for the source and the output what the fault did
pub section_says : (s0 s1 s2 : CountedState) (b c : OutState) (n : ℕ) (budget : Option ℕ) (stop told : RunFault) → SetsLimit s0 s1 budget → ApplySays s1 s2 b n stop → ReturnsStop Columns b c stop told → FaultSays s0 s2 c told
section_says s0 s1 s2 b c n budget (Refused refusal) (Refused same) set says tells = tt
section_says s0 s1 s2 b c n budget (Refused refusal) (Source fault at) set says tells = absurd tells
section_says s0 s1 s2 b c n budget (Refused refusal) (Out fault) set says tells = tells.0
section_says s0 s1 s2 b c n budget (Source fault at) told set says tells = rw (tells.1, sym set.seen) says
section_says s0 s1 s2 b c n budget (Out fault) told set says tells = rw (tells.0, tells.1) says
