-- The lines of one item after another, of any kind of item.
use Rattle.std.proofs.Common.{◌≡◌, ℕ, ◌||◌, ◌⊎◌, Bool, true, false, List, [], ◌∷◌, ◌++◌, inl, inr, Option, None, Some, Result, Ok, Err, refl, sym, ap, subst, ◌∙◌, append_assoc, append-nil}
use Rattle.elf_model.proofs.BudgetLaws.{is_budget_fault}
use Rattle.elf_model.specs.Prelude.{IsBudgetRefusal, refusal_line}
use Rattle.elf_model.specs.declared.causes.Refusal.{Refusal}
use Rattle.elf_needs.specs.ItemLines.{IsCutText, ItemLines, ReturnsFault, WritesLines, WritesSoFar, failing_of}
use Rattle.elf_needs.specs.declared.search_scope.WriteEnd.{WriteEnd}
use Rattle.elf_needs.specs.declared.search_scope.WriteEnd.TheVariants.{Cut, Ended, Whole}
use Rattle.elf_library.specs.declared.needs_fault.NeedsFault.{NeedsFault}
use Rattle.elf_library.specs.declared.needs_fault.NeedsFault.TheVariants.{Open, Out, Read}
use Rattle.elf_source.specs.Prelude.{OutState, SinkTakes, SinkTakesPrefix}
use Rattle.elf_source.proofs.PutsLaws.{SinkTakes-nothing, SinkTakes-then, SinkTakesPrefix-more, SinkTakesPrefix-then}
use Rattle.elf_table.specs.declared.fault.Fault.{Fault}
use Rattle.elf_table.specs.declared.fault.Fault.TheVariants.{Refused, Source}

-- items are written one after another, and each may report a problem
pub record AreItemLines {A : Type 0} (lines : ItemLines A) : Type 0 where
  pub no_text : lines.text [] ≡ []
  pub none_fails : lines.fails [] ≡ false
  pub text_then : (a b : List A) → lines.text (a ++ b) ≡ lines.text a ++ lines.text b
  pub fails_then : (a b : List A) → lines.fails (a ++ b) ≡ (lines.fails a || lines.fails b)

pub some_is : (a b : Bool) → ◌≡◌ {A = Option Bool} (Some a) (Some b) → a ≡ b
some_is a b e = cc

pub none_not : (a : Bool) → ◌≡◌ {A = Option Bool} None (Some a) → ⊥
none_not a e = cc

pub or_true : (a : Bool) → (a || true) ≡ true
or_true true = refl
or_true false = refl

pub failing_none : (end : WriteEnd) → failing_of end ≡ None → end ≡ Cut
failing_none (Whole fails) e = absurd (none_not fails (sym e))
failing_none Ended e = absurd (none_not true (sym e))
failing_none Cut e = refl

module _ {A : Type 0} {lines : ItemLines A} (are : AreItemLines lines) where
  -- NOTHING IS WRITTEN YET
  pub so_far_none : (all left : List A) (a : OutState) → all ≡ left → WritesSoFar lines all left a a false
  so_far_none all left a is = record {
    front = [];
    split = is;
    takes = subst (λ (text : List ℕ). SinkTakes a a text) (sym are.no_text) (SinkTakes-nothing a);
    fails_is = sym are.none_fails;
  }

  -- some more are
  pub so_far_more :
      {all : List A} (left items rest : List A) {a b c : OutState} {fails : Bool} (more : Bool) → WritesSoFar lines all left a b fails → left ≡ items ++ rest
      → SinkTakes b c (lines.text items) → more ≡ lines.fails items → WritesSoFar lines all rest a c (fails || more)
  so_far_more {all} left items rest {a} {b} {c} {fails} more before parts takes is = record {
    front = before.front ++ items;
    split = before.split ∙ ap (λ (l : List A). before.front ++ l) parts ∙ sym (append_assoc before.front items rest);
    takes = subst (λ (text : List ℕ). SinkTakes a c text) (sym (are.text_then before.front items)) (SinkTakes-then _ _ before.takes takes);
    fails_is = rw (before.fails_is, is) (sym (are.fails_then before.front items));
  }

  -- the same, by what is written of one of them
  pub so_far_step : {all left rest : List A} {a b c : OutState} {fails more : Bool} → WritesSoFar lines all left a b fails → WritesSoFar lines left rest b c more
      → WritesSoFar lines all rest a c (fails || more)
  so_far_step {all} {left} {rest} {a} {b} {c} {fails} {more} before next = so_far_more left next.front rest more before next.split next.takes next.fails_is

  -- ALL ARE
  pub so_far_all : {all : List A} {a b : OutState} {fails : Bool} (short : Refusal → Type 0) → WritesSoFar lines all [] a b fails → WritesLines lines all short a b (Ok (Whole fails))
  so_far_all {all} {a} {b} {fails} short before =
      let whole : all ≡ before.front = before.split ∙ append-nil before.front in
      (subst (λ (l : List A). SinkTakes a b (lines.text l)) (sym whole) before.takes, before.fails_is ∙ ap lines.fails (sym whole))

  -- a text that is cut, after lines and before others
  cut_after : {items : List A} {short : Refusal → Type 0} {text : List ℕ} (all front rest : List A) → all ≡ front ++ (items ++ rest) → IsCutText lines items short text
      → IsCutText lines all short (lines.text front ++ text)
  cut_after {items} {short} {text} all front rest split cut = record {
    front = front ++ cut.front;
    rest = cut.rest ++ rest;
    split = split ∙ ap (λ (l : List A). front ++ (l ++ rest)) cut.split ∙ ap (λ (l : List A). front ++ l) (append_assoc cut.front cut.rest rest)
        ∙ sym (append_assoc front cut.front (cut.rest ++ rest));
    refusal = cut.refusal;
    for_budget = cut.for_budget;
    is_short = cut.is_short;
    text_is = ap (λ (t : List ℕ). lines.text front ++ t) cut.text_is ∙ sym (append_assoc (lines.text front) (lines.text cut.front) (refusal_line lines.format cut.refusal))
        ∙ ap (λ (t : List ℕ). t ++ refusal_line lines.format cut.refusal) (sym (are.text_then front cut.front));
  }

  whole_of : {all left : List A} {a b : OutState} {fails : Bool} (items rest : List A) (before : WritesSoFar lines all left a b fails) → left ≡ items ++ rest → all ≡ before.front ++ (items ++ rest)
  whole_of items rest before parts = before.split ∙ ap (λ (l : List A). before.front ++ l) parts

  -- THE LINES END with those of further items, if these end
  module _ {all : List A} (left items rest : List A) {a b : OutState} (c : OutState) {fails : Bool} (short : Refusal → Type 0) (before : WritesSoFar lines all left a b fails) (parts : left ≡ items ++ rest) where
    pub ends_cut : WritesLines lines items short b c (Ok Cut) → WritesLines lines all short a c (Ok Cut)
    ends_cut writes =
        (lines.text before.front ++ writes.0, cut_after all before.front rest (whole_of items rest before parts) writes.1, SinkTakes-then _ _ before.takes writes.2)

    pub ends_fault : (fault : NeedsFault) → WritesLines lines items short b c (Err fault) → WritesLines lines all short a c (Err fault)
    ends_fault Read writes = record {
      front = before.front ++ writes.front;
      rest = writes.rest ++ rest;
      split = whole_of items rest before parts ∙ ap (λ (l : List A). before.front ++ (l ++ rest)) writes.split ∙ ap (λ (l : List A). before.front ++ l) (append_assoc writes.front writes.rest rest)
          ∙ sym (append_assoc before.front writes.front (writes.rest ++ rest));
      takes = subst (λ (text : List ℕ). SinkTakes a c text) (sym (are.text_then before.front writes.front)) (SinkTakes-then _ _ before.takes writes.takes);
    }
    ends_fault Open writes = absurd writes
    ends_fault (Out fault) writes = go writes.1
      where
        go : (writes.0 ≡ lines.text items) ⊎ (IsCutText lines items short writes.0) → WritesLines lines all short a c (Err (Out fault))
        go (inl is) =
            let text : lines.text all ≡ (lines.text before.front ++ writes.0) ++ lines.text rest =
            ap lines.text (whole_of items rest before parts) ∙ are.text_then before.front (items ++ rest) ∙ ap (λ (t : List ℕ). lines.text before.front ++ t) (are.text_then items rest)
            ∙ sym (append_assoc (lines.text before.front) (lines.text items) (lines.text rest)) ∙ ap (λ (t : List ℕ). (lines.text before.front ++ t) ++ lines.text rest) (sym is) in
            (lines.text all, inl refl, subst (λ (t : List ℕ). SinkTakesPrefix a c t) (sym text) (SinkTakesPrefix-more _ _ (SinkTakesPrefix-then _ _ before.takes writes.2)), writes.3)
        go (inr cut) =
            (lines.text before.front ++ writes.0, inr (cut_after all before.front rest (whole_of items rest before parts) cut), SinkTakesPrefix-then _ _ before.takes writes.2, writes.3)

  -- a fault's line is the last of an object, after which none is left
  pub ends_last : {all : List A} (left items : List A) {a b : OutState} (c : OutState) {fails : Bool} (inner outer : Refusal → Type 0) → WritesSoFar lines all left a b fails → left ≡ items
      → WritesLines lines items inner b c (Ok Ended) → WritesLines lines all outer a c (Ok Ended)
  ends_last {all} left items {a} {b} c {fails} inner outer before same writes =
      let whole : all ≡ before.front ++ items = before.split ∙ ap (λ (l : List A). before.front ++ l) same in (
        subst (λ (text : List ℕ). SinkTakes a c text) (sym (ap lines.text whole ∙ are.text_then before.front items)) (SinkTakes-then _ _ before.takes writes.0),
        ap lines.fails whole ∙ are.fails_then before.front items ∙ ap (λ (e : Bool). lines.fails before.front || e) writes.1 ∙ or_true (lines.fails before.front),
      )

  -- what lines report that are all written
  pub failing_some : (items : List A) (short : Refusal → Type 0) (b c : OutState) (end : WriteEnd) (more : Bool) → WritesLines lines items short b c (Ok end) → failing_of end ≡ Some more
      → SinkTakes b c (lines.text items) × (more ≡ lines.fails items)
  failing_some items short b c (Whole fails) more writes e = let same : fails ≡ more = some_is fails more e in (writes.0, sym same ∙ writes.1)
  failing_some items short b c Ended more writes e = let same : true ≡ more = some_is true more e in (writes.0, sym same ∙ sym writes.1)
  failing_some items short b c Cut more writes e = absurd (none_not more e)

  -- THE LINE OF A FAULT, which alone is that of its refusal
  module _ (refused : Refusal → A) (alone : (refusal : Refusal) → (lines.text (refused refusal ∷ []) ≡ refusal_line lines.format refusal) × (lines.fails (refused refusal ∷ []) ≡ true)) (all : List A) (short : Refusal → Type 0) where
    cut_first : (refusal : Refusal) → IsBudgetRefusal refusal → short refusal → IsCutText lines all short (refusal_line lines.format refusal)
    cut_first refusal budget is = record {
      front = [];
      rest = all;
      split = refl;
      refusal = refusal;
      for_budget = budget;
      is_short = is;
      text_is = ap (λ (t : List ℕ). t ++ refusal_line lines.format refusal) (sym are.no_text);
    }

    line_alone : (refusal : Refusal) → all ≡ refused refusal ∷ [] → (lines.text all ≡ refusal_line lines.format refusal) × (lines.fails all ≡ true)
    line_alone refusal is = (ap lines.text is ∙ (alone refusal).0, ap lines.fails is ∙ (alone refusal).1)

    pub faulted : (fault : Fault) (a b : OutState) (result : Result WriteEnd NeedsFault) → ((refusal : Refusal) → fault ≡ Refused refusal → (IsBudgetRefusal refusal → ⊥) → all ≡ refused refusal ∷ [])
        → ((refusal : Refusal) → fault ≡ Refused refusal → IsBudgetRefusal refusal → short refusal) → ReturnsFault lines.format fault a b result → WritesLines lines all short a b result
    faulted (Refused refusal) a b (Ok (Whole fails)) tells only told = absurd told
    faulted (Refused refusal) a b (Ok Ended) tells only told =
        let line = line_alone refusal (tells refusal refl told.0) in
        (subst (λ (t : List ℕ). SinkTakes a b t) (sym line.0) told.1, line.1)
    faulted (Refused refusal) a b (Ok Cut) tells only told = (refusal_line lines.format refusal, cut_first refusal told.0 (only refusal refl told.0), told.1)
    faulted (Refused refusal) a b (Err Read) tells only told = absurd told
    faulted (Refused refusal) a b (Err Open) tells only told = absurd told
    faulted (Refused refusal) a b (Err (Out fault)) tells only told = go (is_budget_fault refusal.cause)
      where
        go : (IsBudgetRefusal refusal) ⊎ (IsBudgetRefusal refusal → ⊥) → WritesLines lines all short a b (Err (Out fault))
        go (inl budget) = (refusal_line lines.format refusal, inr (cut_first refusal budget (only refusal refl budget)), told.0, told.1)
        go (inr unless) = (refusal_line lines.format refusal, inl (sym (line_alone refusal (tells refusal refl unless)).0), told.0, told.1)
    faulted (Source fault at) a b result tells only told =
        rw (told.0, told.1)
        (record { front = []; rest = all; split = refl; takes = subst (λ (t : List ℕ). SinkTakes a a t) (sym are.no_text) (SinkTakes-nothing a) })
