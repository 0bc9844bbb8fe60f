use Rattle.std.proofs.Common.{◌≡◌, ◌+◌, ◌∷◌, [], Bool, false, Result, Ok, Err, drop, length, map, refl, sym, subst, arith, inl, inr}
use Rattle.std.specs.Prelude.{IfOk, is_err}
use Rattle.std.specs.Str.Lines.{lines}
use Rattle.std.proofs.lemmas.Iterator.Consumers.{YieldsList-so_far, YieldsList-turn, YieldsList-end}
use Rattle.std.proofs.lemmas.Iterator.Splits.{YieldsList-from_lines}
use Rattle.std.proofs.lemmas.List.{length-map, length_push, map-append}
use Rattle.elf_layout.specs.Listed.{GiveItems, with_item}
use Rattle.elf_layout.proofs.ListedSteps.{gives_more, line_parted, lines_few}
use Rattle.elf_layout.proofs.items.Items.push_lines.Goals as goal

ok_told : {X E : Type 0} (P : Type 0) (r : Result X E) (b : Bool) → b ≡ is_err r → b ≡ false → IfOk r (λ _. P) → P
ok_told P (Ok x) b is not p = p
ok_told P (Err e) b is not p = absurd (cc)

pub returns-in_default-clause-refused : goal.returns-in_default-clause-refused
returns-in_default-clause-refused c =
    let t = YieldsList-turn (YieldsList-from_lines c.args.text.now cc) c.loop-line.yielded _ c.loop-line.yielded_by _ _ c.in-Some.line c.in-Some.is c.next.ensures.steps in
    let so = YieldsList-so_far (YieldsList-from_lines c.args.text.now cc) c.loop-line.yielded _ c.loop-line.yielded_by in
    let same = length-map c.loop-line.yielded (λ line. line.now) in (
      map (λ line. line.now) c.loop-line.yielded,
      c.loop-line.self,
      c.loop-line.invariant.given,
      inl (
        c.in-Some.line.now,
        drop (length c.loop-line.yielded + 1) (lines c.args.text.now),
        line_parted (lines c.args.text.now) (map (λ line. line.now) c.loop-line.yielded) (length c.loop-line.yielded) c.in-Some.line.now so t.0 t.1,
        c.in_default.ensures.unspelled refl,
      ),
      omega (arith, c.saturating_add-number.ensures, c.loop-line.invariant.number, t.0, lines_few c.args.text.now, same),
    )

pub returns-in-Whole-clause-given : goal.returns-in-Whole-clause-given
returns-in-Whole-clause-given c =
    let t = YieldsList-end (YieldsList-from_lines c.args.text.now cc) c.loop-line.yielded _ c.loop-line.yielded_by _ _ c.in-None.is c.next.ensures.steps in
    (subst (λ l. GiveItems l c.args.self.now c.loop-line.self) t.0 c.loop-line.invariant.given, c.in-Whole.is)

pub returns-in-Cut-clause-refused : goal.returns-in-Cut-clause-refused
returns-in-Cut-clause-refused c =
    let t = YieldsList-end (YieldsList-from_lines c.args.text.now cc) c.loop-line.yielded _ c.loop-line.yielded_by _ _ c.in-None.is c.next.ensures.steps in
    let same = length-map c.loop-line.yielded (λ line. line.now) in (
      map (λ line. line.now) c.loop-line.yielded,
      c.loop-line.self,
      c.loop-line.invariant.given,
      inr (sym t.0, c.in-Cut.is),
      omega (arith, c.saturating_add.ensures, c.loop-line.invariant.number, t.1, lines_few c.args.text.now, same),
    )

pub loop-line-preserved : goal.loop-line-preserved
loop-line-preserved c =
    let t = YieldsList-turn (YieldsList-from_lines c.args.text.now cc) c.loop-line.yielded _ c.loop-line.yielded_by _ _ c.in-Some.line c.in-Some.is c.next.ensures.steps in
    let more = length_push c.loop-line.yielded c.in-Some.line in
    let put = ok_told (c.push.new.self ≡ with_item c.loop-line.self c.in-Some-item.item) c.push.result c.is_err.result c.is_err.ensures.value c.if-is_err.false c.push.ensures in
    record {
      number = omega (arith, c.saturating_add-number.ensures, c.loop-line.invariant.number, t.0, lines_few c.args.text.now, more);
      given = subst (λ l. GiveItems l c.args.self.now c.push.new.self) (sym (map-append (λ line. line.now) c.loop-line.yielded (c.in-Some.line ∷ [])))
          (gives_more (map (λ line. line.now) c.loop-line.yielded) c.in-Some.line.now c.in-Some-item.item c.args.self.now c.loop-line.self c.push.new.self c.loop-line.invariant.given c.in-Some-item.ensures.spelled put);
    }
