use Rattle.std.proofs.Common.{◌≡◌, ◌+◌, ◌∷◌, [], length, map, ap, sym, subst, ◌∙◌, arith}
use Rattle.std.proofs.lemmas.Iterator.Consumers.{YieldsList-turn, YieldsList-end}
use Rattle.std.proofs.lemmas.Iterator.Splits.{YieldsList-from_lines}
use Rattle.std.proofs.lemmas.List.{length-map, length_push, map-append}
use Rattle.elf_layout.specs.Listed.{IsLastAlike}
use Rattle.elf_layout.proofs.ListedSteps.{last_before, last_here, lines_few}
use Rattle.elf_layout.proofs.items.last_line.Goals as goal

pub loop-line-preserved-then-spells_alike : goal.loop-line-preserved-then-spells_alike
loop-line-preserved-then-spells_alike c =
    let t = YieldsList-turn (YieldsList-from_lines c.args.text.now cc) c.loop-line.yielded _ c.loop-line.yielded_by _ _ c.in-Some.line c.in-Some.is c.next.ensures.steps in
    let more = length_push c.loop-line.yielded c.in-Some.line in
    let number : c.saturating_add-number.result ≡ length c.loop-line.yielded + 1 = omega (arith, c.saturating_add-number.ensures, c.loop-line.invariant.number, t.0, lines_few c.args.text.now) in
    record {
      number = omega (arith, number, more);
      last = subst (λ l. IsLastAlike l c.args.wanted.now c.saturating_add-number.result) (sym (map-append (λ line. line.now) c.loop-line.yielded (c.in-Some.line ∷ [])))
          (last_here (map (λ line. line.now) c.loop-line.yielded) c.in-Some.line.now c.args.wanted.now c.saturating_add-number.result c.if-spells_alike.ensures (number ∙ ap (λ n. n + 1) (sym (length-map c.loop-line.yielded (λ line. line.now)))));
    }

pub loop-line-preserved : goal.loop-line-preserved
loop-line-preserved c =
    let t = YieldsList-turn (YieldsList-from_lines c.args.text.now cc) c.loop-line.yielded _ c.loop-line.yielded_by _ _ c.in-Some.line c.in-Some.is c.next.ensures.steps in
    let more = length_push c.loop-line.yielded c.in-Some.line in
    record {
      number = omega (arith, c.saturating_add-number.ensures, c.loop-line.invariant.number, t.0, lines_few c.args.text.now, more);
      last = subst (λ l. IsLastAlike l c.args.wanted.now c.loop-line.last) (sym (map-append (λ line. line.now) c.loop-line.yielded (c.in-Some.line ∷ [])))
          (last_before (map (λ line. line.now) c.loop-line.yielded) c.in-Some.line.now c.args.wanted.now c.loop-line.last c.if-spells_alike.ensures c.loop-line.invariant.last);
    }

pub returns : goal.returns
returns c =
    let t = YieldsList-end (YieldsList-from_lines c.args.text.now cc) c.loop-line.yielded _ c.loop-line.yielded_by _ _ c.in-None.is c.next.ensures.steps in
    subst (λ l. IsLastAlike l c.args.wanted.now c.loop-line.last) t.0 c.loop-line.invariant.last
