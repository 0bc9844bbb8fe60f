use Rattle.std.proofs.Common.{◌≡◌, Option, ℕ, ap, arith, refl, subst, sym, ◌∙◌}
use Rattle.elf_resolve.specs.KeyChains.{IsListFrom}
use Rattle.elf_resolve.specs.MarkedRows.{further_row}
use Rattle.elf_resolve.specs.declared.resolver.Resolver.{Resolver}
use Rattle.elf_resolve.proofs.MarkedRowLaws.{begun, ended, more_row, same_but_marks, turned}
use Rattle.elf_resolve.proofs.resolver.Resolver.mark_further.Goals as goal

pub loop-turn-init : goal.loop-turn-init
loop-turn-init c = record {
  same = refl;
  marks = λ places follows fits.
      let link = c.args.self.now in
      begun link.further link.link.rows (further_row link.link.keys.keys.further) places c.first-next.result link.problems.items (subst (λ (first : Option ℕ). IsListFrom link.further first places) (sym c.first-next.ensures) follows) fits;
}

pub loop-turn-preserved : goal.loop-turn-preserved
loop-turn-preserved c =
    let before = c.loop-turn.invariant.same in
    record {
      same = same_but_marks c.args.self.now c.loop-turn.self c.mark.new.self before c.mark.ensures.same;
      marks = λ places follows fits.
          let link = c.args.self.now in
          let place = c.in-Some.place in
          let row : c.further_at-row.result ≡ further_row link.link.keys.keys.further place =
          c.further_at-row.ensures ∙ ap (λ l. further_row l place) (c.further.ensures.items ∙ ap (λ (r : Resolver). r.link.keys.keys.further) before) in
          more_row link.further link.link.rows (further_row link.link.keys.keys.further) places c.loop-turn.next c.after-next.result c.further_at-row.result c.mark.new.self.further c.loop-turn.self.link.rows place c.loop-turn._turn link.problems.items c.loop-turn.self.problems.items c.mark.new.self.problems.items
          (ap (λ (r : Resolver). r.further) c.mark.ensures.same ∙ ap (λ (r : Resolver). r.further) before) (ap (λ (r : Resolver). r.link.rows) before) row c.after-next.ensures c.in-Some.is
          (c.loop-turn.invariant.marks places follows fits) c.mark.ensures.marks;
    }

pub returns-in_default : goal.returns-in_default
returns-in_default c = record {
  same = c.loop-turn.invariant.same;
  marks = λ places follows fits.
      let link = c.args.self.now in
      ended link.further link.link.rows (further_row link.link.keys.keys.further) places c.loop-turn.next c.loop-turn._turn link.problems.items c.loop-turn.self.problems.items c.in_default.is (c.loop-turn.invariant.marks places follows fits);
}

pub returns-after-loop-turn : goal.returns-after-loop-turn
returns-after-loop-turn c = record {
  same = c.loop-turn.invariant.same;
  marks = λ places follows fits.
      let link = c.args.self.now in
      turned link.further link.link.rows (further_row link.link.keys.keys.further) places c.loop-turn.next c.loop-turn._turn link.problems.items c.loop-turn.self.problems.items (omega (arith, c.loop-turn-test.false, c.most-turn-end.ensures)) (c.loop-turn.invariant.marks places follows fits);
}
