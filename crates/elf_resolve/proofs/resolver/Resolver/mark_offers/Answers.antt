use Rattle.std.proofs.Common.{◌≡◌, ◌/◌, Option, ℕ, ap, arith, refl, subst, sym, ◌∙◌}
use Rattle.elf_resolve.specs.EntryRows.{AreConsecutive, row_with_entry}
use Rattle.elf_resolve.specs.KeyChains.{IsListFrom}
use Rattle.elf_resolve.specs.declared.archives.ArchiveTables.{ArchiveTables}
use Rattle.elf_resolve.specs.declared.resolver.Resolver.{Resolver}
use Rattle.elf_resolve.proofs.MarkedRowLaws.{begun, ended, more_row, same_but_marks, turned}
use Rattle.elf_resolve.proofs.resolver.Resolver.mark_offers.Goals as goal

pub loop-turn-init : goal.loop-turn-init
loop-turn-init c = record {
  same = refl;
  marks = λ from count numbers are follows fits.
      let link = c.args.self.now in
      begun link.offers link.link.rows (λ n. row_with_entry link.tables.archives.items (n / 2)) numbers c.first-next.result link.problems.items (subst (λ (first : Option ℕ). IsListFrom link.offers first numbers) (sym c.first-next.ensures) follows) fits;
}

pub loop-turn-preserved : goal.loop-turn-preserved
loop-turn-preserved c =
    let before = c.loop-turn.invariant.same in
    record {
      same = same_but_marks c.args.self.now c.loop-turn.self c.mark.new.self before c.mark.ensures.same;
      marks = λ from count numbers are follows fits.
          let link = c.args.self.now in
          let place = c.in-Some.place in
          let tables : c.loop-turn.self.tables ≡ link.tables = ap (λ (r : Resolver). r.tables) before in
          let row : c.row_of_entry-row.result ≡ row_with_entry link.tables.archives.items (place / 2) =
          c.row_of_entry-row.ensures from count (subst (λ (t : ArchiveTables). AreConsecutive from t.archives.items count) (sym tables) are) ∙ ap (λ (t : ArchiveTables). row_with_entry t.archives.items (place / 2)) tables in
          more_row link.offers link.link.rows (λ n. row_with_entry link.tables.archives.items (n / 2)) numbers c.loop-turn.next c.after-next.result c.row_of_entry-row.result c.mark.new.self.offers c.loop-turn.self.link.rows place c.loop-turn._turn link.problems.items c.loop-turn.self.problems.items c.mark.new.self.problems.items
          (ap (λ (r : Resolver). r.offers) c.mark.ensures.same ∙ ap (λ (r : Resolver). r.offers) before) (ap (λ (r : Resolver). r.link.rows) before) row c.after-next.ensures c.in-Some.is
          (c.loop-turn.invariant.marks from count numbers are follows fits) c.mark.ensures.marks;
    }

pub returns-in_default : goal.returns-in_default
returns-in_default c = record {
  same = c.loop-turn.invariant.same;
  marks = λ from count numbers are follows fits.
      let link = c.args.self.now in
      ended link.offers link.link.rows (λ n. row_with_entry link.tables.archives.items (n / 2)) numbers c.loop-turn.next c.loop-turn._turn link.problems.items c.loop-turn.self.problems.items c.in_default.is (c.loop-turn.invariant.marks from count numbers are follows fits);
}

pub returns-after-loop-turn : goal.returns-after-loop-turn
returns-after-loop-turn c = record {
  same = c.loop-turn.invariant.same;
  marks = λ from count numbers are follows fits.
      let link = c.args.self.now in
      turned link.offers link.link.rows (λ n. row_with_entry link.tables.archives.items (n / 2)) numbers c.loop-turn.next c.loop-turn._turn link.problems.items c.loop-turn.self.problems.items (omega (arith, c.loop-turn-test.false, c.most-turn-end.ensures)) (c.loop-turn.invariant.marks from count numbers are follows fits);
}
