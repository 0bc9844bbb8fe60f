use Rattle.std.proofs.Common.{[], ◌∷◌, List, Option, ap, subst, sym, ℕ, ◌∙◌}
use Rattle.std.specs.List.{slice_get}
use Rattle.elf_model.specs.declared.link_states.LinkRow.{LinkRow}
use Rattle.elf_resolve.specs.MarkedRows.{AreMarked, archive_of_row}
use Rattle.elf_resolve.proofs.MarkedRowLaws.{marked_no_row, marked_row}
use Rattle.elf_resolve.proofs.resolver.Resolver.mark.Goals as goal

pub returns-in_default-clause-marks : goal.returns-in_default-clause-marks
returns-in_default-clause-marks c =
    let link = c.args.self.now in
    subst (λ (row : Option ℕ). AreMarked link.link.rows (row ∷ []) link.problems.items link.problems.items) (sym c.in_default.is) (marked_no_row link.link.rows link.problems.items)

pub returns-clause-marks : goal.returns-clause-marks
returns-clause-marks c =
    let link = c.args.self.now in
    let row = c.in-Some.row in
    subst (λ (o : Option ℕ). AreMarked link.link.rows (o ∷ []) link.problems.items c.set_mark-2.new.marks.items) (sym c.in-Some.is)
    (marked_row link.link.rows link.problems.items c.set_mark.new.marks.items c.set_mark-2.new.marks.items row c.archive_at-archive.result c.rows.ensures.within
    (c.archive_at-archive.ensures ∙ ap (λ (l : List LinkRow). archive_of_row (slice_get l row)) c.rows.ensures.rows) c.set_mark.ensures c.set_mark-2.ensures)
