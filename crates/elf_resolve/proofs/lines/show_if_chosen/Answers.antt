use Rattle.std.proofs.Common.{sym, ◌∙◌}
use Rattle.elf_resolve.specs.ShownLinks.{row_shown}
use Rattle.elf_resolve.proofs.KeyShownLaws.{writes_as}
use Rattle.elf_resolve.proofs.ShownLaws.{row_chosen, same_file}
use Rattle.elf_resolve.proofs.lines.show_if_chosen.Goals as goal

pub returns : goal.returns
returns g c = record {
  writes = λ names none ascend named.
      let link = c.args.link.now in
      let wanted = row_shown link.end c.args.index c.args.row in
      let same = c.shown_row-row.ensures none in
      writes_as {X = Unit {0}} c.args.out.now c.show_row.new.out c.show_row.result _ _
      (row_chosen c.args.problems g.R.Render.FORMAT names link c.args.index c.shown_row-row.result wanted same (sym c.is_chosen.ensures ∙ c.if-not-is_chosen.false))
      (c.show_row.ensures.writes names ascend (same_file (g.F.InputFiles.text c.args.files.now) names link.room.names link.end c.args.index c.args.row c.shown_row-row.result same named));
}
