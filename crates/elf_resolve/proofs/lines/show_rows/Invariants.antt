use Rattle.elf_model.specs.LinkLines.{FileNames}
use Rattle.elf_resolve.specs.StaticLinks.{AreRowsNamed}
use Rattle.elf_resolve.proofs.ShownLaws.{AreMissing, AreRowsShown}
use Rattle.elf_resolve.proofs.lines.show_rows.Given as goal

abbrev pub invariant-loop-index : goal.invariant-loop-index
invariant-loop-index g l = record {
  missing : AreMissing l.link.link.rows.rows l.index l.missing;
  shown : (names : FileNames) → AreRowsNamed (g.F.InputFiles.text l.files) names l.link → AreRowsShown l.problems g.R.Render.FORMAT names l.link l.link.link.rows.rows l.index l.initial.out l.out;
}
