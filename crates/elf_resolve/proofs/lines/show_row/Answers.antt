use Rattle.std.proofs.Common.{sym, ◌∙◌}
use Rattle.elf_resolve.proofs.ShownLaws.{row_reasoned}
use Rattle.elf_resolve.proofs.lines.show_row.Goals as goal

pub returns-in-Some : goal.returns-in-Some
returns-in-Some g c = record {
  writes = λ names ascend named.
      row_reasoned c.args.problems g.R.Render.FORMAT names c.args.link.now.link.keys.keys c.args.index c.args.row {X = Unit {0}} c.args.out.now c.show_named_row.new.out c.show_reason.new.out c.show_reason.result c.in-Some.reason
      c.name-name.result.now (sym c.reason_shown.ensures ∙ c.in-Some.is) c.name-name.ensures (c.in_ok-show_named_row.ensures.puts names ascend named).0 c.show_reason.ensures.puts;
}
