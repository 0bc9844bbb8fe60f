use Rattle.std.proofs.Common.{ap}
use Rattle.elf_model.specs.LinkLines.{file_front}
use Rattle.elf_model.specs.Lines.{named_line}
use Rattle.elf_resolve.proofs.ShownLaws.{member_named, puts_as}
use Rattle.elf_resolve.proofs.lines.show_named_row.Goals as goal

pub returns-in-Some : goal.returns-in-Some
returns-in-Some g c = record {
  puts = λ names ascend named.
      let row = c.args.row in
      let held = c.args.link.now.room.names in
      puts_as {X = Unit {0}} c.args.out.now c.show_file.new.out c.show_file.result _ _
      (ap (named_line (file_front g.R.Render.FORMAT c.args.index row))
      (member_named (g.F.InputFiles.text c.args.files.now) names held c.args.index row.input c.in-Some.field-0 row.member _ c.in-Some.is named (c.name-is_cut.ensures ascend)))
      c.show_file.ensures.puts;
}
