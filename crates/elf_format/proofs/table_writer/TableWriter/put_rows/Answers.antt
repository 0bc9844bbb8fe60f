-- What was written, and the rows after it, are what the bytes so far become.
use Rattle.std.proofs.Common.{rules, [], ◌≤◌, ◌+◌, ◌∙◌, arith, length}
use Rattle.elf_format.specs.TableWriters.{with_rows}
use Rattle.elf_format.proofs.TableLaws.{renders_nothing, renders_turn}
use Rattle.elf_format.proofs.table_writer.TableWriter.put_rows.Goals as goal

pub loop-done-init : goal.loop-done-init
loop-done-init g c = record { within = omega arith; kind = c.requires; renders = rw c.new-rows.ensures (renders_nothing (with_rows c.args.self.now []) c.requires) }

pub loop-done-preserved : goal.loop-done-preserved
loop-done-preserved g c =
    let wrote = c.in_ok-done.ensures.puts in
    let within : c.loop-done.done + c.in_ok-done.field-0 ≤ length c.args.bytes.now = search rules in
    record {
      within = within;
      kind = wrote.kind ∙ c.loop-done.invariant.kind;
      renders = renders_turn (with_rows c.args.self.now []) (with_rows c.loop-done.self c.loop-done.rows.items) (with_rows c.put_next.new.self c.put_next.new.rows.items) c.args.bytes.now c.loop-done.done c.in_ok-done.field-0 c.requires c.loop-done.invariant.renders wrote;
    }
