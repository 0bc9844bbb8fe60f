-- The line of one more place, all or a prefix of it; and no place is left.
use Rattle.std.proofs.lemmas.Result.{err_from_is_err_and}
use Rattle.elf_needs.specs.Trees.{places_left}
use Rattle.elf_needs.proofs.ObjectLineLaws.{writes_all, writes_fault, writes_more}
use Rattle.elf_needs.proofs.object_lines.list_tree.Goals as goal

pub loop-place-preserved : goal.loop-place-preserved
loop-place-preserved g c =
    let writes = c.loop-place.invariant.writes in
    record {
      walks = c.next.ensures.walks;
      writes = writes_more c.args.lines c.args.objects.now c.args.program.now _ writes c.in-Some.place (places_left c.next.new.self) c.list_place.new.out c.in-Some.ensures.steps c.in_ok-list_place.ensures.puts.0;
    }

pub returns-in_err-list_place : goal.returns-in_err-list_place
returns-in_err-list_place g c =
    let writes = c.loop-place.invariant.writes in
    let p = err_from_is_err_and c.from_residual.result c.from_residual.ensures.1 in
    let stopped = c.in_err-list_place.ensures.puts in
    rw (p.1, p.2) (record {
      puts = (writes_fault c.args.lines c.args.objects.now c.args.program.now _ writes c.in-Some.place (places_left c.next.new.self) c.list_place.new.out c.in-Some.ensures.steps stopped.0, stopped.1);
    })

pub returns : goal.returns
returns g c =
    let writes = c.loop-place.invariant.writes in
    record { puts = writes_all c.args.lines c.args.objects.now c.args.program.now _ writes c.put.new.self c.put.result c.in_default.ensures.steps c.put.ensures.puts }
