-- The line of one more object, all or a prefix of it; and no object is left.
use Rattle.std.proofs.Common.{◌<◌, ◌≤◌, ◌+◌, drop, length, arith}
use Rattle.std.proofs.lemmas.Result.{err_from_is_err_and}
use Rattle.elf_needs.specs.ObjectLines.{places_in_order}
use Rattle.elf_needs.proofs.ObjectLineLaws.{place_next, place_none, writes_all, writes_fault, writes_more}
use Rattle.elf_needs.proofs.object_lines.list_in_order.Goals as goal

pub loop-index-preserved : goal.loop-index-preserved
loop-index-preserved g c =
    let l = c.loop-index in
    let known = c.args.objects.now.known.items in
    let less : l.index < length known = omega (arith, l.invariant.end, c.loop-index-test.true) in
    record {
      end = l.invariant.end;
      writes = writes_more c.args.lines c.args.objects.now c.args.program.now _ l.invariant.writes _ (places_in_order (l.index + 1) (drop (l.index + 1) known)) c.list_place.new.out (place_next known l.index less) c.in_ok-list_place.ensures.puts.0;
    }

pub returns-in_err-list_place : goal.returns-in_err-list_place
returns-in_err-list_place g c =
    let l = c.loop-index in
    let known = c.args.objects.now.known.items in
    let less : l.index < length known = omega (arith, l.invariant.end, c.loop-index-test.true) in
    let p = err_from_is_err_and c.from_residual.result c.from_residual.ensures.1 in
    let stopped = c.in_err-list_place.ensures.puts in
    rw (p.1, p.2) (record {
      puts = (writes_fault c.args.lines c.args.objects.now c.args.program.now _ l.invariant.writes _ (places_in_order (l.index + 1) (drop (l.index + 1) known)) c.list_place.new.out (place_next known l.index less) stopped.0, stopped.1);
    })

pub returns : goal.returns
returns g c =
    let l = c.loop-index in
    let known = c.args.objects.now.known.items in
    let past : length known ≤ l.index = omega (arith, l.invariant.end, c.loop-index-test.false) in
    record { puts = writes_all c.args.lines c.args.objects.now c.args.program.now _ l.invariant.writes c.put.new.self c.put.result (place_none known l.index past) c.put.ensures.puts }
