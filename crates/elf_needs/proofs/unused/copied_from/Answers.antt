-- One more object is searched.
use Rattle.std.proofs.Common.{arith, refl}
use Rattle.elf_needs.proofs.AskLaws.{asks_none}
use Rattle.elf_needs.proofs.UnusedLaws.{asks_looked}
use Rattle.elf_needs.proofs.unused.copied_from.Goals as goal

pub returns-in-Ok-Some : goal.returns-in-Ok-Some
returns-in-Ok-Some g c =
    let l = c.loop-object in
    asks_looked l.object c.index-objects-object.result c.look.new.self (omega (arith, c.loop-object-test.true, l.invariant.end, l.invariant.asks.objects.same_length)) l.invariant.asks c.look.ensures

pub loop-object-preserved : goal.loop-object-preserved
loop-object-preserved g c =
    let l = c.loop-object in
    record {
      asks = asks_looked l.object c.index-objects-object.result c.look.new.self (omega (arith, c.loop-object-test.true, l.invariant.end, l.invariant.asks.objects.same_length)) l.invariant.asks c.look.ensures;
      end = l.invariant.end;
    }

pub loop-object-init : goal.loop-object-init
loop-object-init g c = record { asks = asks_none c.args.objects.now c.args.left.now; end = refl }

pub returns-in-Err : goal.returns-in-Err
returns-in-Err g c =
    let l = c.loop-object in
    asks_looked l.object c.index-objects-object.result c.look.new.self (omega (arith, c.loop-object-test.true, l.invariant.end, l.invariant.asks.objects.same_length)) l.invariant.asks c.look.ensures

pub returns-in-Err-2 : goal.returns-in-Err-2
returns-in-Err-2 g c =
    let l = c.loop-object in
    asks_looked l.object c.index-objects-object.result c.look.new.self (omega (arith, c.loop-object-test.true, l.invariant.end, l.invariant.asks.objects.same_length)) l.invariant.asks c.look.ensures
