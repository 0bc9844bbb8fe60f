-- One more file: it defines the name, or its lookup fails, or the name is not in it; and no file is
-- left.
use Rattle.std.proofs.Common.{refl, arith}
use Rattle.elf_options.specs.Wants.{query_of}
use Rattle.elf_needs.proofs.BindLaws.{binds_fault, binds_found, binds_more, binds_none}
use Rattle.elf_needs.proofs.bind_name.bind.Goals as goal

pub returns-in-Ok-Some : goal.returns-in-Ok-Some
returns-in-Ok-Some g c =
    binds_found (query_of c.args.wanted.now) c.args.objects.now c.loop-object.objects c.args.left.now c.loop-object.left c.look.new.left
    c.loop-object.object c.index-objects-object.result c.look.new.self c.loop-object.invariant.so_far c.loop-object-test.true c.in-Ok-Some.symbol
    (rw (c.in-Ok-Some.is, c.in-Ok-Some.field-0-is) at c.look.ensures)

pub returns-in-Err : goal.returns-in-Err
returns-in-Err g c =
    binds_fault (query_of c.args.wanted.now) c.args.objects.now c.loop-object.objects c.args.left.now c.loop-object.left c.look.new.left
    c.loop-object.object c.index-objects-object.result c.look.new.self c.loop-object.invariant.so_far c.loop-object-test.true c.in-Err.fault
    (rw (c.in-Err.is) at c.look.ensures)

pub loop-object-preserved : goal.loop-object-preserved
loop-object-preserved g c = record {
  so_far =
      binds_more (query_of c.args.wanted.now) c.args.objects.now c.loop-object.objects c.args.left.now c.loop-object.left c.look.new.left
      c.loop-object.object c.index-objects-object.result c.look.new.self c.loop-object.invariant.so_far c.loop-object-test.true
      (rw (c.in-Ok-None.is, c.in-Ok-None.field-0-is) at c.look.ensures);
  end = refl;
  within = omega (arith, c.loop-object-test.true);
}

pub returns : goal.returns
returns g c =
    binds_none (query_of c.args.wanted.now) _ _ _ _ c.loop-object.object c.loop-object.invariant.so_far
    (omega (arith, c.loop-object-test.false, c.loop-object.invariant.end, c.loop-object.invariant.within))
