use Rattle.std.proofs.Common.{◌+◌, ◌-◌, arith}
use Rattle.std.specs.Prelude.{◌/◌}
use Rattle.elf_resolve.proofs.MemberNameLaws.{half_above, half_below, halfway}
use Rattle.elf_resolve.proofs.member_names.first_from.Goals as goal

pub loop-low-preserved-then-places-middle : goal.loop-low-preserved-then-places-middle
loop-low-preserved-then-places-middle c =
    let inv = c.loop-low.invariant in
    let half = halfway c.loop-low.low c.loop-low.high c.loop-low-test.true in
    record {
      order = omega (arith, half.1);
      within = inv.within;
      found = half_above c.args.places.now c.args.row c.loop-low.low c.loop-low.high (c.loop-low.low + (c.loop-low.high - c.loop-low.low) / 2) _ (omega (arith, half.1, inv.within)) c.if-places-middle.true inv.found;
    }

pub loop-low-preserved : goal.loop-low-preserved
loop-low-preserved c =
    let inv = c.loop-low.invariant in
    let half = halfway c.loop-low.low c.loop-low.high c.loop-low-test.true in
    record {
      order = half.0;
      within = omega (arith, half.1, inv.within);
      found = half_below c.args.places.now c.args.row c.loop-low.low c.loop-low.high (c.loop-low.low + (c.loop-low.high - c.loop-low.low) / 2) _ (omega (arith, half.1, inv.within)) c.if-places-middle.false inv.found;
    }
