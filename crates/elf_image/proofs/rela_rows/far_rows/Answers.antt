use Rattle.std.proofs.Common.{◌≡◌, ◌+◌, ◌-◌, ◌*◌, below_more, arith}
use Rattle.elf_image.proofs.rela_rows.far_rows.Goals as goal

pub loop-rows-preserved : goal.loop-rows-preserved
loop-rows-preserved c = record {
  few = omega arith;
  far = below_more _ _ c.loop-rows.invariant.far (let e : 24 * c.loop-rows.rows + 24 - 24 * c.loop-rows.rows ≡ 24 = omega arith in rw e at (c.is_far.ensures c.if-is_far.true));
}
