use Rattle.std.proofs.Common.{arith}
use Rattle.elf_capi.proofs.ItemLaws.{put_before, put_after}
use Rattle.elf_capi.proofs.items.layout_from.Goals as goal

pub loop-i-preserved : goal.loop-i-preserved
loop-i-preserved c =
    let known = c.loop-i.invariant in
    let put = c.if-not-put.ensures in
    record {
      within = omega (arith, c.loop-i-test.true);
      on = λ new lays. known.on new (put_before c.args.items.now c.loop-i.i _ c.loop-i.layout c.put.new.layout new c.loop-i-test.true put lays);
      back = λ new lays. put_after c.args.items.now c.loop-i.i _ c.loop-i.layout c.put.new.layout new c.loop-i-test.true put (known.back new lays);
    }
