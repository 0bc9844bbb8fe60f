-- An entry is put, and those before it were.
use Rattle.std.proofs.Common.{◌-◌, ◌+◌, ◌∙◌, refl, arith, drop, take}
use Rattle.elf_walk.proofs.GatherLaws.{put_none, put_one, put_step, put_whole}
use Rattle.elf_walk.proofs.dir_walk.put_all.Goals as goal

pub loop-at-init : goal.loop-at-init
loop-at-init c = record { put = put_none c.args.names.now c.args.batch.now; after = refl }

pub loop-at-preserved : goal.loop-at-preserved
loop-at-preserved c =
    let entry = take (c.loop-at.at + c.ends_at.result - c.loop-at.at) (drop c.loop-at.at c.args.names.now) in
    let e = c.put.ensures in
    let one = put_one entry c.in_ok-put.put c.loop-at.batch c.put.new.self c.put.result c.in_ok-put.was e.dots e.unnamed e.placed e.named e.keeps in
    record {
      put =
          put_step c.args.names.now c.loop-at.at c.ends_at.result _ c.loop-at.unnamed _ c.in_ok-put.put c.args.batch.now c.loop-at.batch c.put.new.self c.loop-at.invariant.put
          c.loop-at-test.true c.ends_at.ensures.within c.ends_at.ensures.nul c.ends_at.ensures.first one (omega arith) (omega arith);
      after = e.after ∙ c.loop-at.invariant.after;
    }

pub returns-clause-puts : goal.returns-clause-puts
returns-clause-puts c = put_whole c.args.names.now c.loop-at.at c.loop-at.unnamed c.args.batch.now c.loop-at.batch c.loop-at.invariant.put (omega (arith, c.loop-at-test.false))
