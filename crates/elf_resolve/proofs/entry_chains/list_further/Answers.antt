use Rattle.std.proofs.Common.{◌-◌, arith}
use Rattle.elf_resolve.proofs.KeyListLaws.{further_more}
use Rattle.elf_resolve.proofs.entry_chains.list_further.Goals as goal

pub loop-place-preserved : goal.loop-place-preserved
loop-place-preserved c =
    let before = c.loop-place.invariant.1 in
    let next = c.loop-place.place - 1 in
    (omega arith, further_more c.args.chains.now c.loop-place.chains c.add.new.self c.args.further.now c.loop-place.place next _ (omega arith) (omega arith) before c.add.ensures)
