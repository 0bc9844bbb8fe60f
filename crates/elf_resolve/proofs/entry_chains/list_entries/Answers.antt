use Rattle.std.proofs.Common.{◌-◌, arith}
use Rattle.elf_resolve.proofs.KeyListLaws.{entry_more}
use Rattle.elf_resolve.proofs.entry_chains.list_entries.Goals as goal

pub loop-place-preserved : goal.loop-place-preserved
loop-place-preserved c =
    let before = c.loop-place.invariant.1 in
    let next = c.loop-place.place - 1 in
    (omega arith, entry_more c.args.offers.now c.loop-place.offers c.list_entry.new.offers c.args.entries.now c.loop-place.place next _ (omega arith) (omega arith) before c.list_entry.ensures)
