use Rattle.elf_resolve.proofs.KeyLaws.{index_within}
use Rattle.elf_resolve.proofs.TableLaws.{group_kept}
use Rattle.elf_resolve.proofs.table.KeyTable.drop_group.Goals as goal

pub set_entry-requires-clause-within : goal.set_entry-requires-clause-within
set_entry-requires-clause-within c =
    let entered = c.in_ok-index.ensures in
    rw (entered.index_is, entered.keys) (index_within c.args.self.now.keys c.args.signature.now)

pub returns : goal.returns
returns c = group_kept _ _ _ _ _ _ _ _ _ c.in_ok-index.ensures c.entry-entry.ensures c.kept.ensures c.set_entry.ensures c.is_kept.ensures
