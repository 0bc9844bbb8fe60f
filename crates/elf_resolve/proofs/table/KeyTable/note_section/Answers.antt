use Rattle.std.proofs.Common.{refl}
use Rattle.elf_resolve.proofs.KeyLaws.{index_within}
use Rattle.elf_resolve.proofs.TableLaws.{section_noted}
use Rattle.elf_resolve.proofs.table.KeyTable.note_section.Goals as goal

pub set_entry-requires-clause-within : goal.set_entry-requires-clause-within
set_entry-requires-clause-within c =
    let entered = c.in_ok-index.ensures in
    rw (entered.index_is, entered.keys) (index_within c.args.self.now.keys c.args.name.now)

pub returns : goal.returns
returns c = section_noted _ _ _ _ _ _ _ c.in_ok-index.ensures c.entry-entry.ensures refl c.set_entry.ensures
