-- There is no symbol to be taken.
use Rattle.std.proofs.Common.{subst}
use Rattle.elf_resolve.specs.ObjectSymbols.{MayNameUse}
use Rattle.elf_resolve.proofs.ObjectSymbolLaws.{not_global}
use Rattle.elf_resolve.proofs.object_symbols.take_named.Goals as goal

pub returns-in_default-clause-takes : goal.returns-in_default-clause-takes
returns-in_default-clause-takes c = λ file table_at at dropped named.
    not_global file table_at at c.args.row dropped c.args.keys.now (subst (MayNameUse file c.args.strings.now.bytes table_at at dropped) c.in_default.is named)
