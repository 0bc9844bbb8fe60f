use Rattle.elf_resolve.proofs.StopLaws.{index_fails}
use Rattle.elf_resolve.proofs.resolver.Resolver.read_names.Goals as goal

pub returns-clause-fails : goal.returns-clause-fails
returns-clause-fails g c = λ file seen are fits unrefused.
    index_fails c.args.is_whole file _ _ _ _ c.read_index.result c.if-is_whole.false (c.read_index.ensures.reads file seen are fits unrefused)
