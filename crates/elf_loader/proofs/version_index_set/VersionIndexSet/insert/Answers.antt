use Rattle.std.proofs.Common.{arith}
use Rattle.elf_loader.proofs.SetLaws.{bit-fits, has-more}
use Rattle.elf_loader.proofs.version_index_set.VersionIndexSet.insert.Goals as goal

pub returns : goal.returns
returns c =
    let fits = bit-fits c.args.number in
    rw (c.from.ensures, fits, ← c.self.view_is) (λ other. has-more c.self.inside.words c.args.number other (omega (arith, c.requires, c.self.told)))
