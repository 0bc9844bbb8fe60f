-- None of the version indices is in the set.
use Rattle.std.proofs.Common.{arith}
use Rattle.elf_loader.proofs.SetLaws.{none-all}
use Rattle.elf_loader.proofs.version_index_set.VersionIndexSet.is_empty.Goals as goal

pub returns : goal.returns
returns c =
    let i = c.loop-number.invariant in
    rw (← c.self.view_is) (none-all c.self.inside.words c.self.told (λ number less. rw (c.self.view_is) (i.none number (omega (arith, less, c.loop-number-test.false)))))
