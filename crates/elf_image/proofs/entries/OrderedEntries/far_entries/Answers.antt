use Rattle.std.proofs.Common.{arith}
use Rattle.elf_image.proofs.EntryTurnSteps.{far-ahead}
use Rattle.elf_image.proofs.entries.OrderedEntries.far_entries.Goals as goal

pub returns-clause-far : goal.returns-clause-far
returns-clause-far c = λ file i known from below.
    let entries = c.args.self.now in
    far-ahead file entries c.in-Some.reach i known c.if-self.false c.if-self-2.false c.in-Some.is (omega (arith, below))
    (c.far_from-far.ensures file entries.ranges.first.at i known.chunks from (omega (arith, below)))
