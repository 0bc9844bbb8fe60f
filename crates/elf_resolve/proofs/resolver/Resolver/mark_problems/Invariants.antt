use Rattle.std.proofs.Common.{◌≡◌}
use Rattle.elf_resolve.specs.StaticLinks.{AreKeysListed}
use Rattle.elf_resolve.proofs.KeyMarkLaws.{AreKeysMarked}
use Rattle.elf_resolve.proofs.resolver.Resolver.mark_problems.Given as goal

-- nothing changes but the marks, and those of the rows are set that the lines of the keys up to one name
abbrev pub invariant-loop-place : goal.invariant-loop-place
invariant-loop-place l = record {
  same : l.self ≡ record l.initial.self { problems = l.self.problems };
  marks : AreKeysListed l.initial.self → AreKeysMarked l.initial.self l.self l.place;
}
