use Rattle.std.proofs.Common.{◌≡◌, None}
use Rattle.elf_resolve.specs.KeyChains.{first_number}
use Rattle.elf_resolve.proofs.resolver.Resolver.mark_spare.Given as goal

-- nothing changes but the marks, and not these if there is no row
abbrev pub invariant-loop-turn : goal.invariant-loop-turn
invariant-loop-turn l = record {
  same : l.self ≡ record l.initial.self { problems = l.self.problems };
  none : first_number l.initial.self.spare.chains l.key ≡ None → (l.next ≡ None) × (l.self ≡ l.initial.self);
}
