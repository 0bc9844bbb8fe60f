use Rattle.std.proofs.Common.{◌≡◌, None}
use Rattle.elf_resolve.specs.KeyChains.{first_number}
use Rattle.elf_resolve.proofs.list_lines.show_spare.Given as goal

abbrev pub invariant-loop-turn : goal.invariant-loop-turn
invariant-loop-turn g l = first_number l.link.spare.chains l.key ≡ None → (l.next ≡ None) × (l.out ≡ l.initial.out)
