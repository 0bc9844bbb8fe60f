use Rattle.std.proofs.Common.{◌≡◌, false, bytes_eq, take}
use Rattle.std.specs.List.{list_any}
use Rattle.elf_resolve.proofs.linker_names.is_one_of.Given as goal

abbrev pub invariant-loop-known : goal.invariant-loop-known
invariant-loop-known l = list_any (λ n. bytes_eq l.name n.now) (take l.known-index l.names) ≡ false
