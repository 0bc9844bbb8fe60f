use Rattle.std.proofs.Common.{◌≡◌, ◌++◌, take}
use Rattle.elf_layout.specs.Lent.{named}
use Rattle.elf_layout.proofs.items.push_names.Given as goal

abbrev pub invariant-loop-name : goal.invariant-loop-name
invariant-loop-name l = named l.items.items ≡ named l.initial.items.items ++ take l.name-index l.names
