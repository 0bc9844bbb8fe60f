use Rattle.std.proofs.Common.{◌≡◌, ◌++◌, take}
use Rattle.elf_layout.specs.Lent.{placed}
use Rattle.elf_layout.proofs.items.push_sections.Given as goal

abbrev pub invariant-loop-index : goal.invariant-loop-index
invariant-loop-index l = placed l.items.items ≡ placed l.initial.items.items ++ take l.index-index l.sections
