-- None of the items before this one has the name.
use Rattle.std.proofs.Common.{take}
use Rattle.elf_layout.specs.Layouts.{LacksKey}
use Rattle.elf_layout.proofs.named.has_name.Given as goal

abbrev pub invariant-loop-item : goal.invariant-loop-item
invariant-loop-item l = record { none : LacksKey (take l.item-index l.items) l.name }
