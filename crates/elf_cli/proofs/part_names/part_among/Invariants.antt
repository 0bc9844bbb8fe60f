use Rattle.std.proofs.Common.{◌≡◌, length, map}
use Rattle.elf_cli.specs.Described.{part_row}
use Rattle.elf_cli.specs.Options.{part_among}
use Rattle.elf_cli.proofs.part_names.part_among.Given as goal

-- the part is among the remaining rows
abbrev pub invariant-loop-rows : goal.invariant-loop-rows
invariant-loop-rows l = part_among (map part_row l.rows) l.name ≡ part_among (map part_row l.fn.rows) l.name

abbrev pub decreases-loop-rows : goal.decreases-loop-rows
decreases-loop-rows l = length l.rows
