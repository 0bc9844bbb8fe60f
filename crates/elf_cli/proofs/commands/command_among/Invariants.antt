use Rattle.std.proofs.Common.{◌≡◌, length, map}
use Rattle.elf_cli.specs.CommandLine.{command_among}
use Rattle.elf_cli.specs.Described.{command_row}
use Rattle.elf_cli.proofs.commands.command_among.Given as goal

-- the command is among the remaining rows
abbrev pub invariant-loop-rows : goal.invariant-loop-rows
invariant-loop-rows l = command_among (map command_row l.rows) l.name ≡ command_among (map command_row l.fn.rows) l.name

abbrev pub decreases-loop-rows : goal.decreases-loop-rows
decreases-loop-rows l = length l.rows
