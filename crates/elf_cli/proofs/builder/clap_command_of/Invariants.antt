-- The command so far has the arguments that were taken.
use Rattle.std.proofs.Common.{take}
use Rattle.std.specs.List.{fold}
use Rattle.elf_cli.specs.Building.{IsBuilt}
use Rattle.elf_cli.specs.CommandLine.{with_argument, with_names}
use Rattle.elf_cli.specs.Described.{argument_row, command_row}
use Rattle.elf_cli.proofs.builder.clap_command_of.Given as goal

abbrev pub invariant-loop-argument : goal.invariant-loop-argument
invariant-loop-argument l =
    IsBuilt (fold (λ app word. with_argument l.command.bit app (argument_row word)) (with_names (command_row l.command)) (take l.argument-index l.arguments)) l.whole
