-- The program so far has the commands that were taken.
use Rattle.std.proofs.Common.{◌≡◌, take}
use Rattle.std.specs.List.{fold}
use Rattle.clap.specs.Words.{app_of}
use Rattle.elf_cli.specs.CommandLine.{with_command, without_command}
use Rattle.elf_cli.specs.Described.{command_row}
use Rattle.elf_cli.proofs.commands.command_line.Given as goal

abbrev pub invariant-loop-command : goal.invariant-loop-command
invariant-loop-command l = app_of l.whole ≡ fold (λ app row. with_command app (command_row row)) without_command (take l.command-index l.commands)
