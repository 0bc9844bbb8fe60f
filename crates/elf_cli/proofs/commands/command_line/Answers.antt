use Rattle.std.proofs.Common.{◌≡◌, ◌∙◌, subst, sym}
use Rattle.std.proofs.lemmas.List.Sums.{fold_more}
use Rattle.clap.specs.Words.{app_of}
use Rattle.elf_cli.specs.CommandLine.{with_command, without_command}
use Rattle.elf_cli.specs.Described.{command_row}
use Rattle.elf_cli.proofs.BuildingLaws.{all_taken}
use Rattle.elf_cli.proofs.commands.command_line.Goals as goal

pub loop-command-preserved : goal.loop-command-preserved
loop-command-preserved c =
    subst (λ a. app_of c.in_ok-whole-2.whole ≡ a)
    (sym (fold_more (λ app row. with_command app (command_row row)) without_command _ c.loop-command.command-index _ c.loop-command-test.true))
    (c.in_ok-whole-2.ensures _ c.loop-command.invariant)

pub returns : goal.returns
returns c =
    c.loop-command.invariant
    ∙ all_taken with_command command_row without_command _ c.loop-command.command-index _ c.loop-command-test.false c.all_commands-commands.ensures
