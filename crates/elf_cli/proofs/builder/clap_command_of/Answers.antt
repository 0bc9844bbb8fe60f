use Rattle.std.proofs.Common.{◌≡◌, ◌∙◌, ◌==◌, ℕ, false, refl, subst, sym, true}
use Rattle.std.specs.Int.RustNames.{bit_and}
use Rattle.std.proofs.lemmas.Bool.{eq-eqb, ne_eqb}
use Rattle.std.proofs.lemmas.List.Sums.{fold_more}
use Rattle.clap.specs.Simple.{App, with_rule}
use Rattle.clap.specs.Walk.{Rule}
use Rattle.elf_cli.specs.Building.{IsBuilt}
use Rattle.elf_cli.specs.CommandLine.{with_argument, with_names}
use Rattle.elf_cli.specs.Described.{argument_row, command_row}
use Rattle.elf_cli.proofs.BuildingLaws.{all_taken}
use Rattle.elf_cli.proofs.builder.clap_command_of.Goals as goal
use Rattle.elf_cli.proofs.builder.clap_command_of.Goals.{then-argument-command+in_ok-whole-2, else-argument-command}

-- an argument that the command has
its : (bit : ℕ) (app : App) (argument : ℕ × Rule) → (bit_and argument.0 bit == bit) ≡ true → with_argument bit app argument ≡ with_rule app argument.1
its bit app argument has = rw has refl

-- one that it does not have
not_its : (bit : ℕ) (app : App) (argument : ℕ × Rule) → (bit_and argument.0 bit == bit) ≡ false → with_argument bit app argument ≡ app
not_its bit app argument other = rw other refl

pub loop-argument-preserved : goal.loop-argument-preserved
loop-argument-preserved c =
    elim c.if-argument-command.branch [
      | then-argument-command+in_ok-whole-2 w ↦
          rw w.whole-is
          (subst (λ a. IsBuilt a w.in_ok-whole-2.whole)
          (sym (fold_more (λ app word. with_argument c.args.command.now.bit app (argument_row word)) (with_names (command_row c.args.command.now)) _ c.loop-argument.argument-index _ c.loop-argument-test.true
          ∙ its _ _ _ (eq-eqb _ _ w.if-argument-command.true)))
          (w.in_ok-whole-2.ensures _ c.loop-argument.invariant))
      | else-argument-command w ↦
          rw w.whole-is
          (subst (λ a. IsBuilt a c.loop-argument.whole)
          (sym (fold_more (λ app word. with_argument c.args.command.now.bit app (argument_row word)) (with_names (command_row c.args.command.now)) _ c.loop-argument.argument-index _ c.loop-argument-test.true
          ∙ not_its _ _ _ (ne_eqb _ _ w.if-argument-command.false)))
          c.loop-argument.invariant)
    ]

pub returns : goal.returns
returns c =
    subst (λ a. IsBuilt a c.loop-argument.whole)
    (all_taken (with_argument c.args.command.now.bit) argument_row (with_names (command_row c.args.command.now)) _ c.loop-argument.argument-index _ c.loop-argument-test.false c.all_arguments-arguments.ensures)
    c.loop-argument.invariant
