use Rattle.std.proofs.Common.{IfOk, Option, refl, subst, sym}
use Rattle.std.specs.Borrow.{Bor}
use Rattle.clap.specs.Simple.{new_app}
use Rattle.clap.specs.Walk.{Text}
use Rattle.elf_cli.specs.Building.{IsBuilt}
use Rattle.elf_cli.specs.Described.{other_names}
use Rattle.elf_cli.proofs.BuildingLaws.{command_is_named}
use Rattle.elf_cli.proofs.builder.named.Goals as goal

pub returns-in-Some : goal.returns-in-Some
returns-in-Some c =
    let app = new_app c.args.command.now.name.now in
    subst (λ (a : Option (Bor Text)). IfOk c.visible_alias.result (IsBuilt (record app { top = record app.top { aliases = other_names a } }))) (sym c.in-Some.is)
    (command_is_named app c.new_command-built.result c.visible_alias.result c.in-Some.name c.new_command-built.ensures refl c.visible_alias.ensures)
