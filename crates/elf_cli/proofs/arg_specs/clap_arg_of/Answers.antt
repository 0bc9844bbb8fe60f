use Rattle.std.proofs.Common.{IfOk, Option, ap, subst, sym}
use Rattle.std.specs.Borrow.{Bor}
use Rattle.clap.specs.Walk.{Rule, Text}
use Rattle.elf_cli.specs.Building.{IsArg}
use Rattle.elf_cli.specs.Described.{lettered, other_names}
use Rattle.elf_cli.proofs.BuildingLaws.{is_named, without_names}
use Rattle.elf_cli.proofs.arg_specs.clap_arg_of.Goals as goal

pub returns-in-Some : goal.returns-in-Some
returns-in-Some c =
    let word = c.args.word.now in
    let none = ap (λ (r : Rule). r.aliases) (sym (without_names word.name.now word.kind word.short)) in
    subst (λ (a : Option (Bor Text)). IfOk c.visible_alias.result (IsArg (record (lettered word) { aliases = other_names a }))) (sym c.in-Some.is)
    (is_named (lettered word) c.lettered-arg.result c.visible_alias.result c.in-Some.name c.lettered-arg.ensures none c.visible_alias.ensures)

pub returns-in-None : goal.returns-in-None
returns-in-None c =
    let word = c.args.word.now in
    subst (λ (a : Option (Bor Text)). IsArg (record (lettered word) { aliases = other_names a }) c.lettered-arg.result) (sym c.in-None.is)
    (subst (λ (r : Rule). IsArg r c.lettered-arg.result) (sym (without_names word.name.now word.kind word.short)) c.lettered-arg.ensures)
