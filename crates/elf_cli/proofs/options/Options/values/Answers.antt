use Rattle.std.proofs.Common.{◌∙◌, [], ap, unwrap_or}
use Rattle.std.proofs.lemmas.Result.{IfOk-weaker}
use Rattle.clap.specs.Walk.{texts}
use Rattle.clap.specs.Words.{found_of}
use Rattle.clap.proofs.WalkLemmas.{raw_values-rows}
use Rattle.elf_cli.specs.Options.{values_of}
use Rattle.elf_cli.proofs.options.Options.values.Goals as goal

pub returns-in-Some : goal.returns-in-Some
returns-in-Some c =
    let words = ap (λ o. unwrap_or o []) (c.in-Some.ensures ∙ raw_values-rows (found_of c.self.inside.matches.now) c.args.argument.now) ∙ ap (values_of c.args.argument.now) c.self.view_is in
    IfOk-weaker c.copied_words.result _ _ (λ copy same. ap texts same ∙ words) c.copied_words.ensures

pub returns-in-None : goal.returns-in-None
returns-in-None c =
    ap texts c.new.ensures.items ∙ ap (λ o. unwrap_or o []) (c.in-None.ensures ∙ raw_values-rows (found_of c.self.inside.matches.now) c.args.argument.now)
    ∙ ap (values_of c.args.argument.now) c.self.view_is
