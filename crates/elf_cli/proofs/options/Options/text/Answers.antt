use Rattle.std.proofs.Common.{◌∙◌, ap}
use Rattle.clap.specs.Walk.{first_of}
use Rattle.clap.specs.Words.{found_of}
use Rattle.clap.proofs.WalkLemmas.{first_value-rows}
use Rattle.elf_cli.proofs.options.Options.text.Goals as goal

pub returns : goal.returns
returns c =
    c.get_str.ensures ∙ first_value-rows (found_of c.self.inside.matches.now) c.args.argument.now ∙ ap (first_of c.args.argument.now) c.self.view_is
