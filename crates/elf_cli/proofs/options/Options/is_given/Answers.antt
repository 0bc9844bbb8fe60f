use Rattle.std.proofs.Common.{◌∙◌, ap}
use Rattle.clap.specs.Words.{found_of}
use Rattle.elf_cli.specs.Options.{is_given}
use Rattle.elf_cli.proofs.OptionLaws.{given}
use Rattle.elf_cli.proofs.options.Options.is_given.Goals as goal

pub returns : goal.returns
returns c =
    c.from_words.ensures ∙ given (found_of c.self.inside.matches.now) c.args.option.now c.value_source.result c.value_source.ensures
    ∙ ap (is_given c.args.option.now) c.self.view_is
