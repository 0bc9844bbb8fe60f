use Rattle.std.proofs.Common.{ℕ, Option, subst, ◌≡◌, ◌∙◌, ap}
use Rattle.std.specs.Str.Parse.{ParsesUnsigned, ExplainsUnsignedError, HasUnsignedDigitsIfOk}
use Rattle.clap.specs.Walk.{one_of}
use Rattle.clap.specs.Words.{found_of}
use Rattle.clap.proofs.WalkLemmas.{one_text-rows}
use Rattle.elf_cli.specs.Options.{HasNumber}
use Rattle.elf_cli.proofs.OptionLaws.{number_read}
use Rattle.elf_cli.proofs.options.Options.number.Goals as goal

pub returns : goal.returns
returns c =
    subst (λ o. (value : Option ℕ) → HasNumber o value → c.get_one.result ≡ value)
    (one_text-rows (found_of c.self.inside.matches.now) c.args.option.now ∙ ap (one_of c.args.option.now) c.self.view_is)
    (number_read _ (λ bs r. ParsesUnsigned 64 10 bs r × ExplainsUnsignedError 10 bs r × HasUnsignedDigitsIfOk bs r) (λ u x g. g.0) _ c.get_one.result c.get_one.ensures.none c.get_one.ensures.value)
