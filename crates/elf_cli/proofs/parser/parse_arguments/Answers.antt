use Rattle.std.proofs.Common.{IfErr, IfOk, List, refl, subst, sym}
use Rattle.clap.specs.Walk.{Text}
use Rattle.clap.specs.Words.{subcommand_rows_of}
use Rattle.elf_cli.specs.Reading.{AreMatched, AreRejected}
use Rattle.elf_cli.proofs.parser.parse_arguments.Goals as goal

pub returns-in-Ok-clause-read : goal.returns-in-Ok-clause-read
returns-in-Ok-clause-read g c =
    subst (λ (words : List Text). IfOk c.read_by.result (λ matches. AreMatched words (subcommand_rows_of matches))) (sym (c.if-is_version.ensures.given refl)) c.read_by.ensures.read

pub returns-in-Ok-clause-refused : goal.returns-in-Ok-clause-refused
returns-in-Ok-clause-refused g c =
    subst (λ (words : List Text). IfErr c.read_by.result (AreRejected words)) (sym (c.if-is_version.ensures.given refl)) c.read_by.ensures.refused
