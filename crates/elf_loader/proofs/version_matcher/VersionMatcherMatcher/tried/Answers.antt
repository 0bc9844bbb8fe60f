-- The matcher decides whether the symbol matches.
use Rattle.std.proofs.Common.{arith}
use Rattle.elf_table.proofs.LedgerLaws.{CallDid-as}
use Rattle.elf_loader.specs.NumberSets.{has_number}
use Rattle.elf_options.specs.Wants.{query_of}
use Rattle.elf_loader.proofs.AnswerLaws.{tries-as}
use Rattle.elf_loader.proofs.version_matcher.VersionMatcherMatcher.tried.Goals as goal

pub returns : goal.returns
returns g c =
    let t = c.args.self.now in
    record {
      did = CallDid-as _ (omega arith) c.answering.ensures
          (λ file read costs says is.
          tries-as file t.symbols.now (query_of t.wanted.now) (has_number t.numbers.now) says c.args.index c.answering.result is (read is.told is.are));
    }
