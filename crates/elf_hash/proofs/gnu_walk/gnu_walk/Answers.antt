-- Nothing is tried if the table excludes the hash, and otherwise the chain is walked.
use Rattle.std.proofs.Common.{◌/◌, None, arith}
use Rattle.elf_table.proofs.LedgerLaws.{CallDid-as}
use Rattle.elf_hash.proofs.GnuSteps.{passed_over}
use Rattle.elf_hash.proofs.WalkLaws.{bytes_most, meets_answer, walks}
use Rattle.elf_hash.proofs.gnu_walk.gnu_walk.Goals as goal

pub returns-in-None : goal.returns-in-None
returns-in-None g c =
    let most = bytes_most 12 0 0 (c.args.table.now.place.size / 4) (c.args.table.now.place.size / 4) (g.T.Matcher.cost c.args.trial.now) (omega arith) (omega arith) in
    record {
      did = CallDid-as _ (omega (arith, most)) (rw c.in-None.is at c.in_ok-start.ensures.did)
          (λ file told costs at says is of.
          walks _ 12 _ _ _ _ costs
          (meets_answer _ 12 _ _ _ 0 0 None (passed_over file at c.args.hash says (told at is)) (omega arith) tt));
    }
