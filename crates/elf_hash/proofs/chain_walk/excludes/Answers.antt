-- If the chain of the name has no first symbol, the walk tries none.
use Rattle.elf_table.proofs.LedgerLaws.{CallDid-as}
use Rattle.elf_hash.proofs.GnuSteps.{passed_over}
use Rattle.std.proofs.Common.{arith}
use Rattle.elf_hash.proofs.chain_walk.excludes.Goals as goal

pub returns-in-None : goal.returns-in-None
returns-in-None g c =
    CallDid-as _ (omega arith) (rw c.in-None.is at c.in_ok-start-in-Gnu.ensures.did)
    (λ file starts costs scope is says.
    let table = rw c.in-Gnu.is at is in
    rw table.0 (passed_over file scope.table _ says (rw c.gnu_hash.ensures at starts scope.table table.1)))
