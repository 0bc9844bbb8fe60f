-- The header does not fit, a word of it is read, the data does not fit; or all is there.
use Rattle.std.proofs.Common.{arith}
use Rattle.std.proofs.lemmas.Result.{err_from_is_err_and}
use Rattle.elf_table.proofs.LedgerLaws.{CallDid-as, CallDid-none, CallDid-sized, CallDid-stop, CallDid-then}
use Rattle.elf_loader.proofs.PropertyLaws.{one_stands, too_few, too_long}
use Rattle.elf_loader.proofs.HeadLaws.{refused_at, word_stops}
use Rattle.elf_loader.proofs.property.read_head.Goals as goal

pub returns-then-left-lt-HEAD_BYTES-clause-did : goal.returns-then-left-lt-HEAD_BYTES-clause-did
returns-then-left-lt-HEAD_BYTES-clause-did g c =
    rw c.refused.ensures
    (CallDid-as _ (omega arith) (CallDid-stop _ (λ budget. cc) (CallDid-sized (CallDid-none c.args.src.now)))
    (λ file told costs. refused_at file c.args.at c.args.left (too_few file c.args.at c.args.left (omega (arith, told.0, c.requires.within)) c.requires.some c.if-left-lt-HEAD_BYTES.true)))

pub returns-in_err-kind-clause-did : goal.returns-in_err-kind-clause-did
returns-in_err-kind-clause-did g c =
    let p = err_from_is_err_and c.from_residual.result c.from_residual.ensures.1 in
    rw (p.1, p.2) (CallDid-as _ (omega arith) c.in_err-kind.ensures (λ file told costs. word_stops file c.args.at c.args.left _ told))

pub returns-in_err-datasz-clause-did : goal.returns-in_err-datasz-clause-did
returns-in_err-datasz-clause-did g c =
    let p = err_from_is_err_and c.from_residual-in_err-datasz.result c.from_residual-in_err-datasz.ensures.1 in
    rw (p.1, p.2) (CallDid-as _ (omega arith) (CallDid-then c.in_ok-kind.ensures c.in_err-datasz.ensures) (λ file told costs. word_stops file c.args.at c.args.left _ told.1))

pub returns-then-room-data-clause-did : goal.returns-then-room-data-clause-did
returns-then-room-data-clause-did g c =
    rw c.refused-then-room-data.ensures
    (CallDid-as _ (omega arith) (CallDid-stop _ (λ budget. cc) (CallDid-sized (CallDid-then c.in_ok-kind.ensures c.in_ok-datasz.ensures)))
    (λ file told costs.
    refused_at file c.args.at c.args.left
    (too_long file c.args.at c.args.left (omega (arith, told.0, c.requires.within)) c.in_ok-datasz.datasz (omega arith) told.1.1 (omega arith))))

pub returns-clause-did : goal.returns-clause-did
returns-clause-did g c =
    CallDid-as _ (omega arith) (CallDid-sized (CallDid-then c.in_ok-kind.ensures c.in_ok-datasz.ensures))
    (λ file told costs.
    one_stands file c.args.at c.args.left (omega (arith, told.0, c.requires.within)) _ told.1.0 told.1.1 (omega arith))
