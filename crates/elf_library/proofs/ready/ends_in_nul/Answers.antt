-- The last byte of the strings is read.
use Rattle.std.proofs.Common.{◌+◌, ◌<◌, ◌≤◌, length, arith}
use Rattle.std.proofs.lemmas.Result.{err_from_is_err_and}
use Rattle.elf_table.proofs.LedgerLaws.{CallDid-as, CallDid-of, CallDid-sized}
use Rattle.elf_library.proofs.ReadyLaws.{nul_ends}
use Rattle.elf_library.proofs.ready.ends_in_nul.Goals as goal

pub returns-in_err-ends : goal.returns-in_err-ends
returns-in_err-ends g c =
    let p = err_from_is_err_and c.from_residual.result c.from_residual.ensures.1 in
    rw (p.1, p.2) (CallDid-as _ (omega arith) (CallDid-of c.equals.ensures.reads c.in_err-ends.ensures.says c.in_err-ends.ensures.compared) (λ file told costs. tt))

pub returns : goal.returns
returns g c =
    let size = c.size-size.ensures.value in
    let records = c.in-Some.records in
    let lies = rw c.in-Some.is at c.requires in
    let some : 0 < records.table.count = grind (arith, c.is_empty.ensures, c.if-is_empty.false) in
    let bytes : 0 < records.names.size = omega (arith, size, c.if-size-eq0.false) in
    CallDid-as _ (omega arith) (CallDid-sized (CallDid-of c.equals.ensures.reads tt c.in_ok-ends.ensures.compared))
    (λ file told costs so.
    let long = told.0 in
    let within : records.names.at + records.names.size ≤ length file = let fits = lies.names bytes in omega (arith, fits, long) in
    rw c.in-Some.is (nul_ends file records records.head _ some bytes within (rw size at told.1) so))
