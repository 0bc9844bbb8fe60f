-- The counts of a table of each style are those of the table that a lookup searches.
use Rattle.std.proofs.Common.{ap, arith}
use Rattle.std.proofs.lemmas.Result.{err_from_is_err_and}
use Rattle.elf_table.proofs.LedgerLaws.{CallDid-as}
use Rattle.elf_hash.specs.SearchedTables.{counts_bytes}
use Rattle.elf_hash.proofs.SearchedTableLaws.{gnu_fails, gnu_passes, sysv_fails, sysv_passes}
use Rattle.elf_hash.proofs.chain_walk.counts.Goals as goal

pub returns-in_err-gnu_counts-in-Gnu-clause-did : goal.returns-in_err-gnu_counts-in-Gnu-clause-did
returns-in_err-gnu_counts-in-Gnu-clause-did g c =
    let p = err_from_is_err_and c.from_residual.result c.from_residual.ensures.1 in
    let bytes = ap counts_bytes c.in-Gnu.is in
    rw (p.1, p.2)
    (CallDid-as _ (omega (arith, bytes)) c.in_err-gnu_counts-in-Gnu.ensures.did (λ file counts costs scope is. gnu_fails file scope _ is _ c.in-Gnu.is (counts scope.table)))

pub returns-in_err-sysv_counts-in-Sysv-clause-did : goal.returns-in_err-sysv_counts-in-Sysv-clause-did
returns-in_err-sysv_counts-in-Sysv-clause-did g c =
    let p = err_from_is_err_and c.from_residual-in_err-sysv_counts-in-Sysv.result c.from_residual-in_err-sysv_counts-in-Sysv.ensures.1 in
    let bytes = ap counts_bytes c.in-Sysv.is in
    rw (p.1, p.2)
    (CallDid-as _ (omega (arith, bytes)) c.in_err-sysv_counts-in-Sysv.ensures.did (λ file counts costs scope is. sysv_fails file scope _ is _ c.in-Sysv.is (counts scope.table)))

pub returns-in_ok-gnu_counts-in-Gnu-clause-did : goal.returns-in_ok-gnu_counts-in-Gnu-clause-did
returns-in_ok-gnu_counts-in-Gnu-clause-did g c =
    let bytes = ap counts_bytes c.in-Gnu.is in
    CallDid-as _ (omega (arith, bytes)) c.in_ok-gnu_counts-in-Gnu.ensures.did (λ file counts costs scope is. gnu_passes file scope _ is _ c.in-Gnu.is (counts scope.table))

pub returns-in_ok-sysv_counts-in-Sysv-clause-did : goal.returns-in_ok-sysv_counts-in-Sysv-clause-did
returns-in_ok-sysv_counts-in-Sysv-clause-did g c =
    let bytes = ap counts_bytes c.in-Sysv.is in
    CallDid-as _ (omega (arith, bytes)) c.in_ok-sysv_counts-in-Sysv.ensures.did (λ file counts costs scope is. sysv_passes file scope _ is _ c.in-Sysv.is (counts scope.table))
