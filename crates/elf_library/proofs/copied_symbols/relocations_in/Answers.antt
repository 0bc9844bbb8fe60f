-- The first segment of dynamic entries, and the range that these give.
use Rattle.std.proofs.Common.{arith}
use Rattle.std.proofs.lemmas.Result.{err_from_is_err_and}
use Rattle.elf_table.proofs.LedgerLaws.{CallDid-none, CallDid-stop, CallReads-more, CallReads-none}
use Rattle.elf_hash.proofs.FoundLaws.{size_within}
use Rattle.elf_library.proofs.CopiedLaws.{checked_after}
use Rattle.elf_library.proofs.copied_symbols.relocations_in.Goals as goal

pub returns-in_default : goal.returns-in_default
returns-in_default g c = CallReads-more _ (omega arith) (CallReads-none c.args.src.now)

pub returns-in_err-table : goal.returns-in_err-table
returns-in_err-table g c =
    let p = err_from_is_err_and c.from_residual.result c.from_residual.ensures.1 in
    rw (p.1, p.2)
    (CallReads-more _ (omega arith) (CallDid-stop _ c.in_err-table.ensures.lies (CallDid-none c.args.src.now)).costs)

pub returns-in_err-found : goal.returns-in_err-found
returns-in_err-found g c =
    let p = err_from_is_err_and c.from_residual-in_err-found.result c.from_residual-in_err-found.ensures.1 in
    let fits = size_within _ _ c.in_ok-table.ensures.lies.within in
    rw (p.1, p.2)
    (CallReads-more _ (omega (arith, fits, c.requires)) c.in_err-found.ensures.did.costs)

pub returns : goal.returns
returns g c =
    let fits = size_within _ _ c.in_ok-table.ensures.lies.within in
    checked_after _ (omega (arith, fits, c.requires)) c.mapped_relocations.result c.mapped_relocations.ensures.refusal c.in_ok-found.ensures.did.costs
