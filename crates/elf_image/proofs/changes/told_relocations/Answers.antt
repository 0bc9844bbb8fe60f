-- The entries, and what they say.
use Rattle.std.proofs.Common.{arith}
use Rattle.std.proofs.lemmas.Result.{err_from_is_err_and}
use Rattle.elf_table.proofs.LedgerLaws.{CallDid-as}
use Rattle.elf_hash.proofs.FoundLaws.{did_check}
use Rattle.elf_image.specs.Located.{AreRowsAt}
use Rattle.elf_image.specs.Relocated.{SaysRelocations, entries_header}
use Rattle.elf_image.proofs.ToldSteps.{entries_fail, located_result, reads_check}
use Rattle.elf_image.proofs.changes.told_relocations.Goals as goal

pub returns-in_err-found-clause-did : goal.returns-in_err-found-clause-did
returns-in_err-found-clause-did g c =
    let p = err_from_is_err_and c.from_residual.result c.from_residual.ensures.1 in
    rw (p.1, p.2)
    (CallDid-as _ (omega arith) c.in_err-found.ensures.did (λ file told costs views.
    let t = told views in (t.0, entries_fail file (AreRowsAt file) (SaysRelocations file (entries_header file)) _ t.1)))

pub returns-clause-did : goal.returns-clause-did
returns-clause-did g c =
    CallDid-as _ (omega arith) (did_check c.relocations_by.result c.relocations_by.ensures.refusal c.in_ok-found.ensures.did) (λ file told costs views.
    let t = told views in (
      reads_check c.relocations_by.result c.relocations_by.ensures.refusal t.0,
      located_result file (SaysRelocations file (entries_header file)) c.relocations_by.result t.1.0 (c.relocations_by.ensures.told file views t.1.1),
    ))
