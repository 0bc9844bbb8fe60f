-- No two LOAD segments overlap, and then the result by the entries.
use Rattle.std.proofs.Common.{arith}
use Rattle.std.proofs.lemmas.Result.{err_from_is_err_and}
use Rattle.elf_table.proofs.LedgerLaws.{CallDid-as, CallDid-none, CallDid-stop}
use Rattle.elf_hash.proofs.FoundLaws.{apart_finds, overlap_refused}
use Rattle.elf_hash.proofs.by_segments.find_in_segments.Goals as goal

pub returns-in_err-check_overlaps : goal.returns-in_err-check_overlaps
returns-in_err-check_overlaps g c =
    let p = err_from_is_err_and c.from_residual.result c.from_residual.ensures.1 in
    record {
      did =
          rw (p.1, p.2)
          (CallDid-as _ (omega arith) (CallDid-stop _ c.in_err-check_overlaps.ensures.refusal (CallDid-none c.args.src.now))
          (λ file told costs views. (costs _ (omega arith), overlap_refused file _ (c.in_err-check_overlaps.ensures.held file views))));
      within = rw p.1 tt;
    }

pub returns : goal.returns
returns g c = record {
  did =
      CallDid-as _ (omega arith) c.in_segments.ensures.did
      (λ file told costs views.
      let found = told views in (found.0, apart_finds file (c.in_ok-check_overlaps.ensures.held file views) _ found.1));
  within = c.in_segments.ensures.within;
}
