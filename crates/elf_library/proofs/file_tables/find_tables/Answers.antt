-- The lookup tables, then the tables of versions.
use Rattle.std.proofs.Common.{ap, ◌∙◌, arith}
use Rattle.elf_model.specs.LoaderScope.{lookup_tables_of}
use Rattle.std.proofs.lemmas.Result.{err_from_is_err_and}
use Rattle.elf_table.proofs.LedgerLaws.{CallDid-as, CallDid-then, CallReads-more, CallReads-then}
use Rattle.elf_library.proofs.KeptLaws.{did_anyway}
use Rattle.elf_library.proofs.VersionTableLaws.{never_stops}
use Rattle.elf_library.proofs.file_tables.find_tables.Goals as goal

pub returns-in_err-scope-clause-finds : goal.returns-in_err-scope-clause-finds
returns-in_err-scope-clause-finds g c =
    let p = err_from_is_err_and c.from_residual.result c.from_residual.ensures.1 in
    rw (p.1, p.2)
    (record { did = CallDid-as _ (omega arith) c.in_err-scope.ensures.did (λ file told costs. record { costs = CallReads-more _ (omega arith) told.costs; finds = told.finds; versions = λ bare. tt }) })

pub returns-in-Ok-clause-finds : goal.returns-in-Ok-clause-finds
returns-in-Ok-clause-finds g c =
    let first = c.in_ok-scope.ensures.did in
    let same = first.costs.reads.keeps.same_size in
    let second = c.in-Ok.ensures.did in
    record {
      did = CallDid-as _ (omega (arith, same, c.in_ok-scope.ensures.slots)) (CallDid-then first second)
          (λ file told costs. record { costs = CallReads-then _ (omega (arith, same, c.in_ok-scope.ensures.slots)) told.0.costs second.costs; finds = told.0.finds; versions = λ bare. told.1 bare });
    }

pub returns-in-Err-2-clause-finds : goal.returns-in-Err-2-clause-finds
returns-in-Err-2-clause-finds g c =
    let first = c.in_ok-scope.ensures.did in
    let same = first.costs.reads.keeps.same_size in
    let second = did_anyway c.in-Err.ensures.did in
    record {
      did = CallDid-as _ (omega (arith, same, c.in_ok-scope.ensures.slots)) (CallDid-then first second)
          (λ file told costs. record {
            costs = CallReads-then _ (omega (arith, same, c.in_ok-scope.ensures.slots)) told.0.costs second.costs;
            finds = told.0.finds;
            versions = λ bare. absurd
                (never_stops file c.find_lookup_tables.new.store.slots told.0.finds.0 (ap (lookup_tables_of file) c.in_ok-scope.ensures.slots ∙ told.0.finds.1) bare c.in-Err.fault
                (rw c.if-is_reported_alone.false at c.is_reported_alone.ensures) (told.1 bare));
          });
    }
