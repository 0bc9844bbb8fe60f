-- The largest bucket value, and the end of the chain that begins there.
use Rattle.std.proofs.Common.{ℕ, sym, ap, ◌∙◌, arith}
use Rattle.elf_model.specs.Prelude.{gnu_first, max_bucket, unfound}
use Rattle.elf_table.proofs.LedgerLaws.{CallReads-then, CallDid-as, CallDid-then}
use Rattle.elf_hash.proofs.ExtentLaws.{none_chained, read_of, some_chained}
use Rattle.elf_hash.proofs.extent.gnu_extent.Goals as goal

pub returns-then-start-table-clause-did : goal.returns-then-start-table-clause-did
returns-then-start-table-clause-did g c =
    let fits = c.args.table.now.fits in
    CallDid-as _ (omega (arith, fits)) c.in_ok-start.ensures.did
    (λ file told costs at is.
    let start = told at is ∙ ap (max_bucket file at.place) is.buckets in
    let none = none_chained file at c.in_ok-start.start c.args.before start (omega (arith, c.if-start-table.true, is.first)) in
    record {
      costs = costs _ (omega arith);
      tells =
          c.unfound.ensures.value
          ∙ (ap (λ (n : ℕ). unfound n c.args.before c.args.table.now.place.symbols) is.first
          ∙ (ap (unfound (gnu_first file at.place) c.args.before) is.place.symbols ∙ sym none));
    })

pub returns-clause-did : goal.returns-clause-did
returns-clause-did g c =
    let fits = c.args.table.now.fits in
    CallDid-as _ (omega (arith, fits)) (CallDid-then c.in_ok-start.ensures.did c.chain_end.ensures.did)
    (λ file told costs at is.
    let from = c.from.ensures in
    let start = told.0 at is ∙ ap (max_bucket file at.place) is.buckets in
    let some = some_chained file at c.from.result c.args.before (from ∙ start) (omega (arith, c.if-start-table.false, is.first)) in
    let ends = told.1 at is in
    record {
      costs = CallReads-then _ (omega (arith, some, from)) c.in_ok-start.ensures.did.costs ends.costs;
      tells = read_of c.chain_end.result _ _ (sym some) ends.tells;
    })
