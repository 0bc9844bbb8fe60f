-- A segment has a list, is refused, or the next may have one.
use Rattle.std.proofs.Common.{◌≡◌, ◌+◌, ◌*◌, ◌<◌, refl, arith, add-mul}
use Rattle.std.proofs.lemmas.Result.{err_from_is_err_and}
use Rattle.elf_table.proofs.LedgerLaws.{CallReads-more, CallReads-then, CallDid-as, CallDid-none, CallDid-then}
use Rattle.elf_table.proofs.Absent.{none-of}
use Rattle.elf_loader.proofs.FeatureLaws.{asked_all, asked_next, lists_begin, lists_end, lists_here, lists_next, lists_stop, product_most, product_next}
use Rattle.elf_loader.proofs.trait_notes.property_list.Goals as goal

pub segments-init : goal.segments-init
segments-init g c = record {
  below = omega arith;
  so_far = CallDid-as _ (omega arith) (CallDid-none c.args.src.now) (λ file told costs views. (costs _ (omega arith), lists_begin file));
}

pub returns-in_err-list : goal.returns-in_err-list
returns-in_err-list g c =
    let p = err_from_is_err_and c.from_residual.result c.from_residual.ensures.1 in
    let i = c.segments.invariant in
    let count = c.segments-count.ensures in
    let below : c.segments.segment < c.args.view.now.store.now.segments = omega (arith, count, c.segments-test.true) in
    let room = product_next c.segments.segment c.args.view.now.store.now.segments c.args.src.now.seen.size below in
    let same = i.so_far.costs.reads.keeps.same_size in
    rw (p.1, p.2)
    (record {
      did = CallDid-as _ (omega (arith, room, same)) (CallDid-then i.so_far c.in_err-list.ensures.did)
          (λ file told costs views.
          let before = told.0 views in
          let found = told.1 views in
          let headers = views.belongs.header.e_phnum in
          let next = asked_next file c.segments.segment in
          let all = asked_all file (c.segments.segment + 1) (omega (arith, below, views.count, headers)) in
          record {
            costs = CallReads-then _ (omega (arith, next, all)) before.0 found.costs;
            finds = lists_stop file c.segments.segment (omega (arith, below, views.count, headers)) before.1 _ found.finds;
          });
      within = tt;
    })

pub returns-in-Some : goal.returns-in-Some
returns-in-Some g c =
    let i = c.segments.invariant in
    let count = c.segments-count.ensures in
    let below : c.segments.segment < c.args.view.now.store.now.segments = omega (arith, count, c.segments-test.true) in
    let room = product_next c.segments.segment c.args.view.now.store.now.segments c.args.src.now.seen.size below in
    let same = i.so_far.costs.reads.keeps.same_size in
    let found = rw c.in-Some.is at c.in_ok-list.ensures in
    record {
      did = CallDid-as _ (omega (arith, room, same)) (CallDid-then i.so_far found.did)
          (λ file told costs views.
          let before = told.0 views in
          let finds = told.1 views in
          let headers = views.belongs.header.e_phnum in
          let next = asked_next file c.segments.segment in
          let all = asked_all file (c.segments.segment + 1) (omega (arith, below, views.count, headers)) in
          record {
            costs = CallReads-then _ (omega (arith, next, all)) before.0 finds.costs;
            finds = lists_here file c.segments.segment (omega (arith, below, views.count, headers)) before.1 _ finds.finds;
          });
      within = omega (arith, same, found.within);
    }

pub segments-preserved : goal.segments-preserved
segments-preserved g c =
    let i = c.segments.invariant in
    let count = c.segments-count.ensures in
    let below : c.segments.segment < c.args.view.now.store.now.segments = omega (arith, count, c.segments-test.true) in
    let one : (c.segments.segment + 1) * c.args.src.now.seen.size ≡ c.segments.segment * c.args.src.now.seen.size + 1 * c.args.src.now.seen.size = add-mul c.segments.segment 1 c.args.src.now.seen.size in
    let same = i.so_far.costs.reads.keeps.same_size in
    let none = none-of _ c.in_default.not-Some in
    let found = rw none at c.in_ok-list.ensures in
    record {
      below = omega (arith, below);
      so_far = CallDid-as _ (omega (arith, one, same)) (CallDid-then i.so_far found.did)
          (λ file told costs views.
          let before = told.0 views in
          let finds = told.1 views in
          let headers = views.belongs.header.e_phnum in
          let next = asked_next file c.segments.segment in
          (CallReads-then _ (omega (arith, next)) before.0 finds.costs, lists_next file c.segments.segment (omega (arith, below, views.count, headers)) before.1 _ refl finds.finds));
    }

pub returns : goal.returns
returns g c =
    let i = c.segments.invariant in
    let count = c.segments-count.ensures in
    let most = product_most c.segments.segment c.args.view.now.store.now.segments c.args.src.now.seen.size i.below in
    record {
      did = CallDid-as _ most i.so_far
          (λ file told costs views.
          let before = told views in
          let headers = views.belongs.header.e_phnum in
          let all = asked_all file c.segments.segment (omega (arith, i.below, views.count, headers)) in
          record {
            costs = CallReads-more _ all before.0;
            finds = lists_end file c.segments.segment (omega (arith, count, views.count, headers, c.segments-test.false)) before.1;
          });
      within = tt;
    }
