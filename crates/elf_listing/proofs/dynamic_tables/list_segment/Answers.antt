-- The checks of the segment and the pass over its entries come before the tables.
use Rattle.std.proofs.Common.{rules, refl, sym, ap, ◌∙◌, arith}
use Rattle.std.proofs.lemmas.Result.{err_from_is_err_and}
use Rattle.elf_model.proofs.ListingLemmas.{guarded-passes}
use Rattle.elf_model.specs.Prelude.{segment_at, segment_dynamic_checks}
use Rattle.elf_table.specs.Prelude.{HoldsProgramHeaders, TableRange}
use Rattle.elf_table.proofs.OpenLaws.{still_open}
use Rattle.elf_hash.proofs.EntryLaws.{entries_are}
use Rattle.elf_hash.proofs.FoundLaws.{size_within}
use Rattle.elf_note.proofs.HeldLaws.{still_held}
use Rattle.elf_listing.proofs.Amounts.{some_of}
use Rattle.elf_listing.proofs.LocatedShown.{guarded_fails, segment_found}
use Rattle.elf_listing.proofs.RowLaws.{WroteSome-as, WroteUntilStop-unread-first}
use Rattle.elf_listing.proofs.SectionShown.{whole_fails}
use Rattle.elf_listing.proofs.SegmentShown.{views}
use Rattle.elf_listing.proofs.ShowLaws.{SpentCredit-after, SpentCredit-fault}
use Rattle.elf_listing.proofs.ViewedLaws.{still_viewed}
use Rattle.elf_source.proofs.GrowthLaws.{grows_not}
use Rattle.elf_listing.proofs.ListsLaws.{ListingCalls-refused}
use Rattle.elf_listing.proofs.dynamic_tables.list_segment.Goals as goal

pub returns-in_err-table : goal.returns-in_err-table
returns-in_err-table g c =
    let p = err_from_is_err_and c.from_residual.result c.from_residual.ensures.1 in
    rw (p.1, p.2) (ListingCalls-refused _ _ _ _ (search rules) (λ file held.
    let viewed = views file _ _ _ (c.args.listing.now.loaded.belongs file held) c.args.listing.now.viewed held (some_of c.requires) in
    let view : HoldsProgramHeaders file c.view-view.result.loaded c.view-view.result.store.now = rw (c.view-view.ensures.loaded, c.view-view.ensures.store) viewed in
    guarded_fails (segment_dynamic_checks file (segment_at file c.args.segment)) _ _ _ (whole_fails file _ _ (sym (c.in_err-table.ensures.held file view)))))

pub invariant_of-listing : goal.invariant_of-listing
invariant_of-listing g c = record {
  loaded = still_open _ _ c.first_entries.ensures.did.costs.reads c.args.listing.now.loaded;
  viewed = still_viewed _ _ c.first_entries.ensures.did.costs.reads c.args.listing.now.viewed;
  held = still_held _ c.first_entries.ensures.did.costs.reads c.args.listing.now.held;
}

pub returns-in_err-found : goal.returns-in_err-found
returns-in_err-found g c = record {
  grows = grows_not _;
  keeps = record { same_src = refl; same_out = refl; same_file = refl; same_style = refl };
  spent =
      let p = err_from_is_err_and c.from_residual-in_err-found.result c.from_residual-in_err-found.ensures.1 in
      let fits = rw c.view-view.ensures.loaded at (size_within c.in_ok-table.table _ c.in_ok-table.ensures.lies.within) in
      rw (p.1, p.2) (SpentCredit-fault _ _ _ _ _ _ _ (omega (arith, fits)) c.in_err-found.ensures.did.costs.reads c.in_err-found.ensures.did.costs.says);
  shows = λ file held.
      let p = err_from_is_err_and c.from_residual-in_err-found.result c.from_residual-in_err-found.ensures.1 in
      rw (p.1, p.2) (WroteUntilStop-unread-first _ _ _ c.in_err-found.ensures.fault);
}

pub list_tables-requires : goal.list_tables-requires
list_tables-requires g c = record {
  sized = ap (λ l. l.size) c.view-view.ensures.loaded;
  fits = rw c.view-view.ensures.loaded c.args.listing.now.viewed.fits;
  header = rw (c.view-view.ensures.loaded, c.view-view.ensures.store) (record { below = c.requires; small = c.args.listing.now.viewed.fits.small });
  viewed = λ file held.
      let before = sym c.first_entries.ensures.did.costs.reads.keeps.same_file ∙ held in
      rw (c.view-view.ensures.loaded, c.view-view.ensures.store)
      (views file _ _ _ (c.args.listing.now.loaded.belongs file before) c.args.listing.now.viewed before (some_of c.requires));
  tagged = λ file held.
      let before = sym c.first_entries.ensures.did.costs.reads.keeps.same_file ∙ held in
      let viewed = views file _ _ _ (c.args.listing.now.loaded.belongs file before) c.args.listing.now.viewed before (some_of c.requires) in
      let view : HoldsProgramHeaders file c.view-view.result.loaded c.view-view.result.store.now = rw (c.view-view.ensures.loaded, c.view-view.ensures.store) viewed in
      let is = (segment_found file _ _ (sym (c.in_ok-table.ensures.held file view))).1 in
      entries_are file _ c.in_ok-table.table _ (sym (ap (λ (t : TableRange). t.at) is)) (sym (ap (λ (t : TableRange). t.count) is)) (c.in_ok-found.ensures.did.known file before);
}

pub returns : goal.returns
returns g c = record {
  grows = c.list_tables.ensures.grows;
  keeps = record {
    same_src = c.list_tables.ensures.keeps.same_src;
    same_out = c.list_tables.ensures.keeps.same_out;
    same_file = c.list_tables.ensures.keeps.same_file;
    same_style = c.list_tables.ensures.keeps.same_style;
  };
  spent =
      let fits = rw c.view-view.ensures.loaded at (size_within c.in_ok-table.table _ c.in_ok-table.ensures.lies.within) in
      SpentCredit-after _ _ _ _ _ _ _ _ _ _ (omega (arith, fits)) c.in_ok-found.ensures.did.costs.reads c.list_tables.ensures.spent;
  shows = λ file held.
      let viewed = views file _ _ _ (c.args.listing.now.loaded.belongs file held) c.args.listing.now.viewed held (some_of c.requires) in
      let view : HoldsProgramHeaders file c.view-view.result.loaded c.view-view.result.store.now = rw (c.view-view.ensures.loaded, c.view-view.ensures.store) viewed in
      let passed = (segment_found file _ _ (sym (c.in_ok-table.ensures.held file view))).0 in
      WroteSome-as _ _ _ (guarded-passes (segment_dynamic_checks file (segment_at file c.args.segment)) _ passed)
      (c.list_tables.ensures.shows file (c.first_entries.ensures.did.costs.reads.keeps.same_file ∙ held));
}
