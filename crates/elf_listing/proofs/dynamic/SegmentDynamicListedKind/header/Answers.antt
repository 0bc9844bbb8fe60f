-- The checks of the table and the first pass over its entries come before the entries.
use Rattle.elf_options.specs.Permitted.{style_of}
use Rattle.std.proofs.Common.{rules, ◌≡◌, ◌*◌, refl, sym, ap, ◌∙◌, arith}
use Rattle.std.proofs.lemmas.Bool.{eq-eqb, ne_eqb}
use Rattle.std.proofs.lemmas.Result.{err_from_is_err_and}
use Rattle.elf_model.specs.TableKinds.{segment_dynamic}
use Rattle.elf_table.specs.Prelude.{HoldsProgramHeaders, size_of}
use Rattle.elf_table.proofs.OpenLaws.{still_open}
use Rattle.elf_note.proofs.HeldLaws.{still_held}
use Rattle.elf_listing.proofs.Amounts.{some_of}
use Rattle.elf_listing.proofs.RowLaws.{WroteSome-as, WroteUntilStop-unread-first}
use Rattle.elf_listing.proofs.SectionCosts.{segment_within}
use Rattle.elf_listing.proofs.SectionShown.{no_table, segment_passes, table_fails, table_passes, whole_fails}
use Rattle.elf_listing.proofs.SegmentShown.{views}
use Rattle.elf_listing.proofs.ShowLaws.{SpentCredit-after, SpentCredit-fault}
use Rattle.elf_listing.proofs.ViewedLaws.{still_viewed}
use Rattle.elf_source.proofs.GrowthLaws.{grows_not}
use Rattle.elf_listing.proofs.ListsLaws.{ListingCalls-nothing, ListingCalls-refused}
use Rattle.elf_listing.proofs.dynamic.SegmentDynamicListedKind.header.Goals as goal

pub returns-then-segment-ne-PT_DYNAMIC : goal.returns-then-segment-ne-PT_DYNAMIC
unfolding segment_dynamic
returns-then-segment-ne-PT_DYNAMIC g c = ListingCalls-nothing _ _ _ _ (λ file held.
    let viewed = views file _ _ _ (c.args.listing.now.loaded.belongs file held) c.args.listing.now.viewed held (some_of c.requires.below) in
    let is_at = c.segment.ensures.is_at file (rw (c.view-view.ensures.loaded, c.view-view.ensures.store) viewed) in
    no_table segment_dynamic file _ _ _ _ (ne_eqb _ _ (λ same. c.if-segment-ne-PT_DYNAMIC.true (is_at.p_type ∙ same))))

pub returns-in_err-table : goal.returns-in_err-table
unfolding segment_dynamic
returns-in_err-table g c =
    let p = err_from_is_err_and c.from_residual.result c.from_residual.ensures.1 in
    rw (p.1, p.2) (ListingCalls-refused _ _ _ _ (search rules) (λ file held.
    let viewed = views file _ _ _ (c.args.listing.now.loaded.belongs file held) c.args.listing.now.viewed held (some_of c.requires.below) in
    let view : HoldsProgramHeaders file c.view-view.result.loaded c.view-view.result.store.now = rw (c.view-view.ensures.loaded, c.view-view.ensures.store) viewed in
    let is_at = c.segment.ensures.is_at file view in
    let kind = sym is_at.p_type ∙ c.if-segment-ne-PT_DYNAMIC.false in
    table_fails segment_dynamic file _ _ _ (eq-eqb _ _ kind) _ _ (whole_fails file _ _ (sym (c.in_err-table.ensures.held file view)))))

pub invariant_of-listing : goal.invariant_of-listing
invariant_of-listing g c = record {
  loaded = still_open _ _ c.dynamic_strings.ensures.did.costs.reads c.args.listing.now.loaded;
  viewed = still_viewed _ _ c.dynamic_strings.ensures.did.costs.reads c.args.listing.now.viewed;
  held = still_held _ c.dynamic_strings.ensures.did.costs.reads c.args.listing.now.held;
}

pub returns-in_err-told : goal.returns-in_err-told
unfolding segment_dynamic
returns-in_err-told g c = record {
  grows = grows_not _;
  keeps = record { same_src = refl; same_out = refl; same_file = refl; same_style = refl };
  spent =
      let p = err_from_is_err_and c.from_residual-in_err-told.result c.from_residual-in_err-told.ensures.1 in
      let f = c.args.listing.now.file in
      let fields = rw c.view-view.ensures.store at c.segment.ensures.fields in
      let kind = sym fields.p_type ∙ c.if-segment-ne-PT_DYNAMIC.false in
      let value = rw (c.view-view.ensures.store, c.view-view.ensures.loaded) at c.in_ok-table.ensures.value in
      let within = segment_within f.store.now c.args.index f.loaded.size _ c.args.listing.now.style.cap.bytes _ (eq-eqb _ _ kind) value in
      let bytes : size_of c.in_ok-table.table ≡ c.in_ok-table.table.count * 16 = ap (λ n. c.in_ok-table.table.count * n) c.in_ok-table.ensures.lies.entry in
      rw (p.1, p.2) (SpentCredit-fault _ _ _ _ _ _ _ (omega (arith, within, bytes)) c.in_err-told.ensures.did.costs.reads c.in_err-told.ensures.did.costs.says);
  shows = λ file held.
      let p = err_from_is_err_and c.from_residual-in_err-told.result c.from_residual-in_err-told.ensures.1 in
      rw (p.1, p.2) (WroteUntilStop-unread-first _ _ _ c.in_err-told.ensures.fault);
}

pub returns : goal.returns
unfolding segment_dynamic
returns g c = record {
  grows = search rules;
  keeps = record {
    same_src = c.list_rows.ensures.keeps.same_src;
    same_out = c.list_rows.ensures.keeps.same_out;
    same_file = c.list_rows.ensures.keeps.same_file;
    same_style = c.list_rows.ensures.keeps.same_style;
  };
  spent =
      let f = c.args.listing.now.file in
      let fields = rw c.view-view.ensures.store at c.segment.ensures.fields in
      let kind = sym fields.p_type ∙ c.if-segment-ne-PT_DYNAMIC.false in
      let value = rw (c.view-view.ensures.store, c.view-view.ensures.loaded) at c.in_ok-table.ensures.value in
      let within = segment_within f.store.now c.args.index f.loaded.size _ c.args.listing.now.style.cap.bytes _ (eq-eqb _ _ kind) value in
      let bytes : size_of c.in_ok-table.table ≡ c.in_ok-table.table.count * 16 = ap (λ n. c.in_ok-table.table.count * n) c.in_ok-table.ensures.lies.entry in
      SpentCredit-after _ _ _ _ _ _ _ _ _ _ (omega (arith, within, bytes)) c.in_ok-told.ensures.did.costs.reads c.list_rows.ensures.spent;
  shows = λ file held.
      let viewed = views file _ _ _ (c.args.listing.now.loaded.belongs file held) c.args.listing.now.viewed held (some_of c.requires.below) in
      let view : HoldsProgramHeaders file c.view-view.result.loaded c.view-view.result.store.now = rw (c.view-view.ensures.loaded, c.view-view.ensures.store) viewed in
      let kind = sym (c.segment.ensures.is_at file view).p_type ∙ c.if-segment-ne-PT_DYNAMIC.false in
      let found = segment_passes file (style_of c.args.listing.now.style) _ _ _ (sym (c.in_ok-table.ensures.held file view)) (c.in_ok-told.ensures.did.known file held) in
      WroteSome-as _ _ _ (table_passes segment_dynamic file (style_of c.args.listing.now.style) c.args.index _ (eq-eqb _ _ kind) found.0 ∙ found.1)
      (c.list_rows.ensures.shows file (c.dynamic_strings.ensures.did.costs.reads.keeps.same_file ∙ held) (λ some. view));
}
