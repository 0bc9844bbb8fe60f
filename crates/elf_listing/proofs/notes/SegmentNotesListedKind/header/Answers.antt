-- The check of the segment's range comes before its notes.
use Rattle.elf_options.specs.Permitted.{style_of}
use Rattle.std.proofs.Common.{rules, ◌≡◌, refl, sym, ap, ◌∙◌, arith}
use Rattle.std.proofs.lemmas.Bool.{eq-eqb, ne_eqb}
use Rattle.std.proofs.lemmas.Result.{err_from_is_err_and}
use Rattle.elf_model.specs.Prelude.{note_align, p_align, p_filesz, segment_at, segment_notes, slice, walk_rows, walked}
use Rattle.elf_table.specs.Prelude.{TableRange}
use Rattle.elf_listing.proofs.Amounts.{some_of}
use Rattle.elf_listing.specs.Parts.{store_segments}
use Rattle.elf_listing.proofs.RowLaws.{WroteSome-as}
use Rattle.elf_listing.proofs.SectionCosts.{range_within}
use Rattle.elf_listing.proofs.SectionShown.{empty_fails, no_table, range_of_file, range_passes, table_fails, table_passes}
use Rattle.elf_listing.proofs.SegmentShown.{views}
use Rattle.elf_listing.proofs.ListsLaws.{ListingCalls-nothing, ListingCalls-refused, ListingCalls-within}
use Rattle.elf_listing.proofs.notes.SegmentNotesListedKind.header.Goals as goal

pub returns-then-header-ne-PT_NOTE : goal.returns-then-header-ne-PT_NOTE
unfolding segment_notes
returns-then-header-ne-PT_NOTE g c = ListingCalls-nothing _ _ _ _ (λ file held.
    let viewed = views file _ _ _ (c.args.listing.now.loaded.belongs file held) c.args.listing.now.viewed held (some_of c.requires.below) in
    let is_at = c.segment-header.ensures.is_at file (rw (c.view.ensures.loaded, c.view.ensures.store) viewed) in
    no_table segment_notes file _ _ _ _ (ne_eqb _ _ (λ same. c.if-header-ne-PT_NOTE.true (is_at.p_type ∙ same))))

pub returns-in_err-table : goal.returns-in_err-table
unfolding segment_notes
returns-in_err-table g c =
    let p = err_from_is_err_and c.from_residual.result c.from_residual.ensures.1 in
    rw (p.1, p.2) (ListingCalls-refused _ _ _ _ (search rules) (λ file held.
    let belongs = c.args.listing.now.loaded.belongs file held in
    let viewed = views file _ _ _ belongs c.args.listing.now.viewed held (some_of c.requires.below) in
    let is_at = c.segment-header.ensures.is_at file (rw (c.view.ensures.loaded, c.view.ensures.store) viewed) in
    let at = segment_at file c.args.index in
    let kind = sym is_at.p_type ∙ c.if-header-ne-PT_NOTE.false in
    let told = rw c.view-2.ensures.loaded at c.place-place.ensures.value in
    let place : c.place-place.result ≡ at = omega (arith, told, belongs.header.e_phoff) in
    let value = range_of_file belongs.size is_at.p_offset is_at.p_filesz place c.in_err-table.ensures.value in
    table_fails segment_notes file _ _ at (eq-eqb _ _ kind) _ _ (empty_fails (p_filesz file at) _ _ _ _ value)))

pub returns : goal.returns
unfolding segment_notes
returns g c =
    let f = c.args.listing.now.file in
    let cap = c.args.listing.now.style.cap.bytes in
    let style = style_of c.args.listing.now.style in
    let fields = rw c.view.ensures.store at c.segment-header.ensures.fields in
    let kind = sym fields.p_type ∙ c.if-header-ne-PT_NOTE.false in
    let value = rw (fields.p_offset, fields.p_filesz) at c.in_ok-table.ensures.value in
    ListingCalls-within _ _ _ _ _ _ _ (range_within segment_notes (store_segments f.store.now) c.args.index f.loaded.size _ _ _ cap (λ n. n) _ (eq-eqb _ _ kind) refl refl (omega arith) value) c.notes.ensures (λ file held.
    let belongs = c.args.listing.now.loaded.belongs file held in
    let viewed = views file _ _ _ belongs c.args.listing.now.viewed held (some_of c.requires.below) in
    let is_at = c.segment-header.ensures.is_at file (rw (c.view.ensures.loaded, c.view.ensures.store) viewed) in
    let at = segment_at file c.args.index in
    let kind = sym is_at.p_type ∙ c.if-header-ne-PT_NOTE.false in
    let told = rw c.view-2.ensures.loaded at c.place-place.ensures.value in
    let place : c.place-place.result ≡ at = omega (arith, told, belongs.header.e_phoff) in
    let value = range_of_file belongs.size is_at.p_offset is_at.p_filesz place c.in_ok-table.ensures.value in
    let found = range_passes file _ (p_filesz file at) at _ value in
    WroteSome-as _ _ _ (table_passes segment_notes file style c.args.index at (eq-eqb _ _ kind) found.0
    ∙ ap (λ (t : TableRange). walk_rows style c.args.index (note_align (p_align file at)) t.at (walked (note_align (p_align file at)) (slice file t.at t.count))) found.1)
    (rw is_at.p_align at (c.notes.ensures.shows file held)))
