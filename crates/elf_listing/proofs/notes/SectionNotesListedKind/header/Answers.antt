-- The check of the section's range comes before its notes.
use Rattle.elf_options.specs.Permitted.{style_of}
use Rattle.std.proofs.Common.{rules, refl, sym, ap, ◌∙◌, arith}
use Rattle.std.proofs.lemmas.Bool.{eq-eqb, ne_eqb}
use Rattle.std.proofs.lemmas.Result.{err_from_is_err_and}
use Rattle.elf_model.specs.Prelude.{note_align, section_at, section_notes, sh_addralign, sh_size, slice, walk_rows, walked}
use Rattle.elf_table.specs.Prelude.{TableRange}
use Rattle.elf_listing.specs.Parts.{store_sections}
use Rattle.elf_listing.proofs.RowLaws.{WroteSome-as}
use Rattle.elf_listing.proofs.SectionCosts.{range_within}
use Rattle.elf_listing.proofs.SectionShown.{empty_fails, no_table, range_of_file, range_passes, section_placed, table_fails, table_passes}
use Rattle.elf_listing.proofs.ListsLaws.{ListingCalls-nothing, ListingCalls-refused, ListingCalls-within}
use Rattle.elf_listing.proofs.notes.SectionNotesListedKind.header.Goals as goal

pub returns-then-header-ne-SHT_NOTE : goal.returns-then-header-ne-SHT_NOTE
unfolding section_notes
returns-then-header-ne-SHT_NOTE g c = ListingCalls-nothing _ _ _ _ (λ file held.
    let is_at = c.section-header.ensures.is_at file (c.args.listing.now.loaded.belongs file held) in
    no_table section_notes file _ _ _ _ (ne_eqb _ _ (λ same. c.if-header-ne-SHT_NOTE.true (is_at.sh_type ∙ same))))

pub returns-in_err-table : goal.returns-in_err-table
unfolding section_notes
returns-in_err-table g c =
    let p = err_from_is_err_and c.from_residual.result c.from_residual.ensures.1 in
    rw (p.1, p.2) (ListingCalls-refused _ _ _ _ (search rules) (λ file held.
    let belongs = c.args.listing.now.loaded.belongs file held in
    let is_at = c.section-header.ensures.is_at file belongs in
    let at = section_at file c.args.index in
    let kind = sym is_at.sh_type ∙ c.if-header-ne-SHT_NOTE.false in
    let place = section_placed file c.args.index c.place-at.ensures.value belongs.header.e_shoff in
    let value = range_of_file belongs.size is_at.sh_offset is_at.sh_size place c.in_err-table.ensures.value in
    table_fails section_notes file _ _ at (eq-eqb _ _ kind) _ _ (empty_fails (sh_size file at) _ _ _ _ value)))

pub returns : goal.returns
unfolding section_notes
returns g c =
    let f = c.args.listing.now.file in
    let cap = c.args.listing.now.style.cap.bytes in
    let style = style_of c.args.listing.now.style in
    let fields = c.section-header.ensures.fields in
    let kind = sym fields.sh_type ∙ c.if-header-ne-SHT_NOTE.false in
    let value = rw (fields.sh_offset, fields.sh_size) at c.in_ok-table.ensures.value in
    ListingCalls-within _ _ _ _ _ _ _ (range_within section_notes (store_sections f.store.now) c.args.index f.loaded.size _ _ _ cap (λ n. n) _ (eq-eqb _ _ kind) refl refl (omega arith) value) c.notes.ensures (λ file held.
    let belongs = c.args.listing.now.loaded.belongs file held in
    let is_at = c.section-header.ensures.is_at file belongs in
    let at = section_at file c.args.index in
    let kind = sym is_at.sh_type ∙ c.if-header-ne-SHT_NOTE.false in
    let place = section_placed file c.args.index c.place-at.ensures.value belongs.header.e_shoff in
    let value = range_of_file belongs.size is_at.sh_offset is_at.sh_size place c.in_ok-table.ensures.value in
    let found = range_passes file _ (sh_size file at) at _ value in
    WroteSome-as _ _ _ (table_passes section_notes file style c.args.index at (eq-eqb _ _ kind) found.0
    ∙ ap (λ (t : TableRange). walk_rows style c.args.index (note_align (sh_addralign file at)) t.at (walked (note_align (sh_addralign file at)) (slice file t.at t.count))) found.1)
    (rw is_at.sh_addralign at (c.notes.ensures.shows file held)))
