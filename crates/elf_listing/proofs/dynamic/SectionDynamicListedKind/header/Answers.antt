-- The table's checks and its string table's come before its entries.
use Rattle.elf_options.specs.Permitted.{style_of}
use Rattle.std.proofs.Common.{rules, ◌≡◌, ◌==◌, false, refl, sym, ◌∙◌}
use Rattle.std.proofs.lemmas.Bool.{eq-eqb, ne_eqb}
use Rattle.std.proofs.lemmas.Result.{err_from_is_err_and}
use Rattle.elf_model.specs.Prelude.{section_at, section_dynamic, sh_size}
use Rattle.elf_listing.proofs.RowLaws.{WroteSome-as}
use Rattle.elf_listing.proofs.SectionCosts.{section_within}
use Rattle.elf_listing.proofs.SectionShown.{dynamic_fails, dynamic_passes, empty_dynamic, no_table, strings_fail, table_fails, table_passes}
use Rattle.elf_listing.proofs.ListsLaws.{ListingCalls-nothing, ListingCalls-refused, ListingCalls-within}
use Rattle.elf_listing.proofs.dynamic.SectionDynamicListedKind.header.Goals as goal

pub returns-then-header-ne-SHT_DYNAMIC : goal.returns-then-header-ne-SHT_DYNAMIC
unfolding section_dynamic
returns-then-header-ne-SHT_DYNAMIC g c = ListingCalls-nothing _ _ _ _ (λ file held.
    let is_at = c.section-header.ensures.is_at file (c.args.listing.now.loaded.belongs file held) in
    no_table section_dynamic file _ _ _ _ (ne_eqb _ _ (λ same. c.if-header-ne-SHT_DYNAMIC.true (is_at.sh_type ∙ same))))

pub returns-then-header-eq0 : goal.returns-then-header-eq0
unfolding section_dynamic
returns-then-header-eq0 g c = ListingCalls-nothing _ _ _ _ (λ file held.
    let is_at = c.section-header.ensures.is_at file (c.args.listing.now.loaded.belongs file held) in
    let kind = sym is_at.sh_type ∙ c.if-header-ne-SHT_DYNAMIC.false in
    empty_dynamic file _ _ _ (section_at file c.args.index) (eq-eqb _ _ kind) (sym is_at.sh_size ∙ c.if-header-eq0.true))

pub returns-in_err-table : goal.returns-in_err-table
unfolding section_dynamic
returns-in_err-table g c =
    let p = err_from_is_err_and c.from_residual.result c.from_residual.ensures.1 in
    rw (p.1, p.2) (ListingCalls-refused _ _ _ _ (search rules) (λ file held.
    let belongs = c.args.listing.now.loaded.belongs file held in
    let kind = sym (c.section-header.ensures.is_at file belongs).sh_type ∙ c.if-header-ne-SHT_DYNAMIC.false in
    table_fails section_dynamic file _ _ _ (eq-eqb _ _ kind) _ _ (dynamic_fails file _ _ (sym (c.in_err-table.ensures.held file belongs)))))

pub returns-in_err-names : goal.returns-in_err-names
unfolding section_dynamic
returns-in_err-names g c =
    let p = err_from_is_err_and c.from_residual-in_err-names.result c.from_residual-in_err-names.ensures.1 in
    rw (p.1, p.2) (ListingCalls-refused _ _ _ _ (search rules) (λ file held.
    let belongs = c.args.listing.now.loaded.belongs file held in
    let is_at = c.section-header.ensures.is_at file belongs in
    let kind = sym is_at.sh_type ∙ c.if-header-ne-SHT_DYNAMIC.false in
    let some : (sh_size file (section_at file c.args.index) == 0) ≡ false = ne_eqb _ 0 (λ e. c.if-header-eq0.false (is_at.sh_size ∙ e)) in
    table_fails section_dynamic file _ _ _ (eq-eqb _ _ kind) _ _
    (strings_fail file _ some _ (sym (c.in_ok-table.ensures.held file belongs)) _ (sym (c.in_err-names.ensures.held file belongs)))))

pub returns : goal.returns
unfolding section_dynamic
returns g c =
    let f = c.args.listing.now.file in
    let cap = c.args.listing.now.style.cap.bytes in
    let style = style_of c.args.listing.now.style in
    let kind = sym c.section-header.ensures.fields.sh_type ∙ c.if-header-ne-SHT_DYNAMIC.false in
    ListingCalls-within _ _ _ _ _ _ _ (section_within section_dynamic f.store.now c.args.index f.loaded.size _ cap 16 _ _ (eq-eqb _ _ kind) refl refl c.in_ok-table.ensures.value) c.list_rows.ensures (λ file held.
    let belongs = c.args.listing.now.loaded.belongs file held in
    let is_at = c.section-header.ensures.is_at file belongs in
    let at = section_at file c.args.index in
    let kind = sym is_at.sh_type ∙ c.if-header-ne-SHT_DYNAMIC.false in
    let some : (sh_size file at == 0) ≡ false = ne_eqb _ 0 (λ e. c.if-header-eq0.false (is_at.sh_size ∙ e)) in
    let found = dynamic_passes file at some _ (sym (c.in_ok-table.ensures.held file belongs)) _ (sym (c.in_ok-names.ensures.held file belongs)) in
    WroteSome-as _ _ _ (table_passes section_dynamic file style c.args.index at (eq-eqb _ _ kind) found.0 ∙ found.1 style)
    (c.list_rows.ensures.shows file held (λ some. tt)))
