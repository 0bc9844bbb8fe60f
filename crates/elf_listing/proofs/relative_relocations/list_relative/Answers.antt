-- The table's checks come before its rows.
use Rattle.std.proofs.Common.{sym, ap, ◌∙◌, refl, arith}
use Rattle.std.proofs.lemmas.Bool.{eq-eqb, ne_eqb}
use Rattle.std.proofs.lemmas.Result.{err_from_is_err_and}
use Rattle.elf_options.specs.Permitted.{style_of}
use Rattle.elf_model.specs.Prelude.{each, relative_relocations, relr_rows, section_at, sh_size, table_checks}
use Rattle.elf_listing.proofs.ListsLaws.{ListingCalls-nothing, ListingCalls-refused, ListingCalls-within}
use Rattle.elf_listing.proofs.RelativeShown.{relr_table_is, section_words}
use Rattle.elf_listing.proofs.RowLaws.{WroteSome-as}
use Rattle.elf_listing.proofs.SectionCosts.{section_within}
use Rattle.elf_listing.proofs.SectionShown.{empty_fails, no_table, table_fails, table_passes}
use Rattle.elf_listing.proofs.relative_relocations.list_relative.Goals as goal

pub returns-then-section-ne-SHT_RELR : goal.returns-then-section-ne-SHT_RELR
unfolding relative_relocations
returns-then-section-ne-SHT_RELR g c = ListingCalls-nothing _ _ _ _ (λ file held.
    let is_at = c.section.ensures.is_at file (c.args.listing.now.loaded.belongs file held) in
    no_table relative_relocations file _ _ _ _ (ne_eqb _ _ (λ same. c.if-section-ne-SHT_RELR.true (is_at.sh_type ∙ same))))

pub returns-in_err-table : goal.returns-in_err-table
unfolding relative_relocations
returns-in_err-table g c =
    let p = err_from_is_err_and c.from_residual.result c.from_residual.ensures.1 in
    rw (p.1, p.2) (ListingCalls-refused _ _ _ _ c.in_err-table.ensures.lies (λ file held.
    let belongs = c.args.listing.now.loaded.belongs file held in
    let at = section_at file c.args.index in
    let kind = sym (c.section.ensures.is_at file belongs).sh_type ∙ c.if-section-ne-SHT_RELR.false in
    table_fails relative_relocations file _ _ at (eq-eqb _ _ kind) _ _ (empty_fails (sh_size file at) _ _ (table_checks file at 8) _ (sym (c.in_err-table.ensures.held file belongs)))))

pub list_words-requires : goal.list_words-requires
list_words-requires g c = record {
  entry = c.in_ok-table.ensures.lies.entry;
  rows = rw c.args.listing.now.loaded.size at c.in_ok-table.ensures.lies.within;
  names = tt;
  fits = λ index below. tt;
}

pub returns : goal.returns
unfolding relative_relocations
returns g c =
    let f = c.args.listing.now.file in
    let cap = c.args.listing.now.style.cap.bytes in
    let style = style_of c.args.listing.now.style in
    let kind = sym c.section.ensures.fields.sh_type ∙ c.if-section-ne-SHT_RELR.false in
    let cost = section_within relative_relocations f.store.now c.args.index f.loaded.size _ cap 8 8 _ (eq-eqb _ _ kind) refl refl c.in_ok-table.ensures.value in
    ListingCalls-within _ _ _ _ _ _ _ (omega (arith, cost)) c.list_words.ensures (λ file held.
    let belongs = c.args.listing.now.loaded.belongs file held in
    let at = section_at file c.args.index in
    let kind = sym (c.section.ensures.is_at file belongs).sh_type ∙ c.if-section-ne-SHT_RELR.false in
    let is = relr_table_is file at _ (sym (c.in_ok-table.ensures.held file belongs)) in
    WroteSome-as _ _ _ (table_passes relative_relocations file style c.args.index at (eq-eqb _ _ kind) is.0 ∙ (ap (each (relr_rows file style c.args.index at) 0) (sym is.1.0)
    ∙ section_words file style c.args.index at _ _ is.1.1))
    (c.list_words.ensures.shows file held (λ some. tt)))
