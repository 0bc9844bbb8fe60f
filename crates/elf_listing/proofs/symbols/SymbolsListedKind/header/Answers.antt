-- The table's checks and its string table's come before its rows.
use Rattle.elf_options.specs.Permitted.{style_of}
use Rattle.std.proofs.Common.{rules, ◌≡◌, ◌==◌, ℕ, Bool, false, true, refl, sym, ap, ◌∙◌, subst}
use Rattle.std.proofs.lemmas.Result.{err_from_is_err_and}
use Rattle.elf_model.specs.Prelude.{each, is_symbol_table, section_at, slice, symbol_row, symbols}
use Rattle.elf_table.specs.Prelude.{StringTableRange, row}
use Rattle.elf_table.proofs.RelocationLaws.{symbols-fail, symbols-pass}
use Rattle.elf_listing.specs.HeadersListed.{ListsHeader}
use Rattle.elf_model.specs.TableKinds.{symbols_kind}
use Rattle.elf_listing.specs.Prelude.{symbols_part}
use Rattle.elf_listing.proofs.NamedKinds.{symbols_checks, symbols_have}
use Rattle.elf_listing.proofs.RowLaws.{WroteSome-as}
use Rattle.elf_listing.proofs.SectionCosts.{section_within}
use Rattle.elf_listing.proofs.SectionShown.{no_table, table_fails, table_passes}
use Rattle.elf_listing.proofs.SuffixCosts.{table_plain}
use Rattle.elf_listing.proofs.ListsLaws.{ListingCalls-nothing, ListingCalls-refused, ListingCalls-within}
use Rattle.elf_listing.proofs.symbols.SymbolsListedKind.header.Goals as goal

pub returns-then-not-holds_symbols : goal.returns-then-not-holds_symbols
returns-then-not-holds_symbols g c = ListingCalls-nothing _ _ _ _ (λ file held.
    let versions = c.args.listing.now.style.versions in
    let is_at = c.section-header.ensures.is_at file (c.args.listing.now.loaded.belongs file held) in
    let kind : is_symbol_table file (section_at file c.args.index) ≡ false = sym (c.holds_symbols.ensures file _ is_at) ∙ c.if-not-holds_symbols.true in
    no_table (symbols_kind versions) file _ _ _ _ (symbols_have versions file _ ∙ kind))

pub returns-in_err-found : goal.returns-in_err-found
returns-in_err-found g c =
    let p = err_from_is_err_and c.from_residual.result c.from_residual.ensures.1 in
    rw (p.1, p.2) (ListingCalls-refused _ _ _ _ (search rules) (λ file held.
    let versions = c.args.listing.now.style.versions in
    let belongs = c.args.listing.now.loaded.belongs file held in
    let at = section_at file c.args.index in
    let kind : is_symbol_table file at ≡ true = sym (c.holds_symbols.ensures file at (c.section-header.ensures.is_at file belongs)) ∙ c.if-not-holds_symbols.false in
    table_fails (symbols_kind versions) file _ _ at (symbols_have versions file at ∙ kind) _ _ (rw (symbols_checks versions) (symbols-fail file at _ (sym (c.in_err-found.ensures.held file belongs))))))

pub list_with_versions-requires : goal.list_with_versions-requires
list_with_versions-requires g c = record {
  kind = sym (c.holds_symbols.ensures _ 0 c.section-header.ensures.fields) ∙ c.if-not-holds_symbols.false;
  typed = λ file belongs. sym (c.holds_symbols.ensures file _ (c.section-header.ensures.is_at file belongs)) ∙ c.if-not-holds_symbols.false;
  dynamic = λ file belongs. ap (λ (type : ℕ). type == 11) (c.section-header.ensures.is_at file belongs).sh_type;
  held = c.in_ok-found.ensures.held;
  table = c.in_ok-found.ensures.table;
  within = c.in_ok-found.ensures.within;
}

pub returns-then-listing : goal.returns-then-listing
returns-then-listing g c =
    subst (λ (v : Bool). ListsHeader (symbols_part v) c.args.listing.now c.list_with_versions.new.listing c.list_with_versions.result c.args.index) (sym c.if-listing.true) c.list_with_versions.ensures

pub returns : goal.returns
unfolding symbols
returns g c =
    let f = c.args.listing.now.file in
    let bytes = row f.store.now c.args.index in
    let kind : is_symbol_table bytes 0 ≡ true = sym (c.holds_symbols.ensures bytes 0 c.section-header.ensures.fields) ∙ c.if-not-holds_symbols.false in
    let plain = ListingCalls-within _ _ _ _ _ _ _ (table_plain _ _ _ _ (section_within symbols f.store.now c.args.index f.loaded.size _ c.args.listing.now.style.cap.bytes 24 _ _ kind refl refl c.in_ok-found.ensures.table)) c.list_rows.ensures (λ file held.
    let belongs = c.args.listing.now.loaded.belongs file held in
    let at = section_at file c.args.index in
    let style = style_of c.args.listing.now.style in
    let kind : is_symbol_table file at ≡ true = sym (c.holds_symbols.ensures file at (c.section-header.ensures.is_at file belongs)) ∙ c.if-not-holds_symbols.false in
    let found = symbols-pass file at _ (sym (c.in_ok-found.ensures.held file belongs)) in
    WroteSome-as _ _ _ (table_passes symbols file style c.args.index at kind found.0 ∙ ap (each (symbol_row file style c.args.index at) 0) (sym found.1.counted))
    (c.list_rows.ensures.shows file held (λ some. (ap (λ (n : StringTableRange). slice file n.at n.size) (found.1.named some), found.1.placed, tt, ap (λ (type : ℕ). type == 11) (c.section-header.ensures.is_at file belongs).sh_type)))) in
    subst (λ (v : Bool). ListsHeader (symbols_part v) c.args.listing.now c.list_rows.new.listing c.list_rows.result c.args.index) (sym c.if-listing.false) plain
