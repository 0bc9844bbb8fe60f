-- The symbols, then the relocations.
use Rattle.std.proofs.Common.{◌*◌, ℕ, List, arith}
use Rattle.std.proofs.lemmas.Result.{err_from_is_err_and}
use Rattle.elf_model.specs.Prelude.{ListingItem, RELOCS, cost_where, has, segment_at, segment_relocations, table_most, where_asked}
use Rattle.elf_options.specs.Permitted.{style_of}
use Rattle.elf_options.specs.declared.caps.ListingStyle.{ListingStyle}
use Rattle.elf_table.specs.declared.file.SectionView.{SectionView}
use Rattle.elf_listing.proofs.LocatedShown.{lists_as, tables_are, views_kept}
use Rattle.elf_listing.proofs.PartsLaws.{Parts-more, Parts-then}
use Rattle.elf_listing.proofs.dynamic_tables.list_tables.Goals as goal

-- what the relocations read, and their rows
abbrev cost : ℕ → SectionView → ListingStyle → ℕ
cost parts f style = cost_where (has parts RELOCS) 4 * table_most f.loaded.size style.cap.bytes

abbrev rows : (parts segment : ℕ) → SectionView → ListingStyle → List ℕ → List ListingItem
rows parts segment f style file = where_asked parts RELOCS (segment_relocations file (style_of style) segment (segment_at file segment))

pub list_asked_relocations-requires : goal.list_asked_relocations-requires
list_asked_relocations-requires g c = views_kept c.args.entries.now c.in_ok-list_asked_symbols.ensures c.requires

pub returns-in_err-list_asked_symbols : goal.returns-in_err-list_asked_symbols
returns-in_err-list_asked_symbols g c =
    let p = err_from_is_err_and c.from_residual.result c.from_residual.ensures.1 in
    let segment = c.args.entries.now.segment in
    let parts = c.args.parts.0 in
    let more = Parts-more (cost parts c.args.listing.now.file c.args.listing.now.style) _ (rows parts segment c.args.listing.now.file c.args.listing.now.style) c.in_err-list_asked_symbols.ensures in
    rw (p.1, p.2)
    (lists_as (omega arith) (λ file. tables_are file (style_of c.args.listing.now.style) parts segment (segment_at file segment)) more)

pub returns : goal.returns
returns g c =
    let segment = c.args.entries.now.segment in
    let parts = c.args.parts.0 in
    let all = Parts-then _ (cost parts) (rows parts segment) c.in_ok-list_asked_symbols.ensures c.list_asked_relocations.ensures in
    lists_as (omega arith) (λ file. tables_are file (style_of c.args.listing.now.style) parts segment (segment_at file segment)) all
