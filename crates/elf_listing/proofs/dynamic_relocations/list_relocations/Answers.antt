-- The tables in their order.
use Rattle.std.proofs.Common.{◌*◌, ℕ, List, arith}
use Rattle.std.proofs.lemmas.Result.{err_from_is_err_and}
use Rattle.elf_model.specs.Prelude.{ListingItem, relocation_table_rows, segment_at, table_most}
use Rattle.elf_model.specs.declared.relocation_tables.RelocationTable.{RelocationTable}
use Rattle.elf_model.specs.declared.relocation_tables.RelocationTable.TheVariants.{Jmprel, Rel, Rela}
use Rattle.elf_options.specs.Permitted.{style_of}
use Rattle.elf_options.specs.declared.caps.ListingStyle.{ListingStyle}
use Rattle.elf_table.specs.declared.file.SectionView.{SectionView}
use Rattle.elf_listing.proofs.LocatedShown.{four_are, lists_as, views_kept}
use Rattle.elf_listing.proofs.PartsLaws.{Parts-more, Parts-then}
use Rattle.elf_listing.proofs.dynamic_relocations.list_relocations.Goals as goal

-- what a table reads, and its rows
abbrev cost : SectionView → ListingStyle → ℕ
cost f style = 1 * table_most f.loaded.size style.cap.bytes

abbrev rows : ℕ → RelocationTable → SectionView → ListingStyle → List ℕ → List ListingItem
rows segment table f style file = relocation_table_rows file (style_of style) segment (segment_at file segment) table

pub list_table-requires-2 : goal.list_table-requires-2
list_table-requires-2 g c = views_kept c.args.entries.now c.in_ok-list_table.ensures c.requires

pub list_table-requires-3 : goal.list_table-requires-3
list_table-requires-3 g c = views_kept c.args.entries.now c.in_ok-list_table-2.ensures (views_kept c.args.entries.now c.in_ok-list_table.ensures c.requires)

pub list_table-requires-4 : goal.list_table-requires-4
list_table-requires-4 g c =
    views_kept c.args.entries.now c.in_ok-list_table-3.ensures
    (views_kept c.args.entries.now c.in_ok-list_table-2.ensures (views_kept c.args.entries.now c.in_ok-list_table.ensures c.requires))

pub returns-in_err-list_table : goal.returns-in_err-list_table
returns-in_err-list_table g c =
    let p = err_from_is_err_and c.from_residual.result c.from_residual.ensures.1 in
    let segment = c.args.entries.now.segment in
    let more2 = Parts-more (cost c.args.listing.now.file c.args.listing.now.style) _ (rows segment Rel c.args.listing.now.file c.args.listing.now.style) c.in_err-list_table.ensures in
    let more3 = Parts-more (cost c.args.listing.now.file c.args.listing.now.style) _ (rows segment Rela c.args.listing.now.file c.args.listing.now.style) more2 in
    let more4 = Parts-more (cost c.args.listing.now.file c.args.listing.now.style) _ (rows segment Jmprel c.args.listing.now.file c.args.listing.now.style) more3 in
    rw (p.1, p.2)
    (lists_as (omega arith) (λ file. four_are file (style_of c.args.listing.now.style) segment (segment_at file segment)) more4)

pub returns-in_err-list_table-2 : goal.returns-in_err-list_table-2
returns-in_err-list_table-2 g c =
    let p = err_from_is_err_and c.from_residual-in_err-list_table-2.result c.from_residual-in_err-list_table-2.ensures.1 in
    let segment = c.args.entries.now.segment in
    let last = Parts-then _ cost (rows segment Rel) c.in_ok-list_table.ensures c.in_err-list_table-2.ensures in
    let more3 = Parts-more (cost c.args.listing.now.file c.args.listing.now.style) _ (rows segment Rela c.args.listing.now.file c.args.listing.now.style) last in
    let more4 = Parts-more (cost c.args.listing.now.file c.args.listing.now.style) _ (rows segment Jmprel c.args.listing.now.file c.args.listing.now.style) more3 in
    rw (p.1, p.2)
    (lists_as (omega arith) (λ file. four_are file (style_of c.args.listing.now.style) segment (segment_at file segment)) more4)

pub returns-in_err-list_table-3 : goal.returns-in_err-list_table-3
returns-in_err-list_table-3 g c =
    let p = err_from_is_err_and c.from_residual-in_err-list_table-3.result c.from_residual-in_err-list_table-3.ensures.1 in
    let segment = c.args.entries.now.segment in
    let upto2 = Parts-then _ cost (rows segment Rel) c.in_ok-list_table.ensures c.in_ok-list_table-2.ensures in
    let last = Parts-then _ cost (rows segment Rela) upto2 c.in_err-list_table-3.ensures in
    let more4 = Parts-more (cost c.args.listing.now.file c.args.listing.now.style) _ (rows segment Jmprel c.args.listing.now.file c.args.listing.now.style) last in
    rw (p.1, p.2)
    (lists_as (omega arith) (λ file. four_are file (style_of c.args.listing.now.style) segment (segment_at file segment)) more4)

pub returns : goal.returns
returns g c =
    let segment = c.args.entries.now.segment in
    let second = Parts-then _ cost (rows segment Rel) c.in_ok-list_table.ensures c.in_ok-list_table-2.ensures in
    let third = Parts-then _ cost (rows segment Rela) second c.in_ok-list_table-3.ensures in
    let all = Parts-then _ cost (rows segment Jmprel) third c.list_table-4.ensures in
    lists_as (omega arith) (λ file. four_are file (style_of c.args.listing.now.style) segment (segment_at file segment)) all
