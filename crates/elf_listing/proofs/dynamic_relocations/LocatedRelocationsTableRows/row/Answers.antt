-- The name of the symbol is read before the line is written.
use Rattle.std.proofs.Common.{◌/◌, ◌^◌, refl, ap, ◌∙◌, []}
use Rattle.std.proofs.lemmas.Result.{err_from_is_err_and}
use Rattle.elf_options.specs.Permitted.{style_of}
use Rattle.elf_model.specs.Prelude.{place_of_relocation, relocation_choice}
use Rattle.elf_table.specs.Prelude.{symbols_linked}
use Rattle.elf_listing.proofs.Amounts.{all_of}
use Rattle.elf_listing.specs.Located.{located_layout}
use Rattle.elf_listing.proofs.LocatedShown.{located_is}
use Rattle.elf_listing.proofs.RowLaws.{WroteSome-as, WroteUntilStop-chosen, chosen-hidden, chosen-shown}
use Rattle.elf_listing.proofs.SelectionLaws.{placed-chosen-as}
use Rattle.elf_listing.proofs.RowCalls.{ListsRow-hidden, ListsRow-named, ListsRow-unread, WroteUntilStop-as}
use Rattle.elf_listing.proofs.dynamic_relocations.LocatedRelocationsTableRows.row.Goals as goal

pub returns-in_err-read-clause-lists : goal.returns-in_err-read-clause-lists
returns-in_err-read-clause-lists g c =
    let p = err_from_is_err_and c.from_residual.result c.from_residual.ensures.1 in
    ListsRow-unread _ _ _ _ (located_layout c.args.self.now) (g.V.NameVersions.lookup c.args._versions.now) c.args.row.now _ p (all_of _) c.in_err-read.ensures.fetches (λ file held at of_kind row.
    let rows = c.args.self.now in
    let style = style_of c.args.listing.now.style in
    let decoded = c.decode_entry-addend.ensures file row.bytes in
    let symbol = c.symbol.ensures ∙ ap (λ n. n / 2 ^ 32) decoded.0.r_info in
    WroteUntilStop-as _ _ _ (located_is rows.has_addends file _ style rows.segment (symbols_linked file rows.linked) at c.args.row.now.at _ c.args.row.now.index row.here refl symbol)
    (WroteUntilStop-chosen _ (relocation_choice rows.has_addends file style c.args.row.now.at) _ _ _ [] _ (c.in_err-read.ensures.among file held)))

pub returns-then-not-is_row_shown-clause-lists : goal.returns-then-not-is_row_shown-clause-lists
returns-then-not-is_row_shown-clause-lists g c =
    let first = c.in_ok-read.ensures.fetches in
    ListsRow-hidden _ _ (located_layout c.args.self.now) (g.V.NameVersions.lookup c.args._versions.now) c.args.row.now _ (all_of _) first (λ file held at of_kind row.
    let rows = c.args.self.now in
    let style = style_of c.args.listing.now.style in
    let decoded = c.decode_entry-addend.ensures file row.bytes in
    let symbol = c.symbol.ensures ∙ ap (λ n. n / 2 ^ 32) decoded.0.r_info in
    let placed = c.place_of_relocation-place.ensures file (c.file_type.ensures file (first.2.reads.keeps.same_file ∙ held)) decoded.0 in
    let hidden = placed-chosen-as c.args.listing.now.style _ _ (place_of_relocation rows.has_addends file c.args.row.now.at) _ _ _ _ first.0.same_style placed c.is_row_shown.ensures c.if-not-is_row_shown.true in
    (located_is rows.has_addends file _ style rows.segment (symbols_linked file rows.linked) at c.args.row.now.at _ c.args.row.now.index row.here refl symbol
    ∙ chosen-hidden (relocation_choice rows.has_addends file style c.args.row.now.at) _ _ c.in_ok-read.read.end _ _ (c.in_ok-read.ensures.among file held) hidden))

pub returns-clause-lists : goal.returns-clause-lists
returns-clause-lists g c =
    let first = c.in_ok-read.ensures.fetches in
    ListsRow-named _ _ _ _ (located_layout c.args.self.now) (g.V.NameVersions.lookup c.args._versions.now) c.args.row.now _ _ (all_of _) first c.named_line.ensures (λ file held at of_kind row.
    let rows = c.args.self.now in
    let style = style_of c.args.listing.now.style in
    let decoded = c.decode_entry-addend.ensures file row.bytes in
    let symbol = c.symbol.ensures ∙ ap (λ n. n / 2 ^ 32) decoded.0.r_info in
    let front = rw (c.requires.format, c.naming-naming.ensures.gnu, c.naming-naming.ensures.machine file held) at (c.relocation_prefix.ensures.front rows.has_addends file c.args.row.now.at decoded.0 decoded.1) in
    let placed = c.place_of_relocation-place.ensures file (c.file_type.ensures file (first.2.reads.keeps.same_file ∙ held)) decoded.0 in
    let shown = placed-chosen-as c.args.listing.now.style _ _ (place_of_relocation rows.has_addends file c.args.row.now.at) _ _ _ _ first.0.same_style placed c.is_row_shown.ensures c.if-not-is_row_shown.false in
    let read = c.in_ok-read.ensures.among file held in
    (WroteSome-as _ _ _
    (located_is rows.has_addends file _ style rows.segment (symbols_linked file rows.linked) at c.args.row.now.at _ c.args.row.now.index row.here front symbol
    ∙ chosen-shown (relocation_choice rows.has_addends file style c.args.row.now.at) _ _ c.in_ok-read.read.end _ _ read shown)
    (c.named_line.ensures.shows _ _ read)))
