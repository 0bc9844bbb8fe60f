-- The name is read before the line is written.
use Rattle.std.proofs.Common.{ℕ, ◌==◌, not, refl, ap, ◌∙◌, [], true}
use Rattle.std.proofs.lemmas.Result.{err_from_is_err_and}
use Rattle.elf_options.specs.Permitted.{style_of}
use Rattle.elf_model.specs.Prelude.{class_choice}
use Rattle.elf_table.specs.Prelude.{strings_in}
use Rattle.elf_listing.proofs.Amounts.{all_of}
use Rattle.elf_listing.proofs.HashedShown.{hashed_is}
use Rattle.elf_listing.specs.Located.{hashed_layout}
use Rattle.elf_listing.proofs.RowLaws.{WroteSome-as, WroteUntilStop-chosen, chosen-hidden, chosen-shown}
use Rattle.elf_listing.proofs.SelectionLaws.{class-chosen-as}
use Rattle.elf_listing.proofs.RowCalls.{ListsRow-hidden, ListsRow-named, ListsRow-unread, WroteUntilStop-as}
use Rattle.elf_listing.proofs.hashed_symbols.HashedSymbolsTableRows.row.Goals as goal

pub returns-in_err-end-clause-lists : goal.returns-in_err-end-clause-lists
returns-in_err-end-clause-lists g c =
    let p = err_from_is_err_and c.from_residual.result c.from_residual.ensures.1 in
    ListsRow-unread _ _ _ _ (hashed_layout c.args.self.now) (g.V.NameVersions.lookup c.args._versions.now) c.args.row.now _ p (all_of _) c.in_err-end.ensures.fetches (λ file held at of_kind row.
    let rows = c.args.self.now in
    let style = style_of c.args.listing.now.style in
    let decoded = c.decode-symbol.ensures.is_at file c.args.row.now.at (c.whole.ensures ∙ row.bytes) in
    WroteUntilStop-as _ _ _ (hashed_is file style rows.segment (strings_in file rows.names) at c.args.row.now.at c.args.row.now.index _ _ row.here refl (c.from-off.ensures ∙ decoded.st_name))
    (WroteUntilStop-chosen _ (class_choice file style true c.args.row.now.at) _ _ _ [] _ (c.in_err-end.ensures.read file held)))

pub returns-then-not-is_symbol_row_shown-clause-lists : goal.returns-then-not-is_symbol_row_shown-clause-lists
returns-then-not-is_symbol_row_shown-clause-lists g c =
    let first = c.in_ok-end.ensures.fetches in
    ListsRow-hidden _ _ (hashed_layout c.args.self.now) (g.V.NameVersions.lookup c.args._versions.now) c.args.row.now _ (all_of _) first (λ file held at of_kind row.
    let rows = c.args.self.now in
    let style = style_of c.args.listing.now.style in
    let decoded = c.decode-symbol.ensures.is_at file c.args.row.now.at (c.whole.ensures ∙ row.bytes) in
    let defined = ap (λ (n : ℕ). not (n == 0)) decoded.st_shndx in
    let hidden = class-chosen-as c.args.listing.now.style _ file c.args.row.now.at _ true _ _ _ _ _ first.0.same_style defined (c.place_of_symbol.ensures file decoded) c.is_symbol_row_shown.ensures c.if-not-is_symbol_row_shown.true in
    (hashed_is file style rows.segment (strings_in file rows.names) at c.args.row.now.at c.args.row.now.index _ _ row.here refl (c.from-off.ensures ∙ decoded.st_name)
    ∙ chosen-hidden (class_choice file style true c.args.row.now.at) _ _ c.in_ok-end.end _ _ (c.in_ok-end.ensures.read file held) hidden))

pub returns-clause-lists : goal.returns-clause-lists
returns-clause-lists g c =
    let first = c.in_ok-end.ensures.fetches in
    ListsRow-named _ _ _ _ (hashed_layout c.args.self.now) (g.V.NameVersions.lookup c.args._versions.now) c.args.row.now _ _ (all_of _) first c.named_line.ensures (λ file held at of_kind row.
    let rows = c.args.self.now in
    let style = style_of c.args.listing.now.style in
    let decoded = c.decode-symbol.ensures.is_at file c.args.row.now.at (c.whole.ensures ∙ row.bytes) in
    let defined = ap (λ (n : ℕ). not (n == 0)) decoded.st_shndx in
    let front = rw (c.requires.format, c.naming-naming.ensures.gnu, c.naming-naming.ensures.machine file held) at (c.symbol_prefix.ensures.front file c.args.row.now.at decoded) in
    let read = c.in_ok-end.ensures.read file held in
    let shown = class-chosen-as c.args.listing.now.style _ file c.args.row.now.at _ true _ _ _ _ _ first.0.same_style defined (c.place_of_symbol.ensures file decoded) c.is_symbol_row_shown.ensures c.if-not-is_symbol_row_shown.false in
    (WroteSome-as _ _ _
    (hashed_is file style rows.segment (strings_in file rows.names) at c.args.row.now.at c.args.row.now.index _ _ row.here front (c.from-off.ensures ∙ decoded.st_name)
    ∙ chosen-shown (class_choice file style true c.args.row.now.at) _ _ c.in_ok-end.end _ _ read shown)
    (c.named_line.ensures.shows _ _ read)))
