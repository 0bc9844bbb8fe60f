-- The name and then the version are read before the line is written.
use Rattle.std.proofs.Common.{◌≡◌, ℕ, ◌+◌, ◌*◌, ◌==◌, not, refl, sym, ap, ◌∙◌, [], Ok, Err}
use Rattle.std.proofs.lemmas.Result.{err_from_is_err_and}
use Rattle.elf_options.specs.Permitted.{style_of}
use Rattle.elf_model.specs.Prelude.{section_at, sh_offset, symbol_choice}
use Rattle.elf_table.specs.declared.names.NameEnd.{NameEnd}
use Rattle.elf_table.specs.declared.names.NameEnd.TheVariants.{Whole}
use Rattle.elf_listing.proofs.Amounts.{all_of, part_of, placed_row}
use Rattle.elf_listing.specs.RowLayouts.{symbol_layout}
use Rattle.elf_listing.proofs.RowLaws.{WroteSome-as}
use Rattle.elf_listing.proofs.SelectionLaws.{symbol-chosen-as}
use Rattle.elf_listing.proofs.RowCalls.{ListsRow-hidden, ListsRow-named, ListsRow-unread, WroteUntilStop-as}
use Rattle.elf_listing.proofs.SuffixShown.{ListingReads-suffix, WroteUntilStop-suffix, WroteUntilStop-unnamed, suffixed-hidden, suffixed-shown, symbol_row_is}
use Rattle.elf_listing.proofs.symbols.SymbolsTableRows.row.Goals as goal

pub returns-in_err-end-clause-lists : goal.returns-in_err-end-clause-lists
returns-in_err-end-clause-lists g c =
    let p = err_from_is_err_and c.from_residual.result c.from_residual.ensures.1 in
    ListsRow-unread _ _ _ _ (symbol_layout c.args.self.now) (g.V.NameVersions.lookup c.args.versions.now) c.args.row.now _ p (part_of _ _) c.in_err-end.ensures.fetches (λ file held at of_kind row.
    let decoded = c.decode-symbol.ensures.is_at file c.args.row.now.at (c.whole.ensures ∙ row.bytes) in
    let here : c.args.row.now.at ≡ sh_offset file (section_at file c.args.self.now.section) + c.args.row.now.index * 24 = placed_row _ 24 of_kind.1 row.here in
    WroteUntilStop-as _ _ _ (symbol_row_is (g.V.NameVersions.lookup c.args.versions.now) file (style_of c.args.listing.now.style) _ _ _ _ _ _ refl of_kind.0 (c.from-off.ensures ∙ decoded.st_name) here)
    (WroteUntilStop-unnamed _ (symbol_choice file (style_of c.args.listing.now.style) (section_at file c.args.self.now.section) c.args.row.now.at) _ _ _ [] _ _ (c.in_err-end.ensures.read file held)))

pub returns-in_err-suffix-clause-lists : goal.returns-in_err-suffix-clause-lists
returns-in_err-suffix-clause-lists g c =
    let p = err_from_is_err_and c.from_residual-in_err-suffix.result c.from_residual-in_err-suffix.ensures.1 in
    let first = c.in_ok-end.ensures.fetches in
    let same = first.0.same_style in
    let both = ListingReads-suffix {X = NameEnd} (g.V.NameVersions.lookup c.args.versions.now) _ _ _ c.in_ok-end.end (Err c.in_err-suffix.field-0.0) _ first c.in_err-suffix.ensures.reads.fetches in
    ListsRow-unread _ _ _ _ (symbol_layout c.args.self.now) (g.V.NameVersions.lookup c.args.versions.now) c.args.row.now _ p (all_of _) both (λ file held at of_kind row.
    let decoded = c.decode-symbol.ensures.is_at file c.args.row.now.at (c.whole.ensures ∙ row.bytes) in
    let here : c.args.row.now.at ≡ sh_offset file (section_at file c.args.self.now.section) + c.args.row.now.index * 24 = placed_row _ 24 of_kind.1 row.here in
    let defined = ap (λ (n : ℕ). not (n == 0)) decoded.st_shndx in
    let read = c.in_ok-end.ensures.read file held in
    let after = rw same at (c.in_err-suffix.ensures.reads.read file (first.2.reads.keeps.same_file ∙ held) c.args.self.now.section c.args.row.now.at of_kind.2 defined) in
    WroteUntilStop-as _ _ _ (symbol_row_is (g.V.NameVersions.lookup c.args.versions.now) file (style_of c.args.listing.now.style) _ _ _ _ _ _ refl of_kind.0 (c.from-off.ensures ∙ decoded.st_name) here)
    (WroteUntilStop-suffix _ (symbol_choice file (style_of c.args.listing.now.style) (section_at file c.args.self.now.section) c.args.row.now.at) _ _ c.in_ok-end.end _ _ _ _ _ read after))

pub returns-then-not-is_symbol_row_shown-clause-lists : goal.returns-then-not-is_symbol_row_shown-clause-lists
returns-then-not-is_symbol_row_shown-clause-lists g c =
    let first = c.in_ok-end.ensures.fetches in
    let same = first.0.same_style in
    let both = ListingReads-suffix {X = NameEnd} (g.V.NameVersions.lookup c.args.versions.now) _ _ _ c.in_ok-end.end (Ok Whole) _ first c.in_ok-suffix.ensures.reads.fetches in
    ListsRow-hidden _ _ (symbol_layout c.args.self.now) (g.V.NameVersions.lookup c.args.versions.now) c.args.row.now _ (all_of _) both (λ file held at of_kind row.
    let decoded = c.decode-symbol.ensures.is_at file c.args.row.now.at (c.whole.ensures ∙ row.bytes) in
    let here : c.args.row.now.at ≡ sh_offset file (section_at file c.args.self.now.section) + c.args.row.now.index * 24 = placed_row _ 24 of_kind.1 row.here in
    let defined = ap (λ (n : ℕ). not (n == 0)) decoded.st_shndx in
    let read = c.in_ok-end.ensures.read file held in
    let after = rw same at (c.in_ok-suffix.ensures.reads.read file (first.2.reads.keeps.same_file ∙ held) c.args.self.now.section c.args.row.now.at of_kind.2 defined) in
    let hidden = rw c.in_ok-suffix.ensures.reads.kept at (symbol-chosen-as c.args.listing.now.style _ file _ c.args.row.now.at _ _ _ _ _ _ _ both.0.same_style defined of_kind.3 (c.place_of_symbol.ensures file decoded) (rw c.bytes.ensures.value at c.is_symbol_row_shown.ensures) c.if-not-is_symbol_row_shown.true) in
    (symbol_row_is (g.V.NameVersions.lookup c.args.versions.now) file (style_of c.args.listing.now.style) _ _ _ _ _ _ refl of_kind.0 (c.from-off.ensures ∙ decoded.st_name) here
    ∙ suffixed-hidden (symbol_choice file (style_of c.args.listing.now.style) (section_at file c.args.self.now.section) c.args.row.now.at) _ _ c.in_ok-end.end _ _ _ c.in_ok-suffix.suffix _ read after hidden))

pub returns-clause-lists : goal.returns-clause-lists
returns-clause-lists g c =
    let first = c.in_ok-end.ensures.fetches in
    let same = first.0.same_style in
    let both = ListingReads-suffix {X = NameEnd} (g.V.NameVersions.lookup c.args.versions.now) _ _ _ c.in_ok-end.end (Ok Whole) _ first c.in_ok-suffix.ensures.reads.fetches in
    ListsRow-named _ _ _ _ (symbol_layout c.args.self.now) (g.V.NameVersions.lookup c.args.versions.now) c.args.row.now _ _ (all_of _) both (rw c.bytes-2.ensures.value at c.suffixed_line.ensures) (λ file held at of_kind row.
    let decoded = c.decode-symbol.ensures.is_at file c.args.row.now.at (c.whole.ensures ∙ row.bytes) in
    let here : c.args.row.now.at ≡ sh_offset file (section_at file c.args.self.now.section) + c.args.row.now.index * 24 = placed_row _ 24 of_kind.1 row.here in
    let defined = ap (λ (n : ℕ). not (n == 0)) decoded.st_shndx in
    let front = rw (c.requires.format, c.naming-naming.ensures.gnu, c.naming-naming.ensures.machine file held) at (c.symbol_prefix.ensures.front file c.args.row.now.at decoded) in
    let read = c.in_ok-end.ensures.read file held in
    let after = rw same at (c.in_ok-suffix.ensures.reads.read file (first.2.reads.keeps.same_file ∙ held) c.args.self.now.section c.args.row.now.at of_kind.2 defined) in
    let shown = rw c.in_ok-suffix.ensures.reads.kept at (symbol-chosen-as c.args.listing.now.style _ file _ c.args.row.now.at _ _ _ _ _ _ _ both.0.same_style defined of_kind.3 (c.place_of_symbol.ensures file decoded) (rw c.bytes.ensures.value at c.is_symbol_row_shown.ensures) c.if-not-is_symbol_row_shown.false) in
    let now = rw (sym c.in_ok-suffix.ensures.reads.kept) at read in
    (WroteSome-as _ _ _ (symbol_row_is (g.V.NameVersions.lookup c.args.versions.now) file (style_of c.args.listing.now.style) _ _ _ _ _ _ front of_kind.0 (c.from-off.ensures ∙ decoded.st_name) here ∙ suffixed-shown (symbol_choice file (style_of c.args.listing.now.style) (section_at file c.args.self.now.section) c.args.row.now.at) _ _ c.in_ok-end.end _ _ _ c.in_ok-suffix.suffix _ read after shown)
    ((rw c.bytes-2.ensures.value at c.suffixed_line.ensures).shows _ _ now)))
