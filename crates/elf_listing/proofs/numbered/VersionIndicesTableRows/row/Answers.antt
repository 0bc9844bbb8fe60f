use Rattle.elf_model.specs.Prelude.{place_of_record, placed_choice}
use Rattle.std.proofs.Common.{[], refl, ap, sym, ◌∙◌}
use Rattle.std.proofs.lemmas.Result.{err_from_is_err_and}
use Rattle.elf_options.specs.Permitted.{style_of}
use Rattle.elf_listing.proofs.Amounts.{all_of}
use Rattle.elf_listing.specs.Numbered.{reported_row}
use Rattle.elf_listing.specs.RowLayouts.{version_layout}
use Rattle.elf_listing.proofs.RowCalls.{ListsRow-hidden, ListsRow-named, ListsRow-unread, WroteUntilStop-as}
use Rattle.elf_listing.proofs.NumberedShown.{reported_is, word_is}
use Rattle.elf_listing.proofs.RowLaws.{WroteUntilStop-chosen, WroteSome-as, chosen-hidden, chosen-shown}
use Rattle.elf_listing.proofs.SelectionLaws.{placed-chosen-as}
use Rattle.elf_options.specs.Prelude.{choice_of}
use Rattle.elf_listing.proofs.numbered.VersionIndicesTableRows.row.Goals as goal

pub returns-in_err-end-clause-lists : goal.returns-in_err-end-clause-lists
returns-in_err-end-clause-lists g c =
    let p = err_from_is_err_and c.from_residual.result c.from_residual.ensures.1 in
    ListsRow-unread _ _ _ _ (version_layout c.args.self.now) (g.V.NameVersions.lookup c.args._versions.now) c.args.row.now _ p (all_of _) c.in_err-end.ensures.fetches (λ file held at of_kind row.
    let word = word_is file _ c.args.row.now.at _ row.bytes c.u16_at-word.ensures in
    let placed = ap (λ place. reported_row file (style_of c.args.listing.now.style) c.args.self.now.numbered.now c.args.self.now.section place c.args.row.now.index) (sym row.here) in
    WroteUntilStop-as _ _ _ (placed ∙ reported_is file (style_of c.args.listing.now.style) c.args.self.now.numbered.now c.args.self.now.section c.args.row.now.at c.args.row.now.index _ _ word refl)
    (WroteUntilStop-chosen _ (placed_choice (style_of c.args.listing.now.style) (place_of_record c.args.row.now.at 2) (choice_of c.args.listing.now.style.choice)) _ _ _ [] _ (rw c.version_number-number.ensures at c.in_err-end.ensures.read file held)))

pub returns-clause-lists : goal.returns-clause-lists
returns-clause-lists g c = ListsRow-named _ _ _ _ (version_layout c.args.self.now) (g.V.NameVersions.lookup c.args._versions.now) c.args.row.now _ _ (all_of _) c.in_ok-end.ensures.fetches c.named_line.ensures (λ file held at of_kind row.
    let word = word_is file _ c.args.row.now.at _ row.bytes c.u16_at-word.ensures in
    let read = rw c.version_number-number.ensures at c.in_ok-end.ensures.read file held in
    let told = reported_is file (style_of c.args.listing.now.style) c.args.self.now.numbered.now c.args.self.now.section c.args.row.now.at c.args.row.now.index _ _ word (rw c.requires.format at c.symbol_version_prefix.ensures.front) in
    let placed = ap (λ place. reported_row file (style_of c.args.listing.now.style) c.args.self.now.numbered.now c.args.self.now.section place c.args.row.now.index) (sym row.here) in
    (WroteSome-as _ _ _ (placed ∙ (told ∙ chosen-shown (placed_choice (style_of c.args.listing.now.style) (place_of_record c.args.row.now.at 2) (choice_of c.args.listing.now.style.choice)) _ _ _ _ _ read (placed-chosen-as c.args.listing.now.style _ _ (place_of_record c.args.row.now.at 2) _ _ _ _ c.in_ok-end.ensures.fetches.0.same_style c.record-place.ensures c.is_row_shown.ensures c.if-not-is_row_shown.false)))
    (c.named_line.ensures.shows _ _ read)))

pub returns-then-not-is_row_shown-clause-lists : goal.returns-then-not-is_row_shown-clause-lists
returns-then-not-is_row_shown-clause-lists g c = ListsRow-hidden _ _ (version_layout c.args.self.now) (g.V.NameVersions.lookup c.args._versions.now) c.args.row.now _ (all_of _) c.in_ok-end.ensures.fetches (λ file held at of_kind row.
    let word = word_is file _ c.args.row.now.at _ row.bytes c.u16_at-word.ensures in
    let placed = ap (λ place. reported_row file (style_of c.args.listing.now.style) c.args.self.now.numbered.now c.args.self.now.section place c.args.row.now.index) (sym row.here) in
    placed ∙ (reported_is file (style_of c.args.listing.now.style) c.args.self.now.numbered.now c.args.self.now.section c.args.row.now.at c.args.row.now.index _ _ word refl
    ∙ chosen-hidden (placed_choice (style_of c.args.listing.now.style) (place_of_record c.args.row.now.at 2) (choice_of c.args.listing.now.style.choice)) _ _ _ _ _ (rw c.version_number-number.ensures at c.in_ok-end.ensures.read file held) (placed-chosen-as c.args.listing.now.style _ _ (place_of_record c.args.row.now.at 2) _ _ _ _ c.in_ok-end.ensures.fetches.0.same_style c.record-place.ensures c.is_row_shown.ensures c.if-not-is_row_shown.true)))
