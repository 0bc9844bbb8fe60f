-- The row of an entry, by its string.
use Rattle.elf_options.specs.Permitted.{style_of}
use Rattle.std.proofs.Common.{◌≡◌, ℕ, ◌+◌, ◌*◌, false, true, refl, ap, ◌∙◌, arith}
use Rattle.std.proofs.lemmas.Result.{err_from_is_err_and}
use Rattle.elf_model.specs.Prelude.{dynamic_at, dynamic_prefix, place_of_dynamic}
use Rattle.elf_format.specs.Fronts.{front_of}
use Rattle.elf_listing.proofs.Amounts.{all_of}
use Rattle.elf_listing.specs.RowLayouts.{dynamic_layout}
use Rattle.elf_listing.specs.Strings.{strings_reported, string_told}
use Rattle.elf_listing.proofs.RowLaws.{WroteSome-as, chosen-hidden, chosen-shown}
use Rattle.elf_listing.proofs.SelectionLaws.{placed-as, unnamed-shown}
use Rattle.elf_listing.proofs.StringsTold.{dynamic_choice, entry_is, reported_row, told_shown, WroteUntilStop-told}
use Rattle.elf_listing.proofs.RowCalls.{ListsRow-hidden, ListsRow-named, ListsRow-unread, WroteUntilStop-as}
use Rattle.elf_listing.proofs.dynamic.DynamicEntriesTableRows.row.Goals as goal

placed_entry : (at start index : ℕ) → at ≡ start + index * 16 → at ≡ dynamic_at start index
placed_entry at start index here = omega (arith, here)

pub returns-in_err-end-clause-lists : goal.returns-in_err-end-clause-lists
returns-in_err-end-clause-lists g c =
    let p = err_from_is_err_and c.from_residual.result c.from_residual.ensures.1 in
    ListsRow-unread _ _ _ _ (dynamic_layout c.args.self.now.strings) (g.V.NameVersions.lookup c.args._versions.now) c.args.row.now _ p (all_of _) c.in_err-end.ensures.fetches (λ file held at of_kind row.
    let decoded = c.decode-entry.ensures.is_at file c.args.row.now.at (c.whole.ensures ∙ row.bytes) in
    let here : c.args.row.now.at ≡ dynamic_at at c.args.row.now.index = placed_entry _ _ _ row.here in
    WroteUntilStop-as _ _ _ (entry_is file (dynamic_prefix c.args.listing.now.style.format c.args.listing.now.style.gnu file c.args.row.now.at c.args.row.now.index) (style_of c.args.listing.now.style) c.args.row.now.at c.args.row.now.index (dynamic_at at c.args.row.now.index) (strings_reported c.args.self.now.strings file) refl here)
    (WroteUntilStop-told _ (dynamic_choice (style_of c.args.listing.now.style) c.args.row.now.at) _ c.args.row.now.at _ c.read_string.new.self.name _ (c.in_err-end.ensures.read file held of_kind decoded)))

pub returns-clause-lists : goal.returns-clause-lists
returns-clause-lists g c = ListsRow-named _ _ _ _ (dynamic_layout c.args.self.now.strings) (g.V.NameVersions.lookup c.args._versions.now) c.args.row.now _ _ (all_of _) c.in_ok-end.ensures.fetches c.named_line.ensures (λ file held at of_kind row.
    let decoded = c.decode-entry.ensures.is_at file c.args.row.now.at (c.whole.ensures ∙ row.bytes) in
    let here : c.args.row.now.at ≡ dynamic_at at c.args.row.now.index = placed_entry _ _ _ row.here in
    let read = told_shown c.args.row.now.at _ _ (string_told (strings_reported c.args.self.now.strings file) c.args.listing.now.style.format file c.args.listing.now.style.cap.bytes c.args.row.now.at) (c.in_ok-end.ensures.read file held of_kind decoded) in
    let choice = dynamic_choice (style_of c.args.listing.now.style) c.args.row.now.at in
    let placed = placed-as c.args.listing.now.style _ _ (place_of_dynamic c.args.row.now.at) _ true c.in_ok-end.ensures.fetches.0.same_style c.record-place.ensures c.is_place_shown.ensures c.if-not-is_place_shown.false in
    let front = rw c.requires.format at (c.dynamic_prefix.ensures.front file c.args.row.now.at decoded) in
    (WroteSome-as _ _ _ (entry_is file _ (style_of c.args.listing.now.style) c.args.row.now.at c.args.row.now.index (dynamic_at at c.args.row.now.index) (strings_reported c.args.self.now.strings file) front here
    ∙ ap (reported_row choice (front_of c.dynamic_prefix.new.front) c.args.row.now.at) read.1
    ∙ chosen-shown choice _ _ _ _ _ read.2 (unnamed-shown (style_of c.args.listing.now.style) (place_of_dynamic c.args.row.now.at) _ _ true placed))
    (c.named_line.ensures.shows _ _ read.2)))

pub returns-then-not-is_place_shown-clause-lists : goal.returns-then-not-is_place_shown-clause-lists
returns-then-not-is_place_shown-clause-lists g c = ListsRow-hidden _ _ (dynamic_layout c.args.self.now.strings) (g.V.NameVersions.lookup c.args._versions.now) c.args.row.now _ (all_of _) c.in_ok-end.ensures.fetches (λ file held at of_kind row.
    let decoded = c.decode-entry.ensures.is_at file c.args.row.now.at (c.whole.ensures ∙ row.bytes) in
    let here : c.args.row.now.at ≡ dynamic_at at c.args.row.now.index = placed_entry _ _ _ row.here in
    let read = told_shown c.args.row.now.at _ _ (string_told (strings_reported c.args.self.now.strings file) c.args.listing.now.style.format file c.args.listing.now.style.cap.bytes c.args.row.now.at) (c.in_ok-end.ensures.read file held of_kind decoded) in
    let choice = dynamic_choice (style_of c.args.listing.now.style) c.args.row.now.at in
    let front = dynamic_prefix c.args.listing.now.style.format c.args.listing.now.style.gnu file c.args.row.now.at c.args.row.now.index in
    let hidden = placed-as c.args.listing.now.style _ _ (place_of_dynamic c.args.row.now.at) _ false c.in_ok-end.ensures.fetches.0.same_style c.record-place.ensures c.is_place_shown.ensures c.if-not-is_place_shown.true in
    (entry_is file front (style_of c.args.listing.now.style) c.args.row.now.at c.args.row.now.index (dynamic_at at c.args.row.now.index) (strings_reported c.args.self.now.strings file) refl here
    ∙ ap (reported_row choice front c.args.row.now.at) read.1
    ∙ chosen-hidden choice _ _ _ _ _ read.2 (unnamed-shown (style_of c.args.listing.now.style) (place_of_dynamic c.args.row.now.at) _ _ false hidden)))
