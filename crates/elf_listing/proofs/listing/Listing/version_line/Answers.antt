use Rattle.elf_model.specs.Prelude.{place_of_version, placed_choice}
use Rattle.std.proofs.Common.{[]}
use Rattle.std.proofs.lemmas.Result.{err_from_is_err_and}
use Rattle.elf_options.specs.Permitted.{style_of}
use Rattle.elf_listing.proofs.Amounts.{all_of}
use Rattle.elf_listing.proofs.ListsLaws.{ListingCalls-hidden, ListingCalls-named, ListingCalls-unread}
use Rattle.elf_listing.proofs.RowLaws.{WroteUntilStop-chosen, WroteSome-as, chosen-hidden, chosen-shown}
use Rattle.elf_listing.proofs.SelectionLaws.{placed-chosen-as}
use Rattle.elf_options.specs.Prelude.{choice_of}
use Rattle.elf_listing.proofs.VersionsShown.{record_is}
use Rattle.elf_listing.proofs.ShowLaws.{Whole-none}
use Rattle.elf_listing.proofs.listing.Listing.version_line.Goals as goal

pub returns-in_err-end : goal.returns-in_err-end
returns-in_err-end g c =
    let p = err_from_is_err_and c.from_residual.result c.from_residual.ensures.1 in
    rw (p.1, p.2) (ListingCalls-unread _ _ _ _ _ _ (all_of _) c.in_err-end.ensures.fetches (λ file met held is.
    let off = c.from.ensures in
    rw (record_is file (style_of c.args.self.now.style) c.args.section _ met c.args.given.now is, ← off, c.in_err-end.ensures.fetches.1)
    (WroteUntilStop-chosen _ (placed_choice (style_of c.args.self.now.style) (place_of_version file met) (choice_of c.args.self.now.style.choice)) _ _ _ [] _ (c.in_err-end.ensures.read file held))))

pub returns : goal.returns
returns g c = ListingCalls-named _ _ _ _ _ _ _ _ (all_of _) c.in_ok-end.ensures.fetches c.named_line.ensures (λ file met held is.
    let off = c.from.ensures in
    let front = rw c.requires.format at c.version_prefix.ensures.front in
    let read = c.in_ok-end.ensures.read file held in
    rw (record_is file (style_of c.args.self.now.style) c.args.section _ met c.args.given.now is, ← off, ← front, ← c.in_ok-end.ensures.fetches.1)
    (WroteSome-as _ _ _ (chosen-shown (placed_choice (style_of c.args.self.now.style) (place_of_version file met) (choice_of c.args.self.now.style.choice)) _ _ _ _ _ read (placed-chosen-as c.args.self.now.style _ _ (place_of_version file met) _ _ _ _ c.in_ok-end.ensures.fetches.0.same_style (c.place_of_version-place.ensures file met is) c.is_row_shown.ensures c.if-not-is_row_shown.false))
    (c.named_line.ensures.shows _ _ read)))

pub returns-then-not-is_row_shown : goal.returns-then-not-is_row_shown
returns-then-not-is_row_shown g c = ListingCalls-hidden _ _ _ _ _ _ (all_of _) c.in_ok-end.ensures.fetches (λ file met held is.
    let off = c.from.ensures in
    rw (
      record_is file (style_of c.args.self.now.style) c.args.section _ met c.args.given.now is,
      ← off,
      chosen-hidden (placed_choice (style_of c.args.self.now.style) (place_of_version file met) (choice_of c.args.self.now.style.choice)) _ _ _ _ _ (c.in_ok-end.ensures.read file held) (placed-chosen-as c.args.self.now.style _ _ (place_of_version file met) _ _ _ _ c.in_ok-end.ensures.fetches.0.same_style (c.place_of_version-place.ensures file met is) c.is_row_shown.ensures c.if-not-is_row_shown.true),
      c.in_ok-end.ensures.fetches.1,
    )
    (Whole-none _))
