use Rattle.elf_options.specs.Permitted.{style_of}
use Rattle.std.proofs.Common.{◌≡◌, ◌<◌, ◌∙◌, ap, Ok, false, true, refl, []}
use Rattle.std.proofs.lemmas.Result.{err_from_is_err_and}
use Rattle.elf_model.specs.Records.{section_at, e_shnum}
use Rattle.elf_listing.proofs.Amounts.{some_as}
use Rattle.elf_listing.proofs.RowLaws.{WroteSome-as, WroteUntilStop-chosen, chosen-hidden, chosen-shown}
use Rattle.elf_listing.proofs.SelectionLaws.{placed-as, unnamed-shown}
use Rattle.elf_listing.proofs.ShowLaws.{Whole-none}
use Rattle.elf_model.specs.Prelude.{EveryRow, place_of_section, placed_choice}
use Rattle.elf_listing.proofs.SectionCosts.{name_within}
use Rattle.elf_listing.proofs.SectionShown.{section_is, section_placed}
use Rattle.elf_listing.proofs.ListsLaws.{ListingCalls-hidden, ListingCalls-named, ListingCalls-unread}
use Rattle.elf_listing.proofs.listing.Listing.section_line.Goals as goal

pub returns-in_err-end : goal.returns-in_err-end
returns-in_err-end g c =
    let p = err_from_is_err_and c.from_residual.result c.from_residual.ensures.1 in
    rw (p.1, p.2) (ListingCalls-unread _ _ _ _ _ _ (name_within c.names-names.result c.args.self.now.file.loaded.header.e_shstrndx c.args.self.now.style.cap.bytes c.names-names.ensures.unnamed) c.in_err-end.ensures.fetches (λ file held.
    let belongs = c.args.self.now.loaded.belongs file held in
    let is_at = c.section-header.ensures.is_at file belongs in
    let some : 0 < e_shnum file = some_as c.requires.below belongs.count belongs.header.e_shnum in
    let place : c.place-place.result ≡ section_at file c.args.section = section_placed file c.args.section c.place-place.ensures.value belongs.header.e_shoff in
    rw (section_is file _ _ _ _ c.args.section (style_of c.args.self.now.style) (c.names-names.ensures.held file belongs) some place is_at.sh_name refl, c.in_err-end.ensures.fetches.1)
    (WroteUntilStop-chosen _ (placed_choice (style_of c.args.self.now.style) (place_of_section file (section_at file c.args.section)) EveryRow) _ _ _ [] _ (c.in_err-end.ensures.read file held))))

pub returns : goal.returns
returns g c = ListingCalls-named _ _ _ _ _ _ _ _ (name_within c.names-names.result c.args.self.now.file.loaded.header.e_shstrndx c.args.self.now.style.cap.bytes c.names-names.ensures.unnamed) c.in_ok-end.ensures.fetches c.named_line.ensures (λ file held.
    let belongs = c.args.self.now.loaded.belongs file held in
    let is_at = c.section-header.ensures.is_at file belongs in
    let front = rw (c.requires.format, c.naming-naming.ensures.gnu, c.naming-naming.ensures.machine file held) at (c.section_prefix.ensures.front file (section_at file c.args.section) is_at) in
    let some : 0 < e_shnum file = some_as c.requires.below belongs.count belongs.header.e_shnum in
    let place : c.place-place.result ≡ section_at file c.args.section = section_placed file c.args.section c.place-place.ensures.value belongs.header.e_shoff in
    let read = c.in_ok-end.ensures.read file held in
    let placed_at : c.place_of_section.result ≡ place_of_section file (section_at file c.args.section) = c.place_of_section.ensures file (rw place is_at) ∙ ap (place_of_section file) place in
    let shown = placed-as c.args.self.now.style _ _ (place_of_section file (section_at file c.args.section)) _ true c.in_ok-end.ensures.fetches.0.same_style placed_at c.shows.ensures c.if-not-shows.false in
    rw (← c.in_ok-end.ensures.fetches.1)
    (WroteSome-as _ _ _ (section_is file _ _ _ _ c.args.section (style_of c.args.self.now.style) (c.names-names.ensures.held file belongs) some place is_at.sh_name front
    ∙ chosen-shown (placed_choice (style_of c.args.self.now.style) (place_of_section file (section_at file c.args.section)) EveryRow) _ _ _ _ _ read (unnamed-shown (style_of c.args.self.now.style) (place_of_section file (section_at file c.args.section)) _ _ true shown))
    (c.named_line.ensures.shows _ _ read)))

pub returns-then-not-shows : goal.returns-then-not-shows
returns-then-not-shows g c = ListingCalls-hidden _ _ _ _ _ _ (name_within c.names-names.result c.args.self.now.file.loaded.header.e_shstrndx c.args.self.now.style.cap.bytes c.names-names.ensures.unnamed) c.in_ok-end.ensures.fetches (λ file held.
    let belongs = c.args.self.now.loaded.belongs file held in
    let is_at = c.section-header.ensures.is_at file belongs in
    let some : 0 < e_shnum file = some_as c.requires.below belongs.count belongs.header.e_shnum in
    let place : c.place-place.result ≡ section_at file c.args.section = section_placed file c.args.section c.place-place.ensures.value belongs.header.e_shoff in
    let placed_at : c.place_of_section.result ≡ place_of_section file (section_at file c.args.section) = c.place_of_section.ensures file (rw place is_at) ∙ ap (place_of_section file) place in
    let hidden = placed-as c.args.self.now.style _ _ (place_of_section file (section_at file c.args.section)) _ false c.in_ok-end.ensures.fetches.0.same_style placed_at c.shows.ensures c.if-not-shows.true in
    rw c.in_ok-end.ensures.fetches.1
    (WroteSome-as {X = Unit {0}} _ _ (Ok tt) (section_is file _ _ _ _ c.args.section (style_of c.args.self.now.style) (c.names-names.ensures.held file belongs) some place is_at.sh_name refl
    ∙ chosen-hidden (placed_choice (style_of c.args.self.now.style) (place_of_section file (section_at file c.args.section)) EveryRow) _ _ _ _ _ (c.in_ok-end.ensures.read file held) (unnamed-shown (style_of c.args.self.now.style) (place_of_section file (section_at file c.args.section)) _ _ false hidden))
    (Whole-none _)))
