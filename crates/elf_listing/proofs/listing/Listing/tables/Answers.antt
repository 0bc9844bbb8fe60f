-- The parts one after the other.
use Rattle.elf_options.specs.Prelude.{style_of}
use Rattle.elf_options.specs.declared.caps.ListingStyle.{ListingStyle}
use Rattle.std.proofs.Common.{ℕ, ◌+◌, List}
use Rattle.std.proofs.lemmas.Result.{err_from_is_err_and}
use Rattle.elf_model.specs.Prelude.{ListingItem, symbol_versions}
use Rattle.elf_table.specs.declared.file.SectionView.{SectionView}
use Rattle.elf_listing.specs.Prelude.{first_kinds, kinds_listed, located_asked, of_sections, record_kinds, sections_listed, segments_listed, segments_parts}
use Rattle.elf_listing.proofs.FileShown.{segment_part, tables_are}
use Rattle.elf_listing.proofs.PartsLaws.{Parts-as, Parts-more, Parts-then, cost_asked, cost_of_kinds, items_asked, items_of_kinds, records_listed}
use Rattle.elf_listing.proofs.listing.Listing.tables.Goals as goal

-- what the program headers and what dynamic entries locate read, and their items; and those of the first kinds, as the style says
abbrev segments_cost : ℕ → SectionView → ListingStyle → ℕ
segments_cost parts f style = segments_listed parts f.loaded + located_asked (style_of style) parts f.loaded

abbrev segments_shown : ℕ → SectionView → ListingStyle → List ℕ → List ListingItem
segments_shown parts f style file = segment_part file (style_of style) parts

abbrev first_cost : ℕ → SectionView → ListingStyle → ℕ
first_cost parts f style = cost_of_kinds parts (sections_listed (first_kinds style.gnu style.versions)) f style

abbrev first_items : ℕ → SectionView → ListingStyle → List ℕ → List ListingItem
first_items parts f style file = items_of_kinds parts (sections_listed (first_kinds style.gnu style.versions)) f style file

pub returns-in_err-list_kind : goal.returns-in_err-list_kind
returns-in_err-list_kind g c =
    let p = err_from_is_err_and c.from_residual.result c.from_residual.ensures.1 in
    rw (p.1, p.2)
    (Parts-as (λ file held. tables_are file _ _ _ _ (c.args.self.now.loaded.belongs file held) c.requires)
    (Parts-more _ _ _ (Parts-more _ _ _ (Parts-more _ _ _ (Parts-more _ _ _ (Parts-more _ _ _ c.in_err-list_kind.ensures))))))

pub returns-in_err-view_headers : goal.returns-in_err-view_headers
returns-in_err-view_headers g c =
    let p = err_from_is_err_and c.from_residual-in_err-view_headers.result c.from_residual-in_err-view_headers.ensures.1 in
    rw (p.1, p.2)
    (Parts-as (λ file held. tables_are file _ _ _ _ (c.args.self.now.loaded.belongs file held) c.requires)
    (Parts-more _ _ _ (Parts-more _ _ _ (Parts-more _ _ _ (Parts-more _ _ _ (Parts-then _ (segments_cost c.args.parts.0) (segments_shown c.args.parts.0) c.in_ok-list_kind.ensures c.in_err-view_headers.ensures))))))

pub returns-in_err-list : goal.returns-in_err-list
unfolding kinds_listed
returns-in_err-list g c =
    let p = err_from_is_err_and c.from_residual-in_err-list.result c.from_residual-in_err-list.ensures.1 in
    let second = Parts-then _ (segments_cost c.args.parts.0) (segments_shown c.args.parts.0) c.in_ok-list_kind.ensures c.in_ok-view_headers.ensures in
    rw (p.1, p.2)
    (Parts-as (λ file held. tables_are file _ _ _ _ (c.args.self.now.loaded.belongs file held) c.requires)
    (Parts-more _ _ _ (Parts-more _ _ _ (Parts-more _ _ _ (Parts-then _ (first_cost c.args.parts.0) (first_items c.args.parts.0) second c.in_err-list.ensures)))))

pub returns-in_err-list-2 : goal.returns-in_err-list-2
unfolding kinds_listed
returns-in_err-list-2 g c =
    let p = err_from_is_err_and c.from_residual-in_err-list-2.result c.from_residual-in_err-list-2.ensures.1 in
    let parts = c.args.parts.0 in
    let second = Parts-then _ (segments_cost parts) (segments_shown parts) c.in_ok-list_kind.ensures c.in_ok-view_headers.ensures in
    let third = Parts-then _ (first_cost parts) (first_items parts) second c.in_ok-list.ensures in
    rw (p.1, p.2)
    (Parts-as (λ file held. tables_are file _ _ _ _ (c.args.self.now.loaded.belongs file held) c.requires)
    (Parts-more _ _ _ (Parts-more _ _ _ (Parts-then _ (cost_of_kinds parts segments_parts) (items_of_kinds parts segments_parts) third c.in_err-list-2.ensures))))

pub returns-in_err-list-3 : goal.returns-in_err-list-3
unfolding kinds_listed
returns-in_err-list-3 g c =
    let p = err_from_is_err_and c.from_residual-in_err-list-3.result c.from_residual-in_err-list-3.ensures.1 in
    let parts = c.args.parts.0 in
    let second = Parts-then _ (segments_cost parts) (segments_shown parts) c.in_ok-list_kind.ensures c.in_ok-view_headers.ensures in
    let third = Parts-then _ (first_cost parts) (first_items parts) second c.in_ok-list.ensures in
    let fourth = Parts-then _ (cost_of_kinds parts segments_parts) (items_of_kinds parts segments_parts) third c.in_ok-list-2.ensures in
    rw (p.1, p.2)
    (Parts-as (λ file held. tables_are file _ _ _ _ (c.args.self.now.loaded.belongs file held) c.requires)
    (Parts-more _ _ _ (Parts-then _ (cost_of_kinds parts (sections_listed record_kinds)) (items_of_kinds parts (sections_listed record_kinds)) fourth c.in_err-list-3.ensures)))

pub list_kind-requires-2 : goal.list_kind-requires-2
unfolding kinds_listed
list_kind-requires-2 g c = records_listed c.args.parts.0 c.in_ok-list-3.ensures

pub returns : goal.returns
unfolding kinds_listed
returns g c =
    let parts = c.args.parts.0 in
    let second = Parts-then _ (segments_cost parts) (segments_shown parts) c.in_ok-list_kind.ensures c.in_ok-view_headers.ensures in
    let third = Parts-then _ (first_cost parts) (first_items parts) second c.in_ok-list.ensures in
    let fourth = Parts-then _ (cost_of_kinds parts segments_parts) (items_of_kinds parts segments_parts) third c.in_ok-list-2.ensures in
    let fifth = Parts-then _ (cost_of_kinds parts (sections_listed record_kinds)) (items_of_kinds parts (sections_listed record_kinds)) fourth c.in_ok-list-3.ensures in
    Parts-as (λ file held. tables_are file _ _ _ _ (c.args.self.now.loaded.belongs file held) c.requires)
    (Parts-then _ (cost_asked parts (of_sections symbol_versions)) (items_asked parts (of_sections symbol_versions)) fifth c.list_kind-2.ensures)
