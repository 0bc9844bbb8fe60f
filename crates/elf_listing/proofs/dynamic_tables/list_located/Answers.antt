-- The LOAD segments, then the first segment of dynamic entries.
use Rattle.elf_options.specs.Permitted.{style_of}
use Rattle.std.proofs.Common.{Ok, sym, ◌∙◌, arith}
use Rattle.std.proofs.lemmas.Result.{err_from_is_err_and}
use Rattle.elf_table.proofs.Absent.{none-of}
use Rattle.elf_hash.proofs.FoundLaws.{index_is}
use Rattle.elf_listing.proofs.LocatedShown.{dynamic_are, in_segment, no_segment, overlap_fails, viewed_whole}
use Rattle.elf_listing.proofs.RowLaws.{WroteSome-as}
use Rattle.elf_listing.proofs.ShowLaws.{Whole-none}
use Rattle.elf_listing.proofs.ListsLaws.{ListingCalls-nothing, ListingCalls-refused, ListingCalls-within}
use Rattle.elf_listing.proofs.dynamic_tables.list_located.Goals as goal

pub returns-in_err-check_overlaps : goal.returns-in_err-check_overlaps
returns-in_err-check_overlaps g c =
    let p = err_from_is_err_and c.from_residual.result c.from_residual.ensures.1 in
    rw (p.1, p.2) (ListingCalls-refused _ _ _ _ c.in_err-check_overlaps.ensures.refusal (λ file held.
    let views = viewed_whole file _ _ _ (c.args.listing.now.loaded.belongs file held) c.args.listing.now.viewed held c.requires in
    overlap_fails file (style_of c.args.listing.now.style) c.args.parts.0 _ _ (c.in_err-check_overlaps.ensures.held file views)))

pub returns-in_default : goal.returns-in_default
returns-in_default g c = ListingCalls-nothing _ _ _ _ (λ file held.
    let views = viewed_whole file _ _ _ (c.args.listing.now.loaded.belongs file held) c.args.listing.now.viewed held c.requires in
    let passed = c.in_ok-check_overlaps.ensures.held file views in
    let none = index_is file ∙ (sym (c.first_segment.ensures.first file views) ∙ none-of c.first_segment.result c.in_default.not-Some) in
    let style = style_of c.args.listing.now.style in
    WroteSome-as {X = Unit {0}} _ _ (Ok tt) (dynamic_are file style c.args.parts.0 ∙ no_segment file style c.args.parts.0 _ passed none) (Whole-none _))

pub returns : goal.returns
returns g c = ListingCalls-within _ _ _ _ _ _ _ (omega arith) c.list_segment.ensures (λ file held.
    let views = viewed_whole file _ _ _ (c.args.listing.now.loaded.belongs file held) c.args.listing.now.viewed held c.requires in
    let passed = c.in_ok-check_overlaps.ensures.held file views in
    let some = index_is file ∙ (sym (c.first_segment.ensures.first file views) ∙ c.in-Some.is) in
    let style = style_of c.args.listing.now.style in
    WroteSome-as _ _ _ (dynamic_are file style c.args.parts.0 ∙ in_segment file style c.args.parts.0 _ _ passed some) (c.list_segment.ensures.shows file held))
