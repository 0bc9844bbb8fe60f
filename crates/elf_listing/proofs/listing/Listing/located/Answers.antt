-- Tables are located if the style follows dynamic entries and a part has them.
use Rattle.std.proofs.Common.{Ok, sym, ◌∙◌, arith}
use Rattle.elf_options.specs.Permitted.{style_of}
use Rattle.elf_listing.proofs.LocatedShown.{asked_by, items_asked, items_none, located_whole}
use Rattle.elf_listing.proofs.ListsLaws.{ListingCalls-nothing, ListingCalls-within}
use Rattle.elf_listing.proofs.RowLaws.{WroteSome-as}
use Rattle.elf_listing.proofs.ShowLaws.{Whole-none}
use Rattle.elf_listing.proofs.listing.Listing.located.Goals as goal

pub returns-then-not-is_located : goal.returns-then-not-is_located
returns-then-not-is_located g c = ListingCalls-nothing _ _ _ _ (λ file held.
    let belongs = c.args.self.now.loaded.belongs file held in
    let style = style_of c.args.self.now.style in
    let none = asked_by file style c.args.parts.0 _ _ belongs ∙ (sym c.is_located.ensures ∙ c.if-not-is_located.true) in
    WroteSome-as {X = Unit {0}} _ _ (Ok tt) (items_none file style c.args.parts.0 none) (Whole-none _))

pub list_located-requires : goal.list_located-requires
list_located-requires g c =
    c.requires ∙ located_whole (style_of c.args.self.now.style) c.args.parts.0 c.args.self.now.file.loaded (sym c.is_located.ensures ∙ c.if-not-is_located.false)

pub returns : goal.returns
returns g c =
    let asked = sym c.is_located.ensures ∙ c.if-not-is_located.false in
    rw asked
    (ListingCalls-within _ _ _ _ _ _ _ (omega arith) c.list_located.ensures (λ file held.
    let belongs = c.args.self.now.loaded.belongs file held in
    let style = style_of c.args.self.now.style in
    WroteSome-as _ _ _ (items_asked file style c.args.parts.0 (asked_by file style c.args.parts.0 _ _ belongs ∙ asked)) (c.list_located.ensures.shows file held)))
