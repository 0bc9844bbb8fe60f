-- The part is listed if it is asked for.
use Rattle.std.proofs.Common.{Ok, sym, ◌∙◌, arith}
use Rattle.elf_model.specs.Prelude.{RELOCS}
use Rattle.elf_listing.proofs.ListsLaws.{ListingCalls-nothing, ListingCalls-within}
use Rattle.elf_listing.proofs.LocatedShown.{part_asked, part_none}
use Rattle.elf_listing.proofs.RowLaws.{WroteSome-as}
use Rattle.elf_listing.proofs.ShowLaws.{Whole-none}
use Rattle.elf_listing.proofs.dynamic_tables.list_asked_relocations.Goals as goal

pub returns-then-not-contains : goal.returns-then-not-contains
returns-then-not-contains g c = ListingCalls-nothing _ _ _ _ (λ file held.
    WroteSome-as {X = Unit {0}} _ _ (Ok tt) (part_none c.args.parts.0 RELOCS _ (sym (c.contains.ensures tt) ∙ c.if-not-contains.true)) (Whole-none _))

pub returns : goal.returns
returns g c =
    let asked = sym (c.contains.ensures tt) ∙ c.if-not-contains.false in
    rw asked
    (ListingCalls-within _ _ _ _ _ _ _ (omega arith) c.list_relocations.ensures (λ file held.
    WroteSome-as _ _ _ (part_asked c.args.parts.0 RELOCS _ asked) (c.list_relocations.ensures.shows file held)))
