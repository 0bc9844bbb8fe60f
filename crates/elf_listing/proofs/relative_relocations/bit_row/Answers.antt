-- A bit that is not set has no row.
use Rattle.std.proofs.Common.{Ok}
use Rattle.elf_options.specs.Permitted.{style_of}
use Rattle.elf_listing.proofs.ListsLaws.{ListingCalls-nothing}
use Rattle.elf_listing.proofs.PartsLaws.{Parts-as}
use Rattle.elf_listing.proofs.RelativeShown.{bit_none, bit_set, odd_is}
use Rattle.elf_listing.proofs.RowLaws.{WroteSome-as}
use Rattle.elf_listing.proofs.ShowLaws.{Whole-none}
use Rattle.elf_listing.proofs.relative_relocations.bit_row.Goals as goal

pub returns-then-word-bit-eq0 : goal.returns-then-word-bit-eq0
returns-then-word-bit-eq0 g c = ListingCalls-nothing _ _ _ _ (λ file held.
    let word = c.args.word.now in
    WroteSome-as {X = Unit {0}} _ _ (Ok tt) (bit_none file (style_of c.args.listing.now.style) word.section word.at c.args.base word.word c.args.bit c.if-word-bit-eq0.true) (Whole-none _))

pub returns : goal.returns
returns g c =
    let word = c.args.word.now in
    Parts-as (λ file held. bit_set file (style_of c.args.listing.now.style) word.section word.at c.args.base word.word c.args.bit (odd_is _ c.if-word-bit-eq0.false))
    (rw c.from.ensures at c.address_row.ensures)
