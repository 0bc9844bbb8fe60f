-- Without a version the line is that of the name alone.
use Rattle.elf_note.proofs.WordLaws.{none-of}
use Rattle.elf_listing.proofs.RowLaws.{WroteSome-as}
use Rattle.elf_listing.proofs.SuffixShown.{every-row}
use Rattle.elf_listing.proofs.listing.Listing.suffixed_line.Goals as goal

pub returns-in_default : goal.returns-in_default
returns-in_default g c =
    let e = c.named_line.ensures in
    rw (none-of _ c.in_default.not-Some)
    (record { grows = e.grows; keeps = e.keeps; spent = e.spent; shows = λ at answer read. WroteSome-as _ _ _ (every-row _ at answer) (e.shows at answer read) })
