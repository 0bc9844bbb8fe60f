-- A word is an address, a bitmap that an address precedes, or one that none does.
use Rattle.std.proofs.Common.{ap, ◌∙◌}
use Rattle.elf_options.specs.Permitted.{style_of}
use Rattle.elf_model.specs.Prelude.{word_rows}
use Rattle.elf_note.proofs.WordLaws.{none-of}
use Rattle.elf_listing.proofs.PartsLaws.{Parts-as}
use Rattle.elf_listing.proofs.RelativeShown.{address_word, bitmap_refused, bitmap_word, odd_is, refused_word}
use Rattle.elf_listing.proofs.relative_relocations.word_rows.Goals as goal

pub returns-then-word-eq0 : goal.returns-then-word-eq0
returns-then-word-eq0 g c =
    let word = c.args.word.now in
    Parts-as (λ file held. address_word file (style_of c.args.listing.now.style) word.section word.at word.word c.args.base c.if-word-eq0.true)
    (rw c.from.ensures at c.address_row.ensures)

pub returns-in_default : goal.returns-in_default
returns-in_default g c =
    let word = c.args.word.now in
    let style = style_of c.args.listing.now.style in
    refused_word c.args.listing.now word.at (λ file. word_rows file style word.section word.at c.args.base word.word) (λ file.
    ap (λ base. word_rows file style word.section word.at base word.word) (none-of _ c.in_default.not-Some)
    ∙ bitmap_refused file style word.section word.at word.word (odd_is _ c.if-word-eq0.false))

pub returns : goal.returns
returns g c =
    let word = c.args.word.now in
    let style = style_of c.args.listing.now.style in
    Parts-as (λ file held.
    ap (λ base. word_rows file style word.section word.at base word.word) c.in-Some.is
    ∙ bitmap_word file style word.section word.at c.in-Some.address word.word (odd_is _ c.if-word-eq0.false))
    c.bit_rows.ensures
