-- The 64 bytes of the piece follow those before.
use Rattle.std.proofs.Common.{◌≡◌, ◌-◌, drop, take, ◌∙◌, ap, length, length-drop, arith}
use Rattle.std.proofs.lemmas.List.{take_all}
use Rattle.elf_source.proofs.LocatedLaws.{none_more}
use Rattle.elf_source.proofs.located_sink.front_without_newline.Goals as goal

pub loop-piece-preserved : goal.loop-piece-preserved
loop-piece-preserved c =
    let bytes = c.args.bytes.now in
    let count = c.loop-piece.count in
    let found = rw c.in-Some.is at c.first_chunk.ensures.cases in
    let all = take_all (length bytes - count) (drop count bytes) (omega (arith, length-drop count bytes)) in
    let same : c.in-Some.piece.now ≡ take 64 (drop count bytes) = found.same ∙ ap (λ xs. take 64 xs) all in
    let long = rw all at found.enough in
    record {
      within = omega (arith, long, length-drop count bytes);
      none = none_more bytes c.in-Some.piece.now count same c.loop-piece.invariant.none (λ k less. c.has_none.ensures k c.if-not-has_none.false less);
    }
