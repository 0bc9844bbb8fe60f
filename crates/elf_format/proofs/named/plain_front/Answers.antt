-- The sixteen bytes of the piece follow those before.
use Rattle.std.proofs.Common.{◌≡◌, ◌-◌, drop, take, ◌∙◌, ap, length, length-drop, arith}
use Rattle.std.proofs.lemmas.List.{take_all}
use Rattle.elf_format.proofs.NameText.{stand_more}
use Rattle.elf_format.proofs.named.plain_front.Goals as goal

pub loop-piece-preserved : goal.loop-piece-preserved
loop-piece-preserved c =
    let name = c.args.name.now in
    let count = c.loop-piece.count in
    let found = rw c.in-Some.is at c.first_chunk.ensures.cases in
    let all = take_all (length name - count) (drop count name) (omega (arith, length-drop count name)) in
    let same : c.in-Some.piece.now ≡ take 16 (drop count name) = found.same ∙ ap (λ xs. take 16 xs) all in
    let long = rw all at found.enough in
    record {
      within = omega (arith, long, length-drop count name);
      stand = stand_more c.args.format name c.in-Some.piece.now count same c.loop-piece.invariant.stand (λ k less. c.are_plain.ensures c.args.format k c.if-not-are_plain.false less);
    }
