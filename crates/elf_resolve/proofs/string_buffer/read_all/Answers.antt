-- One piece of a file's bytes is read more.
use Rattle.std.proofs.Common.{◌≡◌, ◌∙◌, ◌+◌, ◌-◌, ◌≤◌, List, ℕ, length, take, drop, ap, arith, length-drop, length-take}
use borrow.Rule.Slice.PartMut.{put_mid, same_len_mid}
use Rattle.elf_model.specs.Bytes.{slice}
use Rattle.elf_source.proofs.ReadsLaws.{KeepsSource-then}
use Rattle.elf_resolve.proofs.StringBufferLaws.{piece_read}
use Rattle.elf_resolve.proofs.string_buffer.read_all.Goals as goal

pub loop-done-preserved : goal.loop-done-preserved
loop-done-preserved g c =
    let known = c.loop-done.invariant in
    let out : List ℕ = c.loop-done.out in
    let done : ℕ = c.loop-done.done in
    let count : ℕ = c.min-count.result in
    let piece : List ℕ = c.read_piece.new.out in
    let few : count ≤ length out - done = omega (arith, c.min-count.ensures) in
    let part : length (take (done + count - done) (drop done out)) ≡ count = length-take (done + count - done) (drop done out) ∙ omega (arith, length-drop done out, few) in
    let long : length piece ≡ count = c.read_piece.auto.out ∙ part in
    let same : length (put_mid done (done + count - done) out piece) ≡ length out = same_len_mid done (done + count - done) out piece c.read_piece.auto.out in
    record {
      in_range = omega (arith, same, few);
      keeps = KeepsSource-then known.keeps c.read_piece.ensures.keeps;
      most = c.read_piece.ensures.most ∙ known.most;
      reads = λ file held.
          let read = c.in_ok-read_piece.ensures.reads file (known.keeps.same_file ∙ held) in
          let size : length file ≡ c.args.src.now.seen.size = c.args.src.now.seen.sized file held in
          let inside : c.saturating_add-place.result + count ≤ length file = omega (arith, part, read.0, c.min-count.ensures, c.loop-done-test.true) in
          let here : c.saturating_add-place.result ≡ c.args.at + done = omega (arith, c.saturating_add-place.ensures, inside, size, known.keeps.same_size, c.read_piece.ensures.fits, c.min-count.ensures, c.loop-done-test.true) in (
            λ some. omega (arith, inside, here),
            piece_read file out piece c.args.at done count (done + count - done) known.in_range (known.reads file held).1 long
                (read.1 ∙ (ap (λ a. slice file a (length (take (done + count - done) (drop done out)))) here ∙ ap (slice file (c.args.at + done)) part)),
          );
    }
