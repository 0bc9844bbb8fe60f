use Rattle.std.proofs.Common.{◌≡◌, ◌∙◌, ◌-◌, List, ℕ, [], ◌∷◌, length, take, min, refl, arith, length-take}
use borrow.Rule.Slice.PartMut.{post_of}
use Rattle.elf_model.specs.Bytes.{slice}
use Rattle.elf_image.proofs.SegmentPartSteps.{edge-shown}
use Rattle.elf_image.proofs.window.ImageWindow.read.Goals as goal

pub returns-clause-shows : goal.returns-clause-shows
returns-clause-shows g c = λ file held small.
    let base : List ℕ = slice file c.args.segment.at c.args.segment.size in
    let edge : ℕ = c.min-edge.result in
    let is : edge ≡ min 7 c.args.low = c.min-edge.ensures in
    let zeros : List ℕ = 0 ∷ 0 ∷ 0 ∷ 0 ∷ 0 ∷ 0 ∷ 0 ∷ [] in
    let first = c.read_part.ensures.keeps in
    let second = c.read_part-2.ensures.keeps in
    let told = first.same_file ∙ held in
    let whole = second.same_file ∙ told in
    let front : length (take (7 - edge) zeros) ≡ 7 - edge = length-take (7 - edge) zeros ∙ omega arith in
    let long : length c.read_part.new.bytes ≡ edge = c.read_part.ensures.long ∙ omega (arith, is, length-take {A = ℕ}) in
    let after = c.in_ok-read_part-3.ensures.read file whole (omega (arith, first.same_size, second.same_size, small)) in
    record {
      start = refl;
      bytes = c.in_ok-read_part-2.ensures.read file told (omega (arith, first.same_size, small));
      edges = record {
        before = λ i below least. edge-shown base (take (7 - edge) zeros) c.read_part.new.bytes (post_of (7 - edge) (7 - (7 - edge)) zeros) c.args.low edge i front long is (c.in_ok-read_part.ensures.read file held small) below least;
        after = rw c.read_part-2.ensures.long (λ i below. after i (omega (arith, c.read_part-3.ensures.long, below)));
      };
    }
