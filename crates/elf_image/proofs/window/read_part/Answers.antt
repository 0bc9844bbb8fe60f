use Rattle.std.proofs.Common.{◌≡◌, ◌∙◌, ◌+◌, ◌-◌, List, ℕ, ◌++◌, length, take, drop, min, replicate, ap, sym, arith, length-append, length-drop, length-take}
use Rattle.std.proofs.Math.Seq.{take-append_seam}
use borrow.Rule.Slice.PartMut.{post_of}
use Rattle.elf_model.specs.Bytes.{slice}
use Rattle.elf_image.proofs.SegmentPartSteps.{part-shown}
use Rattle.elf_image.proofs.window.read_part.Goals as goal
use Rattle.elf_image.proofs.window.read_part.Goals.{then-held-gt0+in_ok-read_bytes, else-held-gt0}

pub returns-clause-read : goal.returns-clause-read
returns-clause-read g c = λ file told small i below.
    let held : ℕ = c.min-held.result in
    let bytes : List ℕ = c.if-held-gt0.bytes in
    let few : held ≡ min (c.args.segment.size - c.args.low) (length c.args.bytes.now) = omega (arith, c.min-held.ensures, c.saturating_sub.ensures) in
    let same : length bytes ≡ length c.args.bytes.now = c.if-held-gt0.auto.bytes in
    let part : length (take held c.args.bytes.now) ≡ held = length-take held c.args.bytes.now ∙ omega (arith, few) in
    let count : length (take (length bytes - held) (drop held bytes)) ≡ length bytes - held = length-take (length bytes - held) (drop held bytes) ∙ omega (arith, length-drop held bytes) in
    let zeros : c.fill.new.self ≡ replicate (length bytes - held) 0 = c.fill.ensures.after (λ y e. e) ∙ ap (λ n. replicate n 0) count in
    let post : List ℕ = post_of held (length bytes - held) bytes in
    let front : take held bytes ≡ slice file (c.args.segment.at + c.args.low) held =
    elim c.if-held-gt0.branch [
      | then-held-gt0+in_ok-read_bytes w ↦
          let here : w.saturating_add.result ≡ c.args.segment.at + c.args.low = omega (arith, w.saturating_add.ensures, c.requires, small, few, w.if-held-gt0.true) in
          let read : w.read_bytes.new.bytes ≡ slice file (c.args.segment.at + c.args.low) held =
          w.in_ok-read_bytes.ensures.read file told small ∙ (ap (λ a. slice file a (length (take held c.args.bytes.now))) here ∙ ap (slice file (c.args.segment.at + c.args.low)) part) in
          let size : length w.read_bytes.new.bytes ≡ held = w.read_bytes.ensures.long ∙ part in
          ap (take held) w.bytes-is ∙ (ap (λ n. take n (w.read_bytes.new.bytes ++ drop held c.args.bytes.now)) (sym size) ∙ (take-append_seam w.read_bytes.new.bytes (drop held c.args.bytes.now) ∙ read))
      | else-held-gt0 w ↦
          let none : held ≡ 0 = omega (arith, w.if-held-gt0.false) in
          ap (λ n. take n bytes) none ∙ sym (ap (slice file (c.args.segment.at + c.args.low)) none)
    ] in
    let all : length (take held bytes ++ (c.fill.new.self ++ post)) ≡ length bytes = omega (arith, length-append (take held bytes) (c.fill.new.self ++ post), length-append c.fill.new.self post, length-take held bytes, c.fill.auto.self, count, length-drop (length bytes - held) (drop held bytes), length-drop held bytes, few, same) in
    part-shown file bytes c.fill.new.self post c.args.segment.at c.args.segment.size c.args.low held i (few ∙ ap (min (c.args.segment.size - c.args.low)) (sym same)) front zeros (omega (arith, below, all))
