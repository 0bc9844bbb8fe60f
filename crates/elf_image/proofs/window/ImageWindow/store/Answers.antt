use Rattle.std.proofs.Common.{rules, ◌≡◌, ◌∙◌, ◌+◌, ◌%◌, ◌^◌, List, ℕ, length, ap, subst, arith}
use Rattle.elf_model.specs.Bytes.{field, little}
use Rattle.elf_model.proofs.ChangeLaws.{length-little}
use Rattle.elf_image.specs.SegmentParts.{PutsBytes}
use Rattle.elf_image.proofs.WindowSteps.{puts-two, puts-word}
use Rattle.elf_image.proofs.window.ImageWindow.store.Goals as goal

pub returns-in-Based-clause-based : goal.returns-in-Based-clause-based
unfolding little
returns-in-Based-clause-based c = λ whole is meets.
    let offset : ℕ = c.args.change.now.place.offset in
    let word : ℕ → List ℕ = λ (w : ℕ). little 8 ((w + c.args.base) % 2 ^ 64) in
    let stored : c.to_le_bytes.result ≡ word c.word-word.result = search rules in
    let long : length c.to_le_bytes.result ≡ 8 = ap (length {A = ℕ}) stored ∙ length-little 8 ((c.word-word.result + c.args.base) % 2 ^ 64) in
    puts-word c.args.self.now c.put.new.self offset c.to_le_bytes.result (word (field whole offset 8)) long (length-little 8 ((field whole offset 8 + c.args.base) % 2 ^ 64)) c.put.ensures.puts
    (λ from to. stored ∙ ap word (c.word-word.ensures whole (meets from to)))

pub returns-in-Pair-clause-given : goal.returns-in-Pair-clause-given
unfolding little
returns-in-Pair-clause-given c = λ given.
    let offset : ℕ = c.args.change.now.place.offset in
    let old = c.args.self.now in
    let mid = c.put-in-Pair.new.self in
    let new = c.put-in-Pair-2.new.self in
    let first : c.to_le_bytes-in-Pair.result ≡ little 8 c.in-Pair.first = search rules in
    let second : c.to_le_bytes-in-Pair-2.result ≡ little 8 c.in-Pair.second = search rules in
    let one : PutsBytes old mid offset (little 8 c.in-Pair.first) = subst (λ bytes. PutsBytes old mid offset bytes) first c.put-in-Pair.ensures.puts in
    let two : PutsBytes mid new c.saturating_add.result (little 8 c.in-Pair.second) = subst (λ bytes. PutsBytes mid new c.saturating_add.result bytes) second c.put-in-Pair-2.ensures.puts in
    let all = puts-two old mid new offset c.saturating_add.result (little 8 c.in-Pair.first) (little 8 c.in-Pair.second) c.put-in-Pair.ensures.edges one two
    (λ fits. omega (arith, c.saturating_add.ensures, fits, length-little 8 c.in-Pair.first)) in
    rw c.in-Pair.is all
