use Rattle.std.proofs.Common.{◌≡◌, ◌≤◌, ◌++◌, ◌+◌, length, take, List, ℕ, ap, sym, ◌∙◌, arith, length-take-le}
use Rattle.std.proofs.lemmas.Slice.{take-put_mid}
use Rattle.elf_table.proofs.Pieces.{take-room}
use Rattle.elf_table.proofs.name_buf.NameBuf.add.Goals as goal

pub returns : goal.returns
returns c =
    let i = c.self.inside in
    let b = c.args.bytes.now in
    let v = c.self.view_is in
    let inv = c.self.invariant in
    let told = c.self.told in
    let long : length (take i.len i.bytes) ≡ i.len = length-take-le i.len i.bytes (omega arith) in
    let fits : length (take i.len i.bytes) ≤ c.args.cap.bytes = rw v c.requires in
    let copied = c.copy_from_slice.ensures.after in
    let count = c.min-count.ensures in
    let size : length c.copy_from_slice.new.self ≡ c.min-count.result = ap length copied ∙ length-take-le c.min-count.result b (omega arith) in
    rw (← v)
    (take-put_mid i.len _ i.bytes c.copy_from_slice.new.self (i.len + c.min-count.result) (omega arith) (omega arith)
    ∙ ap (λ (x : List ℕ). take i.len i.bytes ++ x) (copied ∙ ap (λ (n : ℕ). take n b) (omega arith))
    ∙ sym (take-room c.args.cap.bytes (take i.len i.bytes) b fits))
