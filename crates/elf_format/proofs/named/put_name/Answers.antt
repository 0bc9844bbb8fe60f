-- The bytes that are appended at once, and the others as they are escaped, are the name.
use Rattle.std.proofs.Common.{◌≡◌, ◌-◌, ◌≤◌, ◌++◌, ◌∙◌, ap, sym, arith, length, take, drop, append_assoc, length-drop}
use Rattle.std.proofs.lemmas.List.{take_all}
use Rattle.elf_format.specs.Pieces.{spelt}
use Rattle.elf_format.proofs.NameText.{spelt-plain}
use Rattle.elf_format.proofs.named.put_name.Goals as goal

pub returns : goal.returns
returns g c =
    let format = c.args.format in
    let line = c.args.line.now.items in
    let name = c.args.name.now in
    let n = c.min-plain.result in
    let few : n ≤ c.plain_bytes.result = omega (arith, c.min-plain.ensures) in
    let within : n ≤ length name = omega (arith, c.plain_bytes.ensures.within) in
    let same = spelt-plain format name n within (λ k less. c.plain_bytes.ensures.stand k (omega arith)) in
    let rest = spelt format (drop n name) in
    let whole : line ++ spelt format name ≡ c.put.new.line.items ++ rest =
    ap (λ xs. line ++ xs) same
    ∙ sym (append_assoc line (take n name) rest)
    ∙ ap (λ xs. xs ++ rest) (sym c.put.ensures.items) in
    let all = take_all (length name - n) (drop n name) (omega (arith, length-drop n name)) in
    record { puts = rw whole (rw all at c.put_escaped.ensures.puts) }
