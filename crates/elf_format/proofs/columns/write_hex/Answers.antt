-- Eight digits are those of the lower half, and sixteen those of both.
use Rattle.std.proofs.Common.{◌++◌, ◌/◌, ◌%◌, ◌∙◌, ap, ap₂, append_assoc}
use Rattle.elf_model.specs.Text.{hex}
use Rattle.elf_format.proofs.Pairs.{lower_eight, sixteen}
use Rattle.elf_format.proofs.columns.write_hex.Goals as goal

pub returns-in-16-clause-items : goal.returns-in-16-clause-items
returns-in-16-clause-items c =
    let line = c.args.line.now.items in
    let high = c.put.ensures.items ∙ ap (λ xs. line ++ xs) c.hex8.ensures in
    let both = c.put-in-16.ensures.items ∙ ap₂ (λ xs ys. xs ++ ys) high c.hex8-in-16.ensures in
    let n = c.args.number in
    rw c.in-16.is
    (both ∙ append_assoc line (hex 8 (n / 4294967296)) (hex 8 (n % 4294967296)) ∙ ap (λ xs. line ++ xs) (sixteen n))

pub returns-in-8-clause-items : goal.returns-in-8-clause-items
returns-in-8-clause-items c =
    let line = c.args.line.now.items in
    rw c.in-8.is
    (c.put-in-8.ensures.items ∙ ap (λ xs. line ++ xs) (c.hex8-in-8.ensures ∙ lower_eight c.args.number))
