-- The part of the cell from the column's first byte, or from the number's first digit, is the
-- column.
use Rattle.std.proofs.Common.{◌≡◌, ◌-◌, ◌≤◌, ◌++◌, ◌∙◌, ap, sym, arith, length, decimal, append_assoc, ◌∷◌, []}
use Rattle.elf_model.specs.Text.{right_in}
use Rattle.elf_format.proofs.Decimals.{cell_part}
use Rattle.elf_format.proofs.columns.put_right.Goals as goal

pub returns-then-start-first-clause-items : goal.returns-then-start-first-clause-items
returns-then-start-first-clause-items c =
    let cell = c.write_cell-start in
    let few : cell.result ≤ 20 = omega (arith, cell.ensures.start) in
    let inside : 20 - c.args.width ≤ cell.result = omega (arith, c.if-start-first.true) in
    let same : cell.result - (20 - c.args.width) ≡ c.args.width - length (decimal c.args.number) = omega (arith, cell.ensures.start, c.requires.width, inside) in
    c.put.ensures.items
    ∙ ap (λ xs. c.args.line.now.items ++ xs) (cell_part cell.new.cell (20 - c.args.width) cell.result c.args.width c.args.end c.args.number cell.ensures.text inside few same)
    ∙ sym (append_assoc c.args.line.now.items (right_in c.args.width (decimal c.args.number)) (c.args.end ∷ []))

pub returns-else-start-first-clause-items : goal.returns-else-start-first-clause-items
returns-else-start-first-clause-items c =
    let cell = c.write_cell-start in
    let few : cell.result ≤ 20 = omega (arith, cell.ensures.start) in
    let inside : cell.result ≤ cell.result = omega arith in
    let same : cell.result - cell.result ≡ c.args.width - length (decimal c.args.number) = omega (arith, cell.ensures.start, c.requires.width, c.if-start-first.false) in
    c.put-else-start-first.ensures.items
    ∙ ap (λ xs. c.args.line.now.items ++ xs) (cell_part cell.new.cell cell.result cell.result c.args.width c.args.end c.args.number cell.ensures.text inside few same)
    ∙ sym (append_assoc c.args.line.now.items (right_in c.args.width (decimal c.args.number)) (c.args.end ∷ []))
