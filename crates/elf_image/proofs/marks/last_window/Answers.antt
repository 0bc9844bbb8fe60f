use Rattle.std.proofs.Common.{◌≡◌, ◌+◌, ◌-◌, ◌/◌, refl, arith}
use Rattle.elf_image.proofs.MarkSteps.{one-window}
use Rattle.elf_image.proofs.marks.last_window.Goals as goal

pub returns-then-width-size : goal.returns-then-width-size
returns-then-width-size c =
    let one = one-window c.args.offset c.args.width c.args.size c.requires.some c.requires.wide c.if-width-size.true in
    omega (arith, one, c.min.ensures)

pub returns : goal.returns
returns c =
    let end : (c.from.result + c.from-2.result) / c.from-3.result ≡ (c.args.offset + (c.args.width - 1)) / c.args.size = rw (c.from.ensures, c.from-2.ensures, c.from-3.ensures) refl in
    omega (arith, c.min-2.ensures, end)
