use Rattle.std.proofs.Common.{◌≡◌, ◌+◌, ◌*◌, ◌≤◌, length, refl, ap, arith}
use Rattle.elf_resolve.proofs.IndexLaws.{enough_for, too_many}
use Rattle.elf_resolve.proofs.IndexParts.{count_read, parts_held}
use Rattle.elf_resolve.proofs.StringBufferLaws.{held_size}
use Rattle.elf_resolve.proofs.archive_index.parts_of.Goals as goal

pub returns-then-count-left : goal.returns-then-count-left
returns-then-count-left c = λ bytes held small.
    let width = c.args.width in
    let sized = held_size c.args.strings.now.bytes c.args.index bytes held in
    let enough : width ≤ length bytes = omega (arith, sized, c.if-index-width.false) in
    let count = count_read bytes c.bytes.result.now width c.number_at-count.result enough (c.bytes.ensures bytes held) c.number_at-count.ensures in
    let over = too_many c.args.index.size width c.number_at-count.result c.requires.0 c.if-index-width.false c.if-count-left.true in
    rw c.refused-then-count-left.ensures (omega (arith, over, sized, ap (λ n. width * (n + 1)) count), refl)

pub returns : goal.returns
returns c = λ bytes held small.
    let width = c.args.width in
    let sized = held_size c.args.strings.now.bytes c.args.index bytes held in
    let enough : width ≤ length bytes = omega (arith, sized, c.if-index-width.false) in
    let count = count_read bytes c.bytes.result.now width c.number_at-count.result enough (c.bytes.ensures bytes held) c.number_at-count.ensures in
    let all = enough_for c.args.index.size width c.number_at-count.result c.requires.0 c.if-index-width.false c.if-count-left.false in
    let size : c.saturating_mul-size.result ≡ width * c.number_at-count.result = omega (arith, c.saturating_mul-size.ensures, all, sized, small) in
    let start : c.saturating_add-start.result ≡ c.args.index.start + width = omega (arith, c.saturating_add-start.ensures, held.fits, sized, enough) in (
      refl,
      parts_held c.args.strings.now.bytes bytes c.args.index c.args.at _ held small (omega (arith, all, sized)) count
          (omega (arith, c.saturating_add.ensures, small, enough)) start size
          (omega (arith, c.saturating_add-2.ensures, start, size, all, held.fits, sized))
          (omega (arith, c.saturating_sub.ensures, size, all, sized)),
    )
