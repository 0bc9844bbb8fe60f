use Rattle.elf_layout.proofs.TextSteps.{begun, newline_more, other_more, short_begun}
use Rattle.elf_layout.proofs.texts.lines_end.Goals.{then-byte-eq10, else-byte-eq10+else-line-ge-LINE_BYTES}
use Rattle.elf_layout.proofs.texts.lines_end.Goals as goal

pub loop-i-init : goal.loop-i-init
loop-i-init c = λ before within short. (begun before c.args.piece.now c.args.line.now within, short_begun before c.args.piece.now short)

pub loop-i-preserved : goal.loop-i-preserved
loop-i-preserved c = λ before within short.
    let so = c.loop-i.invariant before within short in
    elim c.if-byte-eq10.branch [
      | then-byte-eq10 w ↦ rw w.line-is (newline_more before c.args.piece.now c.loop-i.i w.if-byte-eq10.true so.1)
      | else-byte-eq10+else-line-ge-LINE_BYTES w ↦ rw w.line-is (other_more before c.args.piece.now c.loop-i.i c.loop-i.line w.if-byte-eq10.false w.if-line-ge-LINE_BYTES.false so.0 so.1)
    ]
