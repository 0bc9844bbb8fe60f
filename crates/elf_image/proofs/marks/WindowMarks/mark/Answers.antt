use Rattle.std.proofs.Common.{◌∙◌, arith}
use Rattle.elf_image.proofs.MarkSteps.{marked-as, marks-meet}
use Rattle.elf_image.proofs.marks.WindowMarks.mark.Goals as goal

pub returns : goal.returns
returns c = λ k few.
    let last = c.last_window-last.ensures in
    let known = c.loop-window.invariant in
    marked-as _ _ k _ few (known.marked k few ∙ marks-meet c.args.offset c.args.width c.args.size c.last_window-last.result c.loop-window.window k _ (omega arith) (omega arith) few last known.begun known.most (omega arith))
