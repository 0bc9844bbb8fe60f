use Rattle.std.proofs.Common.{◌≡◌, ◌∙◌, ◌+◌, sym, arith, true, false}
use Rattle.elf_image.proofs.MarkSteps.{marked-more, marked-none}
use Rattle.elf_image.proofs.marks.WindowMarks.marked.Goals as goal
use Rattle.elf_image.proofs.marks.WindowMarks.marked.Goals.{then-is_marked, else-is_marked}

pub loop-window-init : goal.loop-window-init
loop-window-init c = record { few = omega arith; value = marked-none _ }

pub loop-window-preserved : goal.loop-window-preserved
loop-window-preserved c =
    elim c.if-is_marked.branch [
      | then-is_marked w ↦
          let more = marked-more c.args.self.now.met c.loop-window.window (c.loop-window.window + 1) true (omega arith) (sym w.if-is_marked.true ∙ c.is_marked.ensures) in
          record { few = omega arith; value = omega (arith, more, c.loop-window.invariant.value) }
      | else-is_marked w ↦
          let more = marked-more c.args.self.now.met c.loop-window.window (c.loop-window.window + 1) false (omega arith) (sym w.if-is_marked.false ∙ c.is_marked.ensures) in
          record { few = omega arith; value = omega (arith, more, c.loop-window.invariant.value) }
    ]

pub returns-clause-value : goal.returns-clause-value
returns-clause-value c = let e : c.loop-window.window ≡ c.args.count = omega arith in rw (← e) c.loop-window.invariant.value
