-- The bytes before the first NUL are those before the end of the loop.
use Rattle.std.proofs.Common.{sym, arith}
use Rattle.elf_format.proofs.ContentLaws.{nul_at}
use Rattle.elf_format.proofs.note_contents.before_nul.Goals as goal
use Rattle.elf_format.proofs.note_contents.before_nul.Goals.{then-loop-end-test+else-bytes-end-ne0, else-loop-end-test}

pub returns-clause-front : goal.returns-clause-front
returns-clause-front c =
    sym (nul_at c.args.bytes.now c.loop-end.end c.loop-end.invariant.within c.loop-end.invariant.others (λ less. elim c.loop-end-test.branch [
      | then-loop-end-test+else-bytes-end-ne0 w ↦ w.if-bytes-end-ne0.false
      | else-loop-end-test w ↦ absurd (omega (arith, less, w.loop-end-test.false))
    ]))
