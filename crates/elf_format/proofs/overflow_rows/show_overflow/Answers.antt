-- The line with the name, or the prefix of one.
use Rattle.std.proofs.Common.{rules, ◌≡◌, ◌==◌, ◌∙◌, ap, List, ℕ, ◌++◌, codes, true, false, length}
use Rattle.elf_model.specs.Prelude.{unfit_text}
use Rattle.elf_format.proofs.OverflowText.{line_named, line_unnamed}
use Rattle.elf_format.proofs.overflow_rows.show_overflow.Goals as goal
use Rattle.elf_format.proofs.overflow_rows.show_overflow.Goals.{else-is_empty-via-then-is_empty+else-not-is_cut, else-is_empty-via-else-is_empty}

pub returns : goal.returns
returns g c =
    let some : c.args.is_cut ≡ false → (length c.args.name.now == 0) ≡ false =
    elim c.else-is_empty.branch [
      | else-is_empty-via-then-is_empty+else-not-is_cut w ↦ λ whole. search rules
      | else-is_empty-via-else-is_empty w ↦ λ whole. search rules
    ] in
    let front = c.put-2.ensures.items ∙ ap (λ (xs : List ℕ). xs ++ codes " against symbol `") c.truncated_text-line.ensures.text in
    let tail = c.deref-2.ensures.0 ∙ (c.put_unfit-2.ensures.items ∙ ap (λ (xs : List ℕ). xs ++ unfit_text c.args.overflowed.value) c.line_of-tail.ensures.items) in
    record { puts = rw (line_named c.args.overflowed c.args.name.now c.args.is_cut some) (rw (front, tail) at c.show_around.ensures.puts) }
