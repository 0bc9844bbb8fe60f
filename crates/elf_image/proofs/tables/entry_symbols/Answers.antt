-- Without entries there are no symbols.
use Rattle.std.proofs.Common.{◌≡◌, ◌==◌, ◌||◌, not, true, refl, sym, ◌∙◌}
use Rattle.elf_image.proofs.TableSteps.{with_entries, without_entries}
use Rattle.elf_image.proofs.tables.entry_symbols.Goals as goal
use Rattle.elf_image.proofs.tables.entry_symbols.Goals.{else-not-has_rows-via-then-not-has_rows+else-not-has_rows-2, else-not-has_rows-via-else-not-has_rows}

pub returns-then-not-has_rows-2-clause-symbols : goal.returns-then-not-has_rows-2-clause-symbols
returns-then-not-has_rows-2-clause-symbols c = λ file at views addends calls row.
    without_entries file at c.args.addends.now c.args.calls.now addends calls (sym c.has_rows.ensures ∙ c.if-not-has_rows.true) (sym c.has_rows-then-not-has_rows.ensures ∙ c.if-not-has_rows-2.true)

pub returns-clause-symbols : goal.returns-clause-symbols
returns-clause-symbols c = λ file at views addends calls row.
    let some : (not (c.args.addends.now.rows.count == 0) || not (c.args.calls.now.rows.count == 0)) ≡ true =
    elim c.else-not-has_rows.branch [
      | else-not-has_rows-via-then-not-has_rows+else-not-has_rows-2 w ↦
          let none = sym c.has_rows.ensures ∙ w.if-not-has_rows.true in
          let here = sym w.has_rows-then-not-has_rows.ensures ∙ w.if-not-has_rows-2.false in
          rw (none, here) refl
      | else-not-has_rows-via-else-not-has_rows w ↦ let here = sym c.has_rows.ensures ∙ w.if-not-has_rows.false in rw here refl
    ] in
    with_entries file at c.args.addends.now c.args.calls.now addends calls some c.checked_symbols.result (c.checked_symbols.ensures.symbols file at views row)
