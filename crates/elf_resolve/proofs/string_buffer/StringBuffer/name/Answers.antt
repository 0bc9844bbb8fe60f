-- The name at an index of a table that is held.
use Rattle.std.proofs.Common.{◌≡◌, drop, sym, subst, ap, ◌∙◌, arith}
use Rattle.std.proofs.lemmas.Bool.Decides.{nat_tests}
use Rattle.elf_resolve.specs.StringBuffers.{FindsText}
use Rattle.elf_resolve.proofs.StringBufferLaws.{name_empty, name_found, name_outside, name_unended}
use Rattle.elf_resolve.proofs.string_buffer.StringBuffer.name.Goals as goal
use Rattle.elf_resolve.proofs.string_buffer.StringBuffer.name.Goals.{else-table-eq0-via-then-table-eq0+else-index-eq0, else-table-eq0-via-else-table-eq0}

pub returns-then-index-eq0 : goal.returns-then-index-eq0
returns-then-index-eq0 c = λ strings held. name_empty _ strings c.args.table c.args.index c.args.at held c.if-table-eq0.true c.if-index-eq0.true

pub returns-then-is_empty : goal.returns-then-is_empty
returns-then-is_empty c = λ strings held.
    let other : c.args.table.size ≡ 0 → c.args.index ≡ 0 → ⊥ = λ none first. elim c.else-table-eq0.branch [
      | else-table-eq0-via-then-table-eq0+else-index-eq0 w ↦ w.if-index-eq0.false first
      | else-table-eq0-via-else-table-eq0 w ↦ w.if-table-eq0.false none
    ] in
    subst (FindsText c.args.self.now.bytes strings c.args.index c.args.at) (sym c.file_refused.ensures)
    (name_outside _ strings c.args.table c.args.index c.args.at c.after-rest.result.now held other (c.after-rest.ensures ∙ ap (drop c.args.index) (c.bytes.ensures strings held)) (grind (arith, nat_tests, c.is_empty.ensures, c.if-is_empty.true)))

pub returns-in-Some : goal.returns-in-Some
returns-in-Some c = λ strings held.
    name_found _ strings c.args.table c.args.index c.args.at c.saturating_add.result c.in-Some.size c.after-rest.result.now held
    (c.after-rest.ensures ∙ ap (drop c.args.index) (c.bytes.ensures strings held)) (c.find_nul.ensures.first ∙ c.in-Some.is) c.in-Some.ensures.below c.saturating_add.ensures

pub returns-in-None : goal.returns-in-None
returns-in-None c = λ strings held.
    subst (FindsText c.args.self.now.bytes strings c.args.index c.args.at) (sym c.file_refused-in-None.ensures)
    (name_unended _ strings c.args.table c.args.index c.args.at c.after-rest.result.now held (c.after-rest.ensures ∙ ap (drop c.args.index) (c.bytes.ensures strings held))
    (grind (arith, nat_tests, c.is_empty.ensures, c.if-is_empty.false)) (c.find_nul.ensures.first ∙ c.in-None.is))
