-- By the entry of text relocations, or by the flag.
use Rattle.std.proofs.Common.{refl, sym, ◌∙◌}
use Rattle.elf_image.proofs.ToldSteps.{text_by}
use Rattle.elf_image.proofs.changes.has_text_relocations.Goals as goal

pub returns-then-is_some : goal.returns-then-is_some
returns-then-is_some c = λ file are. let here = sym c.is_some.ensures ∙ c.if-is_some.true in c.if-is_some.true ∙ sym (text_by file c.args.rows.now are ∙ rw here refl)

pub returns-else-is_some : goal.returns-else-is_some
returns-else-is_some c = λ file are.
    let none = sym c.is_some.ensures ∙ c.if-is_some.false in
    c.has_text_flag.ensures ∙ sym (text_by file c.args.rows.now are ∙ rw (none, ← c.value_or.ensures) refl)
