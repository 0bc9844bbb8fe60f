-- The type of the file, and its machine.
use Rattle.std.proofs.Common.{sym, ap, ◌∙◌}
use Rattle.elf_model.specs.TraitNumbers.{is_linked_type}
use Rattle.elf_image.proofs.HeaderSteps.{kind_passes, not_linked, other_machine}
use Rattle.elf_image.proofs.headers.check_kind.Goals as goal

pub returns-then-not-is_linked_type-clause-held : goal.returns-then-not-is_linked_type-clause-held
returns-then-not-is_linked_type-clause-held c = λ file is.
    let linked = ap is_linked_type (sym is.e_type) ∙ (sym c.is_linked_type.ensures ∙ c.if-not-is_linked_type.true) in
    rw c.refused.ensures (not_linked file linked)

pub returns-then-header-ne-EM_X86_64-clause-held : goal.returns-then-header-ne-EM_X86_64-clause-held
returns-then-header-ne-EM_X86_64-clause-held c = λ file is.
    let linked = ap is_linked_type (sym is.e_type) ∙ (sym c.is_linked_type.ensures ∙ c.if-not-is_linked_type.false) in
    rw c.refused-then-header-ne-EM_X86_64.ensures (other_machine file linked (λ same. c.if-header-ne-EM_X86_64.true (is.e_machine ∙ same)))

pub returns-clause-held : goal.returns-clause-held
returns-clause-held c = λ file is.
    let linked = ap is_linked_type (sym is.e_type) ∙ (sym c.is_linked_type.ensures ∙ c.if-not-is_linked_type.false) in
    kind_passes file linked (sym is.e_machine ∙ c.if-header-ne-EM_X86_64.false)
