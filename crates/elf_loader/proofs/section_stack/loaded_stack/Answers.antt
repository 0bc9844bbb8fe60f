-- The flag of the section, or what a linker makes of a stack without one.
use Rattle.std.proofs.Common.{ℕ, Bool, Option, Some, sym, ap, ◌∙◌, arith}
use Rattle.std.proofs.lemmas.Result.{err_from_is_err_and}
use Rattle.elf_model.specs.Prelude.{has_bits, linked_stack}
use Rattle.elf_record.specs.declared.ehdr.Ehdr.{Ehdr}
use Rattle.elf_table.proofs.LedgerLaws.{CallDid-as}
use Rattle.elf_loader.proofs.StackLaws.{stack_none, stack_some}
use Rattle.elf_loader.proofs.section_stack.loaded_stack.Goals as goal

pub returns-in_err-found : goal.returns-in_err-found
returns-in_err-found g c =
    let p = err_from_is_err_and c.from_residual.result c.from_residual.ensures.1 in
    rw (p.1, p.2) (CallDid-as _ (omega arith) c.in_err-found.ensures.did (λ file told costs belongs. told belongs))

pub returns-in-Some : goal.returns-in-Some
returns-in-Some g c =
    CallDid-as _ (omega arith) c.in_ok-found.ensures.did
    (λ file told costs belongs.
    stack_some file c.in-Some.index (told belongs ∙ c.in-Some.is)
    ∙ (ap (λ (n : ℕ). Some (has_bits n 4)) (sym (c.section.ensures.is_at file belongs).sh_flags) ∙ ap (λ (b : Bool). Some b) (sym c.has_bits.ensures)))

pub returns-in-None : goal.returns-in-None
returns-in-None g c =
    CallDid-as _ (omega arith) c.in_ok-found.ensures.did
    (λ file told costs belongs.
    let machine = ap (λ (h : Ehdr). h.e_machine) c.header.ensures.value ∙ belongs.header.e_machine in
    stack_none file (told belongs ∙ c.in-None.is) ∙ (ap linked_stack (sym machine) ∙ sym c.linked_stack.ensures))
