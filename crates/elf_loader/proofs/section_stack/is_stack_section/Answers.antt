-- The name that is compared is the section's.
use Rattle.std.proofs.Common.{◌≡◌, ℕ, sym, ap, subst, ◌∙◌}
use Rattle.elf_model.specs.Prelude.{STACK_SECTION, same}
use Rattle.elf_table.specs.Prelude.{Refuses, strings_in}
use Rattle.elf_table.proofs.LedgerLaws.{CallDid-of}
use Rattle.elf_loader.proofs.StackLaws.{name_refused, name_told}
use Rattle.elf_loader.proofs.section_stack.is_stack_section.Goals as goal

pub returns-in-Ok : goal.returns-in-Ok
returns-in-Ok g c =
    CallDid-of c.in-Ok.ensures.reads tt
    (λ file held belongs names.
    let off = c.from-off.ensures ∙ (c.section.ensures.is_at file belongs).sh_name in
    let told = ap (λ (n : ℕ). same (strings_in file c.args.names.now) n STACK_SECTION) (sym off) ∙ c.in-Ok.ensures.compared file held in
    name_told file c.args.index (strings_in file c.args.names.now) c.from-off.result names c.in-Ok.is_named told)

pub returns-in-Err : goal.returns-in-Err
returns-in-Err g c =
    CallDid-of c.in-Err.ensures.reads tt
    (λ file held belongs names.
    let off = c.from-off.ensures ∙ (c.section.ensures.is_at file belongs).sh_name in
    let check = rw c.if-is_by_check.true at c.is_by_check.ensures in
    let refuses = subst (λ (n : ℕ). Refuses c.from-off.result c.in-Err.fault (same (strings_in file c.args.names.now) n STACK_SECTION)) off (c.in-Err.ensures.compared file held) in
    name_refused file c.args.index (strings_in file c.args.names.now) c.from-off.result names c.in-Err.fault check refuses)
