-- The location of the section's bytes, after the checks of the request.
use Rattle.std.proofs.Common.{◌≡◌, ◌==◌, ◌||◌, nat_lt, not, false, sym, ◌∙◌, arith}
use Rattle.std.proofs.lemmas.Bool.Decides.{nat_tests}
use Rattle.elf_model.specs.Prelude.{EM_X86_64, ET_REL, e_machine, e_shnum, e_type, is_compressed, section_at}
use Rattle.elf_reloc.proofs.HeldSteps.{held_by}
use Rattle.elf_reloc.proofs.apply_section.held.Goals as goal

pub returns-clause-held : goal.returns-clause-held
returns-clause-held c = λ bytes belongs.
    let at = section_at bytes c.args.section in
    let is_at = c.section.ensures.is_at bytes belongs in
    let relocatable : not (e_type bytes == ET_REL) ≡ false = grind (arith, nat_tests) in
    let machine : not (e_machine bytes == EM_X86_64) ≡ false = grind (arith, nat_tests) in
    let index : (c.args.section == 0 || not (nat_lt c.args.section (e_shnum bytes))) ≡ false = grind (arith, nat_tests) in
    let plain : is_compressed bytes at ≡ false = sym (c.is_compressed.ensures bytes at is_at) ∙ c.if-is_compressed.false in
    held_by bytes c.args.section relocatable machine index plain c.held_range.result c.held_range.ensures.refusal (c.held_range.ensures.held bytes belongs)
