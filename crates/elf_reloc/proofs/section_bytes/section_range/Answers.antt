-- The range of a section, or the check of its index.
use Rattle.std.proofs.Common.{◌≡◌, ◌==◌, ◌||◌, nat_lt, not, true, false, arith}
use Rattle.std.proofs.lemmas.Bool.Decides.{nat_tests}
use Rattle.elf_model.specs.Prelude.{e_shnum}
use Rattle.elf_reloc.specs.Queried.{one_range}
use Rattle.elf_reloc.proofs.RangeSteps.{no_section, refuses_as, section_found}
use Rattle.elf_reloc.proofs.section_bytes.section_range.Goals as goal

pub returns-then-not-is_section-clause-held : goal.returns-then-not-is_section-clause-held
returns-then-not-is_section-clause-held c = λ bytes belongs.
    let index : (c.args.section == 0 || not (nat_lt c.args.section (e_shnum bytes))) ≡ true = grind (arith, nat_tests) in
    rw c.refused.ensures (refuses_as one_range _ _ (no_section bytes c.args.section index))

pub returns-clause-held : goal.returns-clause-held
returns-clause-held c = λ bytes belongs.
    let index : (c.args.section == 0 || not (nat_lt c.args.section (e_shnum bytes))) ≡ false = grind (arith, nat_tests) in
    section_found bytes c.args.section c.held_range.result index (c.held_range.ensures.held bytes belongs)
