-- With names the first section that has the one.
use Rattle.std.proofs.Common.{ℕ, Option, sym, subst, ◌∙◌, arith}
use Rattle.elf_table.proofs.LedgerLaws.{CallDid-as, CallDid-none}
use Rattle.elf_loader.specs.Stacks.{FoundUnlessRead}
use Rattle.elf_loader.proofs.StackLaws.{named_sections, names_are, no_names, unnamed_sections}
use Rattle.elf_loader.proofs.section_stack.stack_section.Goals as goal

pub returns-in-Some-clause-did : goal.returns-in-Some-clause-did
returns-in-Some-clause-did g c =
    CallDid-as _ (omega arith) c.named_section.ensures.did
    (λ file told costs belongs.
    let names = names_are file c.in-Some.names (sym (c.names.ensures.held file belongs) ∙ c.in-Some.is) in
    subst (λ (found : Option ℕ). FoundUnlessRead found c.named_section.result) (sym (named_sections file names.0)) (told belongs names.1))

pub returns-in-None-clause-did : goal.returns-in-None-clause-did
returns-in-None-clause-did g c =
    CallDid-as _ (omega arith) (CallDid-none c.args.src.now)
    (λ file told costs belongs. unnamed_sections file (no_names file (sym (c.names.ensures.held file belongs) ∙ c.in-None.is)))
