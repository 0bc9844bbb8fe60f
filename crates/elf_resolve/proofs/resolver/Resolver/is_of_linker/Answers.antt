use Rattle.std.proofs.Common.{ap, ◌∙◌, Some}
use Rattle.elf_model.specs.declared.link_states.KeyEntry.{KeyEntry}
use Rattle.elf_resolve.proofs.KeyFindLaws.{of_linker, of_section}
use Rattle.elf_resolve.proofs.resolver.Resolver.is_of_linker.Goals as goal

pub returns-then-is_linker_name : goal.returns-then-is_linker_name
returns-then-is_linker_name c = of_linker _ _ _ _ _ c.name-name.ensures c.is_linker_name.ensures c.if-is_linker_name.true

pub returns-in-Some : goal.returns-in-Some
returns-in-Some c =
    ap (λ (e : KeyEntry). e.is_section) c.entry_named.ensures
    ∙ of_section _ c.args.self.now.link.keys.keys _ _ _ (Some c.in-Some.section.now) c.name-name.ensures c.is_linker_name.ensures c.if-is_linker_name.false c.in-Some.ensures

pub returns-in-None : goal.returns-in-None
returns-in-None c = of_section _ c.args.self.now.link.keys.keys _ _ _ _ c.name-name.ensures c.is_linker_name.ensures c.if-is_linker_name.false c.in-None.ensures
