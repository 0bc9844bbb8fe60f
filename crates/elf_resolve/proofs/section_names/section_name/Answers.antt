use Rattle.std.proofs.Common.{◌∙◌, subst, arith}
use Rattle.elf_model.specs.Records.{section_at}
use Rattle.elf_resolve.specs.ObjectTables.{HoldsNames, HoldsSectionNames}
use Rattle.elf_resolve.proofs.SectionGroupLaws.{no_section_names, place-is, section_name-found}
use Rattle.elf_resolve.proofs.section_names.section_name.Goals as goal

pub returns-in_default : goal.returns-in_default
returns-in_default c = λ file viewed held. no_section_names file c.args.strings.now.bytes _ c.args.tables.sections c.in_default.is
    (omega (arith, c.requires, viewed.count, viewed.header.e_shnum)) held.sections

pub returns : goal.returns
returns c = λ file viewed held.
    let names : HoldsNames file c.args.strings.now.bytes c.in-Some.names = subst (HoldsSectionNames file c.args.strings.now.bytes) c.in-Some.is held.sections in
    section_name-found file c.args.strings.now.bytes (section_at file c.args.section) c.place.result c.from-index.result c.in-Some.names c.name.result names
    (c.from-index.ensures ∙ (c.section.ensures.is_at file viewed).sh_name)
    (c.place.ensures.value ∙ place-is file c.args.view.now.loaded c.args.view.now.store.now c.args.section viewed)
    (c.name.ensures _ names.holds)
