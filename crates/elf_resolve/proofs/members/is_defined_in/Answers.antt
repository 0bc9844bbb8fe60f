-- The first symbol of a name among those of an object's first table.
use Rattle.std.proofs.Common.{subst, ◌∙◌}
use Rattle.elf_model.specs.LinkPasses.{index_name}
use Rattle.elf_model.specs.Records.{section_at}
use Rattle.elf_resolve.specs.ObjectTables.{HoldsObjectSymbols}
use Rattle.elf_resolve.proofs.ObjectNameLaws.{defines_first}
use Rattle.elf_resolve.proofs.members.is_defined_in.Goals as goal

pub returns-in-Some : goal.returns-in-Some
returns-in-Some c = λ file held.
    let name = index_name c.args.keys.now.keys c.args.entry in
    let first = subst (HoldsObjectSymbols file c.args.strings.now.bytes) c.in-Some.is held.symbols in
    c.is_first_definition.ensures file (section_at file c.in-Some.symbols.section) first.holds ∙ defines_first file c.args.strings.now.bytes c.in-Some.symbols name first
