-- A definition makes its library needed by its names.
use Rattle.std.proofs.Common.{◌∙◌}
use Rattle.elf_resolve.proofs.LibraryNeedLaws.{need_of_default, need_of_name}
use Rattle.elf_resolve.proofs.library_needs.symbol_need.Goals as goal

pub returns-in-Some : goal.returns-in-Some
returns-in-Some c = λ is held.
    c.default_need.ensures
    ∙ need_of_default c.args.keys.now.keys c.args.marks.now c.args.strings.now.bytes c.bytes-name.result.now c.bytes.result.now c.args.symbol.now c.in-Some.default is c.in-Shared.definition held c.in-Shared.is c.in-Some.is
    c.bytes-name.ensures c.bytes.ensures

pub returns-in-None : goal.returns-in-None
returns-in-None c = λ is held.
    c.key_need.ensures
    ∙ need_of_name c.args.keys.now.keys c.args.marks.now c.args.strings.now.bytes c.bytes-name.result.now c.args.symbol.now is c.in-Shared.definition held c.in-Shared.is c.in-None.is c.bytes-name.ensures
