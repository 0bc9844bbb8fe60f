-- The names of a symbol with a default version are two.
use Rattle.elf_resolve.proofs.ObjectSymbolLaws.{names_split}
use Rattle.elf_resolve.proofs.object_symbols.key_names.Goals as goal

pub returns-clause-names : goal.returns-clause-names
returns-clause-names c = λ is held.
    rw c.unless_reference.ensures
    (names_split c.args.strings.now c.join.new.self c.bytes.result.now is c.args.name c.in-Some.base c.in-Some.version c.in_ok-joined.joined c.args.role (c.bytes.ensures is held) held c.in-Some.ensures
    c.join.ensures.stays.first c.in_ok-joined.ensures.joins)
