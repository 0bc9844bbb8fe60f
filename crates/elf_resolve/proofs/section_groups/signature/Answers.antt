use Rattle.elf_resolve.proofs.SectionTakenLaws.{tables_kept}
use Rattle.elf_resolve.proofs.section_groups.signature.Goals as goal

pub returns-clause-signs : goal.returns-clause-signs
returns-clause-signs g c = λ file at known viewed held found.
    c.symbol_name.ensures file at viewed (tables_kept file c.args.strings.now.bytes c.linked_symbols.new.strings.bytes c.args.tables c.linked_symbols.ensures.stays.first held) found
    (c.in_ok-symbols.ensures.reads file at known held found)
