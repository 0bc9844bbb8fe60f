-- The tables of an object are held, of which that of its symbols was read first.
use Rattle.std.proofs.Common.{◌∙◌}
use Rattle.elf_source.proofs.ReadsLaws.{KeepsSource-then}
use Rattle.elf_resolve.proofs.ObjectLaws.{tables_read}
use Rattle.elf_resolve.proofs.object.read_tables.Goals as goal

pub returns-clause-reads : goal.returns-clause-reads
returns-clause-reads g c = λ file known held.
    tables_read file c.read_first_symbols.new.strings.bytes c.read_section_names.new.strings.bytes c.in_ok-symbols.symbols c.in_ok-sections.sections
    (c.in_ok-symbols.ensures.reads file known held) c.read_section_names.ensures.stays.first
    (c.in_ok-sections.ensures.reads file (c.read_first_symbols.ensures.keeps.same_file ∙ known) held)

pub returns-in_err-sections-clause-keeps : goal.returns-in_err-sections-clause-keeps
returns-in_err-sections-clause-keeps g c = KeepsSource-then c.read_first_symbols.ensures.keeps c.read_section_names.ensures.keeps

pub returns-clause-keeps : goal.returns-clause-keeps
returns-clause-keeps g c = KeepsSource-then c.read_first_symbols.ensures.keeps c.read_section_names.ensures.keeps
