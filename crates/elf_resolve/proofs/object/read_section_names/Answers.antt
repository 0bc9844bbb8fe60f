-- The names of sections are held.
use Rattle.std.proofs.Common.{sym, ◌∙◌}
use Rattle.elf_resolve.proofs.ObjectLaws.{names_read}
use Rattle.elf_resolve.proofs.object.read_section_names.Goals as goal

pub returns-clause-reads : goal.returns-clause-reads
returns-clause-reads g c = λ file known held.
    names_read file c.in-Some.names c.args.strings.now c.read_names.new.strings c.in_ok-names.names (sym (c.names.ensures.held file held) ∙ c.in-Some.is) (c.in_ok-names.ensures.reads file known)
