use Rattle.std.proofs.Common.{◌∙◌}
use Rattle.elf_source.proofs.ReadsLaws.{KeepsSource-then}
use Rattle.elf_resolve.proofs.LinkedSymbolLaws.{linked_read}
use Rattle.elf_resolve.proofs.StringBufferLaws.{kept_then}
use Rattle.elf_resolve.proofs.section_groups.linked_symbols.Goals as goal

pub returns-clause-reads : goal.returns-clause-reads
returns-clause-reads g c = λ file at known held found.
    linked_read file at c.at.result c.len.result c.args.group.now c.args.strings.now c.read_rows.new.strings c.read_names.new.strings c.in_ok-rows.rows c.in_ok-names.names found
    c.read_rows.ensures.fits (c.in_ok-rows.ensures.reads file known) (c.in_ok-names.ensures.reads file (c.read_rows.ensures.keeps.same_file ∙ known)) c.at.ensures c.len.ensures

pub returns-in_err-names-clause-keeps : goal.returns-in_err-names-clause-keeps
returns-in_err-names-clause-keeps g c = KeepsSource-then c.read_rows.ensures.keeps c.read_names.ensures.keeps

pub returns-in_err-names-clause-stays : goal.returns-in_err-names-clause-stays
returns-in_err-names-clause-stays g c = kept_then c.read_rows.ensures.stays c.read_names.ensures.stays

pub returns-clause-keeps : goal.returns-clause-keeps
returns-clause-keeps g c = KeepsSource-then c.read_rows.ensures.keeps c.read_names.ensures.keeps

pub returns-clause-stays : goal.returns-clause-stays
returns-clause-stays g c = kept_then c.read_rows.ensures.stays c.read_names.ensures.stays
