-- The section that is linked to is a string table in the file, by the headers in the store.
use Rattle.std.proofs.Common.{ap, arith}
use Rattle.elf_record.specs.declared.ehdr.Ehdr.{Ehdr}
use Rattle.elf_table.specs.Store.{row}
use Rattle.elf_table.proofs.VersionLaws.{strings_found}
use Rattle.elf_table.proofs.loaded.Loaded.strings.Goals as goal

pub returns-clause-found : goal.returns-clause-found
returns-clause-found g c =
    let counted = ap (λ (header : Ehdr). header.e_shnum) c.header.ensures.value in
    strings_found (row (g.R.HeaderRows.state c.args.rows.now)) _ _ _ c.section_header-link.ensures.fields.sh_link (omega arith) (omega arith) _ _ _ (rw c.size.ensures at (c.checked_strings.ensures.value _ 0 c.section_header.ensures.fields))
