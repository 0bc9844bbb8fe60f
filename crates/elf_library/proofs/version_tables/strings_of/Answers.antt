-- No strings, or those at an address.
use Rattle.elf_table.proofs.Absent.{none-of}
use Rattle.elf_library.proofs.VersionTableLaws.{strings_by, strings_none, strings_unsized}
use Rattle.elf_library.proofs.version_tables.strings_of.Goals as goal

pub returns-in_default-clause-held : goal.returns-in_default-clause-held
returns-in_default-clause-held c = rw c.new.ensures (λ file at views are. strings_none file at c.args.found.now are (none-of c.args.found.now.strtab c.in_default.not-Some))

pub returns-in_default-strsz-clause-held : goal.returns-in_default-strsz-clause-held
returns-in_default-strsz-clause-held c =
    rw c.new-in_default-strsz.ensures (λ file at views are. strings_unsized file at c.args.found.now c.in-Some.strtab are c.in-Some.is (none-of c.args.found.now.strsz c.in_default-strsz.not-Some))

pub returns-clause-held : goal.returns-clause-held
returns-clause-held c =
    λ file at views are. strings_by file at c.args.found.now c.in-Some.strtab c.in-Some-strsz.strsz are c.in-Some.is c.in-Some-strsz.is c.mapped.result (c.mapped.ensures.held file views)
