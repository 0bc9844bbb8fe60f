use Rattle.elf_record.proofs.EhdrLaws.{checked_in_file}
use Rattle.elf_record.proofs.ehdr.Ehdr.check.Goals as goal

pub returns-clause-in_file : goal.returns-clause-in_file
returns-clause-in_file c = λ file is. checked_in_file file _ _ is c.check_ident.ensures
