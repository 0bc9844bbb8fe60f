use Rattle.elf_record.proofs.ViewLaws.{viewed_header}
use Rattle.elf_record.proofs.ehdr.Ehdr.without_sections.Goals as goal

pub returns : goal.returns
returns c = λ file is. viewed_header file c.args.self.now is
