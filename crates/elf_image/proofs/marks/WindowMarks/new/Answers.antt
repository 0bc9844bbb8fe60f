use Rattle.elf_image.proofs.MarkSteps.{unmarked}
use Rattle.elf_image.proofs.marks.WindowMarks.new.Goals as goal

pub returns : goal.returns
returns c = λ k few. unmarked k few
