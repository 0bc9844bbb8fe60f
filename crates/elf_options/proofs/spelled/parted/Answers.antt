use Rattle.elf_options.proofs.SpelledLaws.{parted}
use Rattle.elf_options.proofs.spelled.parted.Goals as goal

pub returns : goal.returns
returns c = parted c.args.text.now c.split_once.result c.split_once.ensures.cases
