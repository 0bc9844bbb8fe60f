use Rattle.elf_options.proofs.SpelledLaws.{lacked, tells, told}
use Rattle.elf_options.proofs.spelled.spells_traits.Goals as goal

pub returns : goal.returns
returns c = record { told = told; lacked = lacked; tells = tells }
