-- The prover computes both lists.
use Rattle.std.proofs.Common.{refl}
use Rattle.elf_model.proofs.OnLiterals.{on_literals}
use Rattle.elf_examples.specs.ListedHeaders.{EveryCutLengthIsRefused}
use Rattle.elf_examples.proofs.listed_headers.header_refusals.Goals as goal

each_cut_length : EveryCutLengthIsRefused
unfolding on_literals
each_cut_length = refl

pub returns-clause-every_cut_length_is_refused : goal.returns-clause-every_cut_length_is_refused
returns-clause-every_cut_length_is_refused c = each_cut_length
