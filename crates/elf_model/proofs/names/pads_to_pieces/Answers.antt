use Rattle.elf_model.proofs.NameLaws.{pads_to_pieces}
use Rattle.elf_model.proofs.names.pads_to_pieces.Goals as goal

pub returns : goal.returns
returns c = pads_to_pieces
