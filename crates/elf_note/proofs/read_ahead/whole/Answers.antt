use Rattle.std.proofs.Common.{arith, ◌∙◌}
use Rattle.std.proofs.lemmas.List.{take_all}
use Rattle.elf_note.proofs.read_ahead.whole.Goals as goal

pub unwrap-requires : goal.unwrap-requires
unwrap-requires c = grind arith

pub returns : goal.returns
returns c = let found = rw c.unwrap.ensures at c.first_chunk.ensures.cases in found.same ∙ take_all 24 c.args.bytes.now (omega (arith, c.requires))
