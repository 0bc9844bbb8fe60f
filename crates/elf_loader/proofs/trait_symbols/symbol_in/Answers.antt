use Rattle.std.proofs.Common.{arith, ◌∙◌}
use Rattle.std.proofs.lemmas.List.{take_all}
use Rattle.elf_loader.proofs.trait_symbols.symbol_in.Goals as goal

pub returns : goal.returns
returns c = λ file at is.
    let found = rw c.unwrap.ensures at c.first_chunk.ensures.cases in
    c.decode.ensures.is_at file at (found.same ∙ take_all 24 c.args.row.now.bytes.now (omega (arith, c.requires)) ∙ is)
