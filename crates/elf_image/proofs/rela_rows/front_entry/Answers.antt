use Rattle.std.proofs.Common.{◌∙◌, arith}
use Rattle.elf_image.proofs.RelaRowSteps.{addend-fits}
use Rattle.elf_image.proofs.rela_rows.front_entry.Goals as goal

pub returns : goal.returns
returns c = λ file at is.
    let found = rw c.unwrap.ensures at c.first_chunk.ensures.cases in
    (c.decode.ensures.is_at file at (found.same ∙ is), addend-fits file at c.args.bytes.now is (λ k. let f = c.type_inv.bytes k in omega (arith, f)))
