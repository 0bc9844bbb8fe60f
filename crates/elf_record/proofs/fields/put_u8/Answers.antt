use Rattle.std.proofs.Common.{ap, ◌∙◌, ◌++◌, ◌∷◌, [], sym, arith}
use Rattle.elf_model.specs.Bytes.{little}
use Rattle.std.proofs.Math.Nat.{mod-eq_of_lt}
use Rattle.elf_record.proofs.fields.put_u8.Goals as goal

pub returns-clause-items : goal.returns-clause-items
unfolding little
returns-clause-items g c =
    c.put_bytes.ensures.items
    ∙ ap (λ byte. c.args.out.now.items ++ byte ∷ []) (sym (mod-eq_of_lt (omega arith)))
