use Rattle.std.proofs.Common.{◌∙◌, arith}
use Rattle.elf_archive.proofs.FieldLaws.{trimmed-at, trimmed-whole, trimmed-none}
use Rattle.elf_archive.proofs.fields.trimmed_length.Goals as goal

pub loop-end-preserved : goal.loop-end-preserved
loop-end-preserved c = record {
  within = omega arith;
  same = trimmed-at c.args.byte c.args.bytes.now c.loop-end.end (omega arith) c.loop-end.invariant.within c.if-bytes-end.true ∙ c.loop-end.invariant.same;
}

pub returns-else-bytes-end-clause-name : goal.returns-else-bytes-end-clause-name
returns-else-bytes-end-clause-name c =
    trimmed-whole c.args.byte c.args.bytes.now c.loop-end.end (omega arith) c.loop-end.invariant.within c.if-bytes-end.false ∙ c.loop-end.invariant.same

pub returns-after-loop-end-clause-name : goal.returns-after-loop-end-clause-name
returns-after-loop-end-clause-name c = trimmed-none c.args.byte c.args.bytes.now c.loop-end.end (omega arith) ∙ c.loop-end.invariant.same
