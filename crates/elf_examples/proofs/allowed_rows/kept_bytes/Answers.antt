use Rattle.std.proofs.Common.{arith}
use Rattle.elf_examples.proofs.allowed_rows.kept_bytes.Goals as goal

pub returns-clause-bytes_are_small : goal.returns-clause-bytes_are_small
returns-clause-bytes_are_small c = (λ small. let first = small 0 in absurd (omega arith), λ small. let second = small 1 in absurd (omega arith), λ i. omega arith)
