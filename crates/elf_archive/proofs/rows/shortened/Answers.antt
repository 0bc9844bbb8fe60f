use Rattle.std.proofs.Common.{nat_lt, ap, arith}
use Rattle.elf_archive.proofs.RowLaws.{shown_at}
use Rattle.elf_archive.proofs.rows.shortened.Goals as goal

pub returns : goal.returns
returns c = (
  shown_at c.args.file.now c.args.at c.args.size c.min.result (nat_lt c.from-2.result c.args.size) c.requires (omega (arith, c.min.ensures, c.from.ensures))
      (ap (λ n. nat_lt n c.args.size) c.from-2.ensures),
  omega (arith, c.min.ensures, c.requires),
)
