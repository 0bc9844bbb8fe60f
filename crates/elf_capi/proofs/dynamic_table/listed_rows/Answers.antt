-- No more entries are listed than there are.
use Rattle.std.proofs.Common.{arith}
use Rattle.elf_capi.proofs.ListedLaws.{count_fitting}
use Rattle.elf_capi.proofs.dynamic_table.listed_rows.Goals as goal

pub returns-in-None : goal.returns-in-None
returns-in-None c =
    let more = rw c.in-None.is at c.listed_count.ensures in
    let all = count_fitting c.args.file.now c.args.all.at c.args.all.count in
    absurd (omega (arith, more, all))
