-- The first entry that is not read is one of the table's.
use Rattle.std.proofs.Common.{arith}
use Rattle.elf_capi.proofs.ListedLaws.{count_fitting}
use Rattle.elf_capi.proofs.dynamic_table.listed_within.Goals as goal

pub overflow_mul-result : goal.overflow_mul-result
overflow_mul-result c =
    let more = rw c.in-None.is at c.listed_count.ensures in
    let all = count_fitting c.args.file.now c.args.all.at c.args.all.count in
    let within = c.requires (omega (arith, more, all)) in
    omega (arith, more, all, within)

pub overflow_add-result : goal.overflow_add-result
overflow_add-result c =
    let more = rw c.in-None.is at c.listed_count.ensures in
    let all = count_fitting c.args.file.now c.args.all.at c.args.all.count in
    let within = c.requires (omega (arith, more, all)) in
    omega (arith, more, all, within)
