use Rattle.std.proofs.Common.{leb, leb-true, leb-false, arith, rules}
use Rattle.std.proofs.lemmas.List.Sorted.{IsPartitionPoint-from_clause, IsPartitionedBy-leb}
use Rattle.elf_resolve.proofs.EntryRowLaws.{ends_ascend, entries_end, row_at_point}
use Rattle.elf_resolve.proofs.entry_rows.archive_after.Goals as goal

pub returns : goal.returns
returns c = λ from count are.
    let parted = IsPartitionedBy-leb entries_end _ c.args.place (ends_ascend from count c.args.archives.now are) in
    let point = IsPartitionPoint-from_clause (λ a. leb (entries_end a) c.args.place) _ _ c.partition_point.ensures.partitioned parted (λ a r q k. search rules) in
    row_at_point _ _ _ (λ k d less there. leb-true _ _ (point.0 k d (omega arith) less)) (λ d there. leb-false _ _ (point.1 _ d (omega arith) there))
