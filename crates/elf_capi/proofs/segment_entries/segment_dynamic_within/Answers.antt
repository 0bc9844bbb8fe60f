-- More entries are listed than may be read.
use Rattle.std.proofs.Common.{inr, Ok, Option, ap, subst}
use Rattle.std.proofs.lemmas.Result.{err_from_is_err_and}
use Rattle.elf_table.specs.Prelude.{TableRange as Table}
use Rattle.elf_capi.specs.ListedEntries.{all_listed}
use Rattle.elf_capi.specs.SegmentDynamic.{FindsEntries}
use Rattle.elf_capi.proofs.segment_entries.segment_dynamic_within.Goals as goal

pub returns-in_err-rows-in-Some : goal.returns-in_err-rows-in-Some
returns-in_err-rows-in-Some c =
    let file = c.args.file.now in
    let p = err_from_is_err_and c.from_residual-in_err-rows-in-Some.result c.from_residual-in_err-rows-in-Some.ensures.1 in
    let lists = c.in_err-rows-in-Some.ensures in
    let finds = subst (λ (found : Option Table). FindsEntries file c.args.segment (Ok found)) c.in-Some.is c.in_ok-table.ensures.finds in
    rw (p.1, p.2) (inr (all_listed file c.all_rows.result, (c.in-Some.table, finds, ap (all_listed file) c.all_rows.ensures), lists.0, lists.1))
