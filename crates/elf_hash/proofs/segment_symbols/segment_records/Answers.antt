-- The records are the rest of the entry's address.
use Rattle.std.proofs.Common.{rules, refl}
use Rattle.std.proofs.lemmas.Result.{err_from_is_err_and}
use Rattle.elf_hash.proofs.SegmentLaws.{tag_are, tag_refused}
use Rattle.elf_hash.proofs.SettleLaws.{finds, refuses}
use Rattle.elf_hash.proofs.segment_symbols.segment_records.Goals as goal

pub returns-in_err-table : goal.returns-in_err-table
returns-in_err-table c =
    let p = err_from_is_err_and c.from_residual.result c.from_residual.ensures.1 in
    rw (p.1, p.2) (refuses _ c.in_err-table.ensures.lies (λ bytes views at tag is names.
    (tag_refused bytes at tag c.args.kind c.args.entry _ is c.in-Some.is _ (c.in_err-table.ensures.value bytes views))))

pub returns : goal.returns
returns c = finds _ (search rules) (λ bytes views at tag is names.
    tag_are bytes at tag c.args.kind c.args.entry _ is c.in-Some.is _ (c.in_ok-table.ensures.value bytes views) refl refl names)
