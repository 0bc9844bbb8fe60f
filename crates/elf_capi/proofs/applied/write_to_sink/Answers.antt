-- What the sink took is the section.
use Rattle.std.proofs.Common.{arith}
use Rattle.elf_capi.proofs.ApplyingLaws.{is_at}
use Rattle.elf_capi.proofs.BudgetLaws.{spent}
use Rattle.elf_capi.proofs.ListingLaws.{nothing_took}
use Rattle.elf_capi.proofs.applied.write_to_sink.Goals as goal

pub returns-clause-text : goal.returns-clause-text
returns-clause-text c =
    let file = c.args.file.now in
    let wanted = c.args.wanted.now in
    let sink = c.into_inner-sink.result in
    let first = c.new.result in
    let known = c.file_within-src.ensures.known in
    let before = nothing_took first.buffer.ghost_name first.len first.buffer.now first.spare c.new-out.result.taken c.new-out.ensures.taken c.new.ensures.len c.new.ensures.spare in
    rw (c.status_from-outcome.ensures, c.is_some.ensures)
    (is_at file c.args.store.now.slots wanted.section wanted.budget wanted.layout.now first.buffer.ghost_name sink.buffer.ghost_name sink.len _ _ sink.buffer.now _ sink.spare sink.failed _ _
    c.file_within-src.result c.apply_with-applied.new.src c.apply_with-applied.result before c.into_inner-sink.ensures.taken c.into_inner-sink.ensures.failed sink.full sink.over
    c.into_inner.ensures c.file_within-src.ensures.limit c.file_within-src.ensures.unasked (c.file_within-src.result.seen.sized file known) c.apply_with-applied.ensures.applies.says (c.apply_with-applied.ensures.applies.enough file known) (c.apply_with-applied.ensures.applies.text file known))

pub returns-clause-budget : goal.returns-clause-budget
returns-clause-budget c =
    spent c.args.wanted.now.budget c.file_within-src.result c.apply_with-applied.new.src _ c.file_within-src.ensures.limit c.asked-outcome.ensures c.apply_with-applied.ensures.applies.reads.within

pub returns-clause-cost : goal.returns-clause-cost
returns-clause-cost c =
    let known = c.file_within-src.ensures.known in
    let cost = c.apply_with-applied.ensures.applies.cost c.args.file.now known in
    omega (arith, c.asked-outcome.ensures, c.file_within-src.ensures.unasked, cost)
