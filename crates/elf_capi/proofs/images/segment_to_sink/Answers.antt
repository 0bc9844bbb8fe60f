-- What the sink took is the image.
use Rattle.std.proofs.Common.{◌∙◌, ℕ, length, arith}
use Rattle.elf_image.specs.ImageWrites.{request_items}
use Rattle.elf_capi.proofs.BudgetLaws.{spent}
use Rattle.elf_capi.proofs.ImageLaws.{images_by, met_is, same_memory}
use Rattle.elf_capi.proofs.ListingLaws.{nothing_took}
use Rattle.elf_capi.proofs.images.segment_to_sink.Goals as goal

pub returns-clause-same : goal.returns-clause-same
returns-clause-same c =
    let sink = c.into_inner-sink.result in
    let first = c.new.result in
    let before = nothing_took first.buffer.ghost_name first.len first.buffer.now first.spare c.new-out.result.taken c.new-out.ensures.taken c.new.ensures.len c.new.ensures.spare in
    same_memory first.buffer.ghost_name sink.buffer.ghost_name _ c.new-out.result c.write_image-written.new.out c.write_image-written.result _ before c.into_inner-sink.ensures.taken
    (c.write_image-written.ensures.writes c.args.file.now c.file_within-src.ensures.known)
    ∙ c.new.ensures.same

pub returns-clause-text : goal.returns-clause-text
returns-clause-text c =
    let file = c.args.file.now in
    let request = c.args.wanted.now.request in
    let window : ℕ = length c.args.window.now in
    let sink = c.into_inner-sink.result in
    let first = c.new.result in
    let known = c.file_within-src.ensures.known in
    let before = nothing_took first.buffer.ghost_name first.len first.buffer.now first.spare c.new-out.result.taken c.new-out.ensures.taken c.new.ensures.len c.new.ensures.spare in
    rw (c.status_from-outcome.ensures, c.is_some.ensures)
    (images_by file c.args.store.now.slots c.args.wanted.now.budget request.segment request.most window (request_items request) first.buffer.ghost_name sink.buffer.ghost_name sink.len sink.buffer.now _ sink.spare sink.failed _ _
    c.file_within-src.result c.write_image-written.new.src c.write_image-written.result sink.within before c.into_inner-sink.ensures.taken c.into_inner-sink.ensures.failed sink.full sink.over
    c.into_inner.ensures c.write_image-written.ensures.stops (c.write_image-written.ensures.writes file known)
    c.file_within-src.ensures.limit c.file_within-src.ensures.unasked (c.file_within-src.result.seen.sized file known) (rw (met_is file window request) at (c.write_image-written.ensures.limits file known)))

pub returns-clause-budget : goal.returns-clause-budget
returns-clause-budget c =
    let after = c.write_image-written.new.src in
    let same = c.write_image-written.ensures.reads.same_limit in
    spent c.args.wanted.now.budget c.file_within-src.result after _ c.file_within-src.ensures.limit c.asked-outcome.ensures (λ most is. (after.within most (same ∙ is)).0)

pub returns-clause-cost : goal.returns-clause-cost
returns-clause-cost c =
    let file = c.args.file.now in
    let window : ℕ = length c.args.window.now in
    let cost = rw (met_is file window c.args.wanted.now.request) at (c.write_image-written.ensures.cost file c.file_within-src.ensures.known) in
    omega (arith, c.asked-outcome.ensures, c.file_within-src.ensures.unasked, cost)
