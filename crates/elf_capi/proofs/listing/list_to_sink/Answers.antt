-- What the sink took is the text that was listed.
use Rattle.std.proofs.Common.{Some, ap, ◌∙◌, arith}
use Rattle.elf_source.specs.Source.{SourceState}
use Rattle.elf_capi.proofs.ListingLaws.{lists, nothing_took}
use Rattle.elf_capi.proofs.listing.list_to_sink.Goals as goal

pub returns-clause-text : goal.returns-clause-text
returns-clause-text c =
    let file = c.args.file.now in
    let sink = c.into_inner-sink.result in
    let first = c.new-2.result in
    let known = ap (λ (s : SourceState). s.file) c.new-src.ensures.seen ∙ ap Some c.new.ensures in
    let before = nothing_took first.buffer.ghost_name first.len first.buffer.now first.spare c.new-out.result.taken c.new-out.ensures.taken c.new-2.ensures.len c.new-2.ensures.spare in
    rw (c.status_from-outcome.ensures, c.is_some.ensures)
    (lists file c.args.caps c.args.parts.0 first.buffer.ghost_name sink.buffer.ghost_name sink.len sink.buffer.now _ sink.spare sink.failed _ _ c.new-src.result c.show-listed.new.src c.show-listed.result
    before c.into_inner-sink.ensures.taken c.into_inner-sink.ensures.failed sink.full sink.over c.into_inner.ensures c.show-listed.ensures.says (c.show-listed.ensures.text file known))

pub returns-clause-cost : goal.returns-clause-cost
returns-clause-cost c =
    let file = c.args.file.now in
    let cost = c.show-listed.ensures.cost file (ap (λ (s : SourceState). s.file) c.new-src.ensures.seen ∙ ap Some c.new.ensures) in
    omega (arith, c.asked-outcome.ensures, c.new-src.ensures.asked, cost)
