use Rattle.std.proofs.Common.{sym, ◌∙◌}
use Rattle.std.proofs.lemmas.Result.{err_from_is_err_and}
use Rattle.elf_resolve.specs.Passing.{pass_of}
use Rattle.elf_resolve.proofs.ListRoomLaws.{limits_then}
use Rattle.elf_resolve.proofs.PassingLaws.{another, fewer_moved, last_pass}
use Rattle.elf_resolve.proofs.SearchStopLaws.{added_more, pass_within, stops_after}
use Rattle.elf_resolve.proofs.RowNameLaws.{held_then}
use Rattle.elf_resolve.proofs.passes.search_archive.Goals as goal

pub returns-then-asked-before-clause-searches : goal.returns-then-asked-before-clause-searches
returns-then-asked-before-clause-searches g c known =
    last_pass c.args.archive _ _ (g.M.ArchiveObjects.members c.pass_index.new.members) _ _ (g.M.ArchiveObjects.known c.pass_index.new.members) _ _ (pass_of c.pass_index.new.link c.pass_index.new.taken) c.args.entries.now
    c.loop.invariant.1 c.in_ok-pass_index.ensures.passes (sym c.asked.ensures ∙ c.if-asked-before.true ∙ c.asked-before.ensures) known

pub returns-then-asked-before-clause-limits : goal.returns-then-asked-before-clause-limits
returns-then-asked-before-clause-limits g c known =
    limits_then c.args.link.now.keys c.loop.link.keys c.pass_index.new.link.keys (c.loop.invariant.2 known) (c.in_ok-pass_index.ensures.limits (c.loop.invariant.1.known known))

pub loop-smaller : goal.loop-smaller
loop-smaller g c =
    fewer_moved _ (pass_of c.pass_index.new.link c.pass_index.new.taken) c.in_ok-pass_index.ensures.moves (λ same. c.if-asked-before.false (c.asked.ensures ∙ same ∙ sym c.asked-before.ensures))

pub loop-preserved : goal.loop-preserved
loop-preserved g c = (
  c.pass_index.ensures.kept ∙ c.loop.invariant.0,
  another c.args.archive _ _ _ _ _ (g.M.ArchiveObjects.known c.pass_index.new.members) _ _ (pass_of c.pass_index.new.link c.pass_index.new.taken) c.args.entries.now c.loop.invariant.1 c.pass_index.ensures.same
      c.pass_index.ensures.known c.in_ok-pass_index.ensures.passes (λ same. c.if-asked-before.false (c.asked.ensures ∙ same ∙ sym c.asked-before.ensures)),
  λ known. limits_then c.args.link.now.keys c.loop.link.keys c.pass_index.new.link.keys (c.loop.invariant.2 known) (c.in_ok-pass_index.ensures.limits (c.loop.invariant.1.known known)),
  added_more _ _ _ _ _ c.args.archive.input _ _ c.pass_index.new.link.rows.rows c.loop.invariant.3 c.pass_index.ensures.same_refusal c.loop.invariant.1.known c.in_ok-pass_index.ensures.stops,
  held_then _ _ _ _ (g.M.ArchiveObjects.named c.pass_index.new.members) _ _ c.pass_index.new.link.rows.rows _ _ (g.M.ArchiveObjects.names c.pass_index.new.members) _ c.loop.invariant.1.known c.loop.invariant.4 c.pass_index.ensures.named
      c.in_ok-pass_index.ensures.names,
  c.pass_index.ensures.room ∙ c.loop.invariant.5,
)

pub returns-then-asked-before-clause-stops : goal.returns-then-asked-before-clause-stops
returns-then-asked-before-clause-stops g c = λ known.
    (added_more _ _ _ _ (g.M.ArchiveObjects.refusal c.pass_index.new.members) c.args.archive.input _ _ c.pass_index.new.link.rows.rows c.loop.invariant.3 c.pass_index.ensures.same_refusal c.loop.invariant.1.known c.in_ok-pass_index.ensures.stops).added known

pub returns-in_err-pass_index-clause-stops : goal.returns-in_err-pass_index-clause-stops
returns-in_err-pass_index-clause-stops g c = λ known.
    let p = err_from_is_err_and c.from_residual.result c.from_residual.ensures.1 in
    rw (p.1, p.2) (stops_after _ _ _ _ (g.M.ArchiveObjects.refusal c.pass_index.new.members) c.args.archive.input _ _ c.pass_index.new.link.rows.rows _ _ _ _ _ _ _ c.loop.invariant.3 c.loop.invariant.1.known
    (λ k. pass_within c.args.archive _ _ _ _ _ _ c.args.entries.now c.loop.invariant.1 k) c.loop.auto.taken c.in_err-pass_index.ensures.stops known)

pub returns-then-asked-before-clause-names : goal.returns-then-asked-before-clause-names
returns-then-asked-before-clause-names g c known =
    (held_then _ _ _ _ (g.M.ArchiveObjects.named c.pass_index.new.members) _ _ c.pass_index.new.link.rows.rows _ _ (g.M.ArchiveObjects.names c.pass_index.new.members) _ c.loop.invariant.1.known c.loop.invariant.4 c.pass_index.ensures.named
    c.in_ok-pass_index.ensures.names).keeps known

pub returns-in_err-pass_index-clause-full : goal.returns-in_err-pass_index-clause-full
returns-in_err-pass_index-clause-full g c =
    let p = err_from_is_err_and c.from_residual.result c.from_residual.ensures.1 in
    rw (p.1, p.2) c.in_err-pass_index.ensures.full
