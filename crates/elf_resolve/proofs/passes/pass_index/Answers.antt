use Rattle.std.proofs.Common.{◌∙◌}
use Rattle.std.proofs.lemmas.Result.{err_from_is_err_and}
use Rattle.elf_resolve.specs.Passing.{pass_of}
use Rattle.elf_resolve.proofs.ListRoomLaws.{limits_then}
use Rattle.elf_resolve.proofs.PassingLaws.{moved_then, one_more}
use Rattle.elf_resolve.proofs.SearchStopLaws.{added_more, entry_within, stops_after}
use Rattle.elf_resolve.proofs.RowNameLaws.{held_then}
use Rattle.elf_resolve.proofs.passes.pass_index.Goals as goal

pub loop-i-preserved : goal.loop-i-preserved
loop-i-preserved g c = (
  moved_then _ _ (pass_of c.visit_entry.new.link c.visit_entry.new.taken) c.loop-i.invariant.0 c.in_ok-visit_entry.ensures.moves,
  one_more c.args.archive _ _ _ _ _ (g.M.ArchiveObjects.known c.visit_entry.new.members) _ _ (pass_of c.visit_entry.new.link c.visit_entry.new.taken) c.args.entries.now c.loop-i.i _ c.loop-i-test.true c.loop-i.invariant.1
      c.visit_entry.ensures.same c.visit_entry.ensures.known c.in_ok-visit_entry.ensures.visits,
  c.visit_entry.ensures.kept ∙ c.loop-i.invariant.2,
  λ known. limits_then c.args.link.now.keys c.loop-i.link.keys c.visit_entry.new.link.keys (c.loop-i.invariant.3 known) (c.in_ok-visit_entry.ensures.limits (c.loop-i.invariant.1.known known)),
  added_more _ _ _ _ _ c.args.archive.input _ _ c.visit_entry.new.link.rows.rows c.loop-i.invariant.4 c.visit_entry.ensures.same_refusal c.loop-i.invariant.1.known c.in_ok-visit_entry.ensures.stops,
  held_then _ _ _ _ (g.M.ArchiveObjects.named c.visit_entry.new.members) _ _ c.visit_entry.new.link.rows.rows _ _ (g.M.ArchiveObjects.names c.visit_entry.new.members) _ c.loop-i.invariant.1.known c.loop-i.invariant.5 c.visit_entry.ensures.named
      c.in_ok-visit_entry.ensures.names,
  c.visit_entry.ensures.room ∙ c.loop-i.invariant.6,
)

pub returns-clause-stops : goal.returns-clause-stops
returns-clause-stops g c = λ known. c.loop-i.invariant.4.added known

pub returns-in_err-visit_entry-clause-stops : goal.returns-in_err-visit_entry-clause-stops
returns-in_err-visit_entry-clause-stops g c = λ known.
    let p = err_from_is_err_and c.from_residual.result c.from_residual.ensures.1 in
    rw (p.1, p.2) (stops_after _ _ _ _ (g.M.ArchiveObjects.refusal c.visit_entry.new.members) c.args.archive.input _ _ c.visit_entry.new.link.rows.rows _ _ _ _ _ _ _ c.loop-i.invariant.4 c.loop-i.invariant.1.known
    (λ k. entry_within c.args.archive _ _ _ _ _ _ c.args.entries.now c.loop-i.i _ c.loop-i-test.true c.loop-i.invariant.1 k) c.loop-i.auto.taken c.in_err-visit_entry.ensures.stops known)

pub returns-in_err-visit_entry-clause-full : goal.returns-in_err-visit_entry-clause-full
returns-in_err-visit_entry-clause-full g c =
    let p = err_from_is_err_and c.from_residual.result c.from_residual.ensures.1 in
    rw (p.1, p.2) c.in_err-visit_entry.ensures.full
