-- A step over the entries, and the change of the one that it returns.
use Rattle.std.proofs.Common.{◌∙◌, ◌+◌, ◌<◌, [], subst, arith}
use Rattle.std.proofs.lemmas.Result.{err_from_is_err_and}
use Rattle.elf_table.proofs.LedgerLaws.{CallReads-more}
use Rattle.elf_image.specs.Changes.{AreChangesOf, walk_reads}
use Rattle.elf_image.specs.declared.ranges.EntryRanges.{EntryRanges}
use Rattle.elf_image.specs.declared.walk.ImageWalk.{ImageWalk}
use Rattle.elf_image.proofs.AliveSteps.{ok-of}
use Rattle.elf_image.proofs.ChangeSteps.{entries_end, entries_first, entries_pass, entries_refused, turns}
use Rattle.elf_image.proofs.ReadSteps.{reads_after}
use Rattle.elf_image.proofs.walk.ImageWalk.entry_step.Goals as goal

pub returns-in-Past-clause-costs : goal.returns-in-Past-clause-costs
returns-in-Past-clause-costs g c = CallReads-more (walk_reads c.args.self.now) (omega arith) c.in_ok-step.ensures.costs

pub returns-in-Past-clause-takes : goal.returns-in-Past-clause-takes
returns-in-Past-clause-takes g c = λ source held of known.
    let old = c.args.self.now in
    let new : ImageWalk = record { rows = old.rows; entries = c.step.new.self; past_rows = old.past_rows; last = old.last; wanted = old.wanted } in
    entries_end source old new c.requires.past c.requires.past c.args.image.now.leaves old.entries.wanted old.wanted (rw c.in-Past.is at (c.in_ok-step.ensures.takes source held known.entries))

pub returns-in-Nothing-clause-costs : goal.returns-in-Nothing-clause-costs
returns-in-Nothing-clause-costs g c = CallReads-more (walk_reads c.args.self.now) (omega arith) c.in_ok-step.ensures.costs

pub returns-in-Nothing-clause-takes : goal.returns-in-Nothing-clause-takes
returns-in-Nothing-clause-takes g c = λ source held of known.
    let old = c.args.self.now in
    let new : ImageWalk = record { rows = old.rows; entries = c.step.new.self; past_rows = old.past_rows; last = old.last; wanted = old.wanted } in
    entries_pass source old new c.requires.past c.requires.past c.args.image.now.leaves old.entries.wanted old.wanted known.wanted (rw c.in-Nothing.is at (c.in_ok-step.ensures.takes source held known.entries))

pub returns-in-Entry-clause-costs : goal.returns-in-Entry-clause-costs
returns-in-Entry-clause-costs g c =
    let account = rw c.in-Entry.is at c.in_ok-step.ensures.account in
    reads_after (walk_reads c.args.self.now) c.in_ok-step.ensures.costs c.entry_change.ensures.costs (omega (arith, account))

pub returns-in-Entry-clause-account : goal.returns-in-Entry-clause-account
returns-in-Entry-clause-account g c =
    let account = rw c.in-Entry.is at c.in_ok-step.ensures.account in
    let reads = c.entry_change.ensures.costs.reads.at_most in
    rw (c.entry_change.ensures.rows, c.entry_change.ensures.entries) (omega (arith, account, reads))

pub returns-in-Entry-clause-takes : goal.returns-in-Entry-clause-takes
returns-in-Entry-clause-takes g c = λ source held of known.
    let old = c.args.self.now in
    let new = c.entry_change.new.self in
    let later = c.in_ok-step.ensures.costs.reads.keeps.same_file ∙ held in
    let has = subst (λ (ranges : EntryRanges). 0 < ranges.first.count + ranges.second.count) known.ranges (rw c.in-Entry.is at c.in_ok-step.ensures.some) in
    let step = rw c.in-Entry.is at (c.in_ok-step.ensures.takes source held known.entries) in
    let changed = c.entry_change.ensures.takes source old.wanted _ later of has step.1 step.2 in
    entries_first source old new c.requires.past (c.entry_change.ensures.past ∙ c.requires.past) c.args.image.now.leaves old.entries.wanted old.wanted c.in-Entry.ordered c.entry_change.result (rw c.entry_change.ensures.entries step) changed.0

pub returns-in-Entry-clause-turn : goal.returns-in-Entry-clause-turn
returns-in-Entry-clause-turn g c = λ source held of known.
    let old = c.args.self.now in
    let later = c.in_ok-step.ensures.costs.reads.keeps.same_file ∙ held in
    let has = subst (λ (ranges : EntryRanges). 0 < ranges.first.count + ranges.second.count) known.ranges (rw c.in-Entry.is at c.in_ok-step.ensures.some) in
    let step = rw c.in-Entry.is at (c.in_ok-step.ensures.takes source held known.entries) in
    let changed = c.entry_change.ensures.takes source old.wanted [] later of has step.1 step.2 in
    turns source.file old c.entry_change.new.self c.entry_change.result changed.1 (c.entry_change.ensures.past ∙ c.requires.past)

pub returns-in-Entry-clause-known : goal.returns-in-Entry-clause-known
returns-in-Entry-clause-known g c = λ source held of known.
    let now : AreChangesOf source.file c.args.image.now c.entry_change.new.self = record {
      rows = rw c.entry_change.ensures.rows known.rows;
      entries = rw c.entry_change.ensures.entries (c.in_ok-step.ensures.known source.file held known.entries);
      ranges = rw c.entry_change.ensures.entries (c.in_ok-step.ensures.ranges ∙ known.ranges);
      wanted = rw (c.entry_change.ensures.entries, c.entry_change.ensures.wanted) (c.in_ok-step.ensures.wanted ∙ known.wanted);
    } in
    ok-of c.entry_change.result now

pub returns-in_err-step-clause-costs : goal.returns-in_err-step-clause-costs
returns-in_err-step-clause-costs g c =
    let p = err_from_is_err_and c.from_residual.result c.from_residual.ensures.1 in
    rw (p.1, p.2) (CallReads-more (walk_reads c.args.self.now) (omega arith) c.in_err-step.ensures.costs)

pub returns-in_err-step-clause-takes : goal.returns-in_err-step-clause-takes
returns-in_err-step-clause-takes g c = λ source held of known.
    let p = err_from_is_err_and c.from_residual.result c.from_residual.ensures.1 in
    let old = c.args.self.now in
    rw (p.1, p.2)
    (entries_refused source old c.requires.past c.args.image.now.leaves old.entries.wanted old.wanted [] [] c.in_err-step.field-0.0 (c.in_err-step.ensures.takes source held known.entries))
