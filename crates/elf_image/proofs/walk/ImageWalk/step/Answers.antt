-- A step over the relative relocations, and then over the entries.
use Rattle.std.proofs.Common.{true, [], Result, Err, refl, arith}
use Rattle.std.proofs.lemmas.Result.{err_from_is_err_and}
use Rattle.elf_table.proofs.LedgerLaws.{CallReads-more}
use Rattle.elf_table.specs.declared.fault.Fault.{Fault}
use Rattle.elf_image.specs.Changes.{walk_reads}
use Rattle.elf_image.specs.RelativeRows.{relative_left}
use Rattle.elf_image.specs.declared.changes.PlacedBytes.{PlacedBytes}
use Rattle.elf_image.specs.declared.walk.ImageWalk.{ImageWalk}
use Rattle.elf_image.proofs.ChangeSteps.{rises_on, row_nothing, row_outside, row_passes, row_refused, row_rises, row_stores, rows_end, word_turn}
use Rattle.elf_image.proofs.ToldSteps.{reads_check}
use Rattle.elf_image.proofs.walk.ImageWalk.step.Goals as goal

pub returns-in-Row-clause-costs : goal.returns-in-Row-clause-costs
returns-in-Row-clause-costs g c = CallReads-more (walk_reads c.args.self.now) (omega arith) c.in_ok-row.ensures.costs

pub returns-in-Row-clause-takes : goal.returns-in-Row-clause-takes
returns-in-Row-clause-takes g c = λ source held of known.
    let old = c.args.self.now in
    let new : ImageWalk = record { rows = c.step.new.self; entries = old.entries; past_rows = old.past_rows; last = old.last; wanted = old.wanted } in
    let takes = rw c.in-Row.is at (c.in_ok-row.ensures.takes source.file held known.rows) in
    row_passes source old c.if-self.false new c.if-self.false refl c.in-Row.row takes c.args.image.now.leaves old.wanted (c.passes.ensures c.if-passes.true)

pub returns-in-Row-clause-turn : goal.returns-in-Row-clause-turn
returns-in-Row-clause-turn g c = λ source held of known.
    let old = c.args.self.now in
    let new : ImageWalk = record { rows = c.step.new.self; entries = old.entries; past_rows = old.past_rows; last = old.last; wanted = old.wanted } in
    let takes = rw c.in-Row.is at (c.in_ok-row.ensures.takes source.file held known.rows) in
    row_rises source.file old new c.in-Row.row (relative_left source.file old.rows) (relative_left source.file new.rows) c.if-self.false takes

pub returns-in_ok-row_change-in-Row-2-clause-costs : goal.returns-in_ok-row_change-in-Row-2-clause-costs
returns-in_ok-row_change-in-Row-2-clause-costs g c = CallReads-more (walk_reads c.args.self.now) (omega arith) c.in_ok-row.ensures.costs

pub returns-in_ok-row_change-in-Row-2-clause-takes : goal.returns-in_ok-row_change-in-Row-2-clause-takes
returns-in_ok-row_change-in-Row-2-clause-takes g c = λ source held of known.
    let old = c.args.self.now in
    let new : ImageWalk = record { rows = c.step.new.self; entries = old.entries; past_rows = old.past_rows; last = c.row_change.new.last; wanted = old.wanted } in
    let takes = rw c.in-Row.is at (c.in_ok-row.ensures.takes source.file held known.rows) in
    row_stores source old c.if-self.false new c.if-self.false refl c.in-Row.row takes c.args.image.now.leaves old.wanted _ (c.in_ok-row_change-in-Row-2.ensures.found source of)

pub returns-in_ok-row_change-in-Row-2-clause-turn : goal.returns-in_ok-row_change-in-Row-2-clause-turn
returns-in_ok-row_change-in-Row-2-clause-turn g c = λ source held of known.
    let old = c.args.self.now in
    let new : ImageWalk = record { rows = c.step.new.self; entries = old.entries; past_rows = old.past_rows; last = c.row_change.new.last; wanted = old.wanted } in
    let takes = rw c.in-Row.is at (c.in_ok-row.ensures.takes source.file held known.rows) in
    let found = c.in_ok-row_change-in-Row-2.ensures.found source of in
    word_turn source.file old new c.in-Row.row _ (relative_left source.file old.rows) (relative_left source.file new.rows) c.if-self.false takes found.0 found.1 found.2.1

pub returns-in_err-row_change-in-Row-2-clause-costs : goal.returns-in_err-row_change-in-Row-2-clause-costs
returns-in_err-row_change-in-Row-2-clause-costs g c =
    let p = err_from_is_err_and c.from_residual-in_err-row_change-in-Row-2.result c.from_residual-in_err-row_change-in-Row-2.ensures.1 in
    let stopped : Result PlacedBytes Fault = Err c.in_err-row_change-in-Row-2.field-0.0 in
    rw (p.1, p.2) (CallReads-more (walk_reads c.args.self.now) (omega arith) (reads_check stopped c.in_err-row_change-in-Row-2.ensures.refusal c.in_ok-row.ensures.costs))

pub returns-in_err-row_change-in-Row-2-clause-takes : goal.returns-in_err-row_change-in-Row-2-clause-takes
returns-in_err-row_change-in-Row-2-clause-takes g c = λ source held of known.
    let p = err_from_is_err_and c.from_residual-in_err-row_change-in-Row-2.result c.from_residual-in_err-row_change-in-Row-2.ensures.1 in
    let old = c.args.self.now in
    let takes = rw c.in-Row.is at (c.in_ok-row.ensures.takes source.file held known.rows) in
    rw (p.1, p.2) (row_outside source old c.if-self.false c.args.image.now.leaves old.wanted c.step.new.self.low (relative_left source.file c.step.new.self) [] c.in-Row.row _ takes (c.in_err-row_change-in-Row-2.ensures.found source of))

pub returns-in-Nothing-clause-costs : goal.returns-in-Nothing-clause-costs
returns-in-Nothing-clause-costs g c = CallReads-more (walk_reads c.args.self.now) (omega arith) c.in_ok-row.ensures.costs

pub returns-in-Nothing-clause-takes : goal.returns-in-Nothing-clause-takes
returns-in-Nothing-clause-takes g c = λ source held of known.
    let old = c.args.self.now in
    let new : ImageWalk = record { rows = c.step.new.self; entries = old.entries; past_rows = old.past_rows; last = old.last; wanted = old.wanted } in
    let takes = rw c.in-Nothing.is at (c.in_ok-row.ensures.takes source.file held known.rows) in
    row_nothing source old c.if-self.false new c.if-self.false refl c.args.image.now.leaves old.wanted takes

pub returns-in-Nothing-clause-turn : goal.returns-in-Nothing-clause-turn
returns-in-Nothing-clause-turn g c = λ source held of known.
    let old = c.args.self.now in
    let new : ImageWalk = record { rows = c.step.new.self; entries = old.entries; past_rows = old.past_rows; last = old.last; wanted = old.wanted } in
    let takes = rw c.in-Nothing.is at (c.in_ok-row.ensures.takes source.file held known.rows) in
    rises_on source.file old new c.if-self.false (omega (arith, takes.1))

pub returns-in-Ended-clause-costs : goal.returns-in-Ended-clause-costs
returns-in-Ended-clause-costs g c = CallReads-more (walk_reads c.args.self.now) (omega arith) c.in_ok-row.ensures.costs

pub returns-in-Ended-clause-takes : goal.returns-in-Ended-clause-takes
returns-in-Ended-clause-takes g c = λ source held of known.
    let old = c.args.self.now in
    let new : ImageWalk = record { rows = c.step.new.self; entries = old.entries; past_rows = true; last = old.last; wanted = old.wanted } in
    let takes = rw c.in-Ended.is at (c.in_ok-row.ensures.takes source.file held known.rows) in
    rows_end source old c.if-self.false c.args.image.now.leaves old.wanted new c.step.new.self.low (relative_left source.file c.step.new.self) refl refl takes

pub returns-in_err-row-clause-costs : goal.returns-in_err-row-clause-costs
returns-in_err-row-clause-costs g c =
    let p = err_from_is_err_and c.from_residual.result c.from_residual.ensures.1 in
    rw (p.1, p.2) (CallReads-more (walk_reads c.args.self.now) (omega arith) c.in_err-row.ensures.costs)

pub returns-in_err-row-clause-takes : goal.returns-in_err-row-clause-takes
returns-in_err-row-clause-takes g c = λ source held of known.
    let p = err_from_is_err_and c.from_residual.result c.from_residual.ensures.1 in
    let old = c.args.self.now in
    rw (p.1, p.2)
    (row_refused source old c.if-self.false c.args.image.now.leaves old.wanted c.step.new.self.low (relative_left source.file c.step.new.self) [] c.in_err-row.field-0.0
    (c.in_err-row.ensures.takes source.file held known.rows))
