-- One pass checks, and others write.
use Rattle.std.proofs.Common.{◌≤◌, ◌∙◌, ap, Err, arith}
use Rattle.elf_source.proofs.ReadsLaws.{ReadsUpTo-then, ReadsUpTo-to}
use Rattle.elf_image.specs.Changes.{image_pass}
use Rattle.elf_image.specs.ImageWrites.{relocated_bytes, relocated_cost}
use Rattle.elf_image.specs.Written.{windows_cost}
use Rattle.elf_image.proofs.CeilingSteps.{check_ceiling, write_ceiling}
use Rattle.elf_image.proofs.ImageCostSteps.{marked_costs, pass_costs}
use Rattle.elf_image.proofs.ImageSteps.{check_stops, stops_before}
use Rattle.elf_image.proofs.LimitSteps.{allowed-limits, budget-limits, read-limits}
use Rattle.std.proofs.lemmas.Result.{err_from_is_err_and}
use Rattle.elf_image.proofs.StopSteps.{budget-stops, read-stops, stops-later}
use Rattle.elf_image.proofs.segment_image.write_relocated.Goals as goal

pub returns-clause-cost : goal.returns-clause-cost
returns-clause-cost g c = λ source has.
    let image = c.args.image.now in
    let target = c.args.target.now in
    let checks = c.in_ok-marks.ensures.checks source has.file has.image_is in
    let all = marked_costs source image target checks.0 c.in_ok-marks.marks checks.1 checks.2 in
    omega (arith, all, c.check.ensures.costs.reads.at_most, c.write_segment_windows.ensures.costs.at_most)

pub returns-in_err-marks-clause-limits : goal.returns-in_err-marks-clause-limits
returns-in_err-marks-clause-limits g c = λ source has.
    let p = err_from_is_err_and c.from_residual.result c.from_residual.ensures.1 in
    let image = c.args.image.now in
    let target = c.args.target.now in
    rw (p.1, p.2)
    (read-limits ⊥ (relocated_bytes source image.leaves target) c.args.src.now c.check.new.src (image_pass image) (relocated_cost source image target) c.in_err-marks.field-0.0 (pass_costs source image target) c.in_err-marks.ensures.costs.says)

pub returns-in_err-check_budget-clause-limits : goal.returns-in_err-check_budget-clause-limits
returns-in_err-check_budget-clause-limits g c = λ source has.
    let p = err_from_is_err_and c.from_residual-in_err-check_budget.result c.from_residual-in_err-check_budget.ensures.1 in
    let image = c.args.image.now in
    let target = c.args.target.now in
    let checks = c.in_ok-marks.ensures.checks source has.file has.image_is in
    let all = marked_costs source image target checks.0 c.in_ok-marks.marks checks.1 checks.2 in
    let reads = c.check.ensures.costs.reads in
    rw (p.1, p.2)
    (budget-limits ⊥ (relocated_bytes source image.leaves target) (Unit {0}) target.bytes.at (windows_cost image target c.in_ok-marks.marks) (relocated_cost source image target) c.in_err-check_budget.field-0.0
    (omega (arith, c.requires.within)) reads (omega (arith, reads.at_most, all)) c.in_err-check_budget.ensures)

pub returns-clause-limits : goal.returns-clause-limits
returns-clause-limits g c = λ source has.
    let image = c.args.image.now in
    let target = c.args.target.now in
    allowed-limits ⊥ (relocated_bytes source image.leaves target) c.args.src.now c.check.new.src c.write_segment_windows.new.src (windows_cost image target c.in_ok-marks.marks) (relocated_cost source image target) c.write_segment_windows.result
    c.in_ok-check_budget.ensures c.write_segment_windows.ensures.refuses

pub returns-in_err-marks-clause-reads : goal.returns-in_err-marks-clause-reads
returns-in_err-marks-clause-reads g c =
    let target = c.args.target.now in
    let reads = c.check.ensures.costs.reads in
    ReadsUpTo-to reads (omega (arith, reads.at_most, check_ceiling c.args.src.now.seen.size target.window target.size c.args.image.now c.requires.image))

pub returns-in_err-check_budget-clause-reads : goal.returns-in_err-check_budget-clause-reads
returns-in_err-check_budget-clause-reads g c =
    let target = c.args.target.now in
    let reads = c.check.ensures.costs.reads in
    ReadsUpTo-to reads (omega (arith, reads.at_most, check_ceiling c.args.src.now.seen.size target.window target.size c.args.image.now c.requires.image))

pub returns-clause-reads : goal.returns-clause-reads
returns-clause-reads g c =
    let target = c.args.target.now in
    let within : target.bytes.size ≤ c.args.src.now.seen.size = omega (arith, c.requires.within) in
    let reads = c.check.ensures.costs.reads in
    let later = c.write_segment_windows.ensures.costs in
    ReadsUpTo-to (ReadsUpTo-then reads later) (omega (arith, reads.at_most, later.at_most, write_ceiling c.args.src.now.seen.size c.args.image.now target c.in_ok-marks.marks c.requires.image within))

pub returns-in_err-marks-clause-stops : goal.returns-in_err-marks-clause-stops
returns-in_err-marks-clause-stops g c =
    let p = err_from_is_err_and c.from_residual.result c.from_residual.ensures.1 in
    rw (p.1, p.2) (read-stops c.args.src.now c.check.new.src c.args.out.now _ c.in_err-marks.field-0.0 c.in_err-marks.ensures.costs.says)

pub returns-in_err-check_budget-clause-stops : goal.returns-in_err-check_budget-clause-stops
returns-in_err-check_budget-clause-stops g c =
    let p = err_from_is_err_and c.from_residual-in_err-check_budget.result c.from_residual-in_err-check_budget.ensures.1 in
    rw (p.1, p.2) (budget-stops c.check.new.src c.args.src.now c.check.new.src c.args.out.now (Unit {0}) _ _ c.in_err-check_budget.field-0.0 c.in_err-check_budget.ensures)

pub returns-clause-stops : goal.returns-clause-stops
returns-clause-stops g c =
    stops-later c.write_segment_windows.new.src c.write_segment_windows.new.out c.write_segment_windows.result c.check.ensures.costs.reads c.write_segment_windows.ensures.stops

pub returns-in_err-marks-clause-writes : goal.returns-in_err-marks-clause-writes
returns-in_err-marks-clause-writes g c = λ source has.
    let p = err_from_is_err_and c.from_residual.result c.from_residual.ensures.1 in
    let image = c.args.image.now in
    let target = c.args.target.now in
    stops_before (Unit {0}) c.args.out.now c.in_err-marks.field-0.0 _ _ (p.1 ∙ ap Err p.2)
    (check_stops source image.leaves target target.window target.index c.in_err-marks.field-0.0 (c.in_err-marks.ensures.checks source has.file has.image_is))
