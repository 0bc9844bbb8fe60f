use Rattle.std.proofs.Common.{◌≡◌}
use Rattle.std.specs.Prelude.{None, Some}
use Rattle.std.specs.List.{slice_get}
use Rattle.elf_resolve.specs.Plans.{planned_files}
use Rattle.elf_resolve.specs.declared.link_files.LinkStep.TheVariants as step
use Rattle.elf_resolve.proofs.StepLaws.{row_link_still, step_opens, step_takes, took_from_row}
use Rattle.std.proofs.Common.{sym, subst}
use Rattle.std.proofs.lemmas.Result.{err_from_is_err_and}
use Rattle.elf_resolve.specs.EndsAtRefusal.{NoneRefused}
use Rattle.elf_resolve.specs.declared.resolver.Resolver.{Resolver}
use Rattle.elf_resolve.proofs.RefusalLaws.{limit_stops, stops_within}
use Rattle.elf_resolve.proofs.StopLaws.{group_leaves, input_begins}
use Rattle.elf_resolve.proofs.resolver.Resolver.take_step.Goals as goal

pub returns-in_ok-open_group-in-Open-clause-steps : goal.returns-in_ok-open_group-in-Open-clause-steps
returns-in_ok-open_group-in-Open-clause-steps g c = λ headers whole static next_is at.
    let here : slice_get c.args.plan.now.steps.items c.args.place ≡ Some step.Open = cc (c.element_at.ensures, c.deref.ensures.value, c.in-Some.is, c.in-Open.is) in
    step_opens (planned_files (g.F.InputFiles.file c.args.files.now.files) c.args.plan.now headers) c.args.plan.now whole c.args.self.now c.open_group.new.self c.args.place c.args.next next_is here c.in_ok-open_group-in-Open.ensures.opens at

pub returns-in-Close-clause-steps : goal.returns-in-Close-clause-steps
returns-in-Close-clause-steps g c = λ headers whole static next_is at.
    let here : slice_get c.args.plan.now.steps.items c.args.place ≡ Some step.Close = cc (c.element_at.ensures, c.deref.ensures.value, c.in-Some.is, c.in-Close.is) in
    c.close_group.ensures.closes (planned_files (g.F.InputFiles.file c.args.files.now.files) c.args.plan.now headers) c.args.plan.now whole c.args.place next_is here at

pub returns-in_ok-visit-in-Input-clause-steps : goal.returns-in_ok-visit-in-Input-clause-steps
returns-in_ok-visit-in-Input-clause-steps g c = λ headers whole static next_is at.
    let all = planned_files (g.F.InputFiles.file c.args.files.now.files) c.args.plan.now headers in
    let here : slice_get c.args.plan.now.steps.items c.args.place ≡ Some (step.Input c.in-Input.input) = cc (c.element_at.ensures, c.deref.ensures.value, c.in-Some.is, c.in-Input.is) in
    let old = c.args.self.now in
    let took = c.in_ok-visit-in-Input.ensures.visits headers static (row_link_still all old None at.is_link) in
    step_takes all c.args.plan.now whole old c.visit.new.self c.args.place c.args.next c.in-Input.input static.distinct next_is here (took_from_row all old None c.visit.new.self c.in-Input.input took) at

pub returns-in_ok-open_group-in-Open-clause-leaves : goal.returns-in_ok-open_group-in-Open-clause-leaves
returns-in_ok-open_group-in-Open-clause-leaves g c = λ headers whole static at none.
    let all = planned_files (g.F.InputFiles.file c.args.files.now.files) c.args.plan.now headers in
    subst (λ (r : Resolver). NoneRefused all r.link.rows.rows) (sym c.in_ok-open_group-in-Open.ensures.opens.same) none

pub returns-in_err-open_group-in-Open-clause-leaves : goal.returns-in_err-open_group-in-Open-clause-leaves
returns-in_err-open_group-in-Open-clause-leaves g c = λ headers whole static at none.
    let p = err_from_is_err_and c.from_residual.result c.from_residual.ensures.1 in
    rw (p.1, p.2) (limit_stops _ _ _ _ _ c.in_err-open_group-in-Open.field-0.0 c.in_err-open_group-in-Open.ensures.limit)

pub returns-in-Close-clause-leaves : goal.returns-in-Close-clause-leaves
returns-in-Close-clause-leaves g c = λ headers whole static at none.
    group_leaves (planned_files (g.F.InputFiles.file c.args.files.now.files) c.args.plan.now headers) _ c.args.self.now c.close_group.new.self whole.rows c.close_group.result c.close_group.ensures.rows c.close_group.ensures.limit none

pub returns-in_ok-visit-in-Input-clause-leaves : goal.returns-in_ok-visit-in-Input-clause-leaves
returns-in_ok-visit-in-Input-clause-leaves g c = λ headers whole static at none.
    let all = planned_files (g.F.InputFiles.file c.args.files.now.files) c.args.plan.now headers in
    c.in_ok-visit-in-Input.ensures.leaves headers static (row_link_still all c.args.self.now None at.is_link) none

pub returns-in_err-visit-in-Input-clause-leaves : goal.returns-in_err-visit-in-Input-clause-leaves
returns-in_err-visit-in-Input-clause-leaves g c = λ headers whole static at none.
    let p = err_from_is_err_and c.from_residual-in_err-visit-in-Input.result c.from_residual-in_err-visit-in-Input.ensures.1 in
    let all = planned_files (g.F.InputFiles.file c.args.files.now.files) c.args.plan.now headers in
    let old = c.args.self.now in
    let here : slice_get c.args.plan.now.steps.items c.args.place ≡ Some (step.Input c.in-Input.input) = cc (c.element_at.ensures, c.deref.ensures.value, c.in-Some.is, c.in-Input.is) in
    let leaves = c.in_err-visit-in-Input.ensures.leaves headers static (row_link_still all old None at.is_link) none in
    rw (p.1, p.2) (stops_within all _ _ _ _ whole.rows _ c.in_err-visit-in-Input.field-0.0 (λ bad. bad) (input_begins all c.args.plan.now whole old c.args.place c.in-Input.input static.distinct here at) leaves)

pub returns-in_ok-visit-in-Input-clause-names : goal.returns-in_ok-visit-in-Input-clause-names
returns-in_ok-visit-in-Input-clause-names g c = λ headers static is.
    c.in_ok-visit-in-Input.ensures.names headers static (row_link_still (planned_files (g.F.InputFiles.file c.args.files.now.files) c.args.plan.now headers) c.args.self.now None is)
