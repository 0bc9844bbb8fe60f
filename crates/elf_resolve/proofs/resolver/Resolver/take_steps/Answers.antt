use Rattle.std.proofs.Common.{◌≤◌, length, refl, sym, subst, ◌∙◌, arith}
use Rattle.elf_resolve.specs.NamedRows.{KeepsRowNames}
use Rattle.elf_resolve.specs.Plans.{IsStaticPlan, planned_files}
use Rattle.elf_resolve.specs.ResolvedInputs.{IsAtStep, IsLink}
use Rattle.elf_resolve.proofs.ReadBudgetLaws.{spends_then}
use Rattle.elf_resolve.proofs.StepLaws.{steps_end}
use Rattle.std.proofs.lemmas.Result.{err_from_is_err_and}
use Rattle.elf_resolve.specs.EndsAtRefusal.{HasBadScript, NoneRefused, StopsLink}
use Rattle.elf_resolve.proofs.resolver.Resolver.take_steps.Goals as goal

pub returns-then-place-count-clause-takes : goal.returns-then-place-count-clause-takes
returns-then-place-count-clause-takes g c = λ headers whole static at.
    let past : length c.args.plan.now.steps.items ≤ c.turns.place = omega (arith, c.len-count.ensures, c.args.plan.now.steps.ok.0, c.if-place-count.true) in
    steps_end (planned_files (g.F.InputFiles.file c.args.files.now.files) c.args.plan.now headers) c.args.plan.now whole c.turns.self c.turns.place past (c.turns.invariant.1 headers whole static at)

pub turns-preserved : goal.turns-preserved
turns-preserved g c = (
  c.take_step.ensures.file ∙ c.turns.invariant.0,
  λ headers whole static at.
      let plan = c.args.plan.now in
      let before = c.turns.invariant.1 headers whole static at in
      let static_now = subst (λ k. IsStaticPlan k plan) (sym c.turns.invariant.0) static in
      let before_now = subst (λ k. IsAtStep (planned_files k plan headers) plan whole c.turns.self c.turns.place) (sym c.turns.invariant.0) before in
      subst (λ k. IsAtStep (planned_files k plan headers) plan whole c.take_step.new.self c.in_ok-after.after) c.turns.invariant.0 (c.in_ok-after.ensures.steps headers whole static_now refl before_now),
  λ headers whole static at none.
      let plan = c.args.plan.now in
      let same = c.turns.invariant.0 in
      let static_now = subst (λ k. IsStaticPlan k plan) (sym same) static in
      let before_now = subst (λ k. IsAtStep (planned_files k plan headers) plan whole c.turns.self c.turns.place) (sym same) (c.turns.invariant.1 headers whole static at) in
      let none_now = subst (λ k. NoneRefused (planned_files k plan headers) c.turns.self.link.rows.rows) (sym same) (c.turns.invariant.2 headers whole static at none) in
      subst (λ k. NoneRefused (planned_files k plan headers) c.take_step.new.self.link.rows.rows) same (c.in_ok-after.ensures.leaves headers whole static_now before_now none_now),
  c.take_step.ensures.text ∙ c.turns.invariant.3,
  λ headers whole static at held.
      let plan = c.args.plan.now in
      let before = c.turns.invariant.1 headers whole static at in
      let static_now = subst (λ k. IsStaticPlan k plan) (sym c.turns.invariant.0) static in
      let is_now = subst (λ k. IsLink (planned_files k plan headers) c.turns.self) (sym c.turns.invariant.0) before.is_link in
      let keeps = subst (λ k. KeepsRowNames (planned_files k plan headers) c.turns.self c.take_step.new.self) c.turns.invariant.0 (c.in_ok-after.ensures.names headers static_now is_now) in
      keeps (c.turns.invariant.4 headers whole static at held),
  spends_then c.turns.invariant.5 c.take_step.ensures.spends,
)

pub returns-then-place-count-clause-leaves : goal.returns-then-place-count-clause-leaves
returns-then-place-count-clause-leaves g c = λ headers whole static at none. c.turns.invariant.2 headers whole static at none

pub returns-in_err-after-clause-leaves : goal.returns-in_err-after-clause-leaves
returns-in_err-after-clause-leaves g c = λ headers whole static at none.
    let p = err_from_is_err_and c.from_residual.result c.from_residual.ensures.1 in
    let plan = c.args.plan.now in
    let same = c.turns.invariant.0 in
    let static_now = subst (λ k. IsStaticPlan k plan) (sym same) static in
    let before_now = subst (λ k. IsAtStep (planned_files k plan headers) plan whole c.turns.self c.turns.place) (sym same) (c.turns.invariant.1 headers whole static at) in
    let none_now = subst (λ k. NoneRefused (planned_files k plan headers) c.turns.self.link.rows.rows) (sym same) (c.turns.invariant.2 headers whole static at none) in
    rw (p.1, p.2) (subst (λ k. StopsLink (planned_files k plan headers) (HasBadScript plan) c.take_step.new.self.link.rows.rows whole.rows c.take_step.new.self.row c.in_err-after.field-0.0) same
    (c.in_err-after.ensures.leaves headers whole static_now before_now none_now))

pub returns-in_err-after-clause-spends : goal.returns-in_err-after-clause-spends
returns-in_err-after-clause-spends g c = spends_then c.turns.invariant.5 c.take_step.ensures.spends
