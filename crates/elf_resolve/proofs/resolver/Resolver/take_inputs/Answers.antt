use Rattle.std.proofs.Common.{refl, sym, subst, ap, ◌∙◌, map, List, ℕ}
use Rattle.std.specs.Borrow.{Bor}
use Rattle.elf_resolve.specs.Plans.{planned_files}
use Rattle.elf_resolve.proofs.StepLaws.{step_starts}
use Rattle.std.proofs.lemmas.Result.{err_from_is_err_and}
use Rattle.elf_resolve.specs.EndsAtRefusal.{NoneRefused}
use Rattle.elf_resolve.specs.declared.resolver.Resolver.{Resolver}
use Rattle.elf_resolve.proofs.RefusalLaws.{limit_stops}
use Rattle.elf_resolve.specs.NamedRows.{HasNames, named_in}
use Rattle.elf_resolve.specs.RowNames.{names_of_rows}
use Rattle.elf_resolve.proofs.NamedRowLaws.{rows_still}
use Rattle.elf_resolve.proofs.TakenMemberLaws.{on_ok_then}
use Rattle.elf_resolve.proofs.resolver.Resolver.take_inputs.Goals as goal

pub returns-clause-takes : goal.returns-clause-takes
returns-clause-takes g c = λ inputs fresh static steps.
    let all = planned_files (g.F.InputFiles.file c.args.files.now.files) c.args.plan.now c.args.self.now.room.headers in
    let names = map (λ (a : Bor (List ℕ)). a.now) c.args.asked.now in
    c.take_steps.ensures.takes c.args.self.now.room.headers _ static (step_starts all c.args.plan.now c.args.self.now c.ask_all.new.self names inputs refl fresh c.in_ok-ask_all.ensures.asks steps)

pub returns-in_err-ask_all-clause-leaves : goal.returns-in_err-ask_all-clause-leaves
returns-in_err-ask_all-clause-leaves g c = λ inputs fresh static steps.
    let p = err_from_is_err_and c.from_residual.result c.from_residual.ensures.1 in
    rw (p.1, p.2) (limit_stops _ _ _ _ _ c.in_err-ask_all.field-0.0 c.in_err-ask_all.ensures.limit)

pub returns-clause-leaves : goal.returns-clause-leaves
returns-clause-leaves g c = λ inputs fresh static steps.
    let all = planned_files (g.F.InputFiles.file c.args.files.now.files) c.args.plan.now c.args.self.now.room.headers in
    let names = map (λ (a : Bor (List ℕ)). a.now) c.args.asked.now in
    let rows = ap (λ (r : Resolver). r.link.rows.rows) c.in_ok-ask_all.ensures.asks.same ∙ fresh.rows in
    c.take_steps.ensures.leaves c.args.self.now.room.headers _ static (step_starts all c.args.plan.now c.args.self.now c.ask_all.new.self names inputs refl fresh c.in_ok-ask_all.ensures.asks steps)
    (subst (λ l. NoneRefused all l) (sym rows) tt)

pub returns-clause-names : goal.returns-clause-names
returns-clause-names g c = λ inputs fresh static steps.
    let all = planned_files (g.F.InputFiles.file c.args.files.now.files) c.args.plan.now c.args.self.now.room.headers in
    let names = map (λ (a : Bor (List ℕ)). a.now) c.args.asked.now in
    let asked = c.in_ok-ask_all.ensures.asks in
    let none : HasNames all c.args.self.now = fresh.names ∙ sym (ap (λ l. names_of_rows (named_in all) 0 l) fresh.rows) in
    let begun = rows_still all c.args.self.now c.ask_all.new.self (ap (λ (r : Resolver). r.room.names) asked.same) (ap (λ (r : Resolver). r.link.rows.rows) asked.same) none in
    on_ok_then _ _ c.take_steps.result (λ keep. keep begun)
    (c.take_steps.ensures.names c.args.self.now.room.headers _ static (step_starts all c.args.plan.now c.args.self.now c.ask_all.new.self names inputs refl fresh asked steps))
