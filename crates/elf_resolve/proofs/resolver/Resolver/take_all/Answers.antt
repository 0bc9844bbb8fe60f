use Rattle.std.proofs.Common.{List, ℕ, ap, map, sym, subst, ◌∙◌}
use Rattle.std.specs.Borrow.{Bor}
use Rattle.elf_model.specs.LinkArchives.{files_as_inputs}
use Rattle.elf_model.specs.LinkInputs.{linked}
use Rattle.elf_resolve.specs.EndsAtRefusal.{HasBadScript}
use Rattle.elf_resolve.specs.Plans.{planned_files}
use Rattle.elf_resolve.specs.ListRooms.{HasListRoom}
use Rattle.elf_resolve.specs.Resolved.{linking_of}
use Rattle.elf_resolve.specs.declared.resolver.Resolver.{Resolver}
use Rattle.elf_resolve.proofs.TakenMemberLaws.{on_ok_from}
use Rattle.elf_resolve.proofs.LinkEndLaws.{leaves_ended}
use Rattle.elf_resolve.proofs.ReadBudgetLaws.{spends_then}
use Rattle.std.proofs.lemmas.Result.{err_from_is_err_and}
use Rattle.elf_resolve.specs.NamedRows.{HasNames}
use Rattle.elf_resolve.proofs.resolver.Resolver.take_all.Goals as goal

pub returns-clause-links : goal.returns-clause-links
returns-clause-links g c = λ inputs fresh static steps.
    let took = c.in_ok-take_inputs.ensures.takes inputs fresh static steps in
    on_ok_from _ c.offer_libraries.result (ap (λ (r : Resolver). linking_of r) (c.offer_libraries.ensures.same took.is_link.no_libraries) ∙ took.makes)

pub returns-clause-names : goal.returns-clause-names
returns-clause-names g c = λ inputs fresh static steps.
    let took = c.in_ok-take_inputs.ensures.takes inputs fresh static steps in
    let all = planned_files (g.F.InputFiles.file c.args.files.now.files) c.args.plan.now c.args.self.now.room.headers in
    on_ok_from _ c.offer_libraries.result (subst (λ r. HasNames all r) (sym (c.offer_libraries.ensures.same took.is_link.no_libraries)) (c.in_ok-take_inputs.ensures.names inputs fresh static steps))

pub returns-clause-room : goal.returns-clause-room
returns-clause-room g c = λ inputs fresh static steps.
    let took = c.in_ok-take_inputs.ensures.takes inputs fresh static steps in
    on_ok_from _ c.offer_libraries.result (subst (λ r. HasListRoom r) (sym (c.offer_libraries.ensures.same took.is_link.no_libraries)) took.is_link.lists)

pub returns-in_err-take_inputs-clause-leaves : goal.returns-in_err-take_inputs-clause-leaves
returns-in_err-take_inputs-clause-leaves g c = λ inputs fresh static steps.
    let p = err_from_is_err_and c.from_residual.result c.from_residual.ensures.1 in
    rw (p.1, p.2) (c.in_err-take_inputs.ensures.leaves inputs fresh static steps)

pub returns-clause-leaves : goal.returns-clause-leaves
returns-clause-leaves g c = λ inputs fresh static steps.
    let all = planned_files (g.F.InputFiles.file c.args.files.now.files) c.args.plan.now c.args.self.now.room.headers in
    let names = map (λ (a : Bor (List ℕ)). a.now) c.args.asked.now in
    let took = c.in_ok-take_inputs.ensures.takes inputs fresh static steps in
    let libraries = took.is_link.no_libraries in
    leaves_ended all (HasBadScript c.args.plan.now) c.take_inputs.new.self c.offer_libraries.new.self (linked (files_as_inputs all) names inputs).rows c.offer_libraries.result (c.offer_libraries.ensures.same libraries)
    (c.offer_libraries.ensures.done libraries) (c.in_ok-take_inputs.ensures.leaves inputs fresh static steps)

pub returns-clause-spends : goal.returns-clause-spends
returns-clause-spends g c = spends_then c.take_inputs.ensures.spends c.offer_libraries.ensures.spends
