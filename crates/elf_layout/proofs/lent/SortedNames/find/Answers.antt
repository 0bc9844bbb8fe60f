use Rattle.std.proofs.Common.{◌≡◌, ◌+◌, None, Ok, Err, ap, sym, subst, ◌∙◌, arith}
use Rattle.elf_model.specs.Prelude.{address_named, longest, slice}
use Rattle.elf_model.specs.declared.causes.Cause.TheVariants.{NameUnended}
use Rattle.elf_layout.proofs.NameSteps.{said, stopped, unstopped}
use Rattle.elf_layout.proofs.lent.SortedNames.find.Goals as goal

pub returns-then-end-front-clause-found : goal.returns-then-end-front-clause-found
returns-then-end-front-clause-found c = λ strings index inside is.
    let front = c.name_end-end.ensures in
    let read = is ∙ ap (λ n. slice strings index (n + 1)) (ap longest (sym c.self.view_is) ∙ sym c.self.invariant.1) in
    subst (λ l. Ok c.address_at.result ≡ address_named strings index l) c.self.view_is
    (sym (said strings index c.name_end-end.result c.self.inside.most c.args.front.now inside read front.within front.before c.self.inside.items.now c.self.invariant.0 c.self.invariant.1
    (front.ends c.if-end-front.true) c.if-end-front.true c.search_name-place.result c.search_name-place.ensures c.address_at.result c.address_at.ensures))

pub returns-then-begins_at-clause-found : goal.returns-then-begins_at-clause-found
returns-then-begins_at-clause-found c = λ strings index inside is.
    let front = c.name_end-end.ensures in
    let read = is ∙ ap (λ n. slice strings index (n + 1)) (ap longest (sym c.self.view_is) ∙ sym c.self.invariant.1) in
    subst (λ l. Err NameUnended ≡ address_named strings index l) c.self.view_is
    (sym (stopped strings index c.name_end-end.result c.self.inside.most c.args.front.now inside read front.within front.before c.self.inside.items.now c.self.invariant.0 c.self.invariant.1
    (omega (arith, front.within, c.if-end-front.false)) c.search_name-place.result c.search_name-place.ensures (rw (← c.place_of.ensures) c.if-begins_at.ensures)))

pub returns-clause-found : goal.returns-clause-found
returns-clause-found c = λ strings index inside is.
    let front = c.name_end-end.ensures in
    let read = is ∙ ap (λ n. slice strings index (n + 1)) (ap longest (sym c.self.view_is) ∙ sym c.self.invariant.1) in
    subst (λ l. Ok None ≡ address_named strings index l) c.self.view_is
    (sym (unstopped strings index c.name_end-end.result c.self.inside.most c.args.front.now inside read front.within front.before c.self.inside.items.now c.self.invariant.0 c.self.invariant.1
    (omega (arith, front.within, c.if-end-front.false)) c.search_name-place.result c.search_name-place.ensures (rw (← c.place_of.ensures) c.if-begins_at.ensures)))
