use Rattle.std.proofs.Common.{◌≡◌, ap, refl, sym, ◌∙◌}
use Rattle.std.specs.Prelude.{None}
use Rattle.elf_resolve.specs.KeyChains.{first_number}
use Rattle.elf_resolve.specs.declared.resolver.Resolver.{Resolver}
use Rattle.elf_resolve.proofs.MarkedRowLaws.{marked_multiple, marked_nothing, marked_offers, marked_still, same_but_marks}
use Rattle.elf_resolve.proofs.resolver.Resolver.mark_after.Goals as goal

pub returns-then-is_multiple : goal.returns-then-is_multiple
returns-then-is_multiple c = record {
  same = c.mark_further.ensures.same;
  marks = λ listed.
      let link = c.args.self.now in
      marked_multiple link c.args.key c.args.state listed link.problems.items c.mark_further.new.self.problems.items (sym c.is_multiple.ensures ∙ c.if-is_multiple.true) c.mark_further.ensures.marks;
}

pub returns-then-not-has_offers : goal.returns-then-not-has_offers
returns-then-not-has_offers c = record {
  same = refl;
  marks = λ listed.
      let link = c.args.self.now in
      marked_nothing link c.args.key c.args.state listed link.problems.items link.problems.items (sym c.is_multiple.ensures ∙ c.if-is_multiple.false) (sym c.has_offers.ensures ∙ c.if-not-has_offers.true) refl;
}

pub returns : goal.returns
returns c = record {
  same = same_but_marks c.args.self.now c.mark_offers.new.self c.mark_spare.new.self c.mark_offers.ensures.same c.mark_spare.ensures.same;
  marks = λ listed.
      let link = c.args.self.now in
      let none : first_number c.mark_offers.new.self.spare.chains c.args.key ≡ None = ap (λ (r : Resolver). first_number r.spare.chains c.args.key) c.mark_offers.ensures.same ∙ listed.spare c.args.key in
      marked_still link.link.rows _ link.problems.items c.mark_offers.new.self c.mark_spare.new.self (c.mark_spare.ensures.none none)
      (marked_offers link c.args.key c.args.state listed link.problems.items c.mark_offers.new.self.problems.items (sym c.is_multiple.ensures ∙ c.if-is_multiple.false) (sym c.has_offers.ensures ∙ c.if-not-has_offers.false) c.mark_offers.ensures.marks);
}
