use Rattle.std.proofs.Common.{List, ap, arith, get_or, length, ℕ, refl, ◌∙◌}
use Rattle.elf_resolve.specs.declared.resolver.Resolver.{Resolver}
use Rattle.elf_resolve.proofs.KeyMarkLaws.{keys_begun, keys_ended, keys_next}
use Rattle.elf_resolve.proofs.MarkedRowLaws.{same_but_marks}
use Rattle.elf_resolve.proofs.resolver.Resolver.mark_problems.Goals as goal

pub loop-place-init : goal.loop-place-init
loop-place-init c = record { same = refl; marks = λ listed. keys_begun c.args.self.now }

pub loop-place-preserved : goal.loop-place-preserved
loop-place-preserved c =
    let start = c.args.self.now in
    let before = c.loop-place.invariant.same in
    let order = ap (λ (r : Resolver). r.link.keys.keys.order) before in
    record {
      same = same_but_marks start c.loop-place.self c.mark_key.new.self before c.mark_key.ensures.same;
      marks = λ listed.
          keys_next start c.loop-place.self c.mark_key.new.self c.loop-place.place 0 c.key_at-key.result before listed (omega (arith, c.loop-place-test.true, ap (λ (l : List ℕ). length l) c.order-place-end.ensures))
          (c.key_at-key.ensures ∙ ap (λ (l : List ℕ). get_or l c.loop-place.place 0) (c.order.ensures ∙ order))
          (c.loop-place.invariant.marks listed) c.mark_key.ensures.marks;
    }

pub returns : goal.returns
returns c = record {
  same = c.loop-place.invariant.same;
  marks = λ listed. keys_ended c.args.self.now c.loop-place.self c.loop-place.place (omega (arith, c.loop-place-test.false, ap (λ (l : List ℕ). length l) c.order-place-end.ensures)) (c.loop-place.invariant.marks listed);
}
