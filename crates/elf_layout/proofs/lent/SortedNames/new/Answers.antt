use Rattle.std.proofs.Common.{arith, add-one, subst, ap, refl, get_or, inl, inr, length}
use Rattle.std.proofs.lemmas.Bool.{cases_lt}
use Rattle.std.proofs.lemmas.Cmp.{nat_list_cmp_total}
use Rattle.elf_model.specs.ApplyCost.{longest}
use Rattle.elf_layout.specs.Prelude.{IsName, lent_name}
use Rattle.elf_layout.specs.declared.lent.LentName.{LentName}
use Rattle.elf_layout.proofs.LentSteps.{below_more}
use Rattle.elf_layout.proofs.NameSteps.{greater_is, longest_more, lends_front, some_item}
use Rattle.elf_layout.proofs.lent.SortedNames.new.Goals as goal

pub loop-i-init : goal.loop-i-init
unfolding longest
loop-i-init c = record { within = omega arith; below = λ a b d less none. absurd (omega (arith, none)); names = λ k d none. absurd (omega (arith, none)); longest = refl }

pub returns-then-not-name_follows-clause-refused : goal.returns-then-not-name_follows-clause-refused
returns-then-not-name_follows-clause-refused c =
    (c.loop-i-test.true, λ lend. c.if-not-name_follows.ensures (lends_front c.args.items.now c.loop-i.i c.loop-i-test.true lend))

pub loop-i-preserved : goal.loop-i-preserved
loop-i-preserved c =
    let items = c.args.items.now in
    let i = c.loop-i.i in
    let follows = c.if-not-name_follows.ensures in
    let d : LentName = some_item items (omega (arith, c.loop-i-test.true)) in
    let more = longest_more items i d c.loop-i-test.true in
    let long = ap length (c.name_at.ensures d) in
    record {
      within = omega (arith, c.loop-i-test.true);
      below = below_more nat_list_cmp_total lent_name items i c.loop-i.invariant.below follows.1;
      names = λ k d less. elim (cases_lt k i) [
        | inl before ↦ c.loop-i.invariant.names k d before
        | inr last ↦ subst (λ n. IsName (lent_name (get_or items n d))) {x = i} (omega (arith, last, less)) (follows.0 d)
      ];
      longest = rw add-one (omega (arith, more, long, c.loop-i.invariant.longest, c.max-most.ensures, greater_is c.loop-i.most (length c.name_at.result.now)));
    }
