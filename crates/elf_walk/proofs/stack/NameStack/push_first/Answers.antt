-- From the last of the names to the first, each is pushed on those after it.
use Rattle.std.proofs.Common.{rules, arith, ◌≡◌, ◌≤◌, ◌∙◌, ◌-◌, All, length, [], ap, drop, take, subst, sym}
use Rattle.std.proofs.Math.Seq.{take-length}
use Rattle.std.proofs.lemmas.List.Elements.{All-nil}
use Rattle.std.specs.Prelude.{slice_index_or}
use Rattle.elf_walk.specs.Stacked.{pushed, stacked}
use Rattle.elf_walk.proofs.StackedLaws.{more_put, none_left, none_put, short_put, starts_trans}
use Rattle.elf_walk.proofs.stack.NameStack.push_first.Goals as goal

pub loop-left-init : goal.loop-left-init
loop-left-init c = record {
  within = omega arith;
  stack = none_put c.args.names.now c.args.count c.args.self.now;
  short = subst (All (λ name. length name ≤ 255)) (sym (none_left c.args.names.now c.args.count)) (All-nil (λ name. length name ≤ 255));
  stays = take-length c.args.self.now;
}

pub loop-left-preserved : goal.loop-left-preserved
loop-left-preserved c =
    let name : c.in-Some.name.now ≡ slice_index_or c.args.names.now (c.loop-left.left - 1) [] = search rules in
    let short : length c.in-Some.name.now ≤ 255 = c.in_ok-push.ensures.short in
    record {
      within = omega (arith, c.loop-left.invariant.within);
      stack =
          more_put c.args.names.now c.args.count c.loop-left.left c.args.self.now c.loop-left.self c.push.new.self c.loop-left-test.true c.loop-left.invariant.within c.requires
          c.loop-left.invariant.stack (c.in_ok-push.ensures.pushed ∙ ap (λ n. pushed c.loop-left.self n) name);
      short =
          short_put c.args.names.now c.args.count c.loop-left.left c.loop-left-test.true c.loop-left.invariant.within c.requires
          (subst (λ n. length n ≤ 255) name short) c.loop-left.invariant.short;
      stays = starts_trans c.push.new.self c.loop-left.self c.args.self.now c.in_ok-push.ensures.stays c.loop-left.invariant.stays;
    }

pub returns-clause-stacked : goal.returns-clause-stacked
returns-clause-stacked c =
    let none : c.loop-left.left ≡ 0 = omega (arith, c.loop-left-test.false) in
    subst (λ n. c.loop-left.self ≡ stacked (drop n (take c.args.count c.args.names.now)) c.args.self.now) none c.loop-left.invariant.stack

pub returns-clause-short : goal.returns-clause-short
returns-clause-short c =
    let none : c.loop-left.left ≡ 0 = omega (arith, c.loop-left-test.false) in
    subst (λ n. All (λ name. length name ≤ 255) (drop n (take c.args.count c.args.names.now))) none c.loop-left.invariant.short
