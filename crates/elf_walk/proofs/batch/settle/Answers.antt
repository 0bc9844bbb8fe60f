use Rattle.std.proofs.Common.{rules, ◌≡◌, ◌∙◌, sym, subst}
use Rattle.elf_walk.specs.Prelude.{IsEnough, in_order}
use Rattle.elf_walk.proofs.FrontLaws.{cut_front, taken_stays, whole_front, whole_stays}
use Rattle.elf_walk.proofs.MemberLaws.{permuted}
use Rattle.elf_walk.proofs.batch.settle.Goals as goal

pub returns-then-not-is_whole-clause-front : goal.returns-then-not-is_whole-clause-front
returns-then-not-is_whole-clause-front c = λ all front.
    let spare : c.put_each_once.new.to ≡ in_order c.args.kept.now = c.in_ok-put_each_once.ensures ∙ sym (permuted c.args.kept.now c.sort.new.self c.sort.ensures.permutation) in
    let cut = c.put_first.ensures.front (search rules) in
    cut_front c.args.kept.now c.put_each_once.new.to c.put_first.new.to all c.args.limit.now.items c.last_of.result.items c.args.more.now spare cut.0 cut.1 cut.2
    c.last_of.ensures front

pub returns-then-not-is_whole-clause-order : goal.returns-then-not-is_whole-clause-order
returns-then-not-is_whole-clause-order c =
    let spare : c.put_each_once.new.to ≡ in_order c.args.kept.now = c.in_ok-put_each_once.ensures ∙ sym (permuted c.args.kept.now c.sort.new.self c.sort.ensures.permutation) in
    let cut = c.put_first.ensures.front (search rules) in
    taken_stays c.args.kept.now c.put_each_once.new.to c.put_first.new.to spare cut.0

pub returns-else-not-is_whole-clause-front : goal.returns-else-not-is_whole-clause-front
returns-else-not-is_whole-clause-front c = λ all front.
    let spare : c.put_each_once.new.to ≡ in_order c.args.kept.now = c.in_ok-put_each_once.ensures ∙ sym (permuted c.args.kept.now c.sort.new.self c.sort.ensures.permutation) in
    whole_front c.args.kept.now c.put_each_once.new.to c.put_first.new.to all c.args.limit.now.items c.args.more.now spare (c.put_first.ensures.whole (search rules)) front

pub returns-else-not-is_whole-clause-order : goal.returns-else-not-is_whole-clause-order
returns-else-not-is_whole-clause-order c =
    let spare : c.put_each_once.new.to ≡ in_order c.args.kept.now = c.in_ok-put_each_once.ensures ∙ sym (permuted c.args.kept.now c.sort.new.self c.sort.ensures.permutation) in
    whole_stays c.args.kept.now c.put_each_once.new.to c.put_first.new.to spare (c.put_first.ensures.whole (search rules))

pub returns-then-not-is_whole-clause-settles : goal.returns-then-not-is_whole-clause-settles
returns-then-not-is_whole-clause-settles c = record {
  within = c.in_ok-is_whole.ensures.within;
  enough = λ _ _. c.put_first.ensures.enough (search rules);
}

pub returns-else-not-is_whole-clause-settles : goal.returns-else-not-is_whole-clause-settles
returns-else-not-is_whole-clause-settles c =
    let spare : c.put_each_once.new.to ≡ in_order c.args.kept.now = c.in_ok-put_each_once.ensures ∙ sym (permuted c.args.kept.now c.sort.new.self c.sort.ensures.permutation) in
    record {
      within = c.in_ok-is_whole.ensures.within;
      enough = λ had has. subst IsEnough (sym (c.put_first.ensures.whole (search rules) ∙ spare)) (had has);
    }
