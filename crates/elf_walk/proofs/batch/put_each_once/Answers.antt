use Rattle.std.proofs.Common.{rules, ◌≡◌, ◌∙◌, ◌++◌, ◌∷◌, [], add-one, sym, true, false, ◌<◌, length, ap, take}
use Rattle.std.specs.Prelude.{slice_index_or}
use Rattle.elf_walk.specs.Prelude.{in_order, repeats}
use Rattle.elf_walk.proofs.SortedLaws.{added, none_put, repeated}
use Rattle.elf_walk.proofs.batch.put_each_once.Goals as goal

pub loop-i-init : goal.loop-i-init
loop-i-init c = c.requires.empty ∙ sym none_put

pub loop-i-preserved-then-repeats : goal.loop-i-preserved-then-repeats
loop-i-preserved-then-repeats c =
    let is : repeats c.args.from.now c.loop-i.i ≡ true = search rules in
    let within : c.loop-i.i < length c.args.from.now = search rules in
    rw (add-one) (c.loop-i.invariant ∙ repeated c.args.from.now c.loop-i.i within is)

pub loop-i-preserved : goal.loop-i-preserved
loop-i-preserved c =
    let is : repeats c.args.from.now c.loop-i.i ≡ false = search rules in
    let within : c.loop-i.i < length c.args.from.now = search rules in
    let name : c.in-Some.name.now ≡ slice_index_or c.args.from.now c.loop-i.i [] = search rules in
    rw (add-one)
    (c.in_ok-push.ensures.pushed ∙ ap (λ l. l ++ c.in-Some.name.now ∷ []) c.loop-i.invariant
    ∙ ap (λ n. in_order (take c.loop-i.i c.args.from.now) ++ n ∷ []) name ∙ added c.args.from.now c.loop-i.i within c.requires.sorted is)
