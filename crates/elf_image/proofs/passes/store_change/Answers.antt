-- A change of the segment is stored, and no other.
use Rattle.std.proofs.Common.{ap, refl, ◌∙◌}
use Rattle.elf_image.proofs.StoreSteps.{store_elsewhere, store_here}
use Rattle.elf_image.proofs.passes.store_change.Goals as goal

pub returns-then-change-target-clause-stores : goal.returns-then-change-target-clause-stores
returns-then-change-target-clause-stores c = λ source write of form meets fits ends.
    store_here source c.args.target.now c.args.change.now write c.args.window.now c.store.new.self c.args.image.now.base (of.based ∙ ap (λ items. items.base) of.items) c.if-change-target.true form meets fits ends c.store.ensures.based c.store.ensures.given

pub returns-else-change-target-clause-stores : goal.returns-else-change-target-clause-stores
returns-else-change-target-clause-stores c = λ source write of form meets fits ends.
    store_elsewhere source c.args.target.now c.args.change.now write c.args.window.now c.args.window.now c.if-change-target.false form refl
