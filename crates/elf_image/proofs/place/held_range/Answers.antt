-- The segment of the place before, or the one that is found.
use Rattle.std.proofs.Common.{refl, sym}
use Rattle.elf_image.proofs.PlaceSteps.{load_of, same_holder}
use Rattle.elf_image.proofs.place.held_range.Goals as goal

pub returns-then-holds-clause-found : goal.returns-then-holds-clause-found
returns-then-holds-clause-found c = λ source of.
    let held = c.requires in
    let range = rw c.in-Some.is at held in
    same_holder source c.args.image.now c.in-Some.range c.args.address c.args.width of range c.if-width-gt0.true (c.if-holds.ensures.above refl)
    (c.if-holds.ensures.within refl)

pub range_of-requires-clause-load : goal.range_of-requires-clause-load
range_of-requires-clause-load c = λ file views. load_of file c.args.address c.args.width c.in_ok-holder.field-0 (sym (c.in_ok-holder.ensures.held file views))
