-- The segment of the place before holds the word, and its checks pass.
use Rattle.std.proofs.Common.{ℕ, ◌-◌, sym, ap, refl, ◌∙◌, arith}
use Rattle.elf_image.specs.Headers.{refusal_for}
use Rattle.elf_image.proofs.PlaceSteps.{checks_of_range, same_holder}
use Rattle.elf_image.proofs.place.last_place.Goals as goal

pub returns-in-None : goal.returns-in-None
returns-in-None c = λ source at of.
    let range = c.in-Some.range in
    let held = rw c.in-Some.is at c.requires in
    let is = held.held source.file of.held in
    let found = same_holder source c.args.image.now range c.args.address 8 of held (omega arith) (c.if-not-holds.ensures.above refl) (c.if-not-holds.ensures.within refl) in (
      checks_of_range source c.args.image.now range at c.args.address 8 of is found ∙ (sym (c.range_fault.ensures.value at) ∙ ap (refusal_for at) c.in-None.is),
      record { holder = found; offset = ap (λ (first : ℕ). c.args.address - first) is.first },
    )
