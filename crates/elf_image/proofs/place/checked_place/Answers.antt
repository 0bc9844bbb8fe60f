-- The checks of the place, in their order.
use Rattle.std.proofs.Common.{ℕ, ◌-◌, sym, ap, ◌∙◌}
use Rattle.elf_image.proofs.PlaceSteps.{checks_of_range, none_holds}
use Rattle.elf_image.proofs.place.checked_place.Goals as goal

pub returns-in_default-clause-found : goal.returns-in_default-clause-found
returns-in_default-clause-found c = λ source of.
    rw c.refused.ensures (none_holds source c.args.at c.args.address c.args.width (c.in_default.ensures.found source of))

pub returns-in-Some-range_fault-clause-found : goal.returns-in-Some-range_fault-clause-found
returns-in-Some-range_fault-clause-found c = λ source of.
    let range = c.in-Some.range in
    let is = c.in-Some.ensures.held.held source.file of.held in
    rw c.refused-in-Some-range_fault.ensures
    (checks_of_range source c.args.image.now range c.args.at c.args.address c.args.width of is (c.in-Some.ensures.found source of)
    ∙ sym (c.in-Some-range_fault.ensures.value c.args.at))

pub returns-clause-found : goal.returns-clause-found
returns-clause-found c = λ source of.
    let range = c.in-Some.range in
    let is = c.in-Some.ensures.held.held source.file of.held in
    let found = c.in-Some.ensures.found source of in (
      checks_of_range source c.args.image.now range c.args.at c.args.address c.args.width of is found
          ∙ sym (c.in_default-range_fault.ensures.value c.args.at),
      record { holder = found; offset = ap (λ (first : ℕ). c.args.address - first) is.first },
    )
