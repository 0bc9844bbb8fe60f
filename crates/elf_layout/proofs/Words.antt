-- The definitions that functions compute, unfolded for their checks.
use Rattle.elf_model.specs.ApplyCost.{layout_names_cost, lookup_cost}
use Rattle.elf_layout.specs.Layouts.{names_for}

-- the cost of names
unfoldable pub costs : Unit {0}
unfolding layout_names_cost lookup_cost names_for
costs = tt
