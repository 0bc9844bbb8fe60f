-- The rows of the bits before this one were shown.
use Rattle.std.proofs.Common.{◌-◌, ◌≤◌, Ok}
use Rattle.elf_listing.specs.RelativeListed.{ListsBits}
use Rattle.elf_listing.proofs.relative_relocations.bit_rows.Given as goal

abbrev pub invariant-bits : goal.invariant-bits
invariant-bits g l = record {
  below : l.bit ≤ 63;
  so_far : ListsBits {X = Unit {0}} l.fn.listing l.listing (Ok tt) l.fn.word l.fn.base l.bit;
}

abbrev pub decreases-bits : goal.decreases-bits
decreases-bits g l = 63 - l.bit
