use Rattle.std.proofs.Common.{ℕ, ◌-◌, ◌<◌, ◌≤◌, length, get_or, map}
use Rattle.std.specs.List.Sorted.{IsStrictlyIncreasing}
use Rattle.elf_resolve.specs.MemberNames.{row_of_place}
use Rattle.elf_resolve.proofs.member_names.first_from.Given as goal

abbrev pub invariant-loop-low : goal.invariant-loop-low
invariant-loop-low l = record {
  order : l.low ≤ l.high;
  within : l.high ≤ length l.places;
  found : IsStrictlyIncreasing (map row_of_place l.places) → ((k : ℕ) → k < l.low → get_or (map row_of_place l.places) k 0 < l.row) × ((k : ℕ) → l.high ≤ k → k < length (map row_of_place l.places) → l.row ≤ get_or (map row_of_place l.places) k 0);
}

abbrev pub decreases-loop-low : goal.decreases-loop-low
decreases-loop-low l = l.high - l.low
