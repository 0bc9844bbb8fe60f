use Rattle.std.proofs.Common.{◌≡◌, ℕ, ◌<◌, ◌≤◌, [], ◌∷◌, get_or, length, ◌-◌}
use Rattle.elf_format.specs.Pieces.{byte_text}
use Rattle.elf_format.proofs.named.plain_from.Given as goal

-- the bytes so far are unchanged
abbrev pub invariant-loop-count : goal.invariant-loop-count
invariant-loop-count l = record {
  within : l.count ≤ length l.name;
  stand : (k : ℕ) → k < l.count → byte_text l.fn.format (get_or l.name k 0) ≡ get_or l.name k 0 ∷ [];
}

abbrev pub decreases-loop-count : goal.decreases-loop-count
decreases-loop-count l = length l.name - l.count
