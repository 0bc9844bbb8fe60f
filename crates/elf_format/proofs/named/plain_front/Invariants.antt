use Rattle.std.proofs.Common.{◌≡◌, ℕ, ◌<◌, ◌≤◌, [], ◌∷◌, get_or, length, ◌-◌}
use Rattle.elf_format.specs.Pieces.{byte_text}
use Rattle.elf_format.proofs.named.plain_front.Given as goal

-- the bytes so far are unchanged
abbrev pub invariant-loop-piece : goal.invariant-loop-piece
invariant-loop-piece l = record {
  within : l.count ≤ length l.name;
  stand : (k : ℕ) → k < l.count → byte_text l.fn.format (get_or l.name k 0) ≡ get_or l.name k 0 ∷ [];
}

abbrev pub decreases-loop-piece : goal.decreases-loop-piece
decreases-loop-piece l = length l.name - l.count
