-- Consecutive reads.
use Rattle.std.specs.Prelude.{ℕ, ◌≡◌, ◌+◌, ◌≤◌, List, [], ◌∷◌}
use Rattle.elf_source.specs.Source.{SourceState}

-- reads, each at an offset and of a number of bytes, lead from one state to another
abbrev pub AreMade : {A : Type 0} → (A → ℕ → ℕ → A → Type 0) → List (ℕ × ℕ) → A → A → Type 0
AreMade one_read [] old new = new ≡ old
AreMade {A} one_read (read ∷ reads) old new = (next : A) × one_read old read.0 read.1 next × AreMade one_read reads next new

-- reads between two offsets, each starting at or after the end of the one before
abbrev pub AreOnward : ℕ → ℕ → List (ℕ × ℕ) → Type 0
AreOnward low high [] = low ≤ high
AreOnward low high (read ∷ reads) = (low ≤ read.0) × AreOnward (read.0 + read.1) high reads

-- WHAT WAS READ: bytes between two offsets, in ascending order, so that no byte was read twice
pub record ReadsOnward (one_read : SourceState → ℕ → ℕ → SourceState → Type 0) (old new : SourceState) (low high : ℕ) : Type 0 where
  pub reads : List (ℕ × ℕ)
  pub made : AreMade one_read reads old new
  pub onward : AreOnward low high reads
