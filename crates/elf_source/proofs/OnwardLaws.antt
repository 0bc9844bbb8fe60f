-- Consecutive reads, and then more of them.
use Rattle.std.proofs.Common.{◌≡◌, ℕ, ◌+◌, ◌≤◌, List, [], ◌∷◌, ◌++◌, refl, subst, arith}
use Rattle.elf_source.specs.Prelude.{AreMade, AreOnward, ReadsOnward, SourceState}

-- nothing was read
pub onward_none : (one_read : SourceState → ℕ → ℕ → SourceState → Type 0) (old new : SourceState) (low high : ℕ) → new ≡ old → low ≤ high → ReadsOnward one_read old new low high
onward_none one_read old new low high same within = record { reads = []; made = same; onward = within }

-- one read
pub onward_one : (one_read : SourceState → ℕ → ℕ → SourceState → Type 0) (old new : SourceState) (at n low high : ℕ) → one_read old at n new → low ≤ at → at + n ≤ high
    → ReadsOnward one_read old new low high
onward_one one_read old new at n low high read from to = record { reads = (at, n) ∷ []; made = (new, read, refl); onward = (from, to) }

-- reads, and then others
pub made_then : {A : Type 0} → (one_read : A → ℕ → ℕ → A → Type 0) (first second : List (ℕ × ℕ)) (a b c : A) → AreMade one_read first a b → AreMade one_read second b c
    → AreMade one_read (first ++ second) a c
made_then {A} one_read [] second a b c made later = let P : A → Type 0 = λ s. AreMade one_read second s c in subst P made later
made_then one_read (read ∷ first) second a b c made later = (made.0, made.1, made_then one_read first second made.0 b c made.2 later)

onward_lower : (low next high : ℕ) (reads : List (ℕ × ℕ)) → low ≤ next → AreOnward next high reads → AreOnward low high reads
onward_lower low next high [] less onward = omega (arith, less, onward)
onward_lower low next high (read ∷ reads) less onward = (omega (arith, less, onward.0), onward.1)

lists_then : (low middle next high : ℕ) (first second : List (ℕ × ℕ)) → middle ≤ next → AreOnward low middle first → AreOnward next high second
    → AreOnward low high (first ++ second)
lists_then low middle next high [] second less p q = onward_lower low next high second (omega (arith, less, p)) q
lists_then low middle next high (read ∷ first) second less p q = (p.0, lists_then (read.0 + read.1) middle next high first second less p.1 q)

-- reads, and then others after them
pub onward_then : (one_read : SourceState → ℕ → ℕ → SourceState → Type 0) (a b c : SourceState) (low middle next high : ℕ) → middle ≤ next
    → ReadsOnward one_read a b low middle → ReadsOnward one_read b c next high → ReadsOnward one_read a c low high
onward_then one_read a b c low middle next high less p q = record {
  reads = p.reads ++ q.reads;
  made = made_then one_read p.reads q.reads a b c p.made q.made;
  onward = lists_then low middle next high p.reads q.reads less p.onward q.onward;
}

-- reads, in a looser bound
pub onward_more : (one_read : SourceState → ℕ → ℕ → SourceState → Type 0) (a b : SourceState) (low middle high : ℕ) → middle ≤ high → ReadsOnward one_read a b low middle
    → ReadsOnward one_read a b low high
onward_more one_read a b low middle high less p = onward_then one_read a b b low middle high high less p (onward_none one_read b b high high refl (omega arith))
