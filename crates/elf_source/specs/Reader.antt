-- What a reader below a stream returns.
use Rattle.std.specs.Prelude.{◌≡◌, ℕ, ◌+◌, ◌≤◌, ◌<◌, List, [], ◌∷◌, length, take, drop, Option, None, Some, IfSome, Result, Ok, Err, IfErr}
use Rattle.std.specs.Io.KnownBytes.{ReadConsumes}
use Rattle.std.specs.Io.Seek.{MovesTo}
use Rattle.elf_source.specs.Onward.{AreMade}
use Rattle.elf_source.specs.declared.faults.ReadAtFault.{ReadAtFault}
use Rattle.elf_source.specs.declared.faults.ReadAtFault.TheVariants.{Interrupted, Failed}

-- a turn of a reader, by the counts of its interrupted turns before and after
abbrev pub IsTurn : {X : Type 0} → ℕ → ℕ → Result X ReadAtFault → Type 0
IsTurn old new (Ok x) = new ≤ old
IsTurn old new (Err Interrupted) = new ≤ old + 1
IsTurn old new (Err Failed) = new ≤ old

-- a read at an offset of a file returned this many bytes: they are the file's, and none only at its
-- end
pub record GivesFileBytes (file : List ℕ) (at : ℕ) (out : List ℕ) (count : ℕ) : Type 0 where
  pub bytes : take count out ≡ take count (drop at file)
  pub ends : count ≡ 0 → 0 < length out → length file ≤ at

-- turns that read on within a range, each at an offset and into a buffer of the given size: each
-- requests the rest of the range from its start, which is at or after the one before it; they start
-- between two offsets
abbrev pub AreRests : (low high end : ℕ) → List (ℕ × ℕ) → Type 0
AreRests low high end [] = low ≤ high
AreRests low high end (turn ∷ turns) = (low ≤ turn.0) × (turn.0 + turn.1 ≡ end) × AreRests turn.0 high end turns

-- WHAT A READER WAS ASKED FOR, in turns that start between two offsets and end at a third, at most
-- this many of them
pub record Turns {R : Type 0} (one_turn : R → ℕ → ℕ → R → Type 0) (old new : R) (low high end most : ℕ) : Type 0 where
  pub turns : List (ℕ × ℕ)
  pub made : AreMade one_turn turns old new
  pub rests : AreRests low high end turns
  pub few : length turns ≤ most

-- a read of n bytes at an offset requests no byte outside them from its reader, and takes no more
-- than n + 64 turns
abbrev pub TurnsWithin : {R : Type 0} → (R → ℕ → ℕ → R → Type 0) → (old new : R) → (at n : ℕ) → Type 0
TurnsWithin one_turn old new at n = Turns one_turn old new at (at + n) (at + n) (n + 64)

-- a source over a reader: its state, the reader, and how many of its turns were interrupted
pub record Stream (SourceState R : Type 0) : Type 0 where
  pub seen : SourceState
  pub reader : R
  pub interrupted : ℕ

-- the position of a seekable reader after a read at an offset, as far as it is known: after what it
-- returned, or the offset if it was interrupted
abbrev pub StandsAfter : ℕ → Option ℕ → Result ℕ ReadAtFault → Type 0
StandsAfter at place (Ok count) = IfSome place (λ n. (n ≡ at + count) × (0 < count))
StandsAfter at place (Err Interrupted) = IfSome place (λ n. n ≡ at)
StandsAfter at place (Err Failed) = place ≡ None

-- a read at an offset of a seekable reader, by the position and the bytes left, if it knows them:
-- it sought the offset, unless it was there, and read
pub record SeeksAndReads {R : Type 0} (position : R → Option ℕ) (remaining : R → Option (List ℕ)) (place : Option ℕ) (old new : R) (at : ℕ) (out : List ℕ) (result : Result ℕ ReadAtFault) : Type 0 where
  pub there : R
  pub stays : place ≡ Some at → there ≡ old
  pub seeks : (place ≡ Some at → ⊥) → (sought : Result (Unit {0}) ReadAtFault) × MovesTo (position old) (position there) at sought × IfErr sought (λ fault. (result ≡ Err fault) × (new ≡ there))
  pub reads : ReadConsumes (remaining there) (remaining new) result out
