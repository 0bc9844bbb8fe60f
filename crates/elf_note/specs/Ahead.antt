-- What is held of a file ahead of the rows that need it, and what may still be read.
use Rattle.std.specs.Prelude.{ℕ, ◌≡◌, ◌+◌, ◌-◌, ◌≤◌, List, [], length, Option, Some, Result, IfErr}
use Rattle.elf_model.specs.Bytes.{slice}
use Rattle.elf_source.specs.Source.{CountedState, ReadsUpTo}
use Rattle.elf_table.specs.Prelude.{IsAt, IsReadFault}
use Rattle.elf_table.specs.declared.fault.Fault.{Fault}

-- some bytes at an offset
pub record BufferedRange : Type 0 where
  pub at : ℕ
  pub bytes : List ℕ

-- the offset after the bytes that are held
abbrev pub reach : BufferedRange → ℕ
reach h = h.at + length h.bytes

-- the bytes that are held are the file's
abbrev pub IsOf : List ℕ → BufferedRange → Type 0
IsOf file h = h.bytes ≡ slice file h.at (length h.bytes)

-- if the bytes held before a call were those of the source's file, so are those held afterwards
abbrev pub StaysOf : Option (List ℕ) → BufferedRange → BufferedRange → Type 0
StaysOf file old new = (bytes : List ℕ) → file ≡ Some bytes → IsOf bytes old → IsOf bytes new

-- a fault of a read at an offset, after which nothing is held
abbrev pub LosesAt : ℕ → BufferedRange → Fault → Type 0
LosesAt at new fault = IsAt at fault × (new.bytes ≡ [])

-- what is held of names and of symbols, and the credit: how many bytes may still be read
pub record ReadAheadState : Type 0 where
  pub names : BufferedRange
  pub symbols : BufferedRange
  pub credit : ℕ

-- what is held is the file's
pub record IsAheadOf (file : List ℕ) (a : ReadAheadState) : Type 0 where
  pub names : IsOf file a.names
  pub symbols : IsOf file a.symbols

-- what is held is the file's, if the source's is known
abbrev pub AgreesWith : Option (List ℕ) → ReadAheadState → Type 0
AgreesWith file a = (bytes : List ℕ) → file ≡ Some bytes → IsAheadOf bytes a

-- what holds of the source's file, if that is known and what is held is of it
abbrev pub WhereAgrees : Option (List ℕ) → ReadAheadState → (List ℕ → Type 0) → Type 0
WhereAgrees file a tells = (bytes : List ℕ) → file ≡ Some bytes → IsAheadOf bytes a → tells bytes

-- THE EFFECT OF READS ON CREDIT, fault or not: with n bytes more of it, the sum of what was
-- requested and of what may still be requested is no more than before
pub record ReadsOnCredit (old new : CountedState) (before after n : ℕ) : Type 0 where
  pub reads : ReadsUpTo old new (before + n)
  pub account : new.asked + after ≤ old.asked + (before + n)

-- the cost of a call that reads on credit, with n bytes more of it, if `left` bytes are left of
-- what it reads in: a fault satisfies `IsReadFault`, and no byte after them is requested
pub record OnCredit {X : Type 0} (old new : CountedState) (before after : ℕ) (result : Result X Fault) (n left : ℕ) : Type 0 where
  pub spends : ReadsOnCredit old new before after n
  pub says : IfErr result (IsReadFault old new (before + n))
  pub not_past : new.asked ≤ old.asked + left

-- THE EFFECT OF A CALL THAT READS AHEAD: its cost, and what is held stays the file's
pub record ReadsAhead {X : Type 0} (old new : CountedState) (before after : ReadAheadState) (result : Result X Fault) (n left : ℕ) : Type 0 where
  pub costs : OnCredit old new before.credit after.credit result n left
  pub agrees : WhereAgrees old.seen.file before (λ file. IsAheadOf file after)

-- `count` bytes are held at an offset; the bytes requested, and the credit spent, are no more than
-- what is held from there on
pub record BringsHeld (new : BufferedRange) (at count before after credit left : ℕ) : Type 0 where
  pub begins : new.at ≤ at
  pub ends : at + count ≤ reach new
  pub asked : after ≤ before + (reach new - at)
  pub paid : credit ≤ left + (reach new - at)
