-- The effect of a call that writes a section with its relocations applied.
use Rattle.std.specs.Prelude.{ℕ, ◌≡◌, ◌+◌, ◌-◌, ◌^◌, ◌/◌, ◌<◌, ◌≤◌, min, List, None, Result, Ok, Err, IfErr}
use Rattle.elf_model.specs.Prelude.{AllInside, IsBudgetRefusal, StoredBytes, patched, patches_of, slice}
use Rattle.elf_model.specs.declared.causes.Refusal.{Refusal}
use Rattle.elf_source.specs.Prelude.{CountedState, IsOutFault, IsSourceFault, OutGrows, OutState, ReadsUpTo, SinkTakes, SinkTakesPrefix}
use Rattle.elf_table.specs.Prelude.{IsOpen}
use Rattle.elf_table.specs.declared.fault.Fault.{Fault}
use Rattle.elf_table.specs.declared.run_fault.RunFault.TheVariants.{Out}
use Rattle.elf_table.specs.declared.run_fault.RunFault.{RunFault}
use Rattle.elf_table.specs.declared.fault.Fault.TheVariants.{Refused as Refuses, Source as Unread}
use Rattle.elf_reloc.specs.Walk.{changes_all}
use Rattle.elf_reloc.specs.declared.entry.ApplyTarget.{ApplyTarget}
use Rattle.elf_table.specs.declared.run_fault.RunFault.TheVariants.{Refused, Source}

-- how many windows a section has
abbrev pub windows : ℕ → ℕ
windows size = (size + 63) / 64

-- what a fault implies for the source and the output: the given statement for a refusal, a fault of
-- the source points to the read that stopped, and on a fault of the output the sink has failed
abbrev pub ApplyFaultSays : (Refusal → Type 0) → CountedState → CountedState → OutState → RunFault → Type 0
ApplyFaultSays IsReadFault old new out (Refused refusal) = IsReadFault refusal
ApplyFaultSays IsReadFault old new out (Source fault at) = IsSourceFault old.seen new.seen fault × (at ≡ new.stopped)
ApplyFaultSays IsReadFault old new out (Out fault) = IsOutFault out fault

-- a refusal other than `Budget`
abbrev pub NotForBudget : Refusal → Type 0
NotForBudget refusal = IsBudgetRefusal refusal → ⊥

-- no refusal
abbrev pub NoRefusal : Refusal → Type 0
NoRefusal refusal = ⊥

-- how many bytes were written: n, or no more on a fault
abbrev pub WroteBytes : {X : Type 0} → OutState → OutState → Result X RunFault → ℕ → Type 0
WroteBytes old new (Ok x) n = new.written ≡ min (old.written + n) (2 ^ 128 - 1)
WroteBytes old new (Err fault) n = new.written ≤ old.written + n

-- a text was written, or a prefix of it; nothing is refused
abbrev pub WritesBytes : {X : Type 0} → OutState → OutState → Result X RunFault → List ℕ → Type 0
WritesBytes old new (Ok x) text = SinkTakes old new text
WritesBytes old new (Err (Refused refusal)) text = ⊥
WritesBytes old new (Err (Source fault at)) text = SinkTakesPrefix old new text
WritesBytes old new (Err (Out fault)) text = SinkTakesPrefix old new text

-- THE EFFECT OF A CALL that reads at most n bytes and writes k, for every source: a fault satisfies
-- the given statement, and fewer bytes were written on one
pub record Copies {X : Type 0} (before after : CountedState) (old new : OutState) (result : Result X RunFault) (IsReadFault : Refusal → Type 0) (n k : ℕ) : Type 0 where
  pub says : IfErr result (ApplyFaultSays IsReadFault before after new)
  pub reads : ReadsUpTo before after n
  pub grows : OutGrows old new
  pub wrote : WroteBytes old new result k

-- what the fault of a read implies, which is no refusal
abbrev pub UnreadSays : CountedState → CountedState → Fault → Type 0
UnreadSays old new (Refuses refusal) = ⊥
UnreadSays old new (Unread fault at) = IsSourceFault old.seen new.seen fault × (at ≡ new.stopped)

-- a section whose bytes are at an offset may be written: no limit is set, the target's file is that
-- of the source, the bytes lie within the source, and offsets up to a bound fit
pub record MayWrite (src : CountedState) (target : ApplyTarget) (at bound : ℕ) : Type 0 where
  pub free : src.most ≡ None
  pub opened : IsOpen src target.file.loaded target.file.store.now
  pub within : at + target.size ≤ src.seen.size
  pub fits : bound < 2 ^ 64

-- if all entries store patches inside the section, whose bytes are at an offset, this holds of them
-- and of its bytes with the patches
abbrev pub OfPatches : ApplyTarget → ℕ → (List StoredBytes → List ℕ → Type 0) → List ℕ → Type 0
OfPatches target at Text file =
    (patches : List StoredBytes) → patches_of (changes_all file target) ≡ Ok patches → AllInside target.size patches → Text patches (patched patches (slice file at target.size))
