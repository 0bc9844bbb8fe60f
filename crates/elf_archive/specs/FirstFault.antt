-- The first fault of an archive: of itself, of a member's listing, or of the walk over its members.
use Rattle.std.specs.Prelude.{false, ℕ, ◌≡◌, ◌<◌, ◌⊎◌, List, length, Option, None, Some, Result, Ok, Err, ◌≤◌, ◌+◌, ◌-◌, option_map}
use Rattle.elf_model.specs.Prelude.{IsBudgetRefusal, ListingStyle, MemberWalkState, archive_ceiling, archive_cost, archive_fault, archive_length_checks, first_fault, first_refusal, members_from}
use Rattle.elf_model.specs.Archive.{ARCHIVE_MAGIC, MAGIC_SIZE}
use Rattle.elf_model.specs.Bytes.{field}
use Rattle.elf_model.specs.declared.causes.Refusal.{Refusal}
use Rattle.elf_source.specs.Prelude.{OutState}
use Rattle.elf_source.specs.Source.{CountedState, IsSourceFault, SourceState}
use Rattle.elf_archive.specs.Listed.{GoesThrough}
use Rattle.elf_options.specs.Prelude.{style_of}
use Rattle.elf_options.specs.declared.caps.Caps.{Caps}
use Rattle.elf_table.specs.declared.run_fault.RunFault.TheVariants.{Out}
use Rattle.elf_table.specs.declared.run_fault.RunFault.{RunFault}
use Rattle.elf_table.specs.declared.run_fault.RunFault.TheVariants.{Refused, Source}

-- the first fault from the position of a walk over members, over at most n of them
abbrev pub fault_from : List ℕ → ℕ → ListingStyle → ℕ → ℕ → MemberWalkState → Option Refusal
fault_from file headers style parts most p =
    first_fault file headers style parts (members_from most file style.cap p).members (members_from most file style.cap p).refusal

-- a call returns the first fault, unless it stopped before
abbrev pub FindsFault : {X : Type 0} → Option Refusal → Result X RunFault → Type 0
FindsFault fault (Ok x) = fault ≡ None
FindsFault fault (Err (Refused refusal)) = (IsBudgetRefusal refusal → ⊥) → fault ≡ Some refusal
FindsFault fault (Err (Source cause at)) = Unit {0}
FindsFault fault (Err (Out cause)) = Unit {0}

-- a fault is one for lack of budget, within a file of the given size
pub record IsOverBudget (size : ℕ) (fault : Option Refusal) : Type 0 where
  pub refusal : Refusal
  pub is : fault ≡ Some refusal
  pub for_budget : IsBudgetRefusal refusal
  pub inside : refusal.at < size

-- the fault of an archive within a budget: its own, or if its listing costs more than the budget,
-- possibly that
abbrev pub IsArchiveFault : Option ℕ → List ℕ → ℕ → ListingStyle → ℕ → Option Refusal → Type 0
IsArchiveFault None file headers style parts fault = fault ≡ archive_fault file headers style parts
IsArchiveFault (Some budget) file headers style parts fault =
    (fault ≡ archive_fault file headers style parts)
    ⊎ ((budget < archive_cost file headers style parts) × IsOverBudget (length file) fault)

-- a source is of a file that begins with the magic string of an archive
pub record BeginsArchive (seen : SourceState) : Type 0 where
  pub size : MAGIC_SIZE ≤ seen.size
  pub magic : (file : List ℕ) → seen.file ≡ Some file → field file 0 MAGIC_SIZE ≡ ARCHIVE_MAGIC

-- a budget as it was before the magic string was read, by what that left of it
abbrev pub before_magic : Option ℕ → Option ℕ
before_magic left = option_map (λ bytes. MAGIC_SIZE + bytes) left

-- WHAT IS FOUND of an archive whose magic string was read, with what that left of the budget
abbrev pub FindsAfterMagic : {X : Type 0} → Caps → ℕ → List ℕ → Result X RunFault → Type 0
FindsAfterMagic left parts file (Ok x) = IsArchiveFault (before_magic left.limits.budget) file left.limits.headers (style_of left.style) parts None
FindsAfterMagic left parts file (Err (Refused refusal)) =
    IsArchiveFault (before_magic left.limits.budget) file left.limits.headers (style_of left.style) parts (Some refusal)
FindsAfterMagic left parts file (Err (Source fault at)) = Unit {0}
FindsAfterMagic left parts file (Err (Out fault)) = ⊥

-- what an archive may ask for besides its magic string
abbrev pub cost_after_magic : List ℕ → ℕ → ListingStyle → ℕ → ℕ
cost_after_magic file headers style parts = archive_cost file headers style parts - MAGIC_SIZE

-- what a fault implies for the source if nothing is written
abbrev pub ReadTells : CountedState → CountedState → RunFault → Type 0
ReadTells old new (Refused refusal) = Unit {0}
ReadTells old new (Source fault at) = IsSourceFault old.seen new.seen fault
ReadTells old new (Out fault) = ⊥

-- THE EFFECT OF A CALL that searches an archive whose magic string was read for its first fault,
-- and writes nothing
pub record SearchesArchive (headers : ℕ) (style : ListingStyle) (parts : ℕ) (a b : CountedState) (result : Result (Unit {0}) RunFault) : Type 0 where
  pub slots : ℕ
  pub old : OutState
  pub new : OutState
  pub goes : GoesThrough headers slots style parts a b old new result (archive_ceiling a.seen.size) cost_after_magic
      (λ file slots by which. FindsFault (archive_fault file slots by which) result)
  pub unread : (refusal : Refusal) → first_refusal (archive_length_checks a.seen.size) ≡ Some refusal → b ≡ a
  pub well : new.failed ≡ false
