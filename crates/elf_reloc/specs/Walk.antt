-- The walk over the relocation entries for a section: what is left of it, and the effect of a step.
use Rattle.std.specs.Prelude.{ℕ, ◌≡◌, ◌+◌, ◌-◌, ◌*◌, ◌^◌, ◌<◌, ◌≤◌, true, false, List, [], ◌∷◌, ◌++◌, flat_map, Option, None, Some, Result, Ok, Err, IfOk, IfErr, IfSome}
use Rattle.elf_model.specs.Prelude.{Fails, IsBudgetRefusal, Put, RELA_SIZE, SectionChange, applies_to, entry_at, entry_changes, entry_count, first_refusal, places_from, section_at, section_changes, sh_offset, sum_over, table_checks_of}
use Rattle.elf_source.specs.Source.{CountedState, ReadsUpTo}
use Rattle.elf_table.specs.Prelude.{HoldsRows, IsOpen, IsReadFault, SymbolTableInBounds, TableInBounds, row, section_place, unless_failed, unread_bytes}
use Rattle.elf_table.specs.declared.fault.Fault.{Fault}
use Rattle.elf_table.specs.declared.fault.Fault.TheVariants.{Refused, Source}
use Rattle.elf_reloc.specs.Entries.{target_as, patch_as, beside_entry_cost, IsPlacedInside, Refers}
use Rattle.elf_reloc.specs.declared.entry.PlacedPatch.{PlacedPatch}
use Rattle.elf_reloc.specs.declared.entry.ApplyTarget.{ApplyTarget as TargetCode}
use Rattle.elf_reloc.specs.declared.walk.RelocationWalk.{RelocationWalk}
use Rattle.elf_reloc.specs.declared.walk.WalkStep.{WalkStep}
use Rattle.elf_reloc.specs.declared.walk.WalkStep.TheVariants.{Stores, Nothing, End}

-- how many sections the target's file has
abbrev pub section_count_of : TargetCode → ℕ
section_count_of target = target.file.store.now.loaded

-- the changes of some entries of a section, starting at one
unfoldable pub rows_changes : List ℕ → TargetCode → ℕ → ℕ → ℕ → List SectionChange
rows_changes file target at i n =
    flat_map (entry_changes (target_as file target) at) (places_from (entry_at file at RELA_SIZE) i n)

-- the changes of some sections, starting at one
unfoldable pub changes_from : List ℕ → TargetCode → ℕ → ℕ → List SectionChange
changes_from file target i n = flat_map (section_changes (target_as file target)) (places_from (section_at file) i n)

-- the changes of the entries that are left
unfoldable pub changes_left : List ℕ → TargetCode → RelocationWalk → List SectionChange
changes_left file target e =
    rows_changes file target (section_at file e.current) e.cursor.index e.cursor.left
    ++ changes_from file target e.next (section_count_of target - e.next)

-- the changes of all
abbrev pub changes_all : List ℕ → TargetCode → List SectionChange
changes_all file target = changes_from file target 0 (section_count_of target)

-- how many entries for the target the section of an index has, by its header in the store: none
-- unless it holds entries for the target and passes its own checks
unfoldable pub entry_count_in : TargetCode → ℕ → ℕ
entry_count_in target i =
    let bytes = row target.file.store.now i in
    elim (applies_to bytes target.section 0) [
      | false ↦ 0
      | true ↦ elim (first_refusal (table_checks_of bytes 0 target.file.loaded.size (section_place target.file.loaded.header i) RELA_SIZE)) [
        | Some refusal ↦ 0
        | None ↦ entry_count bytes 0 RELA_SIZE
      ]
    ]

-- how many entries the sections starting at one have
unfoldable pub entries_from : TargetCode → ℕ → ℕ
entries_from target i = sum_over (entry_count_in target) i (section_count_of target - i)

-- what the walk may still request
unfoldable pub walk_left : TargetCode → RelocationWalk → ℕ
walk_left target e =
    (unread_bytes e.cursor + unless_failed e.cursor.failed (e.cursor.left * beside_entry_cost target))
    + entries_from target e.next * (24 + beside_entry_cost target)

-- what a whole walk requests
unfoldable pub walk_all : TargetCode → ℕ
walk_all target = entries_from target 0 * (24 + beside_entry_cost target)

-- what was requested is no longer left to the walk
pub record AsksOf (before after : CountedState) (target : TargetCode) (old new : RelocationWalk) : Type 0 where
  pub reads : ReadsUpTo before after (walk_left target old)
  pub account : after.asked + walk_left target new ≤ before.asked + walk_left target old

-- the largest number of steps that are left
unfoldable pub steps_left : TargetCode → RelocationWalk → ℕ
steps_left target e = (section_count_of target - e.next) * (target.file.loaded.size + 1) + e.cursor.left

-- the walk has not failed, and what it reads lies within a source of this size
pub record IsWalkAlive (size : ℕ) (target : TargetCode) (e : RelocationWalk) : Type 0 where
  pub not_failed : e.cursor.failed ≡ None
  pub entry : e.cursor.table.entry ≡ 24
  pub within : TableInBounds size e.cursor.table
  pub linked : IfSome e.symbols.linked (SymbolTableInBounds size)
  pub next : e.next ≤ section_count_of target
  pub few : e.count ≤ e.next * 2 ^ 64

-- the rows that are left are the file's
pub record ReadsEntries (file : List ℕ) (target : TargetCode) (e : RelocationWalk) : Type 0 where
  pub agrees : HoldsRows file e.cursor
  pub links : 0 < e.cursor.left → Refers file target (section_at file e.current) e.symbols
  pub placed : 0 < e.cursor.left → e.cursor.table.at ≡ sh_offset file (section_at file e.current)

-- entries are counted when their section is opened
abbrev CountsEntries : TargetCode → RelocationWalk → RelocationWalk → Type 0
CountsEntries target old new = new.count + entries_from target new.next ≡ old.count + entries_from target old.next

-- a step of the walk; the refusal `Budget` says nothing of the entries
abbrev pub StepsWalk : List ℕ → TargetCode → RelocationWalk → RelocationWalk → Result WalkStep Fault → Type 0
StepsWalk file target old new (Ok (Stores placed)) = (changes_left file target old ≡ Put (patch_as placed) ∷ changes_left file target new) × ReadsEntries file target new
StepsWalk file target old new (Ok Nothing) = (changes_left file target old ≡ changes_left file target new) × ReadsEntries file target new
StepsWalk file target old new (Ok End) = changes_left file target old ≡ []
StepsWalk file target old new (Err (Refused refusal)) = (IsBudgetRefusal refusal → ⊥) → (rest : List SectionChange) × (changes_left file target old ≡ Fails refusal ∷ rest)
StepsWalk file target old new (Err (Source fault at)) = Unit {0}

-- the next entry that stores bytes; the refusal `Budget` says nothing of the entries
abbrev pub FindsEntry : List ℕ → TargetCode → RelocationWalk → RelocationWalk → Result (Option PlacedPatch) Fault → Type 0
FindsEntry file target old new (Ok (Some placed)) = (changes_left file target old ≡ Put (patch_as placed) ∷ changes_left file target new) × ReadsEntries file target new
FindsEntry file target old new (Ok None) = changes_left file target old ≡ []
FindsEntry file target old new (Err (Refused refusal)) = (IsBudgetRefusal refusal → ⊥) → (rest : List SectionChange) × (changes_left file target old ≡ Fails refusal ∷ rest)
FindsEntry file target old new (Err (Source fault at)) = Unit {0}

-- a step yields bytes inside the section, and fewer steps are left; or none, and the sections are
-- counted
abbrev pub StepGives : TargetCode → RelocationWalk → RelocationWalk → WalkStep → Type 0
StepGives target old new (Stores placed) = (steps_left target new < steps_left target old) × IsPlacedInside target.size placed
StepGives target old new Nothing = steps_left target new < steps_left target old
StepGives target old new End = entries_from target new.next ≡ 0

-- the same for the next entry that stores bytes
abbrev pub FoundGives : TargetCode → RelocationWalk → RelocationWalk → Option PlacedPatch → Type 0
FoundGives target old new (Some placed) = (steps_left target new < steps_left target old) × IsPlacedInside target.size placed
FoundGives target old new None = entries_from target new.next ≡ 0

-- the walk went on: it may continue from there, the sections that were opened are counted, and this
-- is what it yields
pub record WentOn {X : Type 0} (size : ℕ) (target : TargetCode) (old new : RelocationWalk) (Gives : X → Type 0) (found : X) : Type 0 where
  pub goes : IsWalkAlive size target new
  pub counts : CountsEntries target old new
  pub gives : Gives found

-- THE EFFECT OF A CALL OF THE WALK: it requests no more than was left to the walk, and goes on; and
-- its result, if the file is known
pub record StepsRelocationWalk {X : Type 0} (before after : CountedState) (target : TargetCode) (old new : RelocationWalk) (result : Result X Fault) (Gives : X → Type 0) (Tells : List ℕ → Type 0) : Type 0 where
  pub asks : AsksOf before after target old new
  pub says : IfErr result (IsReadFault before after (walk_left target old))
  pub went : IfOk result (WentOn before.seen.size target old new Gives)
  pub known : (file : List ℕ) → before.seen.file ≡ Some file → ReadsEntries file target old → Tells file

-- a walk over the entries may continue: the target's file is that of the source
pub record MayWalk (src : CountedState) (target : TargetCode) (e : RelocationWalk) : Type 0 where
  pub opened : IsOpen src target.file.loaded target.file.store.now
  pub goes : IsWalkAlive src.seen.size target e

-- a walk that is before the first entry, for any target
pub record BeginsWalk (e : RelocationWalk) : Type 0 where
  pub begins : (size : ℕ) (target : TargetCode) → IsWalkAlive size target e
  pub left : (target : TargetCode) → walk_left target e ≡ walk_all target
  pub none : (target : TargetCode) → e.count + entries_from target e.next ≡ entries_from target 0
  pub reads : (file : List ℕ) (target : TargetCode) → ReadsEntries file target e
  pub changes : (file : List ℕ) (target : TargetCode) → changes_left file target e ≡ changes_all file target
