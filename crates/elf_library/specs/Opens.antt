-- Objects whose files are kept open, and what that leaves of a budget.
use Rattle.std.specs.Prelude.{ℕ, ◌≡◌, ◌+◌, ◌*◌, ◌≤◌, ◌⊎◌, ◌++◌, ◌∷◌, [], List, Option, None, Some, Result, Ok, Err, IfOk}
use Rattle.elf_model.specs.Prelude.{lookup_tables_of}
use Rattle.elf_source.specs.Source.{CountedState, SourceState, counted}
use Rattle.elf_table.specs.Prelude.{fault_of_result}
use Rattle.elf_table.specs.declared.fault.Fault.{Fault}
use Rattle.elf_library.specs.Kept.{FindsScopeOf, IsKept, KnowsVersions, LookupObjectState, ReturnsKept, found_tables_cost}
use Rattle.elf_library.specs.Looks.{SpendsAtMost, SpendsBudget}
use Rattle.elf_library.specs.declared.file_tables.FileTables.{FileTables}

-- what is left of a budget decreases by what is requested, or by more
abbrev pub SpendsBudgetAtLeast : (left_old left_new : Option ℕ) → (asked_old asked_new : ℕ) → Type 0
SpendsBudgetAtLeast None None asked_old asked_new = Unit {0}
SpendsBudgetAtLeast (Some left_old) (Some left_new) asked_old asked_new = left_new + asked_new ≤ left_old + asked_old
SpendsBudgetAtLeast None (Some left_new) asked_old asked_new = ⊥
SpendsBudgetAtLeast (Some left_old) None asked_old asked_new = ⊥

-- an object is kept after the others, or it is closed, and what was requested from it is added to
-- what was requested from files that are closed
abbrev pub KeepsOne : (old new : List LookupObjectState) → LookupObjectState → (closed closed_new : ℕ) → Type 0
KeepsOne old new object closed closed_new =
    ((new ≡ old) × (closed_new ≡ counted closed object.src.asked) × (closed ≤ closed_new)) ⊎ ((new ≡ old ++ object ∷ []) × (closed_new ≡ closed))

-- its index is kept beside it, and no other
abbrev pub KeepsIndex : (old new : List LookupObjectState) → (indexes_old indexes_new : List ℕ) → (index : ℕ) → Type 0
KeepsIndex old new indexes_old indexes_new index =
    (indexes_new ≡ indexes_old ++ index ∷ []) ⊎ ((new ≡ old) × (indexes_new ≡ indexes_old))

-- THE TABLES of a known file, within what is left of a budget
pub record FindsScopeWithin (file : List ℕ) (headers : ℕ) (old new : CountedState) (left : Option ℕ) (result : Result FileTables Fault) : Type 0 where
  pub costs : SpendsAtMost old new left (fault_of_result result) (found_tables_cost file headers old.seen.size)
  pub finds : FindsScopeOf file (lookup_tables_of file headers) result

-- what was found of a source may be kept of it
abbrev pub MayKeep : SourceState → (headers : ℕ) → FileTables → Type 0
MayKeep seen headers tables = IsKept seen headers tables.scope None × KnowsVersions seen tables.versions

-- WHAT FINDING THE TABLES DID to a file's source: at most so much was requested, and what is left of
-- the budget decreases by it; and in a known file they are those of the definition
pub record FindsTablesWithin (old new : CountedState) (headers : ℕ) (left left_new : Option ℕ) (result : Result FileTables Fault) : Type 0 where
  pub costs : SpendsAtMost old new left (fault_of_result result) (2 * (64 + 64 * headers + old.seen.size))
  pub pays : SpendsBudget left left_new old.asked new.asked
  pub kept : IfOk result (MayKeep new.seen headers)
  pub known : (file : List ℕ) → old.seen.file ≡ Some file → FindsScopeWithin file headers old new left result

-- THE LOOKUP TABLES ARE FOUND ONCE, in a known file
pub record KeepsScope (file : List ℕ) (headers : ℕ) (old new : CountedState) (left : Option ℕ) (result : Result LookupObjectState Fault) : Type 0 where
  pub costs : SpendsAtMost old new left (fault_of_result result) (found_tables_cost file headers old.seen.size)
  pub tells : ReturnsKept file headers result

-- the source is kept, or it is closed, and what was requested from it is added to what was requested
-- from files that are closed
abbrev pub EndsIn : CountedState → (closed closed_new : ℕ) → Result LookupObjectState Fault → Type 0
EndsIn after closed closed_new (Ok kept) = (kept.src ≡ after) × (closed_new ≡ closed)
EndsIn after closed closed_new (Err fault) = (closed_new ≡ counted closed after.asked) × (closed ≤ closed_new)

-- WHAT OPENING AN OBJECT DID to a file's source: at most so much was requested, and what is left of
-- the budget decreases by it; and in a known file the tables are those of the definition
pub record OpensObject (file : CountedState) (headers : ℕ) (left left_new : Option ℕ) (closed closed_new : ℕ) (result : Result LookupObjectState Fault) : Type 0 where
  pub after : CountedState
  pub costs : SpendsAtMost file after left (fault_of_result result) (2 * (64 + 64 * headers + file.seen.size))
  pub pays : SpendsBudget left left_new file.asked after.asked
  pub ends : EndsIn after closed closed_new result
  pub known : (bytes : List ℕ) → file.seen.file ≡ Some bytes → KeepsScope bytes headers file after left result
