-- The effect of a lookup in one file of several, with a shared budget.
use Rattle.std.specs.Prelude.{ℕ, ◌≡◌, ◌+◌, ◌<◌, ◌≤◌, List, Option, None, Some, Result, Ok, IfSome}
use Rattle.elf_model.specs.Prelude.{IsBudgetRefusal, SymbolQuery, definition_cost, definition_in, definition_lookup}
use Rattle.elf_source.specs.Source.{CountedState, IsSourceFault, KeepsSource, SameView, counted}
use Rattle.elf_table.specs.Prelude.{CallDid, fault_of_result}
use Rattle.elf_table.specs.declared.fault.Fault.{Fault}
use Rattle.elf_table.specs.declared.fault.Fault.TheVariants.{Refused, Source}
use Rattle.elf_loader.specs.Lookups.{lookup_bytes}
use Rattle.elf_hash.specs.Prelude.{place_of_table}
use Rattle.elf_hash.specs.declared.table.HashTable.{HashTable}
use Rattle.elf_hash.specs.declared.lookup_tables.LookupTables.{LookupTables}
use Rattle.elf_library.specs.Definers.{DefinesOn, ReturnsDefiner}
use Rattle.elf_library.specs.Filters.{FilterWords, IsFilterOf, filter_bytes}
use Rattle.elf_library.specs.Indices.{AreIndicesOf}
use Rattle.elf_library.specs.Kept.{IsReadyIn, LookupObjectState}
use Rattle.elf_library.specs.Ready.{IsReadyIf, ready_bytes}
use Rattle.elf_library.specs.declared.kept_indices.VersionIndices.{VersionIndices}

-- what is left of a budget decreases by what is requested
abbrev pub SpendsBudget : (left_old left_new : Option ℕ) → (asked_old asked_new : ℕ) → Type 0
SpendsBudget None None asked_old asked_new = Unit {0}
SpendsBudget (Some left_old) (Some left_new) asked_old asked_new = left_new + asked_new ≡ left_old + asked_old
SpendsBudget None (Some left_new) asked_old asked_new = ⊥
SpendsBudget (Some left_old) None asked_old asked_new = ⊥

-- why a call stopped for lack of budget, of which this much was left: it could have read more, and
-- fewer than 4,096 bytes were left
pub record OverLeft (old new : CountedState) (left : Option ℕ) (n : ℕ) : Type 0 where
  pub bytes : ℕ
  pub is_left : left ≡ Some bytes
  pub above : counted old.asked bytes < old.asked + n
  pub late : counted old.asked bytes < new.asked + 4096

-- what a fault implies for the source that was read
abbrev pub FaultLeaves : CountedState → CountedState → Option ℕ → ℕ → Fault → Type 0
FaultLeaves old new left n (Refused refusal) = IsBudgetRefusal refusal → (refusal.at < old.seen.size) × OverLeft old new left n × (refusal.at ≡ new.stopped)
FaultLeaves old new left n (Source fault at) = IsSourceFault old.seen new.seen fault × (at ≡ new.stopped)

-- WHAT A CALL WITH THIS MUCH LEFT OF A BUDGET COSTS, for any source: it requested at most n bytes,
-- it kept the source, it leaves no limit, and if it stopped the fault satisfies `FaultLeaves`
pub record SpendsAtMost (old new : CountedState) (left : Option ℕ) (stop : Option Fault) (n : ℕ) : Type 0 where
  pub keeps : KeepsSource old.seen new.seen
  pub view : SameView old new
  pub grows : old.asked ≤ new.asked
  pub at_most : new.asked ≤ old.asked + n
  pub free : new.most ≡ None
  pub says : IfSome stop (FaultLeaves old new left n)

-- how many bytes a lookup in a known file reads, once the lookup tables are known: four counts, a
-- word of a filter and one of a bucket, and what is read on the way
abbrev pub kept_cost : List ℕ → ℕ → SymbolQuery → ℕ
kept_cost file headers wanted = 28 + definition_cost wanted (definition_lookup file headers wanted)

-- WHAT IT IS IN A KNOWN FILE: at most what the lookup costs is read, and its result is the
-- definition's
pub record DefinesIn (file : List ℕ) (wanted : SymbolQuery) (old new : LookupObjectState) (left : Option ℕ) (result : Result (Option ℕ) Fault) : Type 0 where
  pub costs : SpendsAtMost old.src new.src left (fault_of_result result) (kept_cost file old.headers wanted)
  pub tells : ReturnsDefiner (definition_lookup file old.headers wanted) result

-- A NAME IS EXCLUDED: no limit is set, and in a known file the lookup finds no definition
pub record ExcludesName (wanted : SymbolQuery) (object : LookupObjectState) : Type 0 where
  pub free : object.src.most ≡ None
  pub known : (file : List ℕ) → object.src.seen.file ≡ Some file → (definition_lookup file object.headers wanted).answer ≡ Ok None

-- WHAT FINDING A DEFINITION DID to a source, by lookup tables and what is kept of them
pub record FindsDefiner (scope : LookupTables) (ready : Option HashTable) (wanted : SymbolQuery) (places : List (Option VersionIndices)) (old new : CountedState) (result : Result (Option ℕ) Fault) : Type 0 where
  pub did : DefinesOn old new scope wanted result 28 (lookup_bytes 28 old.seen.size wanted) (λ file told leaves. IsReadyIf file told ready → AreIndicesOf file told places → leaves 0 (definition_in file told wanted))

-- THE EFFECT OF A LOOKUP IN ONE FILE
pub record LooksInObject (wanted : SymbolQuery) (old new : LookupObjectState) (left_old left_new : Option ℕ) (result : Result (Option ℕ) Fault) : Type 0 where
  pub costs : SpendsAtMost old.src new.src left_old (fault_of_result result) (lookup_bytes 28 old.src.seen.size wanted)
  pub same_headers : new.headers ≡ old.headers
  pub pays : SpendsBudget left_old left_new old.src.asked new.src.asked
  pub known : (file : List ℕ) → old.src.seen.file ≡ Some file → DefinesIn file wanted old new left_old result

-- why a lookup in one file failed, for any source, if this much of the budget is left afterwards
pub record FailsIn (wanted : SymbolQuery) (old new : LookupObjectState) (left_new : Option ℕ) (fault : Fault) : Type 0 where
  pub left : Option ℕ
  pub pays : SpendsBudget left left_new old.src.asked new.src.asked
  pub says : FaultLeaves old.src new.src left (lookup_bytes 28 old.src.seen.size wanted) fault

-- WHAT READING ONCE WHAT LOOKUPS HAVE IN COMMON DID to a source: this hash table is ready, if one
-- is, and these words of the filter are kept
pub record ReadsReady (scope : LookupTables) (ready : Option HashTable) (filter : FilterWords) (old new : CountedState) : Type 0 where
  pub did : CallDid old new None (ready_bytes old.seen.size + filter_bytes) (λ file. IsReadyIn file scope ready × IsFilterOf file scope.hash filter)
  pub placed : IfSome ready (λ table. place_of_table table ≡ scope.hash)

-- THE EFFECT OF READING ONCE WHAT LOOKUPS HAVE IN COMMON: at most that is read, and the words of
-- the filter that are kept, and what is left of the budget decreases by it
pub record Prepares (old new : LookupObjectState) (left_old left_new : Option ℕ) : Type 0 where
  pub costs : SpendsAtMost old.src new.src left_old None (ready_bytes old.src.seen.size + filter_bytes)
  pub same_headers : new.headers ≡ old.headers
  pub pays : SpendsBudget left_old left_new old.src.asked new.src.asked
