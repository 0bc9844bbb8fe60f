-- What is kept of a file in which names are looked up.
use Rattle.std.specs.Prelude.{ℕ, ◌≡◌, ◌+◌, ◌*◌, List, Option, None, Some, Result, Ok, Err, IfOk, IfSome}
use Rattle.elf_model.specs.Prelude.{IsBudgetRefusal, LookupTables as IsScopeOf, e_shnum, lookup_tables_of, without_sections}
use Rattle.elf_model.specs.declared.causes.Refusal.{Refusal}
use Rattle.elf_source.specs.Source.{CountedState, SourceState}
use Rattle.elf_table.specs.Prelude.{CallDid, CallReads, fault_of_result}
use Rattle.elf_table.specs.declared.fault.Fault.{Fault}
use Rattle.elf_table.specs.declared.fault.Fault.TheVariants.{Refused, Source}
use Rattle.elf_hash.specs.Prelude.{FindsLookupTables, IsLookupTables, LookupTablesInBounds, place_of_table, scope_cost}
use Rattle.elf_hash.specs.declared.table.HashTable.{HashTable}
use Rattle.elf_hash.specs.declared.lookup_tables.LookupTables.{LookupTables}
use Rattle.elf_library.specs.Ready.{IsReadyIf}
use Rattle.elf_library.specs.VersionTables.{AreVersionsOf, FileVersionsInBounds}
use Rattle.elf_library.specs.declared.file_tables.FileTables.{FileTables}
use Rattle.elf_library.specs.declared.version_tables.FileVersions.{FileVersions}

-- its source, and how many headers were allowed when the lookup tables were found
pub record LookupObjectState : Type 0 where
  pub src : CountedState
  pub headers : ℕ

-- the lookup tables are those that the definitions find in a file
pub record IsScopeIn (file : List ℕ) (headers : ℕ) (scope : LookupTables) : Type 0 where
  pub told : IsScopeOf
  pub found : lookup_tables_of file headers ≡ Ok told
  pub is : IsLookupTables file told scope

-- the hash table, if there is one, is ready for lookups in a file
abbrev pub IsReadyIn : List ℕ → LookupTables → Option HashTable → Type 0
IsReadyIn file scope ready = (told : IsScopeOf) → IsLookupTables file told scope → IsReadyIf file told ready

-- WHAT IS KEPT is the lookup tables of the source's file, which lie within the source; and its hash
-- table, if that is ready
pub record IsKept (seen : SourceState) (headers : ℕ) (scope : LookupTables) (ready : Option HashTable) : Type 0 where
  pub lies : LookupTablesInBounds seen.size scope
  pub known : (file : List ℕ) → seen.file ≡ Some file → IsScopeIn file headers scope
  pub placed : IfSome ready (λ table. place_of_table table ≡ scope.hash)
  pub ready_in : (file : List ℕ) → seen.file ≡ Some file → IsReadyIn file scope ready

-- the lookup tables of a known file are kept, or the fault is the definition's refusal, except one
-- for lack of budget
abbrev pub ReturnsKept : List ℕ → (headers : ℕ) → Result LookupObjectState Fault → Type 0
ReturnsKept file headers (Ok kept) = kept.headers ≡ headers
ReturnsKept file headers (Err (Refused refusal)) = (IsBudgetRefusal refusal → ⊥) → lookup_tables_of file headers ≡ Err refusal
ReturnsKept file headers (Err (Source fault at)) = Unit {0}

-- how many bytes finding the lookup tables and the tables of versions may request in a known file
abbrev pub found_tables_cost : List ℕ → (headers size : ℕ) → ℕ
found_tables_cost file headers size = scope_cost file headers + (64 + headers * 56 + size)

-- the lookup tables are the definition's, and so is a refusal, except one for lack of budget
abbrev pub FindsScopeOf : List ℕ → Result IsScopeOf Refusal → Result FileTables Fault → Type 0
FindsScopeOf file told (Ok found) = FindsLookupTables file told (Ok found.scope)
FindsScopeOf file told (Err fault) = FindsLookupTables file told (Err fault)

-- THE TABLES of a known file
pub record FindsTables (file : List ℕ) (headers : ℕ) (old new : CountedState) (result : Result FileTables Fault) : Type 0 where
  pub costs : CallReads old new (fault_of_result result) (found_tables_cost file headers old.seen.size)
  pub finds : FindsScopeOf file (lookup_tables_of file headers) result
  pub versions : e_shnum file ≡ 0 → IfOk result (λ found. AreVersionsOf file found.versions)

-- WHAT FINDING THE TABLES DID to a source, with so many headers allowed
pub record FindsFileTables (headers : ℕ) (old new : CountedState) (result : Result FileTables Fault) : Type 0 where
  pub did : CallDid old new (fault_of_result result) (2 * (64 + 64 * headers + old.seen.size)) (λ file. FindsTables file headers old new result)

-- THE TABLES OF VERSIONS ARE THE FILE'S, of a source that shows no section headers
pub record KnowsVersions (seen : SourceState) (versions : FileVersions) : Type 0 where
  pub lies : FileVersionsInBounds seen.size versions
  pub known : (file : List ℕ) → seen.file ≡ Some file → AreVersionsOf file versions × (without_sections file ≡ file)
