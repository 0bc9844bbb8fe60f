-- What a symbol of a file references, as it is read.
use Rattle.std.specs.Prelude.{ℕ, ◌≡◌, ◌+◌, ◌*◌, ◌/◌, ◌<◌, Bool, true, false, List, Option, None, Some, Result, Ok, Err, IfOk, IfSome}
use Rattle.elf_model.specs.Prelude.{IsBudgetRefusal, LookupTables as IsScopeOf, NoVersion, SOUGHT_BYTES, SymbolQuery, Version, VersionQuery, VisitedRecord, file_of_version, is_weak, lacks_version, lookup_tables_of, name_bytes, record_cost, reference_at, symbol_offset, symbols_hashed, whole_name}
use Rattle.elf_model.specs.declared.causes.Refusal.{Refusal}
use Rattle.elf_table.specs.Prelude.{fault_of_result}
use Rattle.elf_table.specs.declared.fault.Fault.{Fault}
use Rattle.elf_table.specs.declared.fault.Fault.TheVariants.{Refused, Source}
use Rattle.elf_hash.specs.Prelude.{RefusesAs, ReturnsAs}
use Rattle.elf_loader.specs.Naming.{IsFileIf}
use Rattle.elf_library.specs.Kept.{LookupObjectState}
use Rattle.elf_library.specs.Looks.{SpendsBudget, SpendsAtMost}
use Rattle.elf_library.specs.declared.reference.SymbolReference.{SymbolReference}
use Rattle.elf_library.specs.declared.reference.VersionReference.{VersionReference}

-- a fault is not a refusal of a file: a read failed, or the budget is exhausted
abbrev pub IsReportedAlone : Fault → Type 0
IsReportedAlone (Refused refusal) = IsBudgetRefusal refusal
IsReportedAlone (Source fault at) = Unit {0}

-- a whole name is read
abbrev pub ReturnsWhole : Result (List ℕ) Refusal → List ℕ → Result (Unit {0}) Fault → Type 0
ReturnsWhole told name (Ok x) = told ≡ Ok name
ReturnsWhole told name (Err fault) = RefusesAs told fault

-- the version with its index is read
abbrev pub ReturnsAsked : {X : Type 0} → Result VersionQuery Refusal → List ℕ → Result X Fault → Type 0
ReturnsAsked told version (Ok x) = told ≡ Ok (Version version)
ReturnsAsked told version (Err fault) = RefusesAs told fault

-- a version, or none
abbrev pub asked_if : Bool → List ℕ → VersionQuery
asked_if true version = Version version
asked_if false version = NoVersion

abbrev pub ReturnsVersionIf : Result VersionQuery Refusal → List ℕ → Result VersionReference Fault → Type 0
ReturnsVersionIf told version (Ok asked) = told ≡ Ok (asked_if asked.versioned version)
ReturnsVersionIf told version (Err fault) = RefusesAs told fault

-- what a symbol references is read: nothing, or the name with the version, and whether it is weak
abbrev pub ReturnsSought : Result (Option SymbolQuery) Refusal → (weak : Bool) → (name version : List ℕ) → Result (Option SymbolReference) Fault → Type 0
ReturnsSought told weak name version (Ok None) = told ≡ Ok None
ReturnsSought told weak name version (Ok (Some sought)) =
    (told ≡ Ok (Some (record { name = name; asked = asked_if sought.versioned version }))) × (sought.weak ≡ weak)
ReturnsSought told weak name version (Err fault) = RefusesAs told fault

-- the record of the needed file, of whose versions one is needed, is the one that is returned
abbrev pub SeeksOf : List ℕ → Option VisitedRecord → Result (Option SymbolReference) Fault → Type 0
SeeksOf file told result = IfOk result (λ found. IfSome found (λ sought. IsFileIf file told sought.file))

-- how many bytes that may read in a source of this size, for any bytes: the symbol, its name, the
-- entry of its version, the records of versions and the name of one
abbrev pub reference_bytes : ℕ → ℕ
reference_bytes size = 24 + name_bytes SOUGHT_BYTES + (2 + size / 8 * 28 + name_bytes SOUGHT_BYTES)

-- THE EFFECT OF READING ONE SYMBOL OF A FILE: at most that is read, what is left of the budget
-- decreases by it, and in a known file the result is the definition's, of a symbol that exists
pub record Seeks (index : ℕ) (name version : List ℕ) (old new : LookupObjectState) (left_old left_new : Option ℕ) (result : Result (Option SymbolReference) Fault) : Type 0 where
  pub costs : SpendsAtMost old.src new.src left_old (fault_of_result result) (reference_bytes old.src.seen.size)
  pub same_headers : new.headers ≡ old.headers
  pub pays : SpendsBudget left_old left_new old.src.asked new.src.asked
  pub known :
      (file : List ℕ) (told : IsScopeOf) → old.src.seen.file ≡ Some file → lookup_tables_of file old.headers ≡ Ok told → index < told.table.symbols
      → ReturnsSought (reference_at file told.symbols index) (is_weak file (symbol_offset told.symbols index)) name version result
  pub of_file :
      (file : List ℕ) (told : IsScopeOf) → old.src.seen.file ≡ Some file → lookup_tables_of file old.headers ≡ Ok told → index < told.table.symbols
      → SeeksOf file (file_of_version file told.symbols index) result

-- THE EFFECT OF COUNTING THE SYMBOLS OF A FILE: at most the counts and the words of the table are
-- read
pub record CountsHashed (old new : LookupObjectState) (left_old left_new : Option ℕ) (result : Result ℕ Fault) : Type 0 where
  pub costs : SpendsAtMost old.src new.src left_old (fault_of_result result) (16 + old.src.seen.size)
  pub same_headers : new.headers ≡ old.headers
  pub pays : SpendsBudget left_old left_new old.src.asked new.src.asked
  pub known :
      (file : List ℕ) → old.src.seen.file ≡ Some file
      → (told : IsScopeOf) × (lookup_tables_of file old.headers ≡ Ok told) × ReturnsAs (symbols_hashed file told) result

-- THE EFFECT OF A READ OF THE NAME OF A NEEDED FILE, which is at an index of the symbols' strings
pub record ReadsFileName (index at : ℕ) (name : List ℕ) (old new : LookupObjectState) (left_old left_new : Option ℕ) (result : Result (Unit {0}) Fault) : Type 0 where
  pub costs : SpendsAtMost old.src new.src left_old (fault_of_result result) (name_bytes SOUGHT_BYTES)
  pub same_headers : new.headers ≡ old.headers
  pub pays : SpendsBudget left_old left_new old.src.asked new.src.asked
  pub known :
      (file : List ℕ) (told : IsScopeOf) → old.src.seen.file ≡ Some file → lookup_tables_of file old.headers ≡ Ok told → 0 < told.table.symbols
      → ReturnsWhole (whole_name told.symbols.strings index at) name result

-- THE EFFECT OF A SEARCH FOR A VERSION AMONG THE DEFINITIONS: at most the records and as many names
-- are read, and in a known file the result is the definition's
pub record LooksForVersion (version : List ℕ) (old new : LookupObjectState) (left_old left_new : Option ℕ) (result : Result Bool Fault) : Type 0 where
  pub costs : SpendsAtMost old.src new.src left_old (fault_of_result result) (old.src.seen.size / 8 * record_cost (Version version))
  pub same_headers : new.headers ≡ old.headers
  pub pays : SpendsBudget left_old left_new old.src.asked new.src.asked
  pub known :
      (file : List ℕ) → old.src.seen.file ≡ Some file
      → (told : IsScopeOf) × (lookup_tables_of file old.headers ≡ Ok told) × ReturnsAs (lacks_version file told.symbols version) result
