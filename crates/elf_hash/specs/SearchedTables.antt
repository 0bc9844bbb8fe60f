-- A hash table of either style as a loader's lookup uses it: its counts, and the walk in it for the
-- first symbol that matches.
use Rattle.std.specs.Prelude.{ℕ, ◌≡◌, ◌+◌, ◌≤◌, Bool, true, false, List, [], ◌∷◌, None, Some, Result, Ok, Err}
use Rattle.elf_model.specs.Prelude.{ChainResult as NoteScan, GnuTable, IsBudgetRefusal, LookupTables, SysvTable, counts_check, first_refusal, gnu_hash, gnu_looked_up, least_size, sysv_hash, sysv_walked}
use Rattle.elf_model.specs.declared.causes.Refusal.{Refusal}
use Rattle.elf_table.specs.Prelude.{IsOfRead}
use Rattle.elf_table.specs.declared.fault.Fault.{Fault}
use Rattle.elf_table.specs.declared.fault.Fault.TheVariants.{Refused, Source}
use Rattle.elf_hash.specs.Counts.{IsGnu, IsTablePlace, IsSysv}
use Rattle.elf_hash.specs.HashStyles.{hash_style_of}
use Rattle.elf_hash.specs.declared.hash_style.HashStyle.{HashStyle}
use Rattle.elf_hash.specs.declared.place.HashTableLocation.{HashTableLocation}
use Rattle.elf_hash.specs.declared.table.HashTable.{HashTable}
use Rattle.elf_hash.specs.declared.table.HashTable.TheVariants.{Gnu, Sysv}

-- it is the location of the table that a lookup searches
pub record IsPlaceIn (scope : LookupTables) (p : HashTableLocation) : Type 0 where
  pub kind : hash_style_of p.kind ≡ scope.kind
  pub head : p.head ≡ scope.head
  pub table : IsTablePlace scope.table p

-- how many bytes the counts have
abbrev pub counts_bytes : HashStyle → ℕ
counts_bytes kind = least_size (hash_style_of kind)

-- the location of a table
abbrev pub place_of_table : HashTable → HashTableLocation
place_of_table (Gnu t) = t.place
place_of_table (Sysv t) = t.place

-- it lies within a source of this size
abbrev pub HashTableInBounds : ℕ → HashTable → Type 0
HashTableInBounds size table = (place_of_table table).at + (place_of_table table).size ≤ size

-- it is the table that a lookup searches, with its counts
abbrev pub IsTable : List ℕ → LookupTables → HashTable → Type 0
IsTable file scope (Gnu t) = (scope.kind ≡ GnuTable) × IsGnu file scope.table t
IsTable file scope (Sysv t) = (scope.kind ≡ SysvTable) × IsSysv file scope.table t

-- the check of the counts passes, and this is the table; or the refusal, unless that is `Budget`
abbrev pub HasCounts : List ℕ → LookupTables → Result HashTable Fault → Type 0
HasCounts file scope (Ok table) = (first_refusal (counts_check file scope ∷ []) ≡ None) × IsTable file scope table
HasCounts file scope (Err (Refused refusal)) = (IsBudgetRefusal refusal → ⊥) → first_refusal (counts_check file scope ∷ []) ≡ Some refusal
HasCounts file scope (Err (Source fault at)) = Unit {0}

-- the walk for the first symbol of a name's hash that matches
abbrev pub walked_in : List ℕ → LookupTables → (name : List ℕ) → (says : ℕ → Result Bool Refusal) → NoteScan
walked_in file scope name says = elim scope.kind [
  | GnuTable ↦ gnu_looked_up file scope.table (gnu_hash name) says
  | SysvTable ↦ sysv_walked file scope.table (sysv_hash name) says
]

-- if the table excludes a name, none of its symbols is tried and no chain word is read, with any
-- matcher
abbrev pub ReturnsExcluded : List ℕ → LookupTables → (name : List ℕ) → Result Bool Fault → Type 0
ReturnsExcluded file scope name (Ok true) =
    (says : ℕ → Result Bool Refusal) → walked_in file scope name says ≡ record { answer = Ok None; tried = 0; read = 0 }
ReturnsExcluded file scope name (Ok false) = Unit {0}
ReturnsExcluded file scope name (Err fault) = IsOfRead fault
