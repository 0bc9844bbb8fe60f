-- A hash table as the code represents it, by its counts, and its relation to a file.
use Rattle.std.specs.Prelude.{ℕ, ◌≡◌, ◌+◌, ◌*◌, ◌==◌, ◌||◌, nat_lt, not, count_ones, Bool, true, false, List, Result, Ok, Err}
use Rattle.elf_model.specs.Prelude.{HashTable as Table, IsBudgetRefusal, before_chains, gnu_first, gnu_nbloom, gnu_nbucket, gnu_shift, sysv_nbucket, sysv_nchain}
use Rattle.elf_model.specs.declared.causes.Cause.TheVariants.{HashShape}
use Rattle.elf_table.specs.declared.fault.Fault.{Fault}
use Rattle.elf_table.specs.declared.fault.Fault.TheVariants.{Refused, Source}
use Rattle.elf_hash.specs.declared.gnu_table.GnuHashTable.{GnuHashTable}
use Rattle.elf_hash.specs.declared.place.HashTableLocation.{HashTableLocation}
use Rattle.elf_hash.specs.declared.sysv_table.SysvHashTable.{SysvHashTable}

-- it is the location of a table
pub record IsTablePlace (table : Table) (p : HashTableLocation) : Type 0 where
  pub start : p.at ≡ table.place
  pub size : p.size ≡ table.size
  pub symbols : p.symbols ≡ table.symbols

-- it is a GNU hash table in a file, with its counts
pub record IsGnu (file : List ℕ) (table : Table) (t : GnuHashTable) : Type 0 where
  pub place : IsTablePlace table t.place
  pub buckets : t.nbucket ≡ gnu_nbucket file table.place
  pub first : t.first ≡ gnu_first file table.place
  pub filters : t.nbloom ≡ gnu_nbloom file table.place
  pub shift : t.shift ≡ gnu_shift file table.place

-- it is a SysV hash table in a file, with its counts
pub record IsSysv (file : List ℕ) (table : Table) (t : SysvHashTable) : Type 0 where
  pub place : IsTablePlace table t.place
  pub buckets : t.nbucket ≡ sysv_nbucket file table.place
  pub chains : t.nchain ≡ sysv_nchain file table.place

-- the counts do not fit the table's size
abbrev pub gnu_misshapen : List ℕ → Table → Bool
gnu_misshapen file table =
    (gnu_nbucket file table.place == 0)
    || not (count_ones (gnu_nbloom file table.place) == 1)
    || not (nat_lt (gnu_shift file table.place) 32)
    || nat_lt table.size (before_chains file table.place)

abbrev pub sysv_misshapen : List ℕ → Table → Bool
sysv_misshapen file table =
    (sysv_nbucket file table.place == 0) || nat_lt table.size (8 + 4 * sysv_nbucket file table.place + 4 * sysv_nchain file table.place)

-- the counts fit, and this is the table; or they do not, which is refused at an offset
abbrev pub CountsFit : {X : Type 0} → (misshapen : Bool) (head : ℕ) (is : X → Type 0) → Result X Fault → Type 0
CountsFit misshapen head is (Ok table) = (misshapen ≡ false) × is table
CountsFit misshapen head is (Err (Refused refusal)) =
    (IsBudgetRefusal refusal → ⊥) → (misshapen ≡ true) × (refusal ≡ record { at = head; cause = HashShape })
CountsFit misshapen head is (Err (Source fault at)) = Unit {0}

-- the counts of the table at a location
abbrev pub HasGnuCounts : List ℕ → Table → HashTableLocation → Result GnuHashTable Fault → Type 0
HasGnuCounts file table p result = IsTablePlace table p → CountsFit (gnu_misshapen file table) p.head (IsGnu file table) result

abbrev pub HasSysvCounts : List ℕ → Table → HashTableLocation → Result SysvHashTable Fault → Type 0
HasSysvCounts file table p result = IsTablePlace table p → CountsFit (sysv_misshapen file table) p.head (IsSysv file table) result
