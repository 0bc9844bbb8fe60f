-- The names of a directory, as they are read.
use Rattle.std.specs.Prelude.{ℕ, suc, ◌≡◌, ◌<◌, ◌-◌, ◌^◌, ◌⊎◌, true, false, All, List, [], ◌∷◌, ◌++◌, min, Option}
use Rattle.std.specs.Io.KnownBytes.{Consumes, IsAtEnd}
use Rattle.std.specs.List.{flat_map}
use Rattle.elf_walk.specs.Entries.{list_entries, rest_from}
use Rattle.elf_walk.specs.declared.batch.Insertion.{Insertion}
use Rattle.elf_walk.specs.declared.batch.Insertion.TheVariants.{Placed, Unnamed}
use Rattle.elf_walk.specs.Kept.{IsNameable, KeptNames, KeepsFirstNames, is_dot_entry}

-- the names of a directory among its entries, in the order in which they were read, and how many
-- entries cannot be represented; `.` and `..` are neither
abbrev pub AreNamesOf : List (List ℕ) → List (List ℕ) → ℕ → Type 0
AreNamesOf [] names unnamed = (names ≡ []) × (unnamed ≡ 0)
AreNamesOf (entry ∷ entries) names unnamed =
    ((is_dot_entry entry ≡ true) × AreNamesOf entries names unnamed)
    ⊎ (((more : List (List ℕ)) × (is_dot_entry entry ≡ false) × IsNameable entry × (names ≡ entry ∷ more) × AreNamesOf entries more unnamed)
    ⊎ ((others : ℕ) × (is_dot_entry entry ≡ false) × (¬ (IsNameable entry)) × (unnamed ≡ suc others) × AreNamesOf entries names others))

-- a count, saturating at 64 bits
abbrev pub saturated : ℕ → ℕ
saturated n = min n (2 ^ 64 - 1)

-- how many that is for one entry
abbrev pub unnamed_count : Insertion → ℕ
unnamed_count Placed = 0
unnamed_count Unnamed = 1

-- EACH ENTRY of some bytes is put among the names of a directory, or counted, or is `.` or `..`
pub record PutsNames (bytes : List ℕ) (unnamed : ℕ) (old new : KeptNames) : Type 0 where
  pub names : List (List ℕ)
  pub others : ℕ
  pub sorted : AreNamesOf (list_entries bytes) names others
  pub counts : unnamed ≡ saturated others
  pub keeps : (before : List (List ℕ)) → KeepsFirstNames before old → KeepsFirstNames (before ++ names) new

-- the bytes of some reads, one after another
abbrev pub all_bytes : List (List ℕ) → List ℕ
all_bytes reads = flat_map (λ read. read) reads

-- WHAT IS GATHERED of a directory, from which some bytes were read each time, into a buffer of some
-- size. If it is known what the directory had to read, and what is left of that, then the reads are
-- all that it had, and nothing is left. Each entry among them is a name, is counted, or is `.` or
-- `..`, and what is kept of the names is sorted
pub record GathersNames (room : ℕ) (had left : Option (List ℕ)) (unnamed : ℕ) (old new : KeptNames) : Type 0 where
  pub reads : List (List ℕ)
  pub names : List (List ℕ)
  pub others : ℕ
  pub read : Consumes had left (all_bytes reads)
  pub whole : 0 < room → IsAtEnd left
  pub sorted : AreNamesOf (flat_map list_entries reads) names others
  pub counts : unnamed ≡ saturated others
  pub keeps : KeepsFirstNames names new
  pub order : new.held ≡ new.names
  pub after : new.after ≡ old.after

-- bytes that do not end within an entry
abbrev pub EndsEntry : List ℕ → Type 0
EndsEntry bytes = rest_from [] bytes ≡ []

-- if no read ends within an entry, the entries of the reads are those of all their bytes
abbrev pub ReadsJoin : Type 0
ReadsJoin = (reads : List (List ℕ)) → All EndsEntry reads → flat_map list_entries reads ≡ list_entries (all_bytes reads)
