-- The indices of versions that are kept of a file.
use Rattle.std.specs.Prelude.{ℕ, ◌≡◌, ◌≤◌, List, Option, None, Some, IfSome, IsFalse, IsTrue, All, length, get_or}
use Rattle.elf_model.specs.Prelude.{LookupTables as IsScopeOf, Version, VersionQuery, asked_name, is_among, version_indices}
use Rattle.elf_source.specs.Source.{SourceState}
use Rattle.elf_hash.specs.Prelude.{IsLookupTables}
use Rattle.elf_hash.specs.declared.lookup_tables.LookupTables.{LookupTables}
use Rattle.elf_loader.specs.NumberSets.{has_number}
use Rattle.elf_library.specs.declared.kept_indices.KeptIndices.{KeptIndices}
use Rattle.elf_library.specs.declared.kept_indices.VersionIndices.{VersionIndices}

-- a set has exactly the indices of the wanted version, for which no record is refused
pub record AreNumbersOf (file : List ℕ) (told : IsScopeOf) (asked : VersionQuery) (numbers : List ℕ) : Type 0 where
  pub whole : (version_indices file told asked).refused ≡ None
  pub same : (number : ℕ) → has_number numbers number ≡ is_among number (version_indices file told asked).numbers

-- the indices are those of the version with the name
abbrev pub IsIndicesOf : List ℕ → IsScopeOf → VersionIndices → Type 0
IsIndicesOf file told kept = AreNumbersOf file told (Version kept.name.items) kept.numbers

-- the same at each place, if indices are kept there
abbrev pub IsIndicesIf : List ℕ → IsScopeOf → Option VersionIndices → Type 0
IsIndicesIf file told place = IfSome place (IsIndicesOf file told)

abbrev pub AreIndicesOf : List ℕ → IsScopeOf → List (Option VersionIndices) → Type 0
AreIndicesOf file told places = All (IsIndicesIf file told) places

-- WHAT IS KEPT OF VERSIONS is that of the source's file, whose lookup tables these are
pub record KnowsIndices (seen : SourceState) (scope : LookupTables) (places : List (Option VersionIndices)) : Type 0 where
  pub known : (file : List ℕ) → seen.file ≡ Some file → (told : IsScopeOf) → IsLookupTables file told scope → AreIndicesOf file told places

-- after a call it remains so
pub record KeepsIndices (seen : SourceState) (scope : LookupTables) (old new : List (Option VersionIndices)) : Type 0 where
  pub keeps : (file : List ℕ) → seen.file ≡ Some file → (told : IsScopeOf) → IsLookupTables file told scope → AreIndicesOf file told old → AreIndicesOf file told new

-- what is kept at a place has the name and the indices
abbrev pub HasIndices : (name numbers : List ℕ) → Option VersionIndices → Type 0
HasIndices name numbers (Some kept) = (kept.name.items ≡ name) × (kept.numbers ≡ numbers)
HasIndices name numbers None = ⊥

-- THE INDICES OF A VERSION ARE PUT at a place, if any are kept and its name has at most 32 bytes; if
-- none are kept nothing changes
pub record PutsIndices (old new : KeptIndices) (place : ℕ) (asked : VersionQuery) (numbers : List ℕ) : Type 0 where
  pub unless : IsFalse old.keeps → new ≡ old
  pub puts : IsTrue old.keeps → (name : List ℕ) → asked_name asked ≡ Some name → length name ≤ 32 → HasIndices name numbers (get_or new.places place None)
