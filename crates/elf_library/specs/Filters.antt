-- The words of the filter of a GNU hash table that are kept, and what they exclude.
use Rattle.std.specs.Prelude.{ℕ, ◌≡◌, ◌+◌, ◌<◌, false, List, length, None, Some}
use Rattle.elf_hash.specs.HashStyles.{hash_style_of}
use Rattle.elf_hash.specs.declared.place.HashTableLocation.{HashTableLocation}
use Rattle.elf_model.specs.Bytes.{slice}
use Rattle.elf_model.specs.GnuHash.{filter_may_contain, gnu_hash, gnu_nbloom, gnu_shift}
use Rattle.elf_model.specs.Prelude.{GnuTable, SymbolQuery}
use Rattle.elf_library.specs.Ready.{HasNoNul}
use Rattle.elf_source.specs.Source.{CountedState}

-- how many words a filter has, by how many bits a hash is shifted for its second bit, and its first
-- bytes
pub record FilterWords : Type 0 where
  pub count : ℕ
  pub shift : ℕ
  pub bytes : List ℕ

-- they are those of the GNU hash table at a location
pub record HasFilter (file : List ℕ) (place : HashTableLocation) (filter : FilterWords) : Type 0 where
  pub kind : hash_style_of place.kind ≡ GnuTable
  pub count : filter.count ≡ gnu_nbloom file place.at
  pub shift : filter.shift ≡ gnu_shift file place.at
  pub words : filter.bytes ≡ slice file (place.at + 16) (length filter.bytes)

-- the same, if any bytes are kept
abbrev pub IsFilterOf : List ℕ → HashTableLocation → FilterWords → Type 0
IsFilterOf file place filter = 0 < length filter.bytes → HasFilter file place filter

-- THE WORDS EXCLUDE A HASH: some are kept, and a filter that has them does not contain it
pub record ExcludesHash (filter : FilterWords) (hash : ℕ) : Type 0 where
  pub some : 0 < length filter.bytes
  pub known : (file : List ℕ) (place : HashTableLocation) → HasFilter file place filter → filter_may_contain file place.at hash ≡ false

-- it is the hash of a name, and the name of the wanted version has no NUL
abbrev pub IsHashOf : SymbolQuery → ℕ → Type 0
IsHashOf wanted hash = (hash ≡ gnu_hash wanted.name) × HasNoNul wanted.asked

-- how many bytes that reads: two counts and the words
abbrev pub filter_bytes : ℕ
filter_bytes = 4104

-- WHAT IS KEPT OF A FILTER is that of the source's file, at a location; and if any is, no limit is
-- set
pub record KeepsFilter (src : CountedState) (place : HashTableLocation) (filter : FilterWords) : Type 0 where
  pub free : 0 < length filter.bytes → src.most ≡ None
  pub known : (file : List ℕ) → src.seen.file ≡ Some file → IsFilterOf file place filter
