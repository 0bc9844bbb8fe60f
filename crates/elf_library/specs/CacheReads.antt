-- What calls read of a loader's cache, and what they return.
use Rattle.std.specs.Prelude.{ℕ, ◌≡◌, ◌+◌, ◌*◌, ◌^◌, ◌<◌, ◌≤◌, ◌⊎◌, List, Bool, true, false, Option, None, Some, Result, Ok, Err}
use Rattle.elf_model.specs.LoaderCache.{LoaderCache, NEW_ENTRY_SIZE, NEW_HEADER_SIZE, OLD_ENTRY_SIZE, OLD_HEADER_SIZE, cache_entry_flags, cache_entry_hwcap, cache_entry_key, cache_entry_value, new_cache, old_cache}
use Rattle.elf_model.specs.Prelude.{is_new_header, is_old_header, slice}
use Rattle.elf_table.specs.declared.fault.Fault.{Fault}
use Rattle.elf_library.specs.declared.cache_entries.CacheEntry.{CacheEntry}
use Rattle.elf_library.specs.declared.cache_search.SameName.{SameName}

-- a cache lies in a file of this size
pub record CacheInBounds (size : ℕ) (cache : LoaderCache) : Type 0 where
  pub entries : cache.entries + cache.entry_size * cache.count ≤ size
  pub strings : cache.strings ≤ size
  pub small : size < 2 ^ 64
  pub sizes : (cache.entry_size ≡ NEW_ENTRY_SIZE) ⊎ (cache.entry_size ≡ OLD_ENTRY_SIZE)

-- the texts of a cache begin before its entries end, and an entry has one of two sizes
pub record IsShape (cache : LoaderCache) : Type 0 where
  pub strings : cache.strings ≤ cache.entries + cache.entry_size * cache.count
  pub sizes : (cache.entry_size ≡ NEW_ENTRY_SIZE) ⊎ (cache.entry_size ≡ OLD_ENTRY_SIZE)

-- which has the older header, so that its entries end below 2^36
pub record IsOldShape (cache : LoaderCache) : Type 0 where
  pub shape : IsShape cache
  pub small : cache.strings < 2 ^ 36

-- an entry has the fields of these bytes
pub record IsCacheEntry (bytes : List ℕ) (entry : CacheEntry) : Type 0 where
  pub flags : entry.flags ≡ cache_entry_flags bytes
  pub key : entry.key ≡ cache_entry_key bytes
  pub value : entry.value ≡ cache_entry_value bytes
  pub hwcap : entry.hwcap ≡ cache_entry_hwcap bytes

-- a call returns this value, or a fault
abbrev pub ReturnsCacheValue : {X : Type 0} → X → Result X Fault → Type 0
ReturnsCacheValue value (Ok x) = x ≡ value
ReturnsCacheValue value (Err fault) = Unit {0}

-- a call returns whether there is a text, and holds it, or a fault
abbrev pub ReturnsCacheText : Option (List ℕ) → List ℕ → Result Bool Fault → Type 0
ReturnsCacheText text held (Ok true) = text ≡ Some held
ReturnsCacheText text held (Ok false) = text ≡ None
ReturnsCacheText text held (Err fault) = Unit {0}

-- a call returns an entry with the name and the end of those that may have it, or a fault
abbrev pub ReturnsSameName : Option (ℕ × ℕ) → Result (Option SameName) Fault → Type 0
ReturnsSameName found (Ok (Some same)) = found ≡ Some (same.index, same.end)
ReturnsSameName found (Ok None) = found ≡ None
ReturnsSameName found (Err fault) = Unit {0}

-- the index of an entry that is found is less than the number of entries
abbrev pub IsFoundBelow : ℕ → Option SameName → Type 0
IsFoundBelow count (Some same) = (same.index < same.end) × (same.end ≤ count)
IsFoundBelow count None = Unit {0}

-- the cache that a header at an offset begins, if there is one of that shape
abbrev pub new_cache_in : List ℕ → ℕ → Option LoaderCache
new_cache_in file at = elim (is_new_header (slice file at NEW_HEADER_SIZE)) [
  | true ↦ Some (new_cache at (slice file at NEW_HEADER_SIZE))
  | false ↦ None
]

abbrev pub old_cache_in : List ℕ → Option LoaderCache
old_cache_in file = elim (is_old_header (slice file 0 OLD_HEADER_SIZE)) [
  | true ↦ Some (old_cache (slice file 0 OLD_HEADER_SIZE))
  | false ↦ None
]

-- THE COST of a search among `count` entries: an entry and its name for each that is compared, and
-- an entry with its path for each that has the name
abbrev pub cached_path_cost : ℕ → ℕ
cached_path_cost count = 4120 * 32 + 12360 * count

-- the cost of a search in a file of this size, in which each entry has at least 12 bytes
abbrev pub cache_cost : ℕ → ℕ
cache_cost size = 112 + 4120 * 32 + 1030 * size
