-- The store of headers, and what it holds of a file.
use Rattle.std.specs.Prelude.{ℕ, zero, suc, ◌≡◌, ◌+◌, ◌*◌, ◌<◌, max, min, List, [], ◌∷◌, slice_index_or}
use Rattle.elf_model.specs.Prelude.{section_at, segment_at, slice}

-- the number of slots of a store, the number of loaded section headers, and the bytes of each of
-- those; the same for the program headers
pub record StoreState : Type 0 where
  pub slots : ℕ
  pub loaded : ℕ
  pub rows : List (List ℕ)
  pub segments : ℕ
  pub segment_rows : List (List ℕ)

-- the bytes of a buffer that were written, and for how many slots of 64 bytes it has room
pub record SlotBytes : Type 0 where
  pub bytes : List ℕ
  pub slots : ℕ

-- a store with a number of slots and no header
abbrev pub empty : ℕ → StoreState
empty slots = record { slots = slots; loaded = 0; rows = []; segments = 0; segment_rows = [] }

-- as many slots as a file has section headers, or program headers if these are more, but at most a
-- number, and at least one
abbrev pub slots_of : (most sections segments : ℕ) → ℕ
slots_of most sections segments = max (min most (max sections segments)) 1

-- a store with as many slots and no header
abbrev pub emptied : StoreState → StoreState
emptied store = empty store.slots

-- the bytes of the section header of an index
abbrev pub row : StoreState → ℕ → List ℕ
row store i = slice_index_or store.rows i []

-- the bytes of the program header of an index
abbrev pub segment_bytes : StoreState → ℕ → List ℕ
segment_bytes store i = slice_index_or store.segment_rows i []

-- consecutive rows of one size at an offset, a given number of them
unfoldable pub rows_from : List ℕ → ℕ → ℕ → ℕ → List (List ℕ)
rows_from file at entry zero = []
rows_from file at entry (suc count) = slice file at entry ∷ rows_from file (at + entry) entry count

-- the first rows, a given number of them, are a file's consecutive slices of one size at an offset
abbrev pub AreRowSlices : List ℕ → ℕ → ℕ → ℕ → List (List ℕ) → Type 0
AreRowSlices file from entry count rows =
    (i : ℕ) → i < count → slice_index_or rows i [] ≡ slice file (from + entry * i) entry

-- the loaded rows are the file's section headers
abbrev pub HoldsSections : List ℕ → StoreState → Type 0
HoldsSections file store = (i : ℕ) → i < store.loaded → row store i ≡ slice file (section_at file i) 64

-- the loaded rows are the file's program headers
abbrev pub HoldsSegments : List ℕ → StoreState → Type 0
HoldsSegments file store = (i : ℕ) → i < store.segments → segment_bytes store i ≡ slice file (segment_at file i) 56
