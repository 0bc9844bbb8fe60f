-- Borrowed layouts: sections and names in ascending order.
use Rattle.std.specs.Prelude.{ℕ, ◌≡◌, ◌-◌, ◌<◌, ◌≤◌, List, length, map, slice_index_or, ◌++◌, All, Option, None, Some, Result, Ok, Err}
use Rattle.std.specs.Cmp.Lexicographic.{slice_cmp}
use Rattle.std.specs.Ordering.{nat_cmp}
use Rattle.std.specs.declared.cmp.Ordering.{Ordering}
use Rattle.std.specs.declared.cmp.Ordering.TheVariants.{Less, Equal, Greater}
use Rattle.elf_layout.specs.Layouts.{IsName}
use Rattle.elf_layout.specs.declared.lent.LentName.{LentName}
use Rattle.elf_layout.specs.declared.lent.LentSection.{LentSection}

-- the keys of some items ascend, so that none occurs twice
abbrev pub KeysAscend : {X K : Type 0} → (K → K → Ordering) → (X → K) → List X → Type 0
KeysAscend {X} order key items = (i j : ℕ) (d : X) → i < j → j < length items → order (key (slice_index_or items i d)) (key (slice_index_or items j d)) ≡ Less

-- the name of a borrowed item
abbrev pub lent_name : LentName → List ℕ
lent_name item = item.name.now

-- the index of a borrowed section
abbrev pub borrowed_index : LentSection → ℕ
borrowed_index item = item.index

-- names and sections as a layout has them
abbrev pub named : List LentName → List (List ℕ × ℕ)
named items = map (λ item. (lent_name item, item.address)) items

abbrev pub placed : List LentSection → List (ℕ × ℕ)
placed items = map (λ item. (borrowed_index item, item.address)) items

-- the order of names, compared byte by byte as numbers
abbrev pub name_order : List ℕ → List ℕ → Ordering
name_order = slice_cmp nat_cmp

-- items may be borrowed: each has a name, and the names ascend
pub record MayBorrow (items : List LentName) : Type 0 where
  pub rise : KeysAscend name_order lent_name items
  pub names : All (λ item. IsName (lent_name item)) items

-- the key at a position is greater than the one before it
abbrev pub Follows : {X K : Type 0} → (K → K → Ordering) → (X → K) → List X → ℕ → Type 0
Follows {X} order key items i = (d : X) → 0 < i → order (key (slice_index_or items (i - 1) d)) (key (slice_index_or items i d)) ≡ Less

-- there is a name at a position, and it is greater than the one before it
abbrev pub MayFollow : List LentName → ℕ → Type 0
MayFollow items i = ((d : LentName) → IsName (lent_name (slice_index_or items i d))) × Follows name_order lent_name items i

-- the result of a search for a key: the item that has it, or the position between those less and
-- those greater
abbrev pub FindsKey : {X K : Type 0} → (K → K → Ordering) → (X → K) → List X → K → Result ℕ ℕ → Type 0
FindsKey {X} order key items wanted (Ok i) =
    (i < length items) × ((d : X) → order (key (slice_index_or items i d)) wanted ≡ Equal)
    × ((k : ℕ) (d : X) → k < i → order (key (slice_index_or items k d)) wanted ≡ Less)
FindsKey {X} order key items wanted (Err i) =
    (i ≤ length items) × ((k : ℕ) (d : X) → k < i → order (key (slice_index_or items k d)) wanted ≡ Less)
    × ((k : ℕ) (d : X) → i ≤ k → k < length items → order (key (slice_index_or items k d)) wanted ≡ Greater)

-- the position at which a search ended
abbrev pub search_end : Result ℕ ℕ → ℕ
search_end (Ok i) = i
search_end (Err i) = i

-- the address of the item that a search found
abbrev pub IsAddressAt : List LentName → Result ℕ ℕ → Option ℕ → Type 0
IsAddressAt items (Ok i) address = (item : LentName) × (item ≡ slice_index_or items i item) × (address ≡ Some item.address)
IsAddressAt items (Err i) address = address ≡ None

-- a name begins with some bytes
abbrev pub BeginsWith : List ℕ → List ℕ → Type 0
BeginsWith name front = (rest : List ℕ) × (name ≡ front ++ rest)

-- there is an item at a position, whose name begins with some bytes
abbrev pub BeginsAt : List LentName → ℕ → List ℕ → Type 0
BeginsAt items i front = (i < length items) × ((item : LentName) × (item ≡ slice_index_or items i item) × BeginsWith (lent_name item) front)
