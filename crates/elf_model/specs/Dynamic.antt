-- Dynamic entries (gABI 5, Dynamic Section).
use Rattle.std.specs.Prelude.{◌≡◌, ◌≢◌, ℕ, zero, suc, ◌+◌, ◌*◌, ◌==◌, ◌<◌, ◌≤◌, true, false}
use Rattle.std.specs.Prelude.{List, Option, None, Some}
use Rattle.elf_model.specs.Numbers.{DT_NULL}
use Rattle.elf_model.specs.Records.{d_tag, d_un}
use Rattle.elf_model.specs.Tables.{DYNAMIC_SIZE}

-- how many of the n entries at an offset are listed: up to and with the first whose tag is DT_NULL,
-- or all
unfoldable pub dynamic_count : List ℕ → ℕ → ℕ → ℕ
dynamic_count file at zero = 0
dynamic_count file at (suc n) = elim (d_tag file at == DT_NULL) [ true ↦ 1 | false ↦ suc (dynamic_count file (at + DYNAMIC_SIZE) n) ]

-- the value of the first of the n entries at an offset that has a tag
unfoldable pub dynamic_value : List ℕ → ℕ → ℕ → ℕ → Option ℕ
dynamic_value file at zero tag = None
dynamic_value file at (suc n) tag = elim (d_tag file at == tag) [ true ↦ Some (d_un file at) | false ↦ dynamic_value file (at + DYNAMIC_SIZE) n tag ]

-- the value of the first listed entry with a tag, of the n entries at an offset
abbrev pub listed_value : List ℕ → ℕ → ℕ → ℕ → Option ℕ
listed_value file at n tag = dynamic_value file at (dynamic_count file at n) tag

-- the offset of an entry
abbrev pub dynamic_at : ℕ → ℕ → ℕ
dynamic_at at i = at + DYNAMIC_SIZE * i

-- of n entries, those before `count` are listed: none except the last of them has the tag DT_NULL,
-- and if there are more after it the last has it
pub record IsListed (file : List ℕ) (at n count : ℕ) : Type 0 where
  pub within : count ≤ n
  pub none_before : (i : ℕ) → suc i < count → d_tag file (dynamic_at at i) ≢ DT_NULL
  pub ended : count < n → (last : ℕ) × (count ≡ suc last) × (d_tag file (dynamic_at at last) ≡ DT_NULL)

-- the entries that are counted are those that are listed
abbrev pub CountedIsListed : Type 0
CountedIsListed = (file : List ℕ) (at n : ℕ) → IsListed file at n (dynamic_count file at n)

-- the entries that are listed are those that are counted
abbrev pub ListedIsCounted : Type 0
ListedIsCounted = (file : List ℕ) (at n count : ℕ) → IsListed file at n count → dynamic_count file at n ≡ count

-- the value of the first of n entries with a tag: an entry has them, and none before it has the tag
pub record IsFirstValue (file : List ℕ) (at n tag value : ℕ) : Type 0 where
  pub index : ℕ
  pub below : index < n
  pub tagged : d_tag file (dynamic_at at index) ≡ tag
  pub its_value : d_un file (dynamic_at at index) ≡ value
  pub none_before : (i : ℕ) → i < index → d_tag file (dynamic_at at i) ≢ tag

-- a value is that of the first entry with the tag
abbrev pub ValueIsFirst : Type 0
ValueIsFirst = (file : List ℕ) (at n tag value : ℕ) → dynamic_value file at n tag ≡ Some value → IsFirstValue file at n tag value

-- if there is no value, no entry has the tag
abbrev pub NoValueHasNoTag : Type 0
NoValueHasNoTag = (file : List ℕ) (at n tag : ℕ) → dynamic_value file at n tag ≡ None → (i : ℕ) → i < n → d_tag file (dynamic_at at i) ≢ tag
