-- The dynamic entries that are listed, and those of which at most n are read.
use Rattle.std.specs.Prelude.{ℕ, ◌≡◌, ◌+◌, ◌*◌, ◌<◌, ◌≤◌, ◌⊎◌, List, Option, None, Some, Result, Ok, Err}
use Rattle.elf_model.specs.Prelude.{dynamic_count}
use Rattle.elf_model.specs.declared.causes.Cause.TheVariants.{Budget}
use Rattle.elf_model.specs.declared.causes.Refusal.{Refusal}
use Rattle.elf_capi.specs.declared.rows.RowPosition.{RowPosition}

-- of rows that are all entries of a table those that are listed
abbrev pub all_listed : List ℕ → RowPosition → RowPosition
all_listed file all = record {
  at = all.at;
  count = dynamic_count file all.at all.count;
  index = all.index;
  entry = all.entry;
  strings_at = all.strings_at;
  strings_len = all.strings_len;
}

-- how many are listed, which is at most n; or they are more
abbrev pub CountsListed : List ℕ → ℕ → ℕ → ℕ → Option ℕ → Type 0
CountsListed file at count most (Some listed) = (listed ≡ dynamic_count file at count) × (listed ≤ most)
CountsListed file at count most None = most < dynamic_count file at count

-- a refusal for lack of budget, at the first entry after n
abbrev is_past : ℕ → ℕ → Refusal
is_past at most = record { at = at + 16 * most; cause = Budget }

-- those that are listed, which are at most n; or they are more
abbrev pub ListsWithin : List ℕ → RowPosition → ℕ → Result RowPosition Refusal → Type 0
ListsWithin file all most (Ok rows) = (rows ≡ all_listed file all) × (rows.count ≤ most)
ListsWithin file all most (Err refusal) = (most < dynamic_count file all.at all.count) × (refusal ≡ is_past all.at most)

-- a reading would give more rows than n, and is refused for lack of budget after these
abbrev LooksPast : (Result (Option RowPosition) Refusal → Type 0) → ℕ → Refusal → Type 0
LooksPast reads most refusal = (rows : RowPosition) × reads (Ok (Some rows)) × (most < rows.count) × (refusal ≡ is_past rows.at most)

-- WHAT A CALLER HAS of dynamic entries if at most n are read: the result of that reading, if these
-- are not more; and a refusal for lack of budget if they are
abbrev pub ReadsListed : (Result (Option RowPosition) Refusal → Type 0) → ℕ → Result (Option RowPosition) Refusal → Type 0
ReadsListed reads most (Ok None) = reads (Ok None)
ReadsListed reads most (Ok (Some rows)) = reads (Ok (Some rows)) × (rows.count ≤ most)
ReadsListed reads most (Err refusal) = reads (Err refusal) ⊎ LooksPast reads most refusal
