-- A position in a table of a file in memory, and steps over its rows.
use Rattle.std.specs.Prelude.{ℕ, ◌≡◌, ◌+◌, ◌-◌, ◌*◌, ◌/◌, ◌<◌, ◌==◌, min, if◌then◌else◌, List, length, slice_index_or}
use Rattle.elf_table.specs.Tables.{TableRange as Table, StringTableRange}
use Rattle.elf_capi.specs.declared.rows.RowPosition.{RowPosition}

-- a position before the first row of a table, with its string table
abbrev pub rows_from_first : Table → StringTableRange → RowPosition
rows_from_first table names = record {
  at = table.at;
  count = table.count;
  index = 0;
  entry = table.entry;
  strings_at = names.at;
  strings_len = names.size;
}

-- where the k-th of the next entries is
abbrev pub next_at : RowPosition → ℕ → ℕ → ℕ
next_at rows entry k = rows.at + entry * rows.index + entry * k

-- how many entries are left: those that the numbers count, as far as they lie within a file of the
-- given size; none if their size is another
abbrev pub rows_left : ℕ → RowPosition → ℕ → ℕ
rows_left size rows entry =
    if rows.entry == entry then min ((size - (rows.at + entry * rows.index)) / entry) (rows.count - rows.index) else 0

-- n entries further
abbrev pub stepped : RowPosition → ℕ → RowPosition
stepped rows count = record {
  at = rows.at;
  count = rows.count;
  index = rows.index + count;
  entry = rows.entry;
  strings_at = rows.strings_at;
  strings_len = rows.strings_len;
}

-- A STEP: over as many of the next entries as there are and as fit
pub record StepsRows (size entry : ℕ) (old new : RowPosition) (room count : ℕ) : Type 0 where
  pub counted : count ≡ min (rows_left size old entry) room
  pub stepped : new ≡ stepped old count

-- THE ROWS THAT A STEP READS: each is the entry at its place in the file
pub record ReadsNext {Row : Type 0} (entry : ℕ) (is_at : List ℕ → ℕ → Row → Type 0) (file : List ℕ) (old new : RowPosition) (room : ℕ) (out : List Row) (count : ℕ) : Type 0 where
  pub steps : StepsRows (length file) entry old new room count
  pub read : (k : ℕ) (none : Row) → k < count → is_at file (next_at old entry k) (slice_index_or out k none)
