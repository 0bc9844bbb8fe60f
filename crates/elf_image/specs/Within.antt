-- What a walk may read: tables that lie within a source, and how much of them is left.
use Rattle.std.specs.Prelude.{ℕ, if◌then◌else◌, ◌≡◌, ◌+◌, ◌-◌, ◌*◌, ◌^◌, ◌<◌, ◌≤◌, List, length, None, IfSome}
use Rattle.elf_model.specs.Prelude.{p_filesz, p_offset}
use Rattle.elf_table.specs.Prelude.{TableInBounds, TableRange}
use Rattle.elf_table.specs.Windows.{range_end}
use Rattle.elf_image.specs.Relocated.{IsHeldRange}
use Rattle.elf_image.specs.declared.changes.ImageFile.{ImageFile}
use Rattle.elf_image.specs.declared.changes.Relocations.{Relocations}
use Rattle.elf_image.specs.declared.entries.EntryStep.{EntryStep}
use Rattle.elf_image.specs.declared.entries.EntryStep.TheVariants.{Past}
use Rattle.elf_image.specs.declared.entries.OrderedEntries.{OrderedEntries}
use Rattle.elf_image.specs.declared.rela_rows.RelaRows.{RelaRows}
use Rattle.elf_image.specs.declared.ranges.EntryRanges.{EntryRanges}
use Rattle.elf_image.specs.declared.relative_rows.RelativeRows.{RelativeRows}
use Rattle.elf_image.specs.declared.relative_rows.RelativeStep.{RelativeStep}
use Rattle.elf_image.specs.declared.relative_rows.RelativeStep.TheVariants.{Ended}
use Rattle.elf_image.specs.declared.tables.ImageTables.{ImageTables}
use Rattle.elf_image.specs.declared.walk.ImageWalk.{ImageWalk}
use Rattle.elf_image.specs.declared.walk.WalkStep.{WalkStep}
use Rattle.elf_image.specs.declared.walk.WalkStep.TheVariants.{End}

-- a table of rows of a width lies within a source of this size
pub record IsTableWithin (width size : ℕ) (table : TableRange) : Type 0 where
  pub wide : table.entry ≡ width
  pub within : TableInBounds size table

pub record TablesWithin (size : ℕ) (tables : ImageTables) : Type 0 where
  pub compact : IsTableWithin 8 size tables.compact.rows
  pub addends : IsTableWithin 24 size tables.addends.rows
  pub calls : IsTableWithin 24 size tables.calls.rows
  pub symbols : IfSome tables.symbols (IsTableWithin 24 size)

pub record RangesWithin (size : ℕ) (ranges : EntryRanges) : Type 0 where
  pub first : IsTableWithin 24 size ranges.first
  pub second : IsTableWithin 24 size ranges.second

pub record RelocationsWithin (size : ℕ) (told : Relocations) : Type 0 where
  pub compact : IsTableWithin 8 size told.compact
  pub ranges : RangesWithin size told.ranges
  pub symbols : IfSome told.symbols (IsTableWithin 24 size)

abbrev pub ImageWithin : ℕ → ImageFile → Type 0
ImageWithin size image = RelocationsWithin size image.told

-- the rows of relative relocations that are left can be read, and their addresses do not wrap
pub record RowsAlive (size : ℕ) (rows : RelativeRows) : Type 0 where
  pub unfailed : rows.cursor.failed ≡ None
  pub table : IsTableWithin 8 size rows.cursor.table
  pub few : rows.left ≤ 63
  pub index : rows.cursor.index ≤ 2 ^ 64
  pub next : IfSome rows.next (λ address. address + 8 * rows.left ≤ 2 ^ 64 + 504 * rows.cursor.index)

-- how many steps they may take
abbrev pub row_steps : RelativeRows → ℕ
row_steps rows = 64 * rows.cursor.left + rows.left

-- a step past the last row, or one of those that were left
abbrev pub StepsRelativeRows : (old new : RelativeRows) → RelativeStep → Type 0
StepsRelativeRows old new Ended = row_steps new ≤ row_steps old
StepsRelativeRows old new step = row_steps new < row_steps old

-- the entries that are left can be read: the window is at the next one, and holds whole entries
pub record RelaRowsAlive (size : ℕ) (rows : RelaRows) : Type 0 where
  pub table : IsTableWithin 24 size rows.table
  pub index : rows.index ≤ rows.table.count
  pub place : rows.window.at ≡ rows.table.at + 24 * rows.index
  pub end : range_end rows.window ≡ rows.table.at + 24 * rows.table.count
  pub page : rows.window.page ≡ 4080
  pub small : rows.table.at + 24 * rows.table.count < 2 ^ 64
  pub few : length rows.window.held ≤ 4080
  pub held : ℕ
  pub whole : length rows.window.held ≡ 24 * held

-- how many entries are left
abbrev pub entries_ahead : RelaRows → ℕ
entries_ahead rows = rows.table.count - rows.index

pub record EntriesAlive (size : ℕ) (entries : OrderedEntries) : Type 0 where
  pub ranges : RangesWithin size entries.ranges
  pub rows : RelaRowsAlive size entries.rows
  pub begun : entries.begun ≤ 4
  pub few : entries_ahead entries.rows ≤ entries.ranges.first.count + entries.ranges.second.count

abbrev pub entry_steps : OrderedEntries → ℕ
entry_steps entries =
    (4 - entries.begun) * (1 + (entries.ranges.first.count + entries.ranges.second.count)) + entries_ahead entries.rows

abbrev pub StepsOrderedEntries : (old new : OrderedEntries) → EntryStep → Type 0
StepsOrderedEntries old new Past = Unit {0}
StepsOrderedEntries old new step = entry_steps new < entry_steps old

-- the walk can go on
pub record WalkAlive (size : ℕ) (image : ImageFile) (walk : ImageWalk) : Type 0 where
  pub rows : RowsAlive size walk.rows
  pub entries : EntriesAlive size walk.entries
  pub last : IfSome walk.last (IsHeldRange image)

abbrev pub walk_steps : ImageWalk → ℕ
walk_steps walk = row_steps walk.rows + entry_steps walk.entries + (if walk.past_rows then 0 else 1)

abbrev pub StepsImageWalk : (old new : ImageWalk) → WalkStep → Type 0
StepsImageWalk old new End = Unit {0}
StepsImageWalk old new step = walk_steps new < walk_steps old

-- the bytes of a program header's segment in the file lie within a source of this size
abbrev pub SegmentWithin : (size : ℕ) → List ℕ → Type 0
SegmentWithin size bytes = p_offset bytes 0 + p_filesz bytes 0 ≤ size
