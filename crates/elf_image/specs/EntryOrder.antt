-- The order in which a loader applies relocation entries, as a cursor goes through it: what is left of
-- it, and how much of the file may be read for that.
use Rattle.std.specs.Prelude.{ℕ, zero, suc, ◌≡◌, ◌+◌, ◌-◌, ◌*◌, ◌%◌, ◌^◌, ◌<◌, ◌≤◌, ◌==◌, ◌&&◌, ◌⊎◌, nat_lt, not, Bool, true, false, List, [], ◌∷◌, ◌++◌, length, flat_map, All, Option, None, Some, Result, Ok, Err}
use Rattle.elf_model.specs.Apply.{places_from}
use Rattle.elf_model.specs.Image.{ImageChange, ImageSource, Keeps, Refuses, SegmentWrite, Stores, direct_changes, entry_change, is_resolved, resolved_changes}
use Rattle.elf_model.specs.Numbers.{R_X86_64_IRELATIVE, R_X86_64_RELATIVE}
use Rattle.elf_model.specs.Prelude.{IsBudgetRefusal}
use Rattle.elf_model.specs.Records.{p_vaddr, r_addend, segment_at}
use Rattle.elf_model.specs.Tables.{RELA_SIZE, SYMBOL_SIZE}
use Rattle.elf_record.specs.Rela.{IsRela}
use Rattle.elf_table.specs.Prelude.{TableRange}
use Rattle.elf_table.specs.Windows.{HoldsBytes}
use Rattle.elf_table.specs.declared.fault.Fault.{Fault}
use Rattle.elf_table.specs.declared.fault.Fault.TheVariants.{Refused, Source}
use Rattle.elf_image.specs.Chunks.{HoldsChunks}
use Rattle.elf_image.specs.RelaRows.{IsHeldRow, is_in_reach}
use Rattle.elf_image.specs.Within.{entries_ahead}
use Rattle.elf_image.specs.declared.entries.EntryPart.{EntryPart}
use Rattle.elf_image.specs.declared.entries.EntryStep.{EntryStep}
use Rattle.elf_image.specs.declared.entries.EntryStep.TheVariants as step
use Rattle.elf_image.specs.declared.entries.OrderedEntries.{OrderedEntries}
use Rattle.elf_image.specs.declared.ranges.EntryRanges.{EntryRanges}
use Rattle.elf_image.specs.declared.rela_rows.RelaRow.{RelaRow}
use Rattle.elf_image.specs.declared.rela_rows.WindowReach.{WindowReach}

-- PARTS of the order, of which there are four: whether the part of a number is of the second table, and
-- whether it is of the entries of R_X86_64_IRELATIVE
abbrev pub part_kind : (joined : Bool) → ℕ → Bool × Bool
part_kind joined zero = (false, false)
part_kind joined (suc zero) = (joined, not joined)
part_kind joined (suc (suc zero)) = (not joined, joined)
part_kind joined (suc (suc (suc number))) = (true, true)

-- one of two tables
abbrev pub range_table : EntryRanges → (second : Bool) → TableRange
range_table ranges false = ranges.first
range_table ranges true = ranges.second

-- the offsets of the entries of a table from an index on
abbrev pub entry_places_left : TableRange → (index : ℕ) → List ℕ
entry_places_left table index = places_from (λ i. table.at + RELA_SIZE * i) index (table.count - index)

-- how many of them are said to be relative
abbrev pub relative_from : EntryRanges → (second : Bool) → (index : ℕ) → ℕ
relative_from ranges false index = ranges.relative - index
relative_from ranges true index = elim ranges.joined [ true ↦ ranges.relative - (ranges.first.count + index) | false ↦ 0 ]

-- an entry of a type should be of R_X86_64_RELATIVE, but is not
abbrev pub is_unsupported : EntryRanges → (second : Bool) → (index kind : ℕ) → Bool
is_unsupported ranges second index kind = nat_lt 0 (relative_from ranges second index) && not (kind == R_X86_64_RELATIVE)

-- what entries do in a part
abbrev pub part_changes : ImageSource → (indirect : Bool) → (relative : ℕ) → List ℕ → List ImageChange
part_changes source true relative relas = resolved_changes source relas
part_changes source false relative relas = direct_changes source relative relas

-- what all entries of the part of a number do
abbrev pub numbered_changes : ImageSource → EntryRanges → (number : ℕ) → List ImageChange
numbered_changes source ranges number =
    let kind = part_kind ranges.joined number in
    part_changes source kind.1 (relative_from ranges kind.0 0) (entry_places_left (range_table ranges kind.0) 0)

-- those of the parts from a number on
unfoldable pub parts_left : ImageSource → EntryRanges → (begun : ℕ) → List ImageChange
parts_left source ranges begun = flat_map (numbered_changes source ranges) (places_from (λ k. k) begun (4 - begun))

-- WHAT IS LEFT: the entries that are left of the part, and the other parts
unfoldable pub entry_changes_left : ImageSource → OrderedEntries → List ImageChange
entry_changes_left source entries =
    part_changes source entries.part.indirect (relative_from entries.ranges entries.part.second entries.rows.index)
    (entry_places_left entries.rows.table entries.rows.index)
    ++ parts_left source entries.ranges entries.begun

-- none of the first entries of a table is of R_X86_64_IRELATIVE
abbrev pub NoneResolved : List ℕ → TableRange → (count : ℕ) → Type 0
NoneResolved file table count = (i : ℕ) → i < count → is_resolved file (table.at + RELA_SIZE * i) ≡ false

-- one of two tables is known to have such an entry
abbrev pub is_noted : Bool × Bool → (second : Bool) → Bool
is_noted noted false = noted.0
is_noted noted true = noted.1

-- the number of the part of a table's other entries
abbrev pub direct_part : (joined second : Bool) → ℕ
direct_part joined false = 0
direct_part joined true = elim joined [ true ↦ 1 | false ↦ 2 ]

-- a part's table: one of the two or, in place of one that is not known to have an entry of
-- R_X86_64_IRELATIVE, in the part of these entries, an empty one
abbrev pub IsPartTable : EntryRanges → (noted : Bool × Bool) → EntryPart → TableRange → Type 0
IsPartTable ranges noted part table =
    (table ≡ range_table ranges part.second)
    ⊎ ((part.indirect ≡ true) × (table.count ≡ 0) × (is_noted noted part.second ≡ false))

-- a part is that of a number
abbrev pub IsNumberedPart : (joined : Bool) → (number : ℕ) → EntryPart → Type 0
IsNumberedPart joined number part = (part.second ≡ (part_kind joined number).0) × (part.indirect ≡ (part_kind joined number).1)

-- the entries that are left are those of a file: the window at the next one holds its bytes; there are
-- none before the first part; and a table that is not known to have an entry of R_X86_64_IRELATIVE has
-- none among those that were passed in the part of its other entries
pub record AreOrderedEntries (file : List ℕ) (entries : OrderedEntries) : Type 0 where
  pub held : HoldsBytes file entries.rows.window
  pub before : entries.begun ≡ 0 → entries.rows.table.count ≡ 0
  pub kind : (number : ℕ) → number + 1 ≡ entries.begun → IsNumberedPart entries.ranges.joined number entries.part
  pub table : 0 < entries.begun → entries.part.indirect ≡ false → entries.rows.table ≡ range_table entries.ranges entries.part.second
  pub part : entries.part.indirect ≡ false → is_noted entries.indirect entries.part.second ≡ false
      → NoneResolved file (range_table entries.ranges entries.part.second) entries.rows.index
  pub past : (second : Bool) → direct_part entries.ranges.joined second + 1 < entries.begun → is_noted entries.indirect second ≡ false
      → NoneResolved file (range_table entries.ranges second) (range_table entries.ranges second).count
  pub chunks : HoldsChunks file entries.ranges.first.at entries.chunks

-- the next part is begun
pub record BeginsPart (old new : OrderedEntries) : Type 0 where
  pub ranges : new.ranges ≡ old.ranges
  pub begun : new.begun ≡ old.begun + 1
  pub noted : new.indirect ≡ old.indirect
  pub wanted : new.wanted ≡ old.wanted
  pub chunks : new.chunks ≡ old.chunks
  pub kind : IsNumberedPart old.ranges.joined old.begun new.part
  pub table : IsPartTable old.ranges old.indirect new.part new.rows.table
  pub index : new.rows.index ≡ 0
  pub unread : new.rows.window.unread ≡ RELA_SIZE * new.rows.table.count
  pub held : (file : List ℕ) → HoldsBytes file new.rows.window

-- the next entry is held, and is of R_X86_64_RELATIVE, in a part of such entries
pub record IsHeldRelative (entries : OrderedEntries) (row : RelaRow) : Type 0 where
  pub held : IsHeldRow entries.rows row
  pub direct : entries.part.indirect ≡ false
  pub kind : row.entry.r_info % 2 ^ 32 ≡ R_X86_64_RELATIVE

-- FAR FROM A WINDOW. What a change stores is at most 16 bytes, at an address that is not in reach
pub record IsFarWrite (file : List ℕ) (reach : WindowReach) (write : SegmentWrite) : Type 0 where
  pub few : length write.stored.bytes ≤ 16
  pub small : write.size ≤ 16
  pub far : is_in_reach reach (p_vaddr file (segment_at file write.segment) + write.stored.at) ≡ false

-- a change that a walk may pass by: one of nothing or, if a window is wanted, one that stores nothing in
-- it
abbrev pub IsFarChange : List ℕ → Option WindowReach → ImageChange → Type 0
IsFarChange file None change = change ≡ Keeps
IsFarChange file (Some reach) change = (write : SegmentWrite) → change ≡ Stores write → IsFarWrite file reach write

-- changes are passed by
abbrev pub PassesBy : List ℕ → Option WindowReach → (before after : List ImageChange) → Type 0
PassesBy file wanted before after = (passed : List ImageChange) × (before ≡ passed ++ after) × All (IsFarChange file wanted) passed

-- an entry that a step returns is one of the tables
abbrev pub HasOrderedEntry : EntryRanges → EntryStep → Type 0
HasOrderedEntry ranges (step.Entry ordered) = 0 < ranges.first.count + ranges.second.count
HasOrderedEntry ranges step.Nothing = Unit {0}
HasOrderedEntry ranges step.Past = Unit {0}

-- A STEP takes the first of the changes that are left: that of the entry that it returns, a refusal, or
-- some that may be passed by
abbrev pub TakesOrderedEntry : ImageSource → Option WindowReach → (before after : List ImageChange) → Result EntryStep Fault → Type 0
TakesOrderedEntry source wanted before after (Ok (step.Entry ordered)) =
    (before ≡ entry_change source ordered.at ∷ after) × IsRela source.file ordered.at ordered.entry × (r_addend source.file ordered.at < 2 ^ 64)
TakesOrderedEntry source wanted before after (Ok step.Nothing) = PassesBy source.file wanted before after
TakesOrderedEntry source wanted before after (Ok step.Past) = before ≡ []
TakesOrderedEntry source wanted before after (Err (Refused refusal)) =
    (IsBudgetRefusal refusal → ⊥) → (rest : List ImageChange) × (before ≡ Refuses refusal ∷ rest)
TakesOrderedEntry source wanted before after (Err (Source fault at)) = Unit {0}

-- what is taken of an entry that was read, by its changes in a part: it is returned, passed by, or
-- refused
abbrev pub TakesRow : ImageSource → RelaRow → (changes : List ImageChange) → Result EntryStep Fault → Type 0
TakesRow source row changes (Ok (step.Entry ordered)) =
    (changes ≡ entry_change source row.at ∷ []) × (ordered.at ≡ row.at) × (ordered.entry ≡ row.entry)
TakesRow source row changes (Ok step.Nothing) = All (λ change. change ≡ Keeps) changes
TakesRow source row changes (Ok step.Past) = ⊥
TakesRow source row changes (Err (Refused refusal)) = changes ≡ Refuses refusal ∷ []
TakesRow source row changes (Err (Source fault at)) = ⊥

-- READS. What may be read for entries of a part: themselves, and for each one symbol unless it is of
-- R_X86_64_IRELATIVE
abbrev pub part_reads : (indirect : Bool) → (count : ℕ) → ℕ
part_reads true count = RELA_SIZE * count
part_reads false count = (RELA_SIZE + SYMBOL_SIZE) * count

abbrev pub numbered_reads : EntryRanges → (number : ℕ) → ℕ
numbered_reads ranges number =
    let kind = part_kind ranges.joined number in
    part_reads kind.1 (range_table ranges kind.0).count

-- for parts of these numbers
unfoldable pub parts_reads : EntryRanges → List ℕ → ℕ
parts_reads ranges [] = 0
parts_reads ranges (number ∷ numbers) = numbered_reads ranges number + parts_reads ranges numbers

-- the symbols of the entries that are left of a part
abbrev pub symbols_left : (indirect : Bool) → (count : ℕ) → ℕ
symbols_left true count = 0
symbols_left false count = SYMBOL_SIZE * count

-- for all that is left
abbrev pub entries_reads : OrderedEntries → ℕ
entries_reads entries =
    entries.rows.window.unread + symbols_left entries.part.indirect (entries_ahead entries.rows)
    + parts_reads entries.ranges (places_from (λ k. k) entries.begun (4 - entries.begun))

-- for the symbol of the entry that a step returned
abbrev pub symbol_reads : Result EntryStep Fault → ℕ
symbol_reads (Ok (step.Entry ordered)) = elim (ordered.entry.r_info % 2 ^ 32 == R_X86_64_IRELATIVE) [ true ↦ 0 | false ↦ SYMBOL_SIZE ]
symbol_reads (Ok step.Nothing) = 0
symbol_reads (Ok step.Past) = 0
symbol_reads (Err fault) = 0
