-- What a cursor over dynamic entries yields, entry by entry.
use Rattle.std.specs.Prelude.{ℕ, suc, ◌≡◌, ◌==◌, ◌+◌, ◌≤◌, Bool, true, false, if◌then◌else◌, List, [], ◌⊎◌, Option, None, Some, Result, Ok, Err}
use Rattle.elf_model.specs.Prelude.{DT_NULL, DT_STRSZ, DT_STRTAB, d_tag, d_un, dynamic_count, listed_value}
use Rattle.elf_source.specs.Prelude.{CountedState, ReadsOnward, SourceState}
use Rattle.elf_table.specs.Prelude.{CursorState, FailsRows, GivesRow, HoldsRows, ShowsRow, TableRange, asked_to, next_row, size_of, unread_bytes}
use Rattle.elf_table.specs.declared.fault.Fault.{Fault}
use Rattle.elf_table.specs.declared.row.Row.{Row}
use Rattle.elf_note.specs.declared.string_values.DynamicStrings.{DynamicStrings}

-- a cursor over the rows of a table, and whether it has yielded the entry that ends them
pub record DynCursorState : Type 0 where
  pub cursor : CursorState
  pub ended : Bool

-- how many entries of a file a cursor still yields: those up to and including the first DT_NULL, or
-- all
abbrev pub entries_left : List ℕ → DynCursorState → ℕ
entries_left file d = if d.ended then 0 else dynamic_count file (next_row d.cursor) d.cursor.left

-- a cursor before the first entry of a table
pub record StartsEntries (table : TableRange) (d : DynCursorState) : Type 0 where
  pub its_table : d.cursor.table ≡ table
  pub index : d.cursor.index ≡ 0
  pub left : d.cursor.left ≡ table.count
  pub unread : d.cursor.unread ≡ size_of table
  pub held : d.cursor.held ≡ []
  pub not_failed : d.cursor.failed ≡ None
  pub not_ended : d.ended ≡ false
  pub entries : (file : List ℕ) → entries_left file d ≡ dynamic_count file table.at table.count

-- what every step keeps, fault or not: requests go forward only, within the unread bytes; a cursor
-- that had failed is unchanged
pub record KeepsEntries (one_read : SourceState → ℕ → ℕ → SourceState → Type 0) (before after : CountedState) (old new : DynCursorState) : Type 0 where
  pub account : after.asked + unread_bytes new.cursor ≤ before.asked + unread_bytes old.cursor
  pub onward : ReadsOnward one_read before.source after.source (asked_to old.cursor) (asked_to new.cursor)
  pub unchanged : (fault : Fault) → old.cursor.failed ≡ Some fault → new ≡ old

-- a step that yields the next entry; it is the last if its tag is DT_NULL
pub record GivesEntry (file : Option (List ℕ)) (old new : DynCursorState) : Type 0 where
  pub gives : GivesRow file old.cursor new.cursor
  pub not_ended : old.ended ≡ false
  pub ends_with : new.ended ≡ (d_tag new.cursor.row 0 == DT_NULL)
  pub one_less : (bytes : List ℕ) → file ≡ Some bytes → HoldsRows bytes old.cursor → entries_left bytes old ≡ suc (entries_left bytes new)

-- a step after the last entry
pub record EndsEntries (old new : DynCursorState) : Type 0 where
  pub unchanged : new ≡ old
  pub not_failed : old.cursor.failed ≡ None
  pub behind : (old.ended ≡ true) ⊎ (old.cursor.left ≡ 0)
  pub none_left : (bytes : List ℕ) → entries_left bytes old ≡ 0

-- a step that fails, as that of a cursor over rows does
pub record FailsEntries (old new : DynCursorState) (fault : Fault) : Type 0 where
  pub fails : FailsRows old.cursor new.cursor fault
  pub same_end : new.ended ≡ old.ended

-- a step of a cursor that returns whether it yielded an entry
abbrev pub AdvancesEntries : Option (List ℕ) → DynCursorState → DynCursorState → Result Bool Fault → Type 0
AdvancesEntries file old new (Ok true) = GivesEntry file old new
AdvancesEntries file old new (Ok false) = EndsEntries old new
AdvancesEntries file old new (Err fault) = FailsEntries old new fault

-- a step of a cursor that returns the entry's row
abbrev pub StepsEntries : Option (List ℕ) → DynCursorState → DynCursorState → Result (Option Row) Fault → Type 0
StepsEntries file old new (Ok (Some row)) = GivesEntry file old new × ShowsRow new.cursor row
StepsEntries file old new (Ok None) = EndsEntries old new
StepsEntries file old new (Err fault) = FailsEntries old new fault

-- a value, or another if there is none
abbrev pub first_value : Option ℕ → Option ℕ → Option ℕ
first_value (Some value) other = Some value
first_value None other = other

-- the value of the entry at an offset, if it has a tag
abbrev pub value_here : List ℕ → ℕ → ℕ → Option ℕ
value_here file at tag = elim (d_tag file at == tag) [ true ↦ Some (d_un file at) | false ↦ None ]

-- the values that locate a string table, of the entries of a table that are listed
pub record AreStrings (file : List ℕ) (table : TableRange) (found : DynamicStrings) : Type 0 where
  pub its_address : found.address ≡ listed_value file table.at table.count DT_STRTAB
  pub its_size : found.size ≡ listed_value file table.at table.count DT_STRSZ
