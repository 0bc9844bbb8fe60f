-- A cursor over the entries of a table, and those that it passes since they cannot store into a window.
use Rattle.std.specs.Prelude.{ℕ, ◌≡◌, ◌+◌, ◌*◌, ◌%◌, ◌^◌, ◌<◌, ◌≤◌, ◌&&◌, nat_lt, not, Bool, false, List, length, Option, None, Some}
use Rattle.elf_model.specs.Prelude.{field}
use Rattle.elf_model.specs.Bytes.{slice}
use Rattle.elf_model.specs.Records.{r_addend, r_offset, r_type}
use Rattle.elf_model.specs.Numbers.{R_X86_64_COPY, R_X86_64_IRELATIVE}
use Rattle.elf_record.specs.Rela.{IsRela}
use Rattle.elf_table.specs.Windows.{HoldsBytes}
use Rattle.elf_image.specs.Within.{RelaRowsAlive}
use Rattle.elf_image.specs.declared.rela_rows.RelaRow.{RelaRow}
use Rattle.elf_image.specs.declared.rela_rows.RelaRows.{RelaRows}
use Rattle.elf_image.specs.declared.rela_rows.WindowReach.{WindowReach}

-- an address is one of those at which an entry may store into a window
abbrev pub is_in_reach : WindowReach → ℕ → Bool
is_in_reach reach address = not (nat_lt address reach.first) && not (nat_lt reach.last address)

-- an entry, by its bytes, cannot store into it: its address is elsewhere, and it is neither of
-- R_X86_64_COPY, which may store any number of bytes, nor of R_X86_64_IRELATIVE
pub record IsRowFar (row : List ℕ) (reach : WindowReach) : Type 0 where
  pub direct : field row 8 8 % 2 ^ 32 ≡ 37 → ⊥
  pub small : field row 8 8 % 2 ^ 32 ≡ R_X86_64_COPY → ⊥
  pub far : is_in_reach reach (field row 0 8) ≡ false

-- none of the first entries of some bytes can
abbrev pub AreFarRows : List ℕ → WindowReach → (count : ℕ) → Type 0
AreFarRows bytes reach count = (i : ℕ) → i < count → IsRowFar (slice bytes (24 * i) 24) reach

-- the same of an entry of a file, at an offset
pub record IsFarEntry (file : List ℕ) (rela : ℕ) (reach : WindowReach) : Type 0 where
  pub direct : r_type file rela ≡ R_X86_64_IRELATIVE → ⊥
  pub small : r_type file rela ≡ R_X86_64_COPY → ⊥
  pub far : is_in_reach reach (r_offset file rela) ≡ false

abbrev pub IsFarRow : List ℕ → (rela : ℕ) → Option WindowReach → Type 0
IsFarRow file rela None = ⊥
IsFarRow file rela (Some reach) = IsFarEntry file rela reach

-- the offset of the entry of an index
abbrev pub entry_place : RelaRows → (index : ℕ) → ℕ
entry_place rows index = rows.table.at + 24 * index

-- entries are passed
pub record PassesEntries (old new : RelaRows) (count : ℕ) : Type 0 where
  pub table : new.table ≡ old.table
  pub index : new.index ≡ old.index + count
  pub unread : new.window.unread ≤ old.window.unread
  pub alive : (size : ℕ) → RelaRowsAlive size old → RelaRowsAlive size new
  pub agrees : (file : List ℕ) → HoldsBytes file old.window → HoldsBytes file new.window

-- the next entry, as it is taken
pub record IsRelaRow (file : List ℕ) (old : RelaRows) (row : RelaRow) : Type 0 where
  pub place : row.at ≡ entry_place old old.index
  pub entry : IsRela file row.at row.entry
  pub addend : r_addend file row.at < 2 ^ 64

-- the next entry, of which the bytes are held
pub record IsHeldRow (rows : RelaRows) (row : RelaRow) : Type 0 where
  pub held : 24 ≤ length rows.window.held
  pub index : row.index ≡ rows.index
  pub taken : (file : List ℕ) → HoldsBytes file rows.window → IsRelaRow file rows row

-- how a call goes on: to the next entry, which it returns, or over some
abbrev pub PassesRows : (old new : RelaRows) → Option WindowReach → Option RelaRow → Type 0
PassesRows old new None None = ⊥
PassesRows old new (Some reach) None = old.index < new.index
PassesRows old new wanted (Some row) = (new.index ≡ old.index + 1) × (row.index ≡ old.index)

-- what a call takes of a file: the next entry, or some that cannot store into the window that is
-- wanted
abbrev pub TakesRows : List ℕ → (old new : RelaRows) → Option WindowReach → Option RelaRow → Type 0
TakesRows file old new wanted None = (i : ℕ) → old.index ≤ i → i < new.index → IsFarRow file (entry_place old i) wanted
TakesRows file old new wanted (Some row) = IsRelaRow file old row
