-- How many entries a section of relocation entries has, and the rows that a cursor over it yields.
use Rattle.std.proofs.Common.{◌≡◌, ℕ, ◌+◌, ◌*◌, ◌/◌, Bool, true, List, Option, None, Some, Ok, arith}
use Rattle.std.proofs.lemmas.Bool.Decides.{nat_tests}
use Rattle.elf_model.specs.Prelude.{first_refusal, sh_size, slice, table_checks_of}
use Rattle.elf_model.specs.declared.causes.Refusal.{Refusal}
use Rattle.elf_table.specs.Prelude.{Advances, CursorState, GivesRow, HoldsRows, ShowsRow, TableRange, table_of}
use Rattle.elf_table.specs.declared.row.Row.{Row}

-- how many entries a returned table has
abbrev counted_by : Option Refusal → ℕ → ℕ
counted_by first n = elim first [ Some refusal ↦ 0 | None ↦ n ]

pub entries_counted : (bytes : List ℕ) (at size place : ℕ) (table : TableRange) → Ok table ≡ table_of bytes at size place 24
    → table.count ≡ counted_by (first_refusal (table_checks_of bytes at size place 24)) (sh_size bytes at / 24)
entries_counted bytes at size place table h = grind (arith, nat_tests)

-- a step that returned that there is a row yielded it
pub gave : (file : Option (List ℕ)) (old new : CursorState) (more : Bool) → more ≡ true → Advances file old new (Ok more) → GivesRow file old new
gave file old new more is steps = rw is at steps

-- the row that a step yielded: its index, its bytes and its place
pub record GivenRow (old : CursorState) (row : Row) (file : List ℕ) (size from : ℕ) : Type 0 where
  pub index : row.index ≡ old.index
  pub bytes : row.bytes.now ≡ slice file row.at size
  pub here : row.at ≡ from + row.index * size

pub given_row : (holds : Option (List ℕ)) (old new : CursorState) (row : Row) (file : List ℕ) (table : TableRange) (size from : ℕ)
    → GivesRow holds old new → ShowsRow new row → holds ≡ Some file → HoldsRows file old → old.table ≡ table → table.entry ≡ size → table.at ≡ from
    → GivenRow old row file size from
given_row holds old new row file table size from gives lends held agrees same entry at = grind arith
