-- What a call has of the relocations of a file in memory that its dynamic entries locate.
use Rattle.std.specs.Prelude.{ℕ, ◌≡◌, ◌≤◌, ◌==◌, if◌then◌else◌, List, length, Option, None, Some, Result, Ok, Err, IfSome}
use Rattle.elf_model.specs.Prelude.{IsBudgetRefusal}
use Rattle.elf_model.specs.Style.{without_sections}
use Rattle.elf_model.specs.declared.causes.Refusal.{Refusal}
use Rattle.elf_model.specs.declared.relocation_tables.RelocationTable.{RelocationTable}
use Rattle.elf_model.specs.declared.relocation_tables.RelocationTable.TheVariants.{Jmprel, Rel, Rela, Relr}
use Rattle.elf_table.specs.declared.fault.Fault.TheVariants.{Refused}
use Rattle.elf_capi.specs.LocatedTables.{ReturnsTable, located_table_cost, located_of, located_position}
use Rattle.elf_capi.specs.Limits.{AreInRange, budget_of, headers_of}
use Rattle.elf_capi.specs.Ends.{IsOpenedTable}
use Rattle.elf_capi.specs.Wants.{IsWanting}
use Rattle.elf_capi.specs.declared.end.CallEnd.{CallEnd}
use Rattle.elf_capi.specs.declared.limits.CallerLimits.{CallerLimits}
use Rattle.elf_capi.specs.declared.rows.RowPosition.{RowPosition}

-- the table of a number, in the order in which a loader applies them
abbrev pub numbered_table : ℕ → Option RelocationTable
numbered_table number =
    if number == 0 then Some Relr
    else if number == 1 then Some Rel
    else if number == 2 then Some Rela
    else if number == 3 then Some Jmprel
    else None

-- a table within a budget, in a file of the given size: a position before its first row; or that
-- there is none; or the refusal, which is for lack of budget only if it costs more
abbrev pub ReadsLocated : List ℕ → (headers : ℕ) → Option ℕ → (size : ℕ) → RelocationTable → Result (Option RowPosition) Refusal → Type 0
ReadsLocated file headers budget size table (Ok found) = ReturnsTable located_position (located_of file headers table) (Ok found)
ReadsLocated file headers budget size table (Err refusal) =
    ReturnsTable {X = RowPosition} located_position (located_of file headers table) (Err (Refused refusal))
    × (IsBudgetRefusal refusal → IsWanting budget (located_table_cost file headers) size refusal)

-- limits in range, room for a header, and the number of a table
abbrev MayOpenLocated : CallerLimits → (room number : ℕ) → RelocationTable → Type 0
MayOpenLocated limits room number table = AreInRange limits room × (numbered_table number ≡ Some table)

-- what a call opens: the section header fields of the file's header are set to zero
abbrev pub OpensLocated : List ℕ → CallerLimits → (room number : ℕ) → Option (Result (Option RowPosition) Refusal) → Type 0
OpensLocated file limits room number None = (table : RelocationTable) → MayOpenLocated limits room number table → ⊥
OpensLocated file limits room number (Some read) =
    (table : RelocationTable) × MayOpenLocated limits room number table
    × ReadsLocated (without_sections file) (headers_of limits room) (budget_of limits) (length file) table read

-- WHAT A CALLER HAS of a table, with the given bytes of room: what was opened, as the numbers have
-- it, and besides how many bytes were requested
pub record HasLocated (file : List ℕ) (limits : CallerLimits) (room number status : ℕ) (old new : RowPosition) (end : CallEnd) : Type 0 where
  pub opened : Option (Result (Option RowPosition) Refusal)
  pub opens : OpensLocated file limits room number opened
  pub told : CallEnd
  pub tells : IsOpenedTable status old new told opened
  pub same : (end.cause ≡ told.cause) × (end.at ≡ told.at) × (end.written ≡ told.written) × (end.none ≡ told.none)
  pub cost : end.asked ≤ located_table_cost (without_sections file) (headers_of limits room)
  pub budget : IfSome (budget_of limits) (λ bytes. end.asked ≤ bytes)
