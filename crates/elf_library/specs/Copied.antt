-- The symbols whose data a program copies from its libraries, by its relocation entries.
use Rattle.std.specs.Prelude.{ℕ, ◌≡◌, ◌+◌, ◌/◌, ◌%◌, ◌^◌, ◌==◌, if◌then◌else◌, List, Option, None, Some}
use Rattle.elf_model.specs.Prelude.{DT_RELA, DT_RELASZ, R_X86_64_COPY, field, listed_value}
use Rattle.elf_table.specs.Prelude.{TableRange}
use Rattle.elf_table.specs.declared.fault.Fault.{Fault}
use Rattle.elf_library.specs.Kept.{LookupObjectState}
use Rattle.elf_library.specs.Looks.{SpendsAtMost, SpendsBudget}
use Rattle.elf_library.specs.declared.copied_symbols.RelocationTags.{RelocationTags}

-- the address and the size are those of the first listed entries of a table with these tags
pub record AreRelocationTags (file : List ℕ) (table : TableRange) (found : RelocationTags) : Type 0 where
  pub its_address : found.address ≡ listed_value file table.at table.count DT_RELA
  pub its_size : found.size ≡ listed_value file table.at table.count DT_RELASZ

-- the symbol whose data an entry copies, by its symbol and type, if it is of that type (gABI 4,
-- Relocation); and of the entry at an offset
abbrev pub copied_by : (info : ℕ) → Option ℕ
copied_by info = if info % 2 ^ 32 == R_X86_64_COPY then Some (info / 2 ^ 32) else None

abbrev pub copied_symbol : List ℕ → (at : ℕ) → Option ℕ
copied_symbol file at = copied_by (field file (at + 8) 8)

-- WHAT A READ OF A FILE THAT IS KEPT COSTS: at most n bytes are read, and what is left of the
-- budget decreases by it
pub record ReadsKept (old new : LookupObjectState) (left_old left_new : Option ℕ) (stop : Option Fault) (n : ℕ) : Type 0 where
  pub costs : SpendsAtMost old.src new.src left_old stop n
  pub same_headers : new.headers ≡ old.headers
  pub pays : SpendsBudget left_old left_new old.src.asked new.src.asked
