-- The tables of relocations, and the symbols, that dynamic entries locate.
use Rattle.std.specs.Prelude.{ℕ, ◌≡◌, List, Option, None, Some, Result, Ok, Err, option_map}
use Rattle.elf_model.specs.Prelude.{LocatedSymbols, LocatedTable as IsLocated, d_un, form_size, tagged_row, tags_of}
use Rattle.elf_model.specs.declared.causes.Refusal.{Refusal}
use Rattle.elf_model.specs.declared.relocation_tables.RelocationTable.{RelocationTable}
use Rattle.elf_table.specs.Prelude.{StringTableRange, TableInBounds, TableRange, symbols_linked}
use Rattle.elf_table.specs.declared.fault.Fault.{Fault}
use Rattle.elf_table.specs.declared.fault.Fault.TheVariants.{Refused, Source}
use Rattle.elf_hash.specs.Entries.{dynamic_entry_at}
use Rattle.elf_hash.specs.declared.dyn_entry.DynEntry.{DynEntry}
use Rattle.elf_hash.specs.declared.relocation_tables.TableLocation.{TableLocation}
use Rattle.elf_hash.specs.declared.relocation_tables.TableEntries.{TableEntries}

-- an entry is one of the file
abbrev pub IsEntryOf : List ℕ → DynEntry → Type 0
IsEntryOf file entry = d_un file entry.at ≡ entry.value

-- the entries of a table are the first with its tags, of the segment whose program header is at an
-- offset
pub record AreTableEntries (file : List ℕ) (at : ℕ) (table : RelocationTable) (entries : TableEntries) : Type 0 where
  pub address : entries.address ≡ option_map (dynamic_entry_at file) (tagged_row file at (tags_of table).address)
  pub size : entries.size ≡ option_map (dynamic_entry_at file) (tagged_row file at (tags_of table).size)
  pub row : entries.row ≡ option_map (dynamic_entry_at file) (tagged_row file at (tags_of table).row)

-- a table that lies within a source of this size, and has rows of its form
pub record LocatedInBounds (size : ℕ) (found : TableLocation) : Type 0 where
  pub within : TableInBounds size found.table
  pub entry : found.table.entry ≡ form_size found.form

-- the result for a table, as the definitions find it
abbrev pub located_by : Result (Option IsLocated) Refusal → Result (Option TableLocation) Fault
located_by (Err refusal) = Err (Refused refusal)
located_by (Ok None) = Ok None
located_by (Ok (Some found)) =
    Ok (Some (record { form = found.form; table = record { at = found.place; count = found.count; entry = form_size found.form } }))

-- the symbols, as the definitions find them
abbrev pub FindsSymbols : List ℕ → Result (Option LocatedSymbols) Refusal → Result (Option (TableRange × StringTableRange)) Fault → Type 0
FindsSymbols file symbols (Ok linked) = symbols ≡ Ok (symbols_linked file linked)
FindsSymbols file symbols (Err (Refused refusal)) = symbols ≡ Err refusal
FindsSymbols file symbols (Err (Source fault at)) = ⊥
