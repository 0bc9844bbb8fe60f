-- The tables of a file that define versions.
use Rattle.std.specs.Prelude.{◌≡◌, if◌then◌else◌, Option, None, Some}
use Rattle.elf_model.specs.BoundSymbols.{is_definition}
use Rattle.elf_hash.specs.declared.symbols.DynamicSymbols.{DynamicSymbols}
use Rattle.elf_hash.specs.declared.symbols.VersionRecordTable.{VersionRecordTable}

-- a table, if there is one and it is of definitions
abbrev pub definition_if : Option VersionRecordTable → Option VersionRecordTable
definition_if None = None
definition_if (Some table) = if is_definition table.kind then Some table else None

-- the symbols with those tables alone
abbrev pub definitions_of : DynamicSymbols → DynamicSymbols
definitions_of symbols = record {
  index = symbols.index;
  table = symbols.table;
  names = symbols.names;
  words = symbols.words;
  definitions = definition_if symbols.definitions;
  needs = definition_if symbols.needs;
  rows = symbols.rows;
}

-- symbols have no table of records
abbrev pub HasNoTable : DynamicSymbols → Type 0
HasNoTable symbols = (symbols.definitions ≡ None) × (symbols.needs ≡ None)
