-- The headers of a file in memory, where they are.
use Rattle.std.specs.Prelude.{ℕ, List}
use Rattle.elf_record.specs.declared.ehdr.Ehdr.{Ehdr}
use Rattle.elf_table.specs.Prelude.{StoreState, rows_from}

-- the headers of a file with this file header, as a store of a number of slots would hold them
abbrev pub rows_in_place : List ℕ → Ehdr → ℕ → StoreState
rows_in_place file header most = record {
  slots = most;
  loaded = header.e_shnum;
  rows = rows_from file header.e_shoff 64 header.e_shnum;
  segments = header.e_phnum;
  segment_rows = rows_from file header.e_phoff 56 header.e_phnum;
}
