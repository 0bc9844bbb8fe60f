-- The rows of each kind of table.
use Rattle.std.specs.Prelude.{ℕ, ◌≡◌, ◌==◌, ◌+◌, ◌*◌, ◌<◌, ◌^◌, IfSome}
use Rattle.elf_model.specs.Prelude.{DYNAMIC_SIZE, RELR_SIZE, SHT_DYNSYM, SYMBOL_SIZE, VERSYM_SIZE, dynamic_at, dynamic_count, dynamic_row, e_phoff, name_bytes, relocation_row, relocation_row_with_version, relocation_size, relr_rows_at, section_at, segment_row, sh_link, sh_offset, sh_type, strings_of, symbol_row, symbol_row_with_version}
use Rattle.elf_table.specs.Prelude.{RefersTo, StringsInBounds, SymbolTableInBounds, strings_in}
use Rattle.elf_listing.specs.Numbered.{NumberedWithin, reported_row}
use Rattle.elf_listing.specs.Strings.{AreOf, AreWithin, strings_reported}
use Rattle.elf_listing.specs.Suffixed.{AreSuffixes, SuffixesWithin, row_by, suffix_cost}
use Rattle.elf_listing.specs.TableRows.{RowLayout}
use Rattle.elf_listing.specs.declared.dynamic_string_table.DynamicStringTable.{DynamicStringTable}
use Rattle.elf_listing.specs.declared.numbered.VersionIndices.{VersionIndices}
use Rattle.elf_listing.specs.declared.relocations.Relocations.{Relocations}
use Rattle.elf_listing.specs.declared.symbols.Symbols.{Symbols}

-- program headers, if they are not in the store
abbrev pub program_header_layout : RowLayout
program_header_layout = record {
  size = 56;
  listed = λ file table. table.count;
  fits = λ index. index < 2 ^ 16;
  own_cost = λ versions cap. 0;
  items = λ versions file style table_at. segment_row file style;
  within = λ versions size. Unit {0};
  here = λ versions file table_at. table_at ≡ e_phoff file;
}

-- the symbols of a section, with their versions if there is a lookup of them
abbrev pub symbol_layout : Symbols → RowLayout
symbol_layout rows = record {
  size = SYMBOL_SIZE;
  listed = λ file table. table.count;
  fits = λ index. Unit {0};
  own_cost = λ versions cap. name_bytes cap + suffix_cost versions cap;
  items = λ versions file style table_at. row_by versions (symbol_row file style rows.section (section_at file rows.section)) (symbol_row_with_version file style rows.section (section_at file rows.section));
  within = λ versions size. StringsInBounds size rows.names × IfSome versions (SuffixesWithin size);
  here = λ versions file table_at. (strings_in file rows.names ≡ strings_of file (section_at file rows.section))
      × (table_at ≡ sh_offset file (section_at file rows.section)) × IfSome versions (AreSuffixes file rows.section)
      × (rows.is_dynamic ≡ (sh_type file (section_at file rows.section) == SHT_DYNSYM));
}

-- the relocation entries of a section, with the versions of their symbols
abbrev pub relocation_layout : Relocations → RowLayout
relocation_layout rows = record {
  size = relocation_size rows.has_addends;
  listed = λ file table. table.count;
  fits = λ index. Unit {0};
  own_cost = λ versions cap. SYMBOL_SIZE + name_bytes cap + suffix_cost versions cap;
  items = λ versions file style table_at. row_by versions (relocation_row rows.has_addends file style rows.section (section_at file rows.section)) (relocation_row_with_version rows.has_addends file style rows.section (section_at file rows.section));
  within = λ versions size. IfSome rows.linked (SymbolTableInBounds size) × IfSome versions (SuffixesWithin size);
  here = λ versions file table_at. RefersTo file (section_at file rows.section) rows.linked
      × (table_at ≡ sh_offset file (section_at file rows.section)) × IfSome versions (AreSuffixes file (sh_link file (section_at file rows.section)));
}

-- the words of relative relocations of a table that a header of an index describes
abbrev pub relr_layout : (header : ℕ) → RowLayout
relr_layout header = record {
  size = RELR_SIZE;
  listed = λ file table. table.count;
  fits = λ index. Unit {0};
  own_cost = λ versions cap. 0;
  items = λ versions file style table_at. relr_rows_at file style header table_at;
  within = λ versions size. Unit {0};
  here = λ versions file table_at. Unit {0};
}

-- dynamic entries, up to the last one that is listed
abbrev pub dynamic_layout : DynamicStringTable → RowLayout
dynamic_layout strings = record {
  size = DYNAMIC_SIZE;
  listed = λ file table. dynamic_count file table.at table.count;
  fits = λ index. Unit {0};
  own_cost = λ versions cap. name_bytes cap;
  items = λ versions file style table_at index. dynamic_row file style (strings_reported strings file) (dynamic_at table_at index) index;
  within = λ versions size. AreWithin size strings;
  here = λ versions file table_at. AreOf file strings;
}

-- the version indices of symbols
abbrev pub version_layout : VersionIndices → RowLayout
version_layout rows = record {
  size = VERSYM_SIZE;
  listed = λ file table. table.count;
  fits = λ index. Unit {0};
  own_cost = λ versions cap. name_bytes cap;
  items = λ versions file style table_at index. reported_row file style rows.numbered.now rows.section (table_at + index * VERSYM_SIZE) index;
  within = λ versions size. NumberedWithin size rows.numbered.now;
  here = λ versions file table_at. Unit {0};
}
