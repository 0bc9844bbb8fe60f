-- The kinds of tables whose rows are listed. A header is at an offset of some bytes: of the file,
-- or of its own bytes alone, at 0.
use Rattle.std.specs.Prelude.{ℕ, ◌+◌, ◌*◌, ◌/◌, ◌==◌, ◌||◌, if◌then◌else◌, Bool, true, false, List, [], ◌∷◌, None, Some, Result, Ok}
use Rattle.elf_model.specs.Bytes.{slice}
use Rattle.elf_model.specs.Checks.{range_checks_of, is_symbol_table}
use Rattle.elf_model.specs.Dynamic.{dynamic_count, dynamic_at}
use Rattle.elf_model.specs.HeaderTables.{HeaderTable, TableKind, each_entry, file_sections, file_segments, header_field}
use Rattle.elf_model.specs.Listing.{ListingItem, each, SYMBOLS, RELOCS, NOTES, DYNAMIC}
use Rattle.elf_model.specs.Mapped.{mapped_strings}
use Rattle.elf_model.specs.Names.{name_bytes}
use Rattle.elf_model.specs.Style.{ListingStyle}
use Rattle.elf_model.specs.Notes.{note_align, walked}
use Rattle.elf_model.specs.Numbers.{SHT_REL, SHT_RELA, SHT_RELR, SHT_NOTE, SHT_DYNAMIC, PT_NOTE, PT_DYNAMIC}
use Rattle.elf_model.specs.Records.{e_shnum, sh_type, sh_offset, sh_size, sh_link, sh_addralign, p_type, p_offset, p_filesz, p_align}
use Rattle.elf_model.specs.RelativeRelocations.{relr_rows}
use Rattle.elf_model.specs.Rows.{symbol_row, relocation_row, walk_rows, dynamic_row}
use Rattle.elf_model.specs.Suffixes.{first_numbers, suffixed_relocation_rows, suffixed_symbol_rows}
use Rattle.elf_model.specs.Tables.{SYMBOL_SIZE, RELR_SIZE, DYNAMIC_SIZE, nothing_linked, symbol_table, relocation_size, entries_table, relr_table, dynamic_table, dynamic_segment, strings_of, entry_count}
use Rattle.elf_model.specs.VersionCost.{walks_cost}
use Rattle.elf_model.specs.VersionRows.{version_kinds}
use Rattle.elf_model.specs.Versions.{VERSYM_SIZE}
use Rattle.elf_model.specs.declared.causes.Refusal.{Refusal}

-- symbols (gABI 4, Symbol Table): each with its name
unfoldable pub symbols : TableKind
symbols = record {
  part = SYMBOLS;
  has_table = is_symbol_table;
  checks = symbol_table;
  asks = each_entry (λ bytes at. entry_count bytes at SYMBOL_SIZE) (λ cap. SYMBOL_SIZE + name_bytes cap);
  rows = λ file style section at. each (symbol_row file style section at) 0 (entry_count file at SYMBOL_SIZE);
}

-- the type of a section of relocation entries, with or without addends
abbrev pub relocation_type : (addends : Bool) → ℕ
relocation_type addends = elim addends [ true ↦ SHT_RELA | false ↦ SHT_REL ]

-- relocation entries with or without addends (gABI 4, Relocation): each with its symbol and the
-- symbol's name
unfoldable pub relocations : (addends : Bool) → TableKind
relocations addends = record {
  part = RELOCS;
  has_table = λ bytes at. sh_type bytes at == relocation_type addends;
  checks = entries_table addends;
  asks =
      each_entry (λ bytes at. entry_count bytes at (relocation_size addends))
      (λ cap. relocation_size addends + (SYMBOL_SIZE + name_bytes cap));
  rows = λ file style section at.
      each (relocation_row addends file style section at) 0 (entry_count file at (relocation_size addends));
}

-- relative relocations (gABI 4, Relative Relocation Table): the rows of each word
unfoldable pub relative_relocations : TableKind
relative_relocations = record {
  part = RELOCS;
  has_table = λ bytes at. sh_type bytes at == SHT_RELR;
  checks = relr_table;
  asks = each_entry (λ bytes at. entry_count bytes at RELR_SIZE) (λ cap. RELR_SIZE);
  rows = λ file style section at. each (relr_rows file style section at) 0 (entry_count file at RELR_SIZE);
}

-- the rows of dynamic entries (gABI 5, Dynamic Section), this many at an offset, up to and with the
-- first that is DT_NULL: the strings of this many are given for the entry at an offset
abbrev pub dynamic_rows : List ℕ → ListingStyle → (offset entries : ℕ) → (ℕ → ℕ → Result (List ℕ) Refusal) → List ListingItem
dynamic_rows file style offset entries strings =
    let count = dynamic_count file offset entries in
    each (λ i. dynamic_row file style (strings count) (dynamic_at offset i) i) 0 count

-- the dynamic entries of a section, each with its string in the string table that the section links
-- to
unfoldable pub section_dynamic : TableKind
section_dynamic = record {
  part = DYNAMIC;
  has_table = λ bytes at. sh_type bytes at == SHT_DYNAMIC;
  checks = dynamic_table;
  asks = each_entry (λ bytes at. entry_count bytes at DYNAMIC_SIZE) (λ cap. DYNAMIC_SIZE + name_bytes cap);
  rows = λ file style section at.
      dynamic_rows file style (sh_offset file at) (entry_count file at DYNAMIC_SIZE) (λ n dynamic_at. Ok (strings_of file at));
}

-- those of a segment, each with its string in the string table that the entries locate: they are
-- read twice
unfoldable pub segment_dynamic : TableKind
segment_dynamic = record {
  part = DYNAMIC;
  has_table = λ bytes at. p_type bytes at == PT_DYNAMIC;
  checks = dynamic_segment;
  asks = each_entry (λ bytes at. p_filesz bytes at / DYNAMIC_SIZE) (λ cap. 2 * DYNAMIC_SIZE + name_bytes cap);
  rows = λ file style segment at.
      dynamic_rows file style (p_offset file at) (p_filesz file at / DYNAMIC_SIZE) (mapped_strings file (p_offset file at));
}

-- notes (gABI 5, Note Section), each of whose bytes counts: which headers describe them, and the
-- table's offset, size and alignment by such a header
abbrev notes_of : (List ℕ → ℕ → Bool) → (offset size align : List ℕ → ℕ → ℕ) → TableKind
notes_of has_table offset size align = record {
  part = NOTES;
  has_table = has_table;
  checks = record {
    bytes = size;
    own = λ bytes at file_size. range_checks_of file_size (offset bytes at) (size bytes at) at;
    linked = nothing_linked;
  };
  asks = each_entry size (λ cap. 1);
  rows = λ file style index at.
      walk_rows style index (note_align (align file at)) (offset file at)
      (walked (note_align (align file at)) (slice file (offset file at) (size file at)));
}

-- the notes of a section, and of a segment
unfoldable pub section_notes : TableKind
section_notes = notes_of (λ bytes at. sh_type bytes at == SHT_NOTE) sh_offset sh_size sh_addralign

unfoldable pub segment_notes : TableKind
segment_notes = notes_of (λ bytes at. p_type bytes at == PT_NOTE) p_offset p_filesz p_align

-- what the versions of this many names of symbols cost, of the table of an index: a versym entry
-- and a name each, and what finds the names; nothing if the table has no versym section
unfoldable pub suffixes_cost : HeaderTable → (table names file_size cap : ℕ) → ℕ
suffixes_cost headers table names file_size cap = elim (first_numbers headers table) [
  | None ↦ 0
  | Some i ↦ names * (VERSYM_SIZE + name_bytes cap) + walks_cost headers file_size
]

-- symbols with their versions
unfoldable pub suffixed_symbols : TableKind
suffixed_symbols = record {
  part = SYMBOLS;
  has_table = is_symbol_table;
  checks = symbol_table;
  asks = λ headers i file_size cap.
      symbols.asks headers i file_size cap
      + suffixes_cost headers i (header_field headers sh_size i / SYMBOL_SIZE) file_size cap;
  rows = suffixed_symbol_rows;
}

-- relocation entries with those of their symbols
unfoldable pub relocations_with_versions : (addends : Bool) → TableKind
relocations_with_versions addends = record {
  part = RELOCS;
  has_table = λ bytes at. sh_type bytes at == relocation_type addends;
  checks = entries_table addends;
  asks = λ headers i file_size cap.
      (relocations addends).asks headers i file_size cap
      + suffixes_cost headers (header_field headers sh_link i) (header_field headers sh_size i / relocation_size addends)
      file_size cap;
  rows = suffixed_relocation_rows addends;
}

-- the tables of one kind and those of another, in one order
abbrev pub either_kind : TableKind → TableKind → TableKind
either_kind one other = record {
  part = one.part;
  has_table = λ bytes at. one.has_table bytes at || other.has_table bytes at;
  checks = record {
    bytes = λ bytes at. if one.has_table bytes at then one.checks.bytes bytes at else other.checks.bytes bytes at;
    own = λ bytes at size. if one.has_table bytes at then one.checks.own bytes at size else other.checks.own bytes at size;
    linked = λ file at. if one.has_table file at then one.checks.linked file at else other.checks.linked file at;
  };
  asks = λ headers i file_size cap.
      if one.has_table (headers.bytes i) (headers.at i) then one.asks headers i file_size cap
      else other.asks headers i file_size cap;
  rows = λ file style index at.
      if one.has_table file at then one.rows file style index at else other.rows file style index at;
}

-- symbols, and relocation entries, with or without versions after the names of symbols
abbrev pub symbols_kind : Bool → TableKind
symbols_kind versions = elim versions [ true ↦ suffixed_symbols | false ↦ symbols ]

abbrev pub entries_kind : (addends versions : Bool) → TableKind
entries_kind addends versions =
    elim versions [ true ↦ relocations_with_versions addends | false ↦ relocations addends ]

-- relocations: entries with addends; of GNU listings also those without, and relative relocations
unfoldable pub gnu_relocations : (versions : Bool) → TableKind
gnu_relocations versions =
    either_kind (entries_kind true versions) (either_kind (entries_kind false versions) relative_relocations)

abbrev pub relocations_kind : (gnu versions : Bool) → TableKind
relocations_kind gnu versions = elim gnu [ true ↦ gnu_relocations versions | false ↦ entries_kind true versions ]

-- the kinds of tables that section headers describe, of GNU listings or of the standards', with or
-- without versions after the names of symbols, and those that program headers do, in their order
abbrev pub section_kinds : (gnu versions : Bool) → List TableKind
section_kinds gnu versions =
    symbols_kind versions ∷ relocations_kind gnu versions ∷ section_notes ∷ section_dynamic ∷ version_kinds

abbrev pub segment_kinds : List TableKind
segment_kinds = segment_notes ∷ segment_dynamic ∷ []

-- the headers that describe the tables of a file, and the kinds of tables that they describe
pub record TableHeaders : Type 0 where
  pub headers : HeaderTable
  pub kinds : List TableKind

abbrev pub by_sections : (gnu versions : Bool) → List ℕ → TableHeaders
by_sections gnu versions file = record { headers = file_sections file; kinds = section_kinds gnu versions }

abbrev pub by_segments : List ℕ → TableHeaders
by_segments file = record { headers = file_segments file; kinds = segment_kinds }

-- the section headers, or if a file has none the program headers
unfoldable pub table_headers : (gnu versions : Bool) → List ℕ → TableHeaders
table_headers gnu versions file =
    elim (e_shnum file == 0) [ true ↦ by_segments file | false ↦ by_sections gnu versions file ]
