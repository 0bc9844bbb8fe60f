-- The rows of a listing. Each is a line, or the fault of its entry.
use Rattle.std.specs.Prelude.{ℕ, ◌+◌, ◌==◌, ◌&&◌, ◌||◌, not, Bool, true, false, if◌then◌else◌, List, [], ◌∷◌, ◌++◌, length, Option, None, Some, Result, Ok, Err}
use Rattle.elf_model.specs.Choice.{RowFilter, EveryRow, NoSuffix, chooses}
use Rattle.elf_model.specs.Records.{e_machine, e_shstrndx, sh_name, section_at, segment_at, sh_type, st_name, st_shndx, r_sym, d_tag, d_un}
use Rattle.elf_model.specs.Numbers.{DT_NEEDED, DT_SONAME, DT_RPATH, DT_RUNPATH, SHN_UNDEF, SHT_DYNSYM}
use Rattle.elf_model.specs.Names.{DisplayedName, shown}
use Rattle.elf_model.specs.Names.DisplayedName.{Whole}
use Rattle.elf_model.specs.PlaceFilters.{shows_place}
use Rattle.elf_model.specs.RowPlaces.{place_of_dynamic, place_of_record, place_of_relocation, place_of_section, place_of_segment, place_of_symbol}
use Rattle.elf_model.specs.Style.{ListingStyle}
use Rattle.elf_model.specs.SymbolFilters.{narrowed, shows_symbol}
use Rattle.elf_model.specs.Notes.{NoteRow, NoteScan, note_rows, note_shown, padded_size}
use Rattle.elf_model.specs.Tables.{SYMBOL_SIZE, relocation_size, section_bytes, strings_of, linked_at, entry_at, symbol_checks_of}
use Rattle.elf_model.specs.Checks.{first_refusal}
use Rattle.elf_model.specs.Fields.{LinePrefix}
use Rattle.elf_model.specs.LineFronts.{section_prefix, symbol_prefix, relocation_prefix, note_prefix, dynamic_prefix}
use Rattle.elf_model.specs.FlagWords.{value_text}
use Rattle.elf_model.specs.Lines.{named_line, segment_line}
use Rattle.elf_model.specs.NoteLines.{note_line}
use Rattle.elf_model.specs.Listing.{ListingItem, Line, Fault, placed_line}
use Rattle.elf_model.specs.declared.causes.Cause.{Cause}
use Rattle.elf_model.specs.declared.causes.Cause.TheVariants.{NoteCut}
use Rattle.elf_model.specs.declared.causes.Refusal.{Refusal}
use Rattle.elf_model.specs.declared.formats.Format.{Format}
use Rattle.elf_model.specs.declared.place_filters.RowPlace.{RowPlace}

-- a row that is refused, at an offset
abbrev pub refused_row : ℕ → Cause → List ListingItem
refused_row at cause = Fault (record { at = at; cause = cause }) ∷ []

-- a row that ends in a name: its line, or the name's fault, at the entry that has the name's index
abbrev pub named_row : LinePrefix → ℕ → Result DisplayedName Cause → List ListingItem
named_row front at (Ok name) = Line (named_line front name) ∷ []
named_row front at (Err cause) = refused_row at cause

-- a row that ends in the name of a symbol or of a version: its line if it is one of the rows that
-- are shown, or the name's fault
abbrev pub chosen_row : RowFilter → LinePrefix → ℕ → Result DisplayedName Cause → List ListingItem
chosen_row choice front at (Ok name) = if chooses choice name NoSuffix then Line (named_line front name) ∷ [] else []
chosen_row choice front at (Err cause) = refused_row at cause

-- the rows that a style shows of those at a place, among some rows
abbrev pub placed_choice : ListingStyle → RowPlace → RowFilter → RowFilter
placed_choice style place choice = narrowed (shows_place style.place place) choice

-- the empty name
abbrev pub no_name : Result DisplayedName Cause
no_name = Ok (Whole [])

-- a section's name, which is empty if the file has no section of the section names
unfoldable pub section_name : List ℕ → ℕ → ℕ → Result DisplayedName Cause
section_name file at cap =
    if e_shstrndx file == 0 then no_name
    else shown (section_bytes file (section_at file (e_shstrndx file))) (sh_name file at) cap

-- the row of a section
unfoldable pub section_row : List ℕ → ListingStyle → ℕ → List ListingItem
section_row file style index =
    let at = section_at file index in
    chosen_row (placed_choice style (place_of_section file at) EveryRow)
    (section_prefix style.format style.gnu (e_machine file) file at index) at (section_name file at style.cap)

-- the row of a program header
unfoldable pub segment_row : List ℕ → ListingStyle → ℕ → List ListingItem
segment_row file style index =
    let at = segment_at file index in
    placed_line style (place_of_segment file at) (segment_line style.format style.gnu file at index)

-- the rows that are shown of the symbol at an offset, which is a dynamic symbol or not
abbrev pub class_choice : List ℕ → ListingStyle → (is_dynamic : Bool) → (symbol_at : ℕ) → RowFilter
class_choice file style is_dynamic symbol_at =
    narrowed
    (shows_symbol style.symbols (not (st_shndx file symbol_at == SHN_UNDEF)) is_dynamic
    && shows_place style.place (place_of_symbol file symbol_at))
    style.choice

-- those of the symbol table whose section's header is at another offset
abbrev pub symbol_choice : List ℕ → ListingStyle → (at symbol_at : ℕ) → RowFilter
symbol_choice file style at symbol_at = class_choice file style (sh_type file at == SHT_DYNSYM) symbol_at

-- the row of a symbol of the symbol table that a section header describes
unfoldable pub symbol_row : List ℕ → ListingStyle → ℕ → ℕ → ℕ → List ListingItem
symbol_row file style section at index =
    let symbol_at = entry_at file at SYMBOL_SIZE index in
    let front = symbol_prefix style.format style.gnu (e_machine file) file symbol_at section index in
    chosen_row (symbol_choice file style at symbol_at) front symbol_at (shown (strings_of file at) (st_name file symbol_at) style.cap)

-- the offset of a fault and the name that is shown, for the symbol of an index that a relocation
-- entry names, whose section's header is at an offset: symbol 0 has no name; any other is one of
-- the linked table's, otherwise it is a fault at the entry; a name's own fault is at the symbol
unfoldable pub symbol_named : List ℕ → ℕ → ℕ → ℕ → ℕ → ℕ × Result DisplayedName Cause
symbol_named file cap header_at rela_at symbol =
    let table_at = linked_at file header_at in
    let symbol_at = entry_at file table_at SYMBOL_SIZE symbol in
    if symbol == 0 then (rela_at, no_name)
    else elim (first_refusal (symbol_checks_of file header_at rela_at symbol)) [
      | Some refusal ↦ (refusal.at, Err refusal.cause)
      | None ↦ (symbol_at, shown (strings_of file table_at) (st_name file symbol_at) cap)
    ]

-- the rows that are shown of the relocation entry at an offset, with or without an addend
abbrev pub relocation_choice : (addends : Bool) → List ℕ → ListingStyle → ℕ → RowFilter
relocation_choice addends file style rela_at = placed_choice style (place_of_relocation addends file rela_at) style.choice

-- the row of the relocation entry at an offset, of the table that a header of an index describes: by
-- the offset of a fault of its symbol's name, and that name as shown
abbrev pub entry_row : (addends : Bool) → List ℕ → ListingStyle → (header rela_at : ℕ) → ℕ × Result DisplayedName Cause → List ListingItem
entry_row addends file style header rela_at symbol =
    chosen_row (relocation_choice addends file style rela_at)
    (relocation_prefix addends style.format style.gnu (e_machine file) file rela_at header) symbol.0 symbol.1

-- the row of a relocation entry with the name of its symbol
unfoldable pub relocation_row : (addends : Bool) → List ℕ → ListingStyle → ℕ → ℕ → ℕ → List ListingItem
relocation_row addends file style section at index =
    let rela_at = entry_at file at (relocation_size addends) index in
    entry_row addends file style section rela_at (symbol_named file style.cap at rela_at (r_sym file rela_at))

-- the row of a note of an alignment: its record has its padding
unfoldable pub note_row : ListingStyle → (index a : ℕ) → NoteRow → List ListingItem
note_row style index a row =
    let note = row.note in
    let front = note_prefix style.format index note.kind (length note.name) (length note.descriptor) in
    placed_line style (place_of_record row.at (padded_size a note)) (note_line front note.kind (note_shown style.cap note) note.descriptor)

-- the rows of notes
unfoldable pub notes_rows : ListingStyle → (index a : ℕ) → List NoteRow → List ListingItem
notes_rows style index a [] = []
notes_rows style index a (row ∷ rows) = note_row style index a row ++ notes_rows style index a rows

-- the end of a table of notes at an offset: a fault at the offset where it is cut
abbrev cut_rows : ℕ → Option ℕ → List ListingItem
cut_rows table_at None = []
cut_rows table_at (Some place) = refused_row (table_at + place) NoteCut

-- the rows of a table of notes of an alignment at an offset, up to the offset where it is cut, if
-- it is
unfoldable pub walk_rows : ListingStyle → (index a table_at : ℕ) → NoteScan → List ListingItem
walk_rows style index a table_at walk = notes_rows style index a (note_rows a table_at walk.notes) ++ cut_rows table_at walk.cut

-- the value of an entry with this tag is a string table index (gABI 5, Dynamic Section)
abbrev pub is_string_tag : ℕ → Bool
is_string_tag tag = tag == DT_NEEDED || tag == DT_SONAME || tag == DT_RPATH || tag == DT_RUNPATH

-- what an entry has in place of a string: in a table the words of its flags
abbrev pub value_name : List ℕ → Format → ℕ → Result DisplayedName Cause
value_name file format dynamic_at = Ok (Whole (value_text format (d_tag file dynamic_at) (d_un file dynamic_at)))

-- the row of the dynamic entry of an index at an offset, with its string if its value is a string
-- table index: only then the string table is located, which may be refused
unfoldable pub dynamic_row : List ℕ → ListingStyle → (ℕ → Result (List ℕ) Refusal) → ℕ → ℕ → List ListingItem
dynamic_row file style strings dynamic_at index =
    let front = dynamic_prefix style.format style.gnu file dynamic_at index in
    let choice = placed_choice style (place_of_dynamic dynamic_at) EveryRow in
    elim (is_string_tag (d_tag file dynamic_at)) [
      | false ↦ chosen_row choice front dynamic_at (value_name file style.format dynamic_at)
      | true ↦ elim (strings dynamic_at) [
        | Err refusal ↦ Fault refusal ∷ []
        | Ok table ↦ chosen_row choice front dynamic_at (shown table (d_un file dynamic_at) style.cap)
      ]
    ]
