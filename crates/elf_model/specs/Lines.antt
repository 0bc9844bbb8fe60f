-- The lines of a listing. Each is its letter and its fields, and for most lines a name.
use Rattle.std.specs.Prelude.{ℕ, ◌==◌, ◌&&◌, nat_le, if◌then◌else◌, Bool, List, [], ◌∷◌, ◌++◌, codes, decimal, Option, None, Some}
use Rattle.elf_model.specs.Fields.{Fields, LinePrefix, member_key, quoted, closed_line, closing}
use Rattle.elf_model.specs.Fields.Field.{Decimal, Hexadecimal, ArgSpec, NameOrHexadecimal}
use Rattle.elf_model.specs.Text.{hex, short_hex, newline, name_of}
use Rattle.elf_model.specs.Records.{e_type, e_machine, e_entry, e_phoff, e_shoff, e_flags, e_phnum, e_shnum, e_shstrndx, p_type, p_flags, p_offset, p_vaddr, p_paddr, p_filesz, p_memsz, p_align}
use Rattle.elf_model.specs.NameTables.{file_types, segment_types, segment_flags_text}
use Rattle.elf_model.specs.Names.{DisplayedName}
use Rattle.elf_model.specs.Names.DisplayedName.{Whole, Cut}
use Rattle.elf_model.specs.Causes.{cause_meaning, cause_word}
use Rattle.elf_model.specs.declared.causes.Refusal.{Refusal}
use Rattle.elf_model.specs.declared.fault_rows.FaultRow.{FaultRow}
use Rattle.elf_model.specs.declared.fault_rows.FaultRow.TheVariants.{FileHeader, NoRow, ProgramHeader, Section, SectionHeader, Segment}
use Rattle.elf_model.specs.declared.formats.Format.{Format}
use Rattle.elf_model.specs.declared.formats.Format.TheVariants.{Object, Table}

-- the file header: type, machine, entry point, the offsets of the program headers and the section
-- headers, flags, and how many of them there are
abbrev header_fields : List ℕ → Fields
header_fields file = record {
  letter = codes "H";
  fields =
      NameOrHexadecimal (codes "type") 4 4 (name_of file_types (e_type file)) (e_type file)
      ∷ Decimal (codes "machine") 5 (e_machine file)
      ∷ Hexadecimal (codes "entry") 16 12 (e_entry file)
      ∷ Hexadecimal (codes "phoff") 16 9 (e_phoff file)
      ∷ Hexadecimal (codes "shoff") 16 9 (e_shoff file)
      ∷ Hexadecimal (codes "flags") 8 8 (e_flags file)
      ∷ Decimal (codes "phnum") 5 (e_phnum file)
      ∷ Decimal (codes "shnum") 5 (e_shnum file)
      ∷ [];
}

-- its line, which ends with the section of the section names
unfoldable pub header_line : Format → List ℕ → List ℕ
header_line format file = closed_line format (header_fields file) (Decimal (codes "shstrndx") 5 (e_shstrndx file))

-- a program header: its index, type, permissions, offset in the file, virtual and physical address,
-- size in the file and in memory; with the GNU names of types, if requested
abbrev segment_fields : Bool → List ℕ → ℕ → ℕ → Fields
segment_fields gnu bytes at index = record {
  letter = codes "P";
  fields =
      Decimal (codes "index") 5 index
      ∷ NameOrHexadecimal (codes "type") 8 8 (name_of (segment_types gnu) (p_type bytes at)) (p_type bytes at)
      ∷ ArgSpec (codes "permissions") 3 (segment_flags_text (p_flags bytes at))
      ∷ Hexadecimal (codes "offset") 16 9 (p_offset bytes at)
      ∷ Hexadecimal (codes "vaddr") 16 12 (p_vaddr bytes at)
      ∷ Hexadecimal (codes "paddr") 16 12 (p_paddr bytes at)
      ∷ Hexadecimal (codes "filesz") 16 9 (p_filesz bytes at)
      ∷ Hexadecimal (codes "memsz") 16 9 (p_memsz bytes at)
      ∷ [];
}

-- its line, which ends with its alignment
unfoldable pub segment_line : Format → Bool → List ℕ → ℕ → ℕ → List ℕ
segment_line format gnu bytes at index =
    closed_line format (segment_fields gnu bytes at index) (Hexadecimal (codes "align") 16 5 (p_align bytes at))

-- the line that ends a lookup: whether the name was found, and how many symbols were compared
unfoldable pub steps_line : Format → Bool → ℕ → List ℕ
steps_line format found steps =
    let answer = ArgSpec (codes "answer") 6 (if found then codes "found" else codes "absent") in
    closed_line format (record { letter = codes "F"; fields = answer ∷ [] }) (Decimal (codes "steps") 10 steps)

-- the file offset of a fault and a cause, by its word
abbrev pub fault_line : Format → (at : ℕ) → (cause : List ℕ) → List ℕ
fault_line format at cause =
    let place = Hexadecimal (codes "place") 16 9 at in
    closed_line format (record { letter = codes "!"; fields = place ∷ [] }) (ArgSpec (codes "cause") 0 cause)

-- the same in plain words, in a table
unfoldable pub told_line : (at : ℕ) → (meaning : List ℕ) → List ℕ
told_line at meaning = codes "! 0x" ++ short_hex at ++ codes ": " ++ meaning ++ newline

-- the entry in which a fault is, if its number is known
unfoldable pub entry_words : Option ℕ → List ℕ
entry_words None = []
entry_words (Some number) = codes ", entry " ++ decimal number

-- the row in which a fault is, in words
unfoldable pub fault_row_text : FaultRow → List ℕ
fault_row_text NoRow = []
fault_row_text FileHeader = codes "file header: "
fault_row_text (SectionHeader index) = codes "section header " ++ decimal index ++ codes ": "
fault_row_text (ProgramHeader index) = codes "program header " ++ decimal index ++ codes ": "
fault_row_text (Section index entry) = codes "section " ++ decimal index ++ entry_words entry ++ codes ": "
fault_row_text (Segment index entry) = codes "segment " ++ decimal index ++ entry_words entry ++ codes ": "

-- the line of a refusal: the file offset that it points to, and the word of its cause, or in a
-- table the row that it is in and what the cause means
unfoldable pub refusal_line_in : Format → FaultRow → Refusal → List ℕ
refusal_line_in Table row r = told_line r.at (fault_row_text row ++ cause_meaning r.cause)
refusal_line_in format row r = fault_line format r.at (cause_word r.cause)

-- the same if the row is not known
abbrev pub refusal_line : Format → Refusal → List ℕ
refusal_line format r = refusal_line_in format NoRow r

-- a byte of a name: a backslash is doubled, any other printing ASCII character is unchanged, any
-- other byte is escaped in two digits
unfoldable pub name_byte_text : ℕ → List ℕ
name_byte_text byte =
    if byte == 0x5c then codes "\\\\"
    else if nat_le 0x20 byte && nat_le byte 0x7e then byte ∷ []
    else codes "\\x" ++ hex 2 byte

-- the bytes of a name, each escaped
unfoldable pub escaped : List ℕ → List ℕ
escaped [] = []
escaped (byte ∷ bytes) = name_byte_text byte ++ escaped bytes

-- the mark of what was cut
abbrev pub cut_mark : List ℕ
cut_mark = codes "\\+"

-- a name as it is shown
unfoldable pub name_text : DisplayedName → List ℕ
name_text (Whole name) = escaped name
name_text (Cut front) = escaped front ++ cut_mark

-- a name as a member of an object, with its key, and if it is cut a member that says so
abbrev pub name_member : List ℕ → DisplayedName → List ℕ
name_member key (Whole name) = member_key key ++ quoted (escaped name)
name_member key (Cut front) = member_key key ++ quoted (escaped front) ++ (member_key (codes "cut") ++ codes "true")

-- a line that ends in a name
unfoldable pub line_named : Format → (key text : List ℕ) → DisplayedName → List ℕ
line_named Object key text name = text ++ (name_member key name ++ closing Object)
line_named _ key text name = text ++ (name_text name ++ newline)

abbrev pub named_line : LinePrefix → DisplayedName → List ℕ
named_line front name = line_named front.format front.key front.text name

-- bytes in hexadecimal, two digits each
unfoldable pub hex_bytes : List ℕ → List ℕ
hex_bytes [] = []
hex_bytes (byte ∷ bytes) = hex 2 byte ++ hex_bytes bytes
