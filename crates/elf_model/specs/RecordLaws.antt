-- Facts about records, for any bytes.
use Rattle.std.specs.Prelude.{◌≡◌, ℕ, ◌+◌, ◌≤◌, Bool, List}
use Rattle.elf_model.specs.Bytes.{slice, field}
use Rattle.elf_model.specs.LineFronts.{section_prefix, symbol_prefix, relocation_prefix, dynamic_prefix}
use Rattle.elf_model.specs.Lines.{header_line, segment_line}
use Rattle.elf_model.specs.Records.{FILE_HEADER_SIZE, SECTION_HEADER_SIZE, PROGRAM_HEADER_SIZE}
use Rattle.elf_model.specs.declared.formats.Format.{Format}
use Rattle.elf_model.specs.Tables.{SYMBOL_SIZE, DYNAMIC_SIZE, relocation_size}

-- a field of a slice is the file's field
abbrev pub FieldsOfSlices : Type 0
FieldsOfSlices =
    (file : List ℕ) → (at size place width : ℕ) → place + width ≤ size
    → field (slice file at size) place width ≡ field file (at + place) width

-- a record's line, or its prefix, is the same at the record's own bytes
abbrev pub LinesOfSlices : Type 0
LinesOfSlices =
    (format : Format) → (file : List ℕ) → (gnu addends : Bool) → (machine at index section : ℕ)
    → (header_line format (slice file 0 FILE_HEADER_SIZE) ≡ header_line format file)
    × (section_prefix format gnu machine (slice file at SECTION_HEADER_SIZE) 0 index ≡ section_prefix format gnu machine file at index)
    × (segment_line format gnu (slice file at PROGRAM_HEADER_SIZE) 0 index ≡ segment_line format gnu file at index)
    × (symbol_prefix format gnu machine (slice file at SYMBOL_SIZE) 0 section index ≡ symbol_prefix format gnu machine file at section index)
    × (relocation_prefix addends format gnu machine (slice file at (relocation_size addends)) 0 section
    ≡ relocation_prefix addends format gnu machine file at section)
    × (dynamic_prefix format gnu (slice file at DYNAMIC_SIZE) 0 index ≡ dynamic_prefix format gnu file at index)
