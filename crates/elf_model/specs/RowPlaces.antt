-- Where the rows of a listing are: the bytes of each row's record, and what the row describes.
use Rattle.std.specs.Prelude.{ℕ, ◌==◌, ◌&&◌, ◌||◌, nat_lt, not, if◌then◌else◌, Bool, List}
use Rattle.elf_model.specs.Numbers.{PT_DYNAMIC, PT_LOAD, PT_NOTE, PT_TLS, SHF_ALLOC, SHN_ABS, SHN_LORESERVE, SHN_UNDEF, SHN_XINDEX, SHT_NOBITS, STT_FILE, STT_SECTION, STT_TLS}
use Rattle.elf_model.specs.PlaceFilters.{range_if, nowhere}
use Rattle.elf_model.specs.Records.{FILE_HEADER_SIZE, PROGRAM_HEADER_SIZE, SECTION_HEADER_SIZE, e_type, p_filesz, p_memsz, p_offset, p_type, p_vaddr, r_offset, sh_addr, sh_flags, sh_offset, sh_size, sh_type, st_shndx, st_size, st_type, st_value}
use Rattle.elf_model.specs.Tables.{DYNAMIC_SIZE, RELR_SIZE, SYMBOL_SIZE, relocation_size}
use Rattle.elf_model.specs.TraitNumbers.{PT_GNU_RELRO, has_bits, is_linked_type}
use Rattle.elf_model.specs.declared.place_filters.RowPlace.{RowPlace}

-- a record of this many bytes at an offset, which describes no others
abbrev pub place_of_record : (at size : ℕ) → RowPlace
place_of_record at size = record { entry = record { start = at; size = size }; bytes = nowhere; memory = nowhere }

-- the file header, and a dynamic entry at an offset
abbrev pub place_of_header : RowPlace
place_of_header = place_of_record 0 FILE_HEADER_SIZE

abbrev pub place_of_dynamic : ℕ → RowPlace
place_of_dynamic at = place_of_record at DYNAMIC_SIZE

-- a section header at an offset: it describes the section's bytes in the file, and in memory those
-- of a section that takes memory while a program runs
abbrev pub place_of_section : List ℕ → ℕ → RowPlace
place_of_section file at = record {
  entry = record { start = at; size = SECTION_HEADER_SIZE };
  bytes = range_if (not (sh_type file at == SHT_NOBITS)) (sh_offset file at) (sh_size file at);
  memory = range_if (has_bits (sh_flags file at) SHF_ALLOC) (sh_addr file at) (sh_size file at);
}

-- a segment of a type describes memory
abbrev pub is_in_memory_type : ℕ → Bool
is_in_memory_type type = type == PT_LOAD || (type == PT_DYNAMIC || (type == PT_NOTE || (type == PT_TLS || type == PT_GNU_RELRO)))

-- a program header at an offset: it describes the segment's bytes in the file, and in memory those
-- of some types
abbrev pub place_of_segment : List ℕ → ℕ → RowPlace
place_of_segment file at = record {
  entry = record { start = at; size = PROGRAM_HEADER_SIZE };
  bytes = record { start = p_offset file at; size = p_filesz file at };
  memory = range_if (is_in_memory_type (p_type file at)) (p_vaddr file at) (p_memsz file at);
}

-- the value of a symbol, by its type and its section index, is an address: it is of a section, whose
-- index may be in another table, or absolute, and is no offset in thread-local storage, no section
-- and no file
abbrev pub is_address : (type shndx : ℕ) → Bool
is_address type shndx =
    not (type == STT_TLS || (type == STT_SECTION || type == STT_FILE))
    && (not (shndx == SHN_UNDEF) && (nat_lt shndx SHN_LORESERVE || (shndx == SHN_ABS || shndx == SHN_XINDEX)))

-- a symbol at an offset: it describes its bytes in memory, or if it has no size the one at its
-- address
abbrev pub place_of_symbol : List ℕ → ℕ → RowPlace
place_of_symbol file at = record {
  entry = record { start = at; size = SYMBOL_SIZE };
  bytes = nowhere;
  memory =
      range_if (is_address (st_type file at) (st_shndx file at)) (st_value file at) (if st_size file at == 0 then 1 else st_size file at);
}

-- a record of this many bytes at an offset that relocates what is at an address: in a program or a
-- library it describes eight bytes of memory
abbrev place_of_relocated : List ℕ → (at size address : ℕ) → RowPlace
place_of_relocated file at size address = record {
  entry = record { start = at; size = size };
  bytes = nowhere;
  memory = range_if (is_linked_type (e_type file)) address 8;
}

-- a relocation entry at an offset, with or without an addend
abbrev pub place_of_relocation : (addends : Bool) → List ℕ → ℕ → RowPlace
place_of_relocation addends file at = place_of_relocated file at (relocation_size addends) (r_offset file at)

-- an address in the word of a table of relative relocations at an offset
abbrev pub place_of_relr : List ℕ → (at address : ℕ) → RowPlace
place_of_relr file at address = place_of_relocated file at RELR_SIZE address
