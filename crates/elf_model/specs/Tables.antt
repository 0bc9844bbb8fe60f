-- The tables of a file: the offsets of their entries, what they link to, and their checks.
use Rattle.std.specs.Prelude.{ℕ, ◌+◌, ◌*◌, ◌/◌, ◌==◌, ◌&&◌, nat_lt, not, if◌then◌else◌, Bool, true, false, List, [], ◌∷◌, ◌++◌, length}
use Rattle.elf_model.specs.Bytes.{slice}
use Rattle.elf_model.specs.Records.{e_shnum, sh_offset, sh_size, sh_link, p_offset, p_filesz, section_at}
use Rattle.elf_model.specs.Checks.{Check, refuse, unless_empty, whole_checks_of, table_checks_of, strings_checks, is_symbol_table}
use Rattle.elf_model.specs.declared.causes.Cause.TheVariants.{BadLink, SymbolIndex}

-- the size of a symbol, of a relocation entry with an addend, and of a dynamic entry, in bytes
abbrev pub SYMBOL_SIZE : ℕ
SYMBOL_SIZE = 24

abbrev pub RELA_SIZE : ℕ
RELA_SIZE = 24

abbrev pub DYNAMIC_SIZE : ℕ
DYNAMIC_SIZE = 16

-- that of a relocation entry without an addend, and of a word of a table of relative relocations
abbrev pub REL_SIZE : ℕ
REL_SIZE = 16

abbrev pub RELR_SIZE : ℕ
RELR_SIZE = 8

-- the size of a relocation entry, with or without an addend
abbrev pub relocation_size : (addends : Bool) → ℕ
relocation_size addends = elim addends [ true ↦ RELA_SIZE | false ↦ REL_SIZE ]

-- a section's bytes
abbrev pub section_bytes : List ℕ → ℕ → List ℕ
section_bytes file at = slice file (sh_offset file at) (sh_size file at)

-- the section header that a section links to (gABI 4, sh_link)
abbrev pub linked_at : List ℕ → ℕ → ℕ
linked_at file at = section_at file (sh_link file at)

-- the bytes of the string table that a section links to
abbrev pub strings_of : List ℕ → ℕ → List ℕ
strings_of file at = section_bytes file (linked_at file at)

-- how many entries of one size a section has
abbrev pub entry_count : List ℕ → ℕ → ℕ → ℕ
entry_count file at entry_size = sh_size file at / entry_size

-- the offset of an entry of a section in the file
abbrev pub entry_at : List ℕ → ℕ → ℕ → ℕ → ℕ
entry_at file at entry_size index = sh_offset file at + entry_size * index

-- THE CHECKS OF A KIND OF TABLE, whose header is at an offset of some bytes: how many bytes the
-- table has; its own checks, in a file of this many bytes, which refuse at the header; and, in a
-- file, those of what it links to
pub record TableChecks : Type 0 where
  pub bytes : List ℕ → ℕ → ℕ
  pub own : List ℕ → ℕ → ℕ → List Check
  pub linked : List ℕ → ℕ → List Check

-- all of them, for a header of the file
abbrev pub all_checks : TableChecks → List ℕ → ℕ → List Check
all_checks checks file at = unless_empty (checks.bytes file at) (checks.own file at (length file) ++ checks.linked file at)

-- a table links to nothing
abbrev pub nothing_linked : List ℕ → ℕ → List Check
nothing_linked file at = []

-- a section of entries of one size, with the checks of what it links to
abbrev pub section_table : ℕ → (List ℕ → ℕ → List Check) → TableChecks
section_table entry_size linked = record {
  bytes = sh_size;
  own = λ bytes at file_size. table_checks_of bytes at file_size at entry_size;
  linked = linked;
}

-- a symbol table: its own checks, then its string table's
abbrev pub symbol_table : TableChecks
symbol_table = section_table SYMBOL_SIZE strings_checks

abbrev pub symbol_table_checks : List ℕ → ℕ → List Check
symbol_table_checks file at = all_checks symbol_table file at

-- a section links to a symbol table; section 0 counts like any other
abbrev pub has_symbols : List ℕ → ℕ → Bool
has_symbols file at = nat_lt (sh_link file at) (e_shnum file) && is_symbol_table file (linked_at file at)

-- the symbol table that a section links to, if it has one
abbrev pub linked_table_checks : List ℕ → ℕ → List Check
linked_table_checks file at = if has_symbols file at then symbol_table_checks file (linked_at file at) else []

-- a table of relocation entries, with or without addends: its own checks, then those of the symbol
-- table that it links to
abbrev pub entries_table : (addends : Bool) → TableChecks
entries_table addends = section_table (relocation_size addends) linked_table_checks

abbrev pub relocation_table : TableChecks
relocation_table = entries_table true

-- a table of relative relocations: its own checks alone
abbrev pub relr_table : TableChecks
relr_table = section_table RELR_SIZE nothing_linked

abbrev pub relocation_table_checks : List ℕ → ℕ → List Check
relocation_table_checks file at = all_checks relocation_table file at

-- the symbol of an index that a relocation entry at an offset names, for the section whose header
-- is at an offset: symbol 0, or one of the linked table's
abbrev pub symbol_checks_of : List ℕ → ℕ → ℕ → ℕ → List Check
symbol_checks_of file header_at rela_at symbol =
    let named = not (symbol == 0) in
    refuse (named && not (has_symbols file header_at)) rela_at BadLink
    ∷ refuse (named && not (nat_lt symbol (entry_count file (linked_at file header_at) SYMBOL_SIZE))) rela_at SymbolIndex
    ∷ []

-- a table of dynamic entries: its own checks, then its string table's
abbrev pub dynamic_table : TableChecks
dynamic_table = section_table DYNAMIC_SIZE strings_checks

abbrev pub dynamic_table_checks : List ℕ → ℕ → List Check
dynamic_table_checks file at = all_checks dynamic_table file at

-- a segment that is a table of dynamic entries: its own checks alone
abbrev pub dynamic_segment : TableChecks
dynamic_segment = record {
  bytes = p_filesz;
  own = λ bytes at file_size. whole_checks_of file_size (p_offset bytes at) (p_filesz bytes at) at DYNAMIC_SIZE;
  linked = nothing_linked;
}

abbrev pub segment_dynamic_checks : List ℕ → ℕ → List Check
segment_dynamic_checks file at = all_checks dynamic_segment file at
