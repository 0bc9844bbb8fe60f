-- The location of tables and string tables in a file.
use Rattle.std.specs.Prelude.{ℕ, ◌≡◌, ◌+◌, ◌*◌, ◌<◌, ◌≤◌, List}
use Rattle.elf_model.specs.Bytes.{slice}

-- a table: the offset of its first row, the number of rows, and the size of a row
pub record TableRange : Type 0 where
  pub at : ℕ
  pub count : ℕ
  pub entry : ℕ

-- how many bytes a table has
abbrev pub size_of : TableRange → ℕ
size_of table = table.count * table.entry

-- a table that is not empty ends within a source of this size
abbrev pub TableInBounds : ℕ → TableRange → Type 0
TableInBounds size table = 0 < table.count → table.at + size_of table ≤ size

-- a table of rows of one size, of `bytes` bytes, that ends within a source of this size if it is
-- not empty
pub record Spans (size width bytes : ℕ) (table : TableRange) : Type 0 where
  pub within : TableInBounds size table
  pub entry : table.entry ≡ width
  pub sized : size_of table ≡ bytes

-- a table of single bytes that ends within a source of this size, empty or not
pub record BytesWithin (size : ℕ) (table : TableRange) : Type 0 where
  pub within : table.at + table.count ≤ size
  pub single : table.entry ≡ 1

-- a string table: the offset of its first byte, and the number of bytes
pub record StringTableRange : Type 0 where
  pub at : ℕ
  pub size : ℕ

-- the bytes of a string table in a file
abbrev pub strings_in : List ℕ → StringTableRange → List ℕ
strings_in file names = slice file names.at names.size

-- a string table that is not empty ends within a source of this size
abbrev pub StringsInBounds : ℕ → StringTableRange → Type 0
StringsInBounds size names = 0 < names.size → names.at + names.size ≤ size

-- symbols with their string table lie within a source of this size
abbrev pub SymbolTableInBounds : ℕ → TableRange × StringTableRange → Type 0
SymbolTableInBounds size symbols = (symbols.0.entry ≡ 24) × TableInBounds size symbols.0 × StringsInBounds size symbols.1
