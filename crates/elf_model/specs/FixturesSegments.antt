-- Shared objects without sections: the program headers describe the tables.
use Rattle.std.specs.Prelude.{ℕ, ◌+◌, List, ◌∷◌, ◌++◌, codes}
use Rattle.elf_model.specs.Bytes.{little}
use Rattle.elf_model.specs.Fixtures.{zeros, with_bytes, file_header}
use Rattle.elf_model.specs.FixturesTables.{program_header, tagged}

-- a shared object: the offset of its section headers and their number, the number of its program
-- headers, and what follows the file header, the program headers first
unfoldable pub object_with : ℕ → ℕ → ℕ → List ℕ → List ℕ
object_with shoff shnum phnum bytes =
    with_bytes 0x36 (little 2 56 ++ little 2 phnum) (with_bytes 0x20 (little 8 0x40) (file_header 3 shoff shnum 0)) ++ bytes

-- the same without sections
unfoldable pub object : ℕ → List ℕ → List ℕ
object phnum bytes = object_with 0 0 phnum bytes

-- 11 bytes of strings
unfoldable pub library_strings : List ℕ
library_strings = 0 ∷ codes "libc.so.6" ++ zeros 1

-- a segment that is loaded at an address, with this many bytes from the file's start, and one of
-- this many bytes of dynamic entries, at 0xb0; after these the strings, at 0xf0 if there are four
-- entries
unfoldable pub loaded_at : (address load_size dynamic_size : ℕ) → List ℕ → List ℕ
loaded_at address load_size dynamic_size entries =
    object 2 (program_header 1 5 0 address load_size 0x1000 ++ program_header 2 6 0xb0 (address + 0xb0) dynamic_size 8 ++ entries ++ library_strings)

unfoldable pub loaded : (load_size dynamic_size : ℕ) → List ℕ → List ℕ
loaded load_size dynamic_size entries = loaded_at 0x400000 load_size dynamic_size entries

-- a needed library, two entries, and the end
unfoldable pub needed_with : List ℕ → List ℕ → List ℕ
needed_with second third = tagged 1 1 ++ second ++ third ++ tagged 0 0

-- a shared object of 251 bytes that needs a library
unfoldable pub library_without_sections : List ℕ
library_without_sections = loaded 0xfb 0x40 (needed_with (tagged 5 0x4000f0) (tagged 10 11))
