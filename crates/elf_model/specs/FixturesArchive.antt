-- Archives, byte by byte.
use Rattle.std.specs.Prelude.{ℕ, ◌-◌, ◌%◌, ◌==◌, if◌then◌else◌, List, [], ◌∷◌, ◌++◌, length, codes, decimal}
use Rattle.elf_model.specs.Fixtures.{one_symbol_table, bare_header}
use Rattle.elf_model.specs.Text.{spaces}

-- a text and spaces up to a width
unfoldable pub padded_to : ℕ → List ℕ → List ℕ
padded_to width text = text ++ spaces (width - length text)

-- the header of a member, by the text of its name and of its size
unfoldable pub member_header : List ℕ → List ℕ → List ℕ
member_header name size =
    padded_to 16 name ++ codes "0           0     0     644     " ++ padded_to 10 size ++ 0x60 ∷ 0x0a ∷ []

-- a member, with its padding
unfoldable pub member : List ℕ → List ℕ → List ℕ
member name content =
    member_header name (decimal (length content)) ++ content ++ (if length content % 2 == 1 then 0x0a ∷ [] else [])

-- the magic string, and what follows it
unfoldable pub archive_of : List ℕ → List ℕ
archive_of members = codes "!<arch>\n" ++ members

-- a table of names with two names
unfoldable pub long_names : List ℕ
long_names = codes "one_symbol_table.o/\nbare_header_alone.o/\n"

-- a library of an index of symbols, a table of names, a text, and two ELF files, the first with a
-- long name
unfoldable pub library : List ℕ
library =
    archive_of (member (codes "/") (0 ∷ 0 ∷ 0 ∷ 0 ∷ [])
    ++ member (codes "//") long_names
    ++ member (codes "a.txt/") (codes "odd")
    ++ member (codes "/0") one_symbol_table
    ++ member (codes "b.o/") bare_header)
