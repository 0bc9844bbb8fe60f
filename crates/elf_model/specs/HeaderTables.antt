-- Tables of headers (gABI 4, Section Header; gABI 5, Program Header), and the kinds of tables that
-- a header describes.
use Rattle.std.specs.Prelude.{ℕ, ◌*◌, ◌==◌, Bool, List, Option}
use Rattle.elf_model.specs.Find.{first_that}
use Rattle.elf_model.specs.Listing.{ListingItem}
use Rattle.elf_model.specs.Records.{e_shnum, e_phnum, sh_type, section_at, segment_at}
use Rattle.elf_model.specs.Style.{ListingStyle}
use Rattle.elf_model.specs.Tables.{TableChecks}

-- A TABLE OF HEADERS: how many there are; for each the bytes that it is in, and its offset in them
pub record HeaderTable : Type 0 where
  pub count : ℕ
  pub bytes : ℕ → List ℕ
  pub at : ℕ → ℕ

-- the section headers of a file, and its program headers
abbrev pub file_sections : List ℕ → HeaderTable
file_sections file = record { count = e_shnum file; bytes = λ i. file; at = section_at file }

abbrev pub file_segments : List ℕ → HeaderTable
file_segments file = record { count = e_phnum file; bytes = λ i. file; at = segment_at file }

-- this many headers, each in bytes of its own
abbrev pub held_headers : ℕ → (ℕ → List ℕ) → HeaderTable
held_headers count row = record { count = count; bytes = row; at = λ i. 0 }

-- a field of the header of an index
abbrev pub header_field : HeaderTable → (List ℕ → ℕ → ℕ) → ℕ → ℕ
header_field headers field i = field (headers.bytes i) (headers.at i)

-- the first section of a type
abbrev pub first_typed : HeaderTable → ℕ → Option ℕ
first_typed headers type = first_that (λ i. header_field headers sh_type i == type) 0 headers.count

-- A KIND OF TABLE: its part of a listing; which headers describe one; its checks; how many bytes
-- its rows read at most, by a table of headers and the index of the table's own, in a file of this
-- many bytes and with this limit on bytes of a name; then, in a file, the rows of the table whose
-- header has an index and is at an offset
pub record TableKind : Type 0 where
  pub part : ℕ
  pub has_table : List ℕ → ℕ → Bool
  pub checks : TableChecks
  pub asks : HeaderTable → (index file_size cap : ℕ) → ℕ
  pub rows : List ℕ → ListingStyle → ℕ → ℕ → List ListingItem

-- as many entries as a header counts read this many bytes each
abbrev pub each_entry : (List ℕ → ℕ → ℕ) → (ℕ → ℕ) → HeaderTable → (index file_size cap : ℕ) → ℕ
each_entry entries bytes headers index file_size cap = header_field headers entries index * bytes cap
