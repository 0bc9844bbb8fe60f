-- The bytes that a section or a program header has in a file (gABI 4, Section Header; gABI 5,
-- Program Header): what `bytes` writes, and how many bytes it may read.
use Rattle.std.specs.Prelude.{ℕ, zero, suc, ◌+◌, ◌-◌, ◌*◌, ◌==◌, ◌||◌, nat_lt, not, if◌then◌else◌, Bool, true, false, List, [], ◌∷◌, ◌++◌, length, Option, None, Some, Result, Ok, Err}
use Rattle.elf_model.specs.Answer.{Answer}
use Rattle.elf_model.specs.Apply.{has_no_bytes}
use Rattle.elf_model.specs.Archive.{FileRange, bytes_in}
use Rattle.elf_model.specs.Checks.{Check, refuse, first_refusal, header_checks, before_headers, load_checks, has_section_names, range_checks, range_checks_of}
use Rattle.elf_model.specs.Lines.{refusal_line}
use Rattle.elf_model.specs.Names.{same, pad64}
use Rattle.elf_model.specs.Records.{FILE_HEADER_SIZE, SECTION_HEADER_SIZE, PROGRAM_HEADER_SIZE, e_shnum, e_phnum, e_shstrndx, sh_name, sh_offset, sh_size, p_offset, p_filesz, section_at, segment_at}
use Rattle.elf_model.specs.Style.{looked_at}
use Rattle.elf_model.specs.Tables.{section_bytes}
use Rattle.elf_model.specs.declared.causes.Cause.TheVariants.{BadLink}
use Rattle.elf_model.specs.declared.causes.Refusal.{Refusal}
use Rattle.elf_model.specs.declared.formats.Format.TheVariants.{Columns}

-- WHOSE BYTES ARE REQUESTED: those of the section of an index, of the first section of a name, or
-- of the program header of an index
pub data BytesQuery : Type 0 where
  OfSection : ℕ → BytesQuery
  OfName : List ℕ → BytesQuery
  OfSegment : ℕ → BytesQuery

-- a program header's are requested
abbrev pub is_of_segment : BytesQuery → Bool
is_of_segment (OfSection section) = false
is_of_segment (OfName name) = false
is_of_segment (OfSegment segment) = true

-- the file whose headers are read: for a program header the same with a header that locates no
-- section headers
abbrev pub queried_file : BytesQuery → List ℕ → List ℕ
queried_file query file = looked_at (is_of_segment query) file

-- the first section that has a name, of this many from an index on; or the fault of a name before
-- it, at that section's header
unfoldable pub section_named_from : List ℕ → List ℕ → ℕ → ℕ → Result (Option ℕ) Refusal
section_named_from file wanted i zero = Ok None
section_named_from file wanted i (suc n) =
    elim (same (section_bytes file (section_at file (e_shstrndx file))) (sh_name file (section_at file i)) wanted) [
      | Err cause ↦ Err (record { at = section_at file i; cause = cause })
      | Ok true ↦ Ok (Some i)
      | Ok false ↦ section_named_from file wanted (suc i) n
    ]

-- the same of all sections of a file: section 0 is none, and without section names none has a name
unfoldable pub first_section_named : List ℕ → List ℕ → Result (Option ℕ) Refusal
first_section_named file wanted =
    elim (has_section_names file) [ true ↦ section_named_from file wanted 1 (e_shnum file - 1) | false ↦ Ok None ]

-- the checks of a request for the bytes of a section: it is one, and its bytes are within the file
abbrev pub section_bytes_checks : List ℕ → ℕ → List Check
section_bytes_checks file section =
    let at = section_at file section in
    refuse (section == 0 || not (nat_lt section (e_shnum file))) 0x3c BadLink
    ∷ (if has_no_bytes file at then [] else range_checks file at)

-- the same of a program header
abbrev pub segment_bytes_checks : List ℕ → ℕ → List Check
segment_bytes_checks file segment =
    let at = segment_at file segment in
    refuse (not (nat_lt segment (e_phnum file))) 0x38 BadLink
    ∷ range_checks_of (length file) (p_offset file at) (p_filesz file at) at

-- the offset and the number of the bytes that a section has in the file, by its header
abbrev pub range_by_section : List ℕ → ℕ → FileRange
range_by_section file at =
    if has_no_bytes file at then record { at = 0; size = 0 } else record { at = sh_offset file at; size = sh_size file at }

-- those of a program header
abbrev pub range_by_segment : List ℕ → ℕ → FileRange
range_by_segment file at = record { at = p_offset file at; size = p_filesz file at }

-- a range if some checks pass, or the first refusal
abbrev pub range_if_passed : List Check → FileRange → Result (Option FileRange) Refusal
range_if_passed checks range = elim (first_refusal checks) [ Some refusal ↦ Err refusal | None ↦ Ok (Some range) ]

-- the range of the bytes of a section, and of a program header
unfoldable pub range_of_section : List ℕ → ℕ → Result (Option FileRange) Refusal
range_of_section file section =
    range_if_passed (section_bytes_checks file section) (range_by_section file (section_at file section))

unfoldable pub range_of_segment : List ℕ → ℕ → Result (Option FileRange) Refusal
range_of_segment file segment =
    range_if_passed (segment_bytes_checks file segment) (range_by_segment file (segment_at file segment))

-- the range of the bytes of the first section of a name; none if there is no such section
unfoldable pub range_of_name : List ℕ → List ℕ → Result (Option FileRange) Refusal
range_of_name file name = elim (first_section_named file name) [
  | Err refusal ↦ Err refusal
  | Ok None ↦ Ok None
  | Ok (Some section) ↦ range_of_section file section
]

-- the range that is requested, once the headers are read
unfoldable pub range_in : List ℕ → BytesQuery → Result (Option FileRange) Refusal
range_in file (OfSection section) = range_of_section file section
range_in file (OfName name) = range_of_name file name
range_in file (OfSegment segment) = range_of_segment file segment

-- THE RANGE OF THE BYTES THAT ARE REQUESTED, with this many headers allowed; none if there is no
-- section of the name; or the first refusal
unfoldable pub queried_range : List ℕ → ℕ → BytesQuery → Result (Option FileRange) Refusal
queried_range file headers query =
    let read = queried_file query file in
    elim (first_refusal (header_checks read ++ load_checks read headers)) [
      | Some refusal ↦ Err refusal
      | None ↦ range_in read query
    ]

-- the bytes, as they are in the file; nothing if there is no section of the name; or the refusal's
-- line
abbrev pub bytes_text : List ℕ → Result (Option FileRange) Refusal → List ℕ
bytes_text file (Ok (Some range)) = bytes_in file range
bytes_text file (Ok None) = []
bytes_text file (Err refusal) = refusal_line Columns refusal

-- 0 if there are bytes, also if these are none
abbrev pub bytes_status : Result (Option FileRange) Refusal → ℕ
bytes_status (Ok (Some range)) = 0
bytes_status (Ok None) = 1
bytes_status (Err refusal) = 1

-- `bytes`: the bytes of a section or of a program header
abbrev pub bytes_answer : List ℕ → ℕ → BytesQuery → Answer
bytes_answer file headers query =
    let range = queried_range file headers query in
    record { text = bytes_text file range; status = bytes_status range }

-- how many bytes the name of a section may cost: the wanted name with its NUL, in pieces of 64
abbrev pub compared_bytes : BytesQuery → ℕ
compared_bytes (OfSection section) = 0
compared_bytes (OfName name) = pad64 (length name + 1)
compared_bytes (OfSegment segment) = 0

-- what the headers cost: the program headers, or the section headers, and if a name is wanted the
-- names of all sections
abbrev pub headers_cost : List ℕ → BytesQuery → ℕ
headers_cost file query = elim (is_of_segment query) [
  | true ↦ PROGRAM_HEADER_SIZE * e_phnum file
  | false ↦ e_shnum file * (SECTION_HEADER_SIZE + compared_bytes query)
]

-- how many bytes a range has
abbrev pub range_size : Result (Option FileRange) Refusal → ℕ
range_size (Ok (Some range)) = range.size
range_size (Ok None) = 0
range_size (Err refusal) = 0

-- HOW MANY BYTES `bytes` READS at most: the file header alone if no other header is read, otherwise
-- that, the headers and the bytes
unfoldable pub bytes_cost : List ℕ → ℕ → BytesQuery → ℕ
bytes_cost file headers query =
    let read = queried_file query file in
    elim (first_refusal (before_headers read headers)) [
      | Some refusal ↦ FILE_HEADER_SIZE
      | None ↦ FILE_HEADER_SIZE + headers_cost read query + range_size (queried_range file headers query)
    ]

-- its upper bound, for any bytes of the file: only by the file's length, how many headers are
-- allowed and what is requested
unfoldable pub bytes_ceiling : (size headers : ℕ) → BytesQuery → ℕ
bytes_ceiling size headers query = FILE_HEADER_SIZE + headers * (SECTION_HEADER_SIZE + compared_bytes query) + size
