-- The checks of a file before its section headers and program headers are read, and after.
use Rattle.std.specs.Prelude.{ℕ, ◌≡◌, List, ◌++◌, length, Option, None, Some, Result, Ok, Err}
use Rattle.elf_model.specs.Prelude.{before_headers, first_refusal, header_checks, load_checks}
use Rattle.elf_model.specs.declared.causes.Refusal.{Refusal}
use Rattle.elf_record.specs.Prelude.{IsEhdr}
use Rattle.elf_record.specs.declared.ehdr.Ehdr.{Ehdr}
use Rattle.elf_table.specs.Prelude.{HoldsSections, HoldsSegments, PassesLoadChecks, StoreState}
use Rattle.elf_capi.specs.InPlace.{rows_in_place}
use Rattle.elf_capi.specs.declared.file_headers.FileHeaders.{FileHeaders}
use Rattle.elf_capi.specs.declared.memory_file.MemoryFile.{MemoryFile}

-- the largest limit on headers
abbrev pub MAX_HEADERS : ℕ
MAX_HEADERS = 65279

-- the first check that fails before a file's section headers and program headers are read, with the
-- largest limit on headers
abbrev pub first_refused : List ℕ → Option Refusal
first_refused file = first_refusal (before_headers file MAX_HEADERS)

-- the checked file header, or its first failing check
abbrev pub HeaderChecked : List ℕ → Result Ehdr Refusal → Type 0
HeaderChecked file (Ok header) = (first_refusal (header_checks file) ≡ None) × IsEhdr file 0 header
HeaderChecked file (Err refusal) = first_refusal (header_checks file) ≡ Some refusal

-- the headers of a file in memory
abbrev pub rows_of_headers : FileHeaders → StoreState
rows_of_headers headers = rows_in_place headers.bytes.now headers.header headers.most

-- the headers of a file, which pass the checks before they are read, with a limit on headers
pub record AreHeadersOf (file : List ℕ) (most : ℕ) (headers : FileHeaders) : Type 0 where
  pub pass : first_refusal (before_headers file most) ≡ None
  pub header : IsEhdr file 0 headers.header
  pub within : PassesLoadChecks (length file) most headers.header
  pub sections : HoldsSections file (rows_of_headers headers)
  pub segments : HoldsSegments file (rows_of_headers headers)
  pub bytes : headers.bytes.now ≡ file
  pub limit : headers.most ≡ most

-- those, or the first of those checks that fails
abbrev pub OpensHeaders : List ℕ → ℕ → Result FileHeaders Refusal → Type 0
OpensHeaders file most (Ok headers) = AreHeadersOf file most headers
OpensHeaders file most (Err refusal) = first_refusal (before_headers file most) ≡ Some refusal

-- the first check that fails until a file's section headers are loaded, with the given number of
-- headers allowed
abbrev pub load_refused : List ℕ → ℕ → Option Refusal
load_refused file headers = first_refusal (header_checks file ++ load_checks file headers)

-- a file passes those checks, or the first of them that fails
abbrev pub LoadsFile : List ℕ → ℕ → Result MemoryFile Refusal → Type 0
LoadsFile file headers (Ok held) = (load_refused file headers ≡ None) × (held.bytes.now ≡ file)
LoadsFile file headers (Err refusal) = load_refused file headers ≡ Some refusal
