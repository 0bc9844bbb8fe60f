-- Facts about a file whose header locates no section headers.
use Rattle.std.specs.Prelude.{◌≡◌, ℕ, ◌+◌, ◌≤◌, ◌⊎◌, List, length}
use Rattle.elf_model.specs.Checks.{header_checks}
use Rattle.elf_model.specs.Records.{e_shoff, e_shnum, e_shstrndx}
use Rattle.elf_model.specs.Bytes.{slice}
use Rattle.elf_model.specs.Style.{without_sections, without_sections_from}

-- it is as long as the file
abbrev pub ViewIsAsLong : Type 0
ViewIsAsLong = (file : List ℕ) → length (without_sections file) ≡ length file

-- its bytes at an offset are those of the file with zeros where the header locates section headers
abbrev pub ViewIsSeenInSlices : Type 0
ViewIsSeenInSlices =
    (file : List ℕ) (at count : ℕ) → slice (without_sections file) at count ≡ without_sections_from at (slice file at count)

-- after the file header its bytes are the file's
abbrev pub ViewIsTheFileAfterTheHeader : Type 0
ViewIsTheFileAfterTheHeader = (place : ℕ) (bytes : List ℕ) → 64 ≤ place → without_sections_from place bytes ≡ bytes

-- before e_shoff, and between that and e_shnum, its bytes are the file's
abbrev pub ViewIsTheFileElsewhere : Type 0
ViewIsTheFileElsewhere =
    (file : List ℕ) (at count : ℕ) → (at + count ≤ 40) ⊎ ((48 ≤ at) × (at + count ≤ 60)) → slice (without_sections file) at count ≡ slice file at count

-- its header locates no section headers
abbrev pub ViewTellsOfNone : Type 0
ViewTellsOfNone = (file : List ℕ) → let view = without_sections file in (e_shoff view ≡ 0) × (e_shnum view ≡ 0) × (e_shstrndx view ≡ 0)

-- and passes the same checks
abbrev pub ViewIsCheckedAlike : Type 0
ViewIsCheckedAlike = (file : List ℕ) → header_checks (without_sections file) ≡ header_checks file

-- hiding twice is the same as hiding once
abbrev pub ViewIsItsOwnView : Type 0
ViewIsItsOwnView = (file : List ℕ) → without_sections (without_sections file) ≡ without_sections file
