-- Worked examples of files that a search for a library opens, and of programs that are no
-- libraries.
use Rattle.std.specs.Prelude.{ℕ, ◌≡◌, List, [], take, Err, IsOk}
use Rattle.elf_model.specs.Prelude.{Accepted, LibraryFile, RefusedAt, Skipped, flags_1_by_segments, library_file, library_links, little, one_load, versioned_without_sections, with_bytes}
use Rattle.elf_model.specs.declared.causes.Cause.{Cause}
use Rattle.elf_model.specs.declared.causes.Cause.TheVariants.{BadData, BadVersion, NotElf, Short, Unsupported}

abbrev library : List ℕ
library = versioned_without_sections

abbrev FileIs : List ℕ → LibraryFile → Type 0
FileIs file found = library_file 62 file ≡ found

abbrev refused : ℕ → Cause → LibraryFile
refused at cause = RefusedAt (record { at = at; cause = cause })

-- a library, a program, and one of the GNU ABI with a version
abbrev pub LibrariesAreAccepted : Type 0
LibrariesAreAccepted =
    FileIs library Accepted
    × FileIs (with_bytes 16 (little 2 2) library) Accepted
    × FileIs (with_bytes 7 (little 1 3) library) Accepted
    × FileIs (with_bytes 7 (little 1 3) (with_bytes 8 (little 1 1) library)) Accepted

-- of another class or machine, in either byte order
abbrev pub OtherMachinesAreSkipped : Type 0
OtherMachinesAreSkipped =
    FileIs (with_bytes 4 (little 1 1) library) Skipped
    × FileIs (with_bytes 18 (little 2 183) library) Skipped
    × FileIs (with_bytes 5 (little 1 2) (with_bytes 18 (little 2 183) library)) Skipped

-- refusals, each before those after it
abbrev pub OtherFilesAreRefused : Type 0
OtherFilesAreRefused =
    FileIs [] (refused 0 Short)
    × FileIs (take 63 library) (refused 63 Short)
    × FileIs (with_bytes 0 (little 1 0) library) (refused 0 NotElf)
    × FileIs (with_bytes 5 (little 1 2) (with_bytes 6 (little 1 2) library)) (refused 5 BadData)
    × FileIs (with_bytes 6 (little 1 2) (with_bytes 7 (little 1 9) library)) (refused 6 BadVersion)
    × FileIs (with_bytes 7 (little 1 9) (with_bytes 20 (little 4 2) library)) (refused 7 Unsupported)
    × FileIs (with_bytes 8 (little 1 1) library) (refused 7 Unsupported)
    × FileIs (with_bytes 15 (little 1 1) library) (refused 7 Unsupported)
    × FileIs (with_bytes 20 (little 4 2) (with_bytes 16 (little 2 1) library)) (refused 20 BadVersion)
    × FileIs (with_bytes 16 (little 2 1) library) (refused 16 Unsupported)

-- one more entry in the place of one that is not read
abbrev with_flags : ℕ → List ℕ
with_flags flags = with_bytes 0x2b0 (little 8 0x6ffffffb) (with_bytes 0x2b8 (little 8 flags) library)

abbrev IsNoLibrary : List ℕ → Type 0
IsNoLibrary file = library_links file 8 (record { bytes = 100; texts = 10 }) ≡ Err (record { at = 16; cause = Unsupported })

-- a program is none: an executable, a position-independent one, one without dynamic entries
abbrev pub ProgramsAreNoLibraries : Type 0
ProgramsAreNoLibraries =
    IsOk (library_links library 8 (record { bytes = 100; texts = 10 }))
    × IsOk (library_links (with_flags 0x800) 8 (record { bytes = 100; texts = 10 }))
    × IsNoLibrary (with_bytes 16 (little 2 2) library)
    × IsNoLibrary (with_flags 0x8000800)
    × IsNoLibrary one_load

-- the flags of dynamic entries
abbrev pub FlagsAreRead : Type 0
FlagsAreRead = (flags_1_by_segments library ≡ 0) × (flags_1_by_segments (with_flags 0x8000800) ≡ 0x8000800)
