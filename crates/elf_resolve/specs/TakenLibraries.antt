-- What a link takes of a shared library, by its bytes, or the first refusal.
use Rattle.std.specs.Prelude.{⊤, ℕ, ◌≡◌, Bool, true, false, List, Option, None, Some, Result, Ok, Err}
use Rattle.elf_model.specs.Checks.{first_refusal, load_checks}
use Rattle.elf_model.specs.HeaderTables.{file_sections, first_typed}
use Rattle.elf_model.specs.LinkArchives.{refusal_of}
use Rattle.elf_model.specs.LinkKeys.{LinkKeys, LinkSymbol}
use Rattle.elf_model.specs.Numbers.{SHT_DYNAMIC, SHT_DYNSYM}
use Rattle.elf_model.specs.declared.link_states.LinkRefusal.{LinkRefusal}
use Rattle.elf_resolve.specs.KeyMarks.{NotedKeys}
use Rattle.elf_resolve.specs.KeyTables.{KeyList}
use Rattle.elf_resolve.specs.LibraryEntries.{own_name}
use Rattle.elf_resolve.specs.LibraryFiles.{header_of_type, library_versions}
use Rattle.elf_resolve.specs.LibraryKeys.{LibraryVersions, library_symbols}
use Rattle.elf_resolve.specs.LibraryNeeds.{needs_joined, no_need}
use Rattle.elf_resolve.specs.ObjectParts.{as_any_refusal, link_header_refusal}
use Rattle.elf_resolve.specs.Objects.{refused_before}
use Rattle.elf_resolve.specs.Symbols.{TookSymbols}
use Rattle.elf_resolve.specs.Taken.{IsLinkFault}
use Rattle.elf_resolve.specs.declared.link_faults.LinkFault.{LinkFault}
use Rattle.elf_resolve.specs.declared.needed_libraries.LibraryEnd.{LibraryEnd}
use Rattle.elf_resolve.specs.declared.needed_libraries.LibraryEnd.TheVariants.{Same, Taken, Unneeded}
use Rattle.elf_resolve.specs.declared.string_buffer.HeldText.{HeldText}

-- the library's own name by the section of dynamic entries whose header is at an offset, if there is one
abbrev pub own_name_in : List ℕ → (header : Option ℕ) → Result (Option (List ℕ)) LinkRefusal
own_name_in file None = Ok None
own_name_in file (Some at) = own_name file at

-- what follows a result that is not refused
abbrev pub after_passing : {A B : Type 0} → Result A LinkRefusal → Result B LinkRefusal → Result B LinkRefusal
after_passing (Err refusal) rest = Err refusal
after_passing (Ok value) rest = rest

-- THE SYMBOLS OF A LIBRARY, after its tables and its versions
abbrev pub symbols_with : List ℕ → Result LibraryVersions LinkRefusal → Result (List LinkSymbol) LinkRefusal
symbols_with file (Err refusal) = Err refusal
symbols_with file (Ok versions) = library_symbols file versions (first_typed (file_sections file) SHT_DYNSYM)

abbrev pub symbols_after_versions : List ℕ → Result (List LinkSymbol) LinkRefusal
symbols_after_versions file = symbols_with file (library_versions file)

-- and after its own name, if it is read for the first time
abbrev pub new_symbols : List ℕ → Result (List LinkSymbol) LinkRefusal
new_symbols file = after_passing (library_versions file) (after_passing (own_name_in file (header_of_type file SHT_DYNAMIC)) (symbols_after_versions file))

-- the type of a shared object
abbrev pub SHARED_OBJECT_TYPE : ℕ
SHARED_OBJECT_TYPE = 3

-- what its headers refuse, of which this many are allowed
abbrev pub library_headers_refusal : List ℕ → (headers : ℕ) → Option LinkRefusal
library_headers_refusal file headers = refused_before (link_header_refusal file SHARED_OBJECT_TYPE) (as_any_refusal (first_refusal (load_checks file headers)))

abbrev pub unless_link_refused : {A : Type 0} → Option LinkRefusal → Result A LinkRefusal → Result A LinkRefusal
unless_link_refused None rest = rest
unless_link_refused (Some refusal) rest = Err refusal

-- A LIBRARY that is read for the first time, and once more
unfoldable pub new_library : List ℕ → (headers : ℕ) → Result (List LinkSymbol) LinkRefusal
new_library file headers = unless_link_refused (library_headers_refusal file headers) (new_symbols file)

unfoldable pub known_library : List ℕ → (headers : ℕ) → Result (List LinkSymbol) LinkRefusal
known_library file headers = unless_link_refused (library_headers_refusal file headers) (symbols_after_versions file)

-- ITS NAME is read, or refused
abbrev pub NamesLibrary : Result (Option (List ℕ)) LinkRefusal → Result HeldText LinkFault → Type 0
NamesLibrary known (Ok text) = (own : Option (List ℕ)) × (known ≡ Ok own)
NamesLibrary known (Err fault) = IsLinkFault (refusal_of known) fault

-- IT IS NOT ASKED FOR only if no object needs it
abbrev pub NeedsNone : Result (List LinkSymbol) LinkRefusal → LinkKeys → NotedKeys → Type 0
NeedsNone known keys marks = (symbols : List LinkSymbol) × (known ≡ Ok symbols) × ((needs_joined keys marks no_need symbols).by_objects ≡ false)

abbrev pub AsksFor : Result (List LinkSymbol) LinkRefusal → LinkKeys → NotedKeys → Result Bool LinkFault → Type 0
AsksFor known keys marks (Ok true) = ⊤
AsksFor known keys marks (Ok false) = NeedsNone known keys marks
AsksFor known keys marks (Err fault) = IsLinkFault (refusal_of known) fault

-- A LIBRARY IS TAKEN as a row: its symbols change the keys, which are the same if it is not needed or
-- another of its name is part of the link
abbrev pub TakesLibrary : Result (List LinkSymbol) LinkRefusal → (old new : KeyList) → NotedKeys → (row : ℕ) → Result LibraryEnd LinkFault → Type 0
TakesLibrary known old new marks row (Ok Same) = new ≡ old
TakesLibrary known old new marks row (Ok Taken) = (symbols : List LinkSymbol) × (known ≡ Ok symbols) × TookSymbols old new symbols (Some row)
TakesLibrary known old new marks row (Ok (Unneeded library)) = (new ≡ old) × NeedsNone known old.keys marks
TakesLibrary known old new marks row (Err fault) = IsLinkFault (refusal_of known) fault
