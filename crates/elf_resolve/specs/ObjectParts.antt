-- What is read of an object before its groups: its header, its section headers and its tables.
use Rattle.std.specs.Prelude.{ℕ, ◌≡◌, ◌==◌, not, if◌then◌else◌, List, Option, None, Some, Result, Ok, Err, option_map}
use Rattle.elf_model.specs.Checks.{first_refusal, header_checks}
use Rattle.elf_model.specs.LinkSymbols.{as_any, symbol_table_in, table_checks_in}
use Rattle.elf_model.specs.Numbers.{EM_X86_64}
use Rattle.elf_model.specs.Records.{e_machine, e_type, section_at, sh_info}
use Rattle.elf_model.specs.Tables.{symbol_table_checks}
use Rattle.elf_model.specs.declared.causes.Refusal.{Refusal}
use Rattle.elf_model.specs.declared.link_states.LinkCause.TheVariants.{FileType, Machine}
use Rattle.elf_model.specs.declared.link_states.LinkRefusal.{LinkRefusal}
use Rattle.elf_record.specs.Ehdr.{IsEhdr}
use Rattle.elf_record.specs.declared.ehdr.Ehdr.{Ehdr}
use Rattle.elf_resolve.specs.ObjectTables.{HoldsSectionNames, HoldsSymbols, HoldsTables}
use Rattle.elf_resolve.specs.Taken.{IsLinkFault}
use Rattle.elf_resolve.specs.declared.link_faults.LinkFault.{LinkFault}
use Rattle.elf_resolve.specs.declared.object.ObjectTables.{ObjectTables}
use Rattle.elf_resolve.specs.declared.object.SymbolRows.{SymbolRows}
use Rattle.elf_resolve.specs.declared.string_buffer.HeldText.{HeldText}

-- a refusal of any file, if there is one
abbrev pub as_any_refusal : Option Refusal → Option LinkRefusal
as_any_refusal refusal = option_map as_any refusal

-- THE HEADER of a file for x86-64 of a type, or its refusal
abbrev pub kind_refusal_of : List ℕ → (wanted : ℕ) → Option LinkRefusal
kind_refusal_of file wanted =
    if not (e_type file == wanted) then Some (record { at = 16; cause = FileType })
    else if not (e_machine file == EM_X86_64) then Some (record { at = 18; cause = Machine })
    else None

abbrev pub kind_or : Option Refusal → Option LinkRefusal → Option LinkRefusal
kind_or (Some refusal) kind = Some (as_any refusal)
kind_or None kind = kind

abbrev pub link_header_refusal : List ℕ → (wanted : ℕ) → Option LinkRefusal
link_header_refusal file wanted = kind_or (first_refusal (header_checks file)) (kind_refusal_of file wanted)

abbrev pub ChecksKind : List ℕ → (wanted : ℕ) → Result (Unit {0}) LinkFault → Type 0
ChecksKind file wanted (Ok done) = kind_refusal_of file wanted ≡ None
ChecksKind file wanted (Err fault) = IsLinkFault (kind_refusal_of file wanted) fault

abbrev pub ReadsLinkHeader : List ℕ → (wanted : ℕ) → Result Ehdr LinkFault → Type 0
ReadsLinkHeader file wanted (Ok header) = (link_header_refusal file wanted ≡ None) × IsEhdr file 0 header
ReadsLinkHeader file wanted (Err fault) = IsLinkFault (link_header_refusal file wanted) fault

-- THE SYMBOLS of a section, whose checks pass, or the first of those that fails
pub record ReadSymbols (file bytes : List ℕ) (section : ℕ) (symbols : SymbolRows) : Type 0 where
  pub pass : first_refusal (symbol_table_checks file (section_at file section)) ≡ None
  pub holds : HoldsSymbols file bytes (section_at file section) symbols
  pub first : symbols.first ≡ sh_info file (section_at file section)
  pub section_is : symbols.section ≡ section

abbrev pub ReadsSymbols : (file bytes : List ℕ) → (section : ℕ) → Result SymbolRows LinkFault → Type 0
ReadsSymbols file bytes section (Ok symbols) = ReadSymbols file bytes section symbols
ReadsSymbols file bytes section (Err fault) = IsLinkFault (as_any_refusal (first_refusal (symbol_table_checks file (section_at file section)))) fault

-- those of a section that was found, if one was
abbrev pub ReadsFound : (file bytes : List ℕ) → (found : Option ℕ) → Result (Option SymbolRows) LinkFault → Type 0
ReadsFound file bytes found (Ok None) = found ≡ None
ReadsFound file bytes found (Ok (Some symbols)) = (found ≡ Some symbols.section) × ReadSymbols file bytes symbols.section symbols
ReadsFound file bytes found (Err fault) = IsLinkFault (as_any_refusal (first_refusal (table_checks_in file found))) fault

-- THE NAMES of its sections, which may have no room
abbrev pub ReadsNamesOfSections : (file bytes : List ℕ) → Result (Option HeldText) LinkFault → Type 0
ReadsNamesOfSections file bytes (Ok names) = HoldsSectionNames file bytes names
ReadsNamesOfSections file bytes (Err fault) = IsLinkFault None fault

-- THE TABLES of an object, whose checks pass, or the first of those that fails
pub record ReadTables (file bytes : List ℕ) (tables : ObjectTables) : Type 0 where
  pub pass : first_refusal (table_checks_in file (symbol_table_in file)) ≡ None
  pub holds : HoldsTables file bytes tables

abbrev pub ReadsTables : (file bytes : List ℕ) → Result ObjectTables LinkFault → Type 0
ReadsTables file bytes (Ok tables) = ReadTables file bytes tables
ReadsTables file bytes (Err fault) = IsLinkFault (as_any_refusal (first_refusal (table_checks_in file (symbol_table_in file)))) fault
