-- The versions after the names of symbols.
use Rattle.std.specs.Prelude.{ℕ, ◌==◌, ◌&&◌, nat_lt, not, if◌then◌else◌, Bool, List, [], ◌∷◌, ◌++◌, codes, Option, None, Some, Result, Ok, Err}
use Rattle.elf_model.specs.Checks.{first_refusal}
use Rattle.elf_model.specs.Choice.{RowFilter, Suffix, NoSuffix, Suffixed, chooses}
use Rattle.elf_model.specs.Fields.{LinePrefix, closing, member_key, quoted}
use Rattle.elf_model.specs.Find.{first_that}
use Rattle.elf_model.specs.HeaderTables.{HeaderTable, file_sections, header_field}
use Rattle.elf_model.specs.LineFronts.{relocation_prefix, symbol_prefix}
use Rattle.elf_model.specs.Lines.{escaped, name_member, name_text}
use Rattle.elf_model.specs.Listing.{ListingItem, Line, Fault, each}
use Rattle.elf_model.specs.Names.{DisplayedName, shown}
use Rattle.elf_model.specs.Names.DisplayedName.{Whole, Cut}
use Rattle.elf_model.specs.Numbers.{SHN_UNDEF, SHT_GNU_VERDEF, SHT_GNU_VERNEED, SHT_GNU_VERSYM}
use Rattle.elf_model.specs.Records.{e_machine, r_sym, section_at, sh_link, sh_type, st_name, st_shndx, versym}
use Rattle.elf_model.specs.Rows.{relocation_choice, symbol_choice, symbol_named}
use Rattle.elf_model.specs.Style.{ListingStyle}
use Rattle.elf_model.specs.Tables.{SYMBOL_SIZE, all_checks, entry_at, entry_count, has_symbols, linked_at, relocation_size, strings_of}
use Rattle.elf_model.specs.Text.{newline}
use Rattle.elf_model.specs.VersionRows.{first_of_type, section_versions, symbol_versions, version_named, version_strings, version_table}
use Rattle.elf_model.specs.Versions.{VERSYM_SIZE, named_at, name_index, number_in}
use Rattle.elf_model.specs.declared.causes.Cause.{Cause}
use Rattle.elf_model.specs.declared.causes.Cause.TheVariants.{VersionCut, VersionIndex}
use Rattle.elf_model.specs.declared.causes.Refusal.{Refusal}
use Rattle.elf_model.specs.declared.formats.Format.{Format}
use Rattle.elf_model.specs.declared.formats.Format.TheVariants.{Object}
use Rattle.elf_model.specs.declared.versions.VersionKind.{VersionKind}
use Rattle.elf_model.specs.declared.versions.VersionKind.TheVariants.{Definition, File}

-- the versym section of the symbol table whose section has an index: the first that links to it
abbrev pub first_numbers : HeaderTable → (table : ℕ) → Option ℕ
first_numbers headers table =
    first_that (λ i. header_field headers sh_type i == SHT_GNU_VERSYM && header_field headers sh_link i == table) 0 headers.count

abbrev pub version_numbers_of : List ℕ → (table : ℕ) → Option ℕ
version_numbers_of file table = first_numbers (file_sections file) table

-- a version is the default one of a symbol's name, if the symbol is at an offset and its versym
-- entry is this: the symbol is defined, and the version is not hidden
abbrev pub is_default : List ℕ → (symbol_at word : ℕ) → Bool
is_default file symbol_at word = word == number_in word && not (st_shndx file symbol_at == SHN_UNDEF)

-- a version whose name is shown, or the name's fault at the record that has it
abbrev pub suffix_of : Bool → ℕ → Result DisplayedName Cause → Result Suffix Refusal
suffix_of default at (Ok name) = Ok (Suffixed default name)
suffix_of default at (Err cause) = Err (record { at = at; cause = cause })

-- the version in the versym entry at an offset of the symbol at an offset: the indices 0 and 1 are
-- of no version
unfoldable pub word_suffix : List ℕ → (cap word_at symbol_at : ℕ) → Result Suffix Refusal
word_suffix file cap word_at symbol_at =
    let word = versym file word_at in
    if nat_lt (number_in word) 2 then Ok NoSuffix
    else elim (version_named file (number_in word)) [
      | None ↦ Err (record { at = word_at; cause = VersionIndex })
      | Some met ↦
          suffix_of (is_default file symbol_at word) (named_at file met) (shown (version_strings file met.kind) (name_index file met) cap)
    ]

-- the version in a versym section, whose header is at an offset, of the symbol of an index: if it
-- has no entry for the symbol, that is a fault at the header
unfoldable pub suffix_at : List ℕ → (cap at symbol_at index : ℕ) → Result Suffix Refusal
suffix_at file cap at symbol_at index =
    if nat_lt index (entry_count file at VERSYM_SIZE) then word_suffix file cap (entry_at file at VERSYM_SIZE index) symbol_at
    else Err (record { at = at; cause = VersionCut })

-- WHAT FOLLOWS THE NAME OF A SYMBOL of an index, which is at an offset, in the table of a section
unfoldable pub symbol_suffix : List ℕ → (cap table symbol_at index : ℕ) → Result Suffix Refusal
symbol_suffix file cap table symbol_at index =
    elim (version_numbers_of file table) [ None ↦ Ok NoSuffix | Some i ↦ suffix_at file cap (section_at file i) symbol_at index ]

-- the first refusal, or otherwise another one
abbrev pub or_refusal : Option Refusal → Option Refusal → Option Refusal
or_refusal None other = other
or_refusal (Some refusal) other = Some refusal

-- the first section of a type is refused, by its checks or by a record that is malformed
unfoldable pub walk_refusal : VersionKind → ℕ → List ℕ → Option Refusal
walk_refusal kind type file = elim (first_of_type file type) [
  | None ↦ None
  | Some i ↦ or_refusal (first_refusal (all_checks version_table file (section_at file i))) (section_versions kind file (section_at file i)).cut
]

-- what refuses the versions of a symbol table before its first row: the versym section, the
-- definitions, the needs; a table without a symbol has none
unfoldable pub suffixes_refusal : List ℕ → (table : ℕ) → Option Refusal
suffixes_refusal file table =
    if entry_count file (section_at file table) SYMBOL_SIZE == 0 then None
    else elim (version_numbers_of file table) [
      | None ↦ None
      | Some i ↦
          or_refusal (first_refusal (all_checks symbol_versions.checks file (section_at file i)))
          (or_refusal (walk_refusal Definition SHT_GNU_VERDEF file) (walk_refusal File SHT_GNU_VERNEED file))
    ]

-- the sign before a version: two if it is the default one
abbrev pub version_sign : Bool → List ℕ
version_sign default = if default then codes "@@" else codes "@"

-- a version after a name, and as members of an object
unfoldable pub suffix_text : Suffix → List ℕ
suffix_text NoSuffix = []
suffix_text (Suffixed default name) = version_sign default ++ name_text name

unfoldable pub version_member : DisplayedName → List ℕ
version_member (Whole name) = member_key (codes "version") ++ quoted (escaped name)
version_member (Cut front) = member_key (codes "version") ++ quoted (escaped front) ++ (member_key (codes "version_cut") ++ codes "true")

unfoldable pub suffix_members : Suffix → List ℕ
suffix_members NoSuffix = []
suffix_members (Suffixed default name) =
    version_member name ++ (member_key (codes "default") ++ (if default then codes "true" else codes "false"))

-- a line that ends in a name with its version
unfoldable pub line_suffixed : Format → (key text : List ℕ) → DisplayedName → Suffix → List ℕ
line_suffixed Object key text name suffix = text ++ (name_member key name ++ suffix_members suffix ++ closing Object)
line_suffixed _ key text name suffix = text ++ (name_text name ++ suffix_text suffix ++ newline)

abbrev pub suffixed_line : LinePrefix → DisplayedName → Suffix → List ℕ
suffixed_line front name suffix = line_suffixed front.format front.key front.text name suffix

-- a row that ends in the name of a symbol with its version: the line if it is one of those that are
-- shown; a fault of the name comes before one of the version
abbrev pub versioned_line : RowFilter → LinePrefix → DisplayedName → Result Suffix Refusal → List ListingItem
versioned_line choice front name (Err refusal) = Fault refusal ∷ []
versioned_line choice front name (Ok suffix) = if chooses choice name suffix then Line (suffixed_line front name suffix) ∷ [] else []

abbrev pub suffixed_row : RowFilter → LinePrefix → ℕ → Result DisplayedName Cause → Result Suffix Refusal → List ListingItem
suffixed_row choice front at (Err cause) suffix = Fault (record { at = at; cause = cause }) ∷ []
suffixed_row choice front at (Ok name) suffix = versioned_line choice front name suffix

-- rows after what refuses their versions
abbrev pub after_refusal : Option Refusal → List ListingItem → List ListingItem
after_refusal None items = items
after_refusal (Some refusal) items = Fault refusal ∷ []

-- the row of a symbol, and those of a symbol table
unfoldable pub symbol_row_with_version : List ℕ → ListingStyle → ℕ → ℕ → ℕ → List ListingItem
symbol_row_with_version file style section at index =
    let symbol_at = entry_at file at SYMBOL_SIZE index in
    let front = symbol_prefix style.format style.gnu (e_machine file) file symbol_at section index in
    suffixed_row (symbol_choice file style at symbol_at) front symbol_at (shown (strings_of file at) (st_name file symbol_at) style.cap)
    (symbol_suffix file style.cap section symbol_at index)

unfoldable pub suffixed_symbol_rows : List ℕ → ListingStyle → ℕ → ℕ → List ListingItem
suffixed_symbol_rows file style section at =
    after_refusal (suffixes_refusal file section)
    (each (symbol_row_with_version file style section at) 0 (entry_count file at SYMBOL_SIZE))

-- the row of a relocation entry with or without an addend, whose symbol 0 has no version, and those
-- of a table of them
unfoldable pub relocation_row_with_version : (addends : Bool) → List ℕ → ListingStyle → ℕ → ℕ → ℕ → List ListingItem
relocation_row_with_version addends file style section at index =
    let rela_at = entry_at file at (relocation_size addends) index in
    let symbol = r_sym file rela_at in
    let named = symbol_named file style.cap at rela_at symbol in
    let suffix =
    if symbol == 0 then Ok NoSuffix
    else symbol_suffix file style.cap (sh_link file at) (entry_at file (linked_at file at) SYMBOL_SIZE symbol) symbol in
    suffixed_row (relocation_choice addends file style rela_at)
    (relocation_prefix addends style.format style.gnu (e_machine file) file rela_at section) named.0 named.1 suffix

unfoldable pub suffixed_relocation_rows : (addends : Bool) → List ℕ → ListingStyle → ℕ → ℕ → List ListingItem
suffixed_relocation_rows addends file style section at =
    let count = entry_count file at (relocation_size addends) in
    after_refusal (if has_symbols file at && not (count == 0) then suffixes_refusal file (sh_link file at) else None)
    (each (relocation_row_with_version addends file style section at) 0 count)
