-- What an object is to a link, by its bytes: its section groups, the names of its sections, and its
-- symbols; or the first fault.
use Rattle.std.specs.Prelude.{ℕ, zero, suc, ◌+◌, ◌-◌, ◌/◌, ◌==◌, ◌&&◌, ◌||◌, bit_and, not, nat_le, nat_lt, if◌then◌else◌, Bool, true, false, List, [], ◌∷◌, ◌++◌, codes, drop, take, length, position, slice_index, Option, None, Some, Result, Ok, Err, bytes_eq}
use Rattle.std.specs.List.{list_all}
use Rattle.elf_model.specs.Bytes.{field}
use Rattle.elf_model.specs.Checks.{Check, early_checks, first_refusal, header_checks, refuse, section_name_checks, whole_checks_of}
use Rattle.elf_model.specs.Find.{first_that}
use Rattle.elf_model.specs.LinkKeys.{LinkSymbol}
use Rattle.elf_model.specs.LinkObjects.{LinkObject, NamedSection, ObjectSymbol, SectionGroup}
use Rattle.elf_model.specs.Names.{shown}
use Rattle.elf_model.specs.Names.DisplayedName.{Whole, Cut}
use Rattle.elf_model.specs.Numbers.{EM_X86_64, ET_REL, SHN_ABS, SHN_COMMON, SHN_LORESERVE, SHN_UNDEF, SHT_SYMTAB, STB_GLOBAL, STB_GNU_UNIQUE, STB_WEAK, STT_FUNC, STT_GNU_IFUNC, STT_SECTION, STV_DEFAULT}
use Rattle.elf_model.specs.Records.{e_machine, e_shnum, e_shstrndx, e_type, section_at, sh_flags, sh_info, sh_name, sh_offset, sh_size, sh_type, st_bind, st_name, st_shndx, st_size, st_type, st_value, st_visibility}
use Rattle.elf_model.specs.Tables.{SYMBOL_SIZE, entry_at, entry_count, has_symbols, linked_at, section_bytes, strings_of, symbol_table_checks}
use Rattle.elf_model.specs.declared.causes.Cause.TheVariants.{BadLink, SymbolIndex}
use Rattle.elf_model.specs.declared.causes.Refusal.{Refusal}
use Rattle.elf_model.specs.declared.link_states.LinkCause.{LinkCause}
use Rattle.elf_model.specs.declared.link_states.LinkCause.TheVariants.{Refused, FileType, Machine, Lto}
use Rattle.elf_model.specs.declared.link_states.LinkRefusal.{LinkRefusal}
use Rattle.elf_model.specs.declared.link_states.SymbolRole.{SymbolRole}
use Rattle.elf_model.specs.declared.link_states.SymbolRole.TheVariants.{WeakReference, Reference, Common, WeakDefinition, Definition}
use Rattle.elf_model.specs.declared.link_states.SymbolUse.{SymbolUse}

-- a section group (gABI 4, Section Groups), its flag for groups of which one is kept, and the flag of
-- the sections of a group
abbrev pub SHT_GROUP : ℕ
SHT_GROUP = 17

abbrev pub GRP_COMDAT : ℕ
GRP_COMDAT = 1

abbrev pub SHF_GROUP : ℕ
SHF_GROUP = 0x200

-- the section index of commons in the large model (x86-64 psABI, Special Section Indexes)
abbrev pub SHN_X86_64_LCOMMON : ℕ
SHN_X86_64_LCOMMON = 0xff02

-- how many bytes the flags and each section index of a group have
abbrev pub GROUP_WORD_SIZE : ℕ
GROUP_WORD_SIZE = 4

-- a refusal of any file, and one at an offset
abbrev pub as_any : Refusal → LinkRefusal
as_any refusal = record { at = refusal.at; cause = Refused refusal.cause }

abbrev pub refused_at : {A : Type 0} → ℕ → LinkCause → Result A LinkRefusal
refused_at at cause = Err (record { at = at; cause = cause })

-- the name at an index of a string table, which is no longer than the table, or the refusal at an
-- offset
unfoldable pub link_name : (strings : List ℕ) → (index at : ℕ) → Result (List ℕ) LinkRefusal
link_name strings index at = elim (shown strings index (length strings)) [
  | Ok (Whole name) ↦ Ok name
  | Ok (Cut front) ↦ Ok front
  | Err cause ↦ refused_at at (Refused cause)
]

-- THE NAME OF A SYMBOL, without its version and with it: at the first `@` after its first byte
abbrev pub AT : ℕ
AT = 64

abbrev pub version_sign_in : List ℕ → Option ℕ
version_sign_in name = position (λ b. b == AT) name

-- a name with two signs before its version, the default one, is of a definition two names; else it is
-- the one with one sign
abbrev pub is_default_at : List ℕ → ℕ → Bool
is_default_at name place = not (place == 0) && slice_index name (place + 1) == AT

abbrev pub with_one_sign : List ℕ → Option ℕ → List ℕ
with_one_sign name None = name
with_one_sign name (Some place) = if is_default_at name place then take place name ++ drop (place + 1) name else name

abbrev pub without_version : List ℕ → Option ℕ → Option (List ℕ)
without_version name None = None
without_version name (Some place) = if is_default_at name place then Some (take place name) else None

unfoldable pub link_symbol : List ℕ → (is_defined : Bool) → SymbolUse → LinkSymbol
link_symbol name is_defined symbol = record {
  name = with_one_sign name (version_sign_in name);
  default_name = if is_defined then without_version name (version_sign_in name) else None;
  symbol = symbol;
}

-- WHICH SYMBOLS COUNT: those of a global binding
abbrev pub is_global : List ℕ → ℕ → Bool
is_global file at = st_bind file at == STB_GLOBAL || st_bind file at == STB_WEAK || st_bind file at == STB_GNU_UNIQUE

abbrev pub is_weak_use : List ℕ → ℕ → Bool
is_weak_use file at = st_bind file at == STB_WEAK

abbrev pub is_common : List ℕ → ℕ → Bool
is_common file at = st_shndx file at == SHN_COMMON || st_shndx file at == SHN_X86_64_LCOMMON

-- what a symbol of an object is
unfoldable pub symbol_role : List ℕ → ℕ → SymbolRole
symbol_role file at =
    if st_shndx file at == SHN_UNDEF then (if is_weak_use file at then WeakReference else Reference)
    else if is_common file at then Common (st_size file at)
    else if is_weak_use file at then WeakDefinition
    else Definition

abbrev pub absolute_value : List ℕ → ℕ → Option ℕ
absolute_value file at = if st_shndx file at == SHN_ABS then Some (st_value file at) else None

abbrev pub symbol_use : List ℕ → ℕ → SymbolUse
symbol_use file at = record {
  role = symbol_role file at;
  restricted = not (st_visibility file at == STV_DEFAULT);
  dropped = false;
  of_library = false;
  absolute = absolute_value file at;
}

-- the section that it is defined in
abbrev pub symbol_section : List ℕ → ℕ → Option ℕ
symbol_section file at =
    if st_shndx file at == SHN_UNDEF || nat_le SHN_LORESERVE (st_shndx file at) then None else Some (st_shndx file at)

unfoldable pub object_symbol : List ℕ → ℕ → (name : List ℕ) → ObjectSymbol
object_symbol file at name = record {
  symbol = link_symbol name (not (st_shndx file at == SHN_UNDEF)) (symbol_use file at);
  section = symbol_section file at;
}

-- the mark of an object with intermediate code alone
abbrev pub LTO_MARK : List ℕ
LTO_MARK = codes "__gnu_lto_slim"

-- a symbol with a name counts
abbrev pub symbol_counts : List ℕ → ℕ → (name : List ℕ) → List ObjectSymbol
symbol_counts file at [] = []
symbol_counts file at (byte ∷ name) = object_symbol file at (byte ∷ name) ∷ []

abbrev pub symbol_called : List ℕ → ℕ → Result (List ℕ) LinkRefusal → Result (List ObjectSymbol) LinkRefusal
symbol_called file at (Err refusal) = Err refusal
symbol_called file at (Ok name) = if bytes_eq name LTO_MARK then refused_at at Lto else Ok (symbol_counts file at name)

unfoldable pub link_symbol_at : List ℕ → (table_at at : ℕ) → Result (List ObjectSymbol) LinkRefusal
link_symbol_at file table_at at =
    if is_global file at then symbol_called file at (link_name (strings_of file table_at) (st_name file at) at) else Ok []

-- results of parts, up to the first refusal
abbrev pub followed : {A : Type 0} → List A → Result (List A) LinkRefusal → Result (List A) LinkRefusal
followed first (Err refusal) = Err refusal
followed first (Ok rest) = Ok (first ++ rest)

abbrev pub and_then : {A : Type 0} → Result (List A) LinkRefusal → Result (List A) LinkRefusal → Result (List A) LinkRefusal
and_then (Err refusal) rest = Err refusal
and_then (Ok first) rest = followed first rest

-- the symbols of a table from an index, this many
unfoldable pub symbols_from : List ℕ → (table_at index count : ℕ) → Result (List ObjectSymbol) LinkRefusal
symbols_from file table_at index zero = Ok []
symbols_from file table_at index (suc count) =
    and_then (link_symbol_at file table_at (entry_at file table_at SYMBOL_SIZE index)) (symbols_from file table_at (suc index) count)

-- THE SYMBOLS OF AN OBJECT: of its first symbol table, after the local ones
abbrev pub symbols_of : List ℕ → (table_at : ℕ) → Result (List ObjectSymbol) LinkRefusal
symbols_of file table_at =
    symbols_from file table_at (sh_info file table_at) (entry_count file table_at SYMBOL_SIZE - sh_info file table_at)

-- the first symbol table's header
abbrev pub symbol_table_in : List ℕ → Option ℕ
symbol_table_in file = first_that (λ i. sh_type file (section_at file i) == SHT_SYMTAB) 0 (e_shnum file)

abbrev pub symbols_if : List ℕ → Option ℕ → Result (List ObjectSymbol) LinkRefusal
symbols_if file None = Ok []
symbols_if file (Some table) = symbols_of file (section_at file table)

-- the name of a section, which is empty if the file has no section of section names
unfoldable pub section_link_name : List ℕ → (at : ℕ) → Result (List ℕ) LinkRefusal
section_link_name file at =
    if e_shstrndx file == 0 then Ok [] else link_name (section_bytes file (section_at file (e_shstrndx file))) (sh_name file at) at

-- A SECTION GROUP: words of four bytes, the flags before the indexes of its sections; of a symbol table
-- it has the symbol that is its signature
abbrev pub group_checks : List ℕ → (at : ℕ) → List Check
group_checks file at =
    whole_checks_of (length file) (sh_offset file at) (sh_size file at) at GROUP_WORD_SIZE
    ++ (refuse (not (has_symbols file at)) at BadLink ∷ [])
    ++ symbol_table_checks file (linked_at file at)
    ++ (refuse (not (nat_lt (sh_info file at) (entry_count file (linked_at file at) SYMBOL_SIZE))) at SymbolIndex ∷ [])

-- the indexes in some words
abbrev pub words_in : ℕ → List ℕ → List ℕ
words_in zero bytes = []
words_in (suc count) bytes = field bytes 0 GROUP_WORD_SIZE ∷ words_in count (drop GROUP_WORD_SIZE bytes)

abbrev pub group_sections : List ℕ → (at : ℕ) → List ℕ
group_sections file at = words_in (sh_size file at / GROUP_WORD_SIZE - 1) (drop GROUP_WORD_SIZE (section_bytes file at))

-- one of the groups of this signature is kept
abbrev pub is_comdat : List ℕ → (at : ℕ) → Bool
is_comdat file at =
    not (nat_lt (sh_size file at) GROUP_WORD_SIZE) && not (bit_and (field (section_bytes file at) 0 GROUP_WORD_SIZE) GRP_COMDAT == 0)

abbrev pub comdat_group : List ℕ → (at : ℕ) → Result (List ℕ) LinkRefusal → Result (List SectionGroup) LinkRefusal
comdat_group file at (Err refusal) = Err refusal
comdat_group file at (Ok signature) = Ok (record { signature = signature; is_link_once = false; sections = group_sections file at } ∷ [])

-- the name of the signature: a section's symbol without a name has its section's
abbrev pub signature_by : List ℕ → (at : ℕ) → Result (List ℕ) LinkRefusal → Result (List ℕ) LinkRefusal
signature_by file at (Err refusal) = Err refusal
signature_by file at (Ok (byte ∷ name)) = Ok (byte ∷ name)
signature_by file at (Ok []) =
    if st_type file at == STT_SECTION && nat_lt (st_shndx file at) (e_shnum file) then section_link_name file (section_at file (st_shndx file at)) else Ok []

unfoldable pub signature_of : List ℕ → (at : ℕ) → Result (List ℕ) LinkRefusal
signature_of file at =
    let link_symbol_at = entry_at file (linked_at file at) SYMBOL_SIZE (sh_info file at) in
    signature_by file link_symbol_at (link_name (strings_of file (linked_at file at)) (st_name file link_symbol_at) link_symbol_at)

unfoldable pub group_in : List ℕ → (at : ℕ) → Result (List SectionGroup) LinkRefusal
group_in file at = elim (first_refusal (group_checks file at)) [
  | Some refusal ↦ Err (as_any refusal)
  | None ↦ if is_comdat file at then comdat_group file at (signature_of file at) else Ok []
]

-- a link-once section, in no group
abbrev pub LINK_ONCE_FRONT : List ℕ
LINK_ONCE_FRONT = codes ".gnu.linkonce."

abbrev pub is_link_once : List ℕ → (at : ℕ) → (name : List ℕ) → Bool
is_link_once file at name =
    bit_and (sh_flags file at) SHF_GROUP == 0 && bytes_eq (take (length LINK_ONCE_FRONT) name) LINK_ONCE_FRONT

abbrev pub group_named : List ℕ → (at index : ℕ) → Result (List ℕ) LinkRefusal → Result (List SectionGroup) LinkRefusal
group_named file at index (Err refusal) = Err refusal
group_named file at index (Ok name) =
    Ok (if is_link_once file at name then record { signature = name; is_link_once = true; sections = index ∷ [] } ∷ [] else [])

-- THE GROUPS OF AN OBJECT, in the order of its sections
unfoldable pub groups_at : List ℕ → (index : ℕ) → Result (List SectionGroup) LinkRefusal
groups_at file index =
    let at = section_at file index in
    if sh_type file at == SHT_GROUP then group_in file at else group_named file at index (section_link_name file at)

unfoldable pub groups_from : List ℕ → (index count : ℕ) → Result (List SectionGroup) LinkRefusal
groups_from file index zero = Ok []
groups_from file index (suc count) = and_then (groups_at file index) (groups_from file (suc index) count)

-- THE SECTIONS whose names are identifiers of C: letters, digits and underscores
abbrev pub is_identifier_byte : ℕ → Bool
is_identifier_byte byte =
    (nat_le 48 byte && nat_le byte 57) || (nat_le 65 byte && nat_le byte 90) || (nat_le 97 byte && nat_le byte 122) || byte == 95

abbrev pub is_identifier : List ℕ → Bool
is_identifier name = not (length name == 0) && list_all is_identifier_byte name

abbrev pub section_named : (index : ℕ) → Result (List ℕ) LinkRefusal → Result (List NamedSection) LinkRefusal
section_named index (Err refusal) = Err refusal
section_named index (Ok name) = Ok (if is_identifier name then record { name = name; index = index } ∷ [] else [])

unfoldable pub sections_from : List ℕ → (index count : ℕ) → Result (List NamedSection) LinkRefusal
sections_from file index zero = Ok []
sections_from file index (suc count) =
    and_then (section_named index (section_link_name file (section_at file index))) (sections_from file (suc index) count)

-- THE CHECKS OF AN OBJECT before its sections: header, type and machine, section headers and the table
-- of their names, and the symbol table
abbrev pub kind_refusal : List ℕ → Option LinkRefusal
kind_refusal file =
    if not (e_type file == ET_REL) then Some (record { at = 16; cause = FileType })
    else if not (e_machine file == EM_X86_64) then Some (record { at = 18; cause = Machine })
    else None

abbrev pub table_checks_in : List ℕ → Option ℕ → List Check
table_checks_in file None = []
table_checks_in file (Some table) = symbol_table_checks file (section_at file table)

unfoldable pub object_refusal : List ℕ → (headers : ℕ) → Option LinkRefusal
object_refusal file headers = elim (first_refusal (header_checks file)) [
  | Some refusal ↦ Some (as_any refusal)
  | None ↦ elim (kind_refusal file) [
    | Some refusal ↦ Some refusal
    | None ↦ elim (first_refusal (early_checks file headers ++ section_name_checks file ++ table_checks_in file (symbol_table_in file))) [
      | Some refusal ↦ Some (as_any refusal)
      | None ↦ None
    ]
  ]
]

-- its parts, up to the first refusal
abbrev pub object_by : Result (List SectionGroup) LinkRefusal → Result (List NamedSection) LinkRefusal → Result (List ObjectSymbol) LinkRefusal → Result LinkObject LinkRefusal
object_by (Err refusal) sections symbols = Err refusal
object_by (Ok groups) (Err refusal) symbols = Err refusal
object_by (Ok groups) (Ok sections) (Err refusal) = Err refusal
object_by (Ok groups) (Ok sections) (Ok symbols) = Ok (record { groups = groups; sections = sections; symbols = symbols })

-- AN OBJECT by its bytes, with this many headers allowed
unfoldable pub object_of : List ℕ → (headers : ℕ) → Result LinkObject LinkRefusal
object_of file headers = elim (object_refusal file headers) [
  | Some refusal ↦ Err refusal
  | None ↦ object_by (groups_from file 0 (e_shnum file)) (sections_from file 0 (e_shnum file)) (symbols_if file (symbol_table_in file))
]

-- THE FIRST SYMBOL OF A NAME in an object is a definition, not weak and no function: only it is
-- looked at
abbrev pub is_data_definition : List ℕ → ℕ → Bool
is_data_definition file at =
    not (is_weak_use file at) && not (st_shndx file at == SHN_UNDEF) && not (is_common file at)
    && not (st_type file at == STT_FUNC) && not (st_type file at == STT_GNU_IFUNC)

abbrev pub is_that : Result (List ℕ) LinkRefusal → List ℕ → Bool
is_that (Err refusal) name = false
is_that (Ok other) name = bytes_eq other name

abbrev pub names_symbol : List ℕ → (table_at at : ℕ) → (name : List ℕ) → Bool
names_symbol file table_at at name = is_global file at && is_that (link_name (strings_of file table_at) (st_name file at) at) name

unfoldable pub defines_from : List ℕ → (table_at index count : ℕ) → (name : List ℕ) → Bool
defines_from file table_at index zero name = false
defines_from file table_at index (suc count) name =
    let at = entry_at file table_at SYMBOL_SIZE index in
    elim (names_symbol file table_at at name) [
      | true ↦ is_data_definition file at
      | false ↦ defines_from file table_at (suc index) count name
    ]

abbrev pub defines_if : List ℕ → Option ℕ → (name : List ℕ) → Bool
defines_if file None name = false
defines_if file (Some table) name =
    let table_at = section_at file table in
    defines_from file table_at (sh_info file table_at) (entry_count file table_at SYMBOL_SIZE - sh_info file table_at) name

-- a file that is refused defines nothing
unfoldable pub object_defines : List ℕ → (headers : ℕ) → (name : List ℕ) → Bool
object_defines file headers name = elim (object_refusal file headers) [
  | Some refusal ↦ false
  | None ↦ defines_if file (symbol_table_in file) name
]
