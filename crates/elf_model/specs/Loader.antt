-- Which symbol of a file a GNU loader takes for a name, or for a name and a version (as `dlsym` and
-- `dlvsym` do in one object): by its record, its name and its version index.
use Rattle.std.specs.Prelude.{ℕ, zero, suc, ◌+◌, ◌*◌, ◌==◌, ◌&&◌, ◌||◌, nat_lt, not, is_some, if◌then◌else◌, Bool, true, false, List, [], ◌∷◌, ◌++◌, length, take, drop, position, Option, None, Some, Result, Ok, Err}
use Rattle.elf_model.specs.Names.{same}
use Rattle.elf_model.specs.Numbers.{SHN_UNDEF, SHN_ABS, STB_GLOBAL, STB_WEAK, STB_GNU_UNIQUE, STT_NOTYPE, STT_OBJECT, STT_FUNC, STT_COMMON, STT_TLS, STT_GNU_IFUNC, STV_DEFAULT, STV_PROTECTED}
use Rattle.elf_model.specs.Records.{st_name, st_shndx, st_value, st_type, st_bind, st_visibility, versym}
use Rattle.elf_model.specs.Tables.{SYMBOL_SIZE}
use Rattle.elf_model.specs.Versions.{VERSYM_SIZE, VisitedRecord, RecordCursorState, number_in, number_word, named_at, name_index, names_version, names_version_index, record_size, max_records, first_position, next_position, versions_in}
use Rattle.elf_model.specs.declared.causes.Cause.TheVariants.{VersionCut}
use Rattle.elf_model.specs.declared.causes.Refusal.{Refusal}
use Rattle.elf_model.specs.declared.versions.VersionKind.{VersionKind}

-- which version of a symbol is requested: the one that a name alone takes; one by its name; one by
-- its name that must be the symbol's default version
pub data VersionQuery : Type 0 where
  NoVersion : VersionQuery
  Version : List ℕ → VersionQuery
  DefaultVersion : List ℕ → VersionQuery

-- WHAT IS WANTED: a symbol's name, and which version of it
pub record SymbolQuery : Type 0 where
  pub name : List ℕ
  pub asked : VersionQuery

-- the sign between a name and its version
abbrev pub AT_SIGN : ℕ
AT_SIGN = 0x40

-- the version after the first such sign: after a second that follows directly it must be the
-- default one
abbrev pub asked_after : List ℕ → VersionQuery
asked_after [] = Version []
asked_after (byte ∷ bytes) = if byte == AT_SIGN then DefaultVersion bytes else Version (byte ∷ bytes)

-- a text NAME, NAME@VERSION or NAME@@VERSION, split at its first such sign
unfoldable pub parse_query : List ℕ → SymbolQuery
parse_query text = elim (position (λ byte. byte == AT_SIGN) text) [
  | None ↦ record { name = text; asked = NoVersion }
  | Some place ↦ record { name = take place text; asked = asked_after (drop (suc place) text) }
]

-- the name of the requested version, if there is one
abbrev pub asked_name : VersionQuery → Option (List ℕ)
asked_name NoVersion = None
asked_name (Version version) = Some version
asked_name (DefaultVersion version) = Some version

-- neither the name nor a requested version is empty
unfoldable pub is_complete : SymbolQuery → Bool
is_complete wanted =
    not (length wanted.name == 0) && elim (asked_name wanted.asked) [ None ↦ true | Some version ↦ not (length version == 0) ]

-- a number is one of some
abbrev pub is_among : ℕ → List ℕ → Bool
is_among n numbers = is_some (position (λ other. other == n) numbers)

-- A SYMBOL IS EXPORTED: it is not undefined and of thread-local storage; it has a value, or it is
-- absolute or of thread-local storage, where 0 is a value; and its type, its binding and its
-- visibility are those of exported symbols
unfoldable pub is_exported : List ℕ → ℕ → Bool
is_exported file at =
    let is_tls = st_type file at == STT_TLS in
    not (is_tls && (st_shndx file at == SHN_UNDEF))
    && (not (st_value file at == 0) || (st_shndx file at == SHN_ABS) || is_tls)
    && is_among (st_type file at) (STT_NOTYPE ∷ STT_OBJECT ∷ STT_FUNC ∷ STT_COMMON ∷ STT_TLS ∷ STT_GNU_IFUNC ∷ [])
    && is_among (st_bind file at) (STB_GLOBAL ∷ STB_WEAK ∷ STB_GNU_UNIQUE ∷ [])
    && is_among (st_visibility file at) (STV_DEFAULT ∷ STV_PROTECTED ∷ [])

-- the highest bit of a symbol's versym entry: a name alone does not take the version
abbrev pub is_hidden : ℕ → Bool
is_hidden word = not (word == number_in word)

-- a version matches the request, if the indices of the version by its name are known: a name alone
-- takes a version that is not hidden, and a symbol without one, whose index is 0 or 1
unfoldable pub fits : VersionQuery → (ℕ → Bool) → ℕ → Bool
fits NoVersion is_wanted word = nat_lt (number_in word) 2 || not (is_hidden word)
fits (Version version) is_wanted word = is_wanted (number_in word)
fits (DefaultVersion version) is_wanted word = is_wanted (number_in word) && not (is_hidden word)

-- THE VERSYM TABLE: the offset of its first entry in the file, how many there are, the offset of
-- the header or entry that describes it, and its index
pub record VersymTable : Type 0 where
  pub place : ℕ
  pub count : ℕ
  pub head : ℕ
  pub index : ℕ

-- the offset of the versym entry of a symbol
abbrev pub versym_at : VersymTable → ℕ → ℕ
versym_at words y = words.place + VERSYM_SIZE * y

-- A TABLE OF VERSION DEFINITIONS OR NEEDS: the kind of its first record, the offset of the header
-- or entry that describes it, its offset and size in bytes in the file, and the strings of its
-- names
pub record VersionRecordTable : Type 0 where
  pub kind : VersionKind
  pub head : ℕ
  pub place : ℕ
  pub size : ℕ
  pub strings : List ℕ

-- WHAT A LOADER KNOWS OF THE SYMBOLS of a file: the index of the header or entry that describes
-- them; the offset of the first in the file; their strings, and the offset of these; the versym
-- table, if there is one; and the definitions and the needs of versions, in this order
pub record DynamicSymbols : Type 0 where
  pub index : ℕ
  pub place : ℕ
  pub strings : List ℕ
  pub strings_at : ℕ
  pub words : Option VersymTable
  pub records : List VersionRecordTable

-- the offset of a symbol in the file
abbrev pub symbol_offset : DynamicSymbols → ℕ → ℕ
symbol_offset symbols y = symbols.place + SYMBOL_SIZE * y

-- whether the version of a symbol matches: without a versym table each does; a symbol without an
-- entry is refused at the header or entry that describes the table
unfoldable pub version_fits : List ℕ → Option VersymTable → VersionQuery → (ℕ → Bool) → ℕ → Result Bool Refusal
version_fits file None asked is_wanted y = Ok true
version_fits file (Some words) asked is_wanted y =
    if nat_lt y words.count then Ok (fits asked is_wanted (versym file (versym_at words y)))
    else Err (record { at = words.head; cause = VersionCut })

-- WHETHER A SYMBOL ANSWERS: it has the wanted name, it is exported, and its version matches. It is
-- not known if the name has a fault, at the symbol, or the symbol has no versym entry
unfoldable pub answers : List ℕ → DynamicSymbols → SymbolQuery → (ℕ → Bool) → ℕ → Result Bool Refusal
answers file symbols wanted is_wanted y =
    let at = symbol_offset symbols y in
    elim (same symbols.strings (st_name file at) wanted.name) [
      | Err cause ↦ Err (record { at = at; cause = cause })
      | Ok false ↦ Ok false
      | Ok true ↦ elim (is_exported file at) [
        | false ↦ Ok false
        | true ↦ version_fits file symbols.words wanted.asked is_wanted y
      ]
    ]

-- A VERSION RECORD THAT A WALK READS: one that is visited, with the strings of its name; one that
-- is refused; or that there is none where one should follow, so that nothing is read
pub data VersionRecordRead : Type 0 where
  Meets : List ℕ → VisitedRecord → VersionRecordRead
  Refuses : Refusal → VersionRecordRead
  Misses : Refusal → VersionRecordRead

-- the position of the walk over a table after this many records are visited
unfoldable pub position_after : List ℕ → VersionRecordTable → ℕ → Option RecordCursorState
position_after file table zero = first_position table.kind table.head table.size
position_after file table (suc n) = elim (position_after file table n) [ None ↦ None | Some stand ↦ next_position file table.place stand ]

-- a record is there: fewer are visited than there is room for, and its bytes are in the table
abbrev pub has_record : VersionRecordTable → ℕ → Option RecordCursorState → Bool
has_record table met None = false
has_record table met (Some stand) =
    nat_lt met (max_records table.kind table.size) && not (nat_lt table.size (stand.place + record_size stand.kind))

-- how the records of a table end, after this many are visited: they do, or the next is refused
abbrev pub end_reading : Bool → Option Refusal → List VersionRecordRead
end_reading is_there None = []
end_reading is_there (Some refusal) = if is_there then Refuses refusal ∷ [] else Misses refusal ∷ []

-- visited records before those after them
unfoldable pub meetings : List ℕ → List VisitedRecord → List VersionRecordRead → List VersionRecordRead
meetings strings [] others = others
meetings strings (met ∷ more) others = Meets strings met ∷ meetings strings more others

-- the records that a walk over a table reads, before others
unfoldable pub readings_of : List ℕ → VersionRecordTable → List VersionRecordRead → List VersionRecordRead
readings_of file table others =
    let versions = versions_in table.kind file table.head table.place table.size in
    let count = length versions.met in
    meetings table.strings versions.met
    (end_reading (has_record table count (position_after file table count)) versions.cut ++ others)

-- the records that a walk over some tables reads; after a refusal none is read
unfoldable pub readings : List ℕ → List VersionRecordTable → List VersionRecordRead
readings file [] = []
readings file (table ∷ tables) = readings_of file table (readings file tables)

-- THE RESULT OF COMPARING: the indices of the versions that have the wanted name; the refusal, if
-- there is one; and how many records are read
pub record CompareResult : Type 0 where
  pub numbers : List ℕ
  pub refused : Option Refusal
  pub read : ℕ

-- one more record is read
abbrev pub one_more : CompareResult → CompareResult
one_more compared = record { numbers = compared.numbers; refused = compared.refused; read = suc compared.read }

-- an index before the others, if a version has the wanted name
abbrev pub with_number : Bool → ℕ → CompareResult → CompareResult
with_number is_wanted number compared =
    record { numbers = if is_wanted then number ∷ compared.numbers else compared.numbers; refused = compared.refused; read = compared.read }

-- comparing is refused at a record, which is read or not
abbrev pub compared_until : ℕ → Refusal → CompareResult
compared_until read refusal = record { numbers = []; refused = Some refusal; read = read }

-- the records that name a version are compared with the wanted one; a fault of a name is at the
-- record that has it
unfoldable pub compared_with : List ℕ → List ℕ → List VersionRecordRead → CompareResult
compared_with file wanted [] = record { numbers = []; refused = None; read = 0 }
compared_with file wanted (Misses refusal ∷ others) = compared_until 0 refusal
compared_with file wanted (Refuses refusal ∷ others) = compared_until 1 refusal
compared_with file wanted (Meets strings met ∷ others) =
    elim (names_version file met) [
      | false ↦ one_more (compared_with file wanted others)
      | true ↦ elim (same strings (name_index file met) wanted) [
        | Err cause ↦ compared_until 1 (record { at = named_at file met; cause = cause })
        | Ok is_wanted ↦
            one_more (with_number is_wanted (number_in (number_word file met)) (compared_with file wanted others))
      ]
    ]

-- THE NAME OF A VERSION INDEX: the strings and the record of the first that has the index, if one
-- has; otherwise the refusal that comes before, if there is one; and how many records are read
pub record NumberNameSource : Type 0 where
  pub found : Option (List ℕ × VisitedRecord)
  pub refused : Option Refusal
  pub read : ℕ

abbrev pub one_later : NumberNameSource → NumberNameSource
one_later naming = record { found = naming.found; refused = naming.refused; read = suc naming.read }

abbrev named_until : ℕ → Refusal → NumberNameSource
named_until read refusal = record { found = None; refused = Some refusal; read = read }

unfoldable pub naming_of : List ℕ → ℕ → List VersionRecordRead → NumberNameSource
naming_of file number [] = record { found = None; refused = None; read = 0 }
naming_of file number (Misses refusal ∷ others) = named_until 0 refusal
naming_of file number (Refuses refusal ∷ others) = named_until 1 refusal
naming_of file number (Meets strings met ∷ others) =
    elim (names_version_index file number met) [
      | true ↦ record { found = Some (strings, met); refused = None; read = 1 }
      | false ↦ one_later (naming_of file number others)
    ]
