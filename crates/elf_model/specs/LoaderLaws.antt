-- Laws of a loader's lookup.
use Rattle.std.specs.Prelude.{ℕ, ◌≡◌, ◌≤◌, ◌+◌, ◌/◌, ◌&&◌, Bool, true, false, List, [], ◌∷◌, ◌++◌, length, map, filter, ◌⊎◌, Option, None, Some, Result, Ok, Err, option_map}
use Rattle.std.specs.List.{All}
use Rattle.elf_model.specs.Checks.{first_refusal}
use Rattle.elf_model.specs.Dynamic.{listed_value}
use Rattle.elf_model.specs.Tables.{DYNAMIC_SIZE}
use Rattle.elf_model.specs.Hash.{Found}
use Rattle.elf_model.specs.Loader.{Meets, Misses, VersionRecordRead, VersionRecordTable, Refuses, SymbolQuery, compared_with, symbol_offset, is_exported, naming_of, readings, position_after, version_fits, is_among}
use Rattle.elf_model.specs.LoaderFind.{version_indices, loader_looked, loader_cost, loader_ceiling}
use Rattle.elf_model.specs.LoaderScope.{LookupTables, lookup_tables_of, tagged_row}
use Rattle.elf_model.specs.Names.{same}
use Rattle.elf_model.specs.Records.{d_un, p_filesz, p_offset, st_name}
use Rattle.elf_model.specs.Versions.{VisitedRecord, RecordCursorState, Versions, visited_at, max_records, name_index, named_at, named_by, names_version, number_in, number_word, record_checks, versions_in}
use Rattle.elf_model.specs.declared.causes.Cause.{Cause}
use Rattle.elf_model.specs.declared.causes.Cause.TheVariants.{VersionCut}
use Rattle.elf_model.specs.declared.causes.Refusal.{Refusal}

-- A SYMBOL IS ONE TO TAKE: by what a file says of its symbols, it has the wanted name, it is
-- exported, and its version matches
pub record IsTaken (file : List ℕ) (headers : ℕ) (wanted : SymbolQuery) (section index symbol : ℕ) : Type 0 where
  pub scope : LookupTables
  pub is_scope : lookup_tables_of file headers ≡ Ok scope
  pub named_by_record : section ≡ scope.symbols.index
  pub place : symbol ≡ symbol_offset scope.symbols index
  pub named : same scope.symbols.strings (st_name file symbol) wanted.name ≡ Ok true
  pub offered : is_exported file symbol ≡ true
  pub fitting :
      version_fits file scope.symbols.words wanted.asked
      (λ number. is_among number (version_indices file scope wanted.asked).numbers) index
      ≡ Ok true

-- a symbol that is found is one to take
abbrev pub LoaderFoundIsTaken : Type 0
LoaderFoundIsTaken =
    (file : List ℕ) (headers : ℕ) (wanted : SymbolQuery) (section index symbol : ℕ)
    → (loader_looked file headers wanted).lookup.answer ≡ Found section index symbol
    → IsTaken file headers wanted section index symbol

-- THE BOUND: a lookup reads no more than the ceiling of its file's length, for any bytes
abbrev pub LoaderCostIsWithinCeiling : Type 0
LoaderCostIsWithinCeiling =
    (file : List ℕ) (headers : ℕ) (wanted : SymbolQuery)
    → loader_cost file headers wanted ≤ loader_ceiling (length file) headers wanted

-- the records of a table of definitions or needs
abbrev pub records_in : List ℕ → VersionRecordTable → Versions
records_in file table = versions_in table.kind file table.head table.place table.size

-- ONE RULE IN TWO PLACES: the record that names a version index is the same by the records that a
-- lookup reads of definitions and then of needs, if neither walk is refused, as by those that a
-- listing visits
abbrev pub NumbersAreNamedAlike : Type 0
NumbersAreNamedAlike =
    (file : List ℕ) (number : ℕ) (definitions needs : VersionRecordTable)
    → (records_in file definitions).cut ≡ None → (records_in file needs).cut ≡ None
    → option_map (λ found. found.1) (naming_of file number (readings file (definitions ∷ needs ∷ []))).found
    ≡ named_by file number ((records_in file definitions).met ++ (records_in file needs).met)

-- and so is the first dynamic entry of a tag, by its offset as by its value
abbrev pub FirstEntriesAreAlike : Type 0
FirstEntriesAreAlike =
    (file : List ℕ) (at tag : ℕ)
    → listed_value file (p_offset file at) (p_filesz file at / DYNAMIC_SIZE) tag ≡ option_map (d_un file) (tagged_row file at tag)

-- the walk of a lookup over a table is, after this many visited records, at the record that a
-- listing visits next
abbrev pub WalksStandAtRecords : Type 0
WalksStandAtRecords =
    (file : List ℕ) (table : VersionRecordTable) (before : List VisitedRecord) (met : VisitedRecord) (others : List VisitedRecord)
    → (records_in file table).met ≡ before ++ met ∷ others
    → (stand : RecordCursorState) × (position_after file table (length before) ≡ Some stand) × (visited_at table.place stand ≡ met)

-- a walk that is refused is at what fails a check, or at one record more than there is room for;
-- one that is not is at its end
abbrev pub StandsAtItsEnd : List ℕ → VersionRecordTable → ℕ → Option Refusal → Option RecordCursorState → Type 0
StandsAtItsEnd file table count None stand = stand ≡ None
StandsAtItsEnd file table count (Some refusal) None = ⊥
StandsAtItsEnd file table count (Some refusal) (Some stand) =
    (first_refusal (record_checks file table.place table.size stand) ≡ Some refusal)
    ⊎ ((count ≡ max_records table.kind table.size) × (refusal ≡ record { at = stand.from; cause = VersionCut }))

abbrev pub WalksStandAtTheirEnd : Type 0
WalksStandAtTheirEnd =
    (file : List ℕ) (table : VersionRecordTable)
    → let walk = records_in file table in
    StandsAtItsEnd file table (length walk.met) walk.cut (position_after file table (length walk.met))

-- how the records end that a walk reads: with what is refused, after its bytes are read or before
abbrev pub EndsReadings : Option Refusal → List VersionRecordRead → Type 0
EndsReadings None last = last ≡ []
EndsReadings (Some refusal) last = (last ≡ Refuses refusal ∷ []) ⊎ (last ≡ Misses refusal ∷ [])

-- ONE RULE IN TWO PLACES: a lookup reads of each table the records that a listing visits, with the
-- strings of their table, and what is refused there; and none if there is no table
abbrev pub ReadingsAreRecords : Type 0
ReadingsAreRecords =
    (file : List ℕ)
    → (readings file [] ≡ [])
    × ((table : VersionRecordTable) (others : List VersionRecordTable)
    → (last : List VersionRecordRead)
    × EndsReadings (records_in file table).cut last
    × (readings file (table ∷ others) ≡ map (Meets table.strings) (records_in file table).met ++ (last ++ readings file others)))

-- a name that was compared is the wanted one
abbrev pub is_equal_name : Result Bool Cause → Bool
is_equal_name (Ok is_wanted) = is_wanted
is_equal_name (Err cause) = false

-- a record names the wanted version
abbrev pub names_wanted : List ℕ → (wanted strings : List ℕ) → VisitedRecord → Bool
names_wanted file wanted strings met = names_version file met && is_equal_name (same strings (name_index file met) wanted)

-- the indices of visited records that name it
abbrev pub numbers_under : List ℕ → (wanted strings : List ℕ) → List VisitedRecord → List ℕ
numbers_under file wanted strings met =
    map (λ one. number_in (number_word file one)) (filter (names_wanted file wanted strings) met)

-- ONE RULE IN TWO PLACES: comparing that is not refused gives the indices of the records under the
-- wanted name, of those that a listing visits of definitions and then of needs, and reads each of
-- these once
abbrev pub ComparedNumbersAreRecords : Type 0
ComparedNumbersAreRecords =
    (file wanted : List ℕ) (definitions needs : VersionRecordTable)
    → let compared = compared_with file wanted (readings file (definitions ∷ needs ∷ [])) in
    compared.refused ≡ None
    → (compared.numbers
    ≡ numbers_under file wanted definitions.strings (records_in file definitions).met
    ++ numbers_under file wanted needs.strings (records_in file needs).met)
    × (compared.read ≡ length (records_in file definitions).met + length (records_in file needs).met)

-- comparing is refused at a record: it is refused itself, or it names a version and the name has a
-- fault
abbrev RefusesToCompare : List ℕ → (wanted : List ℕ) → Refusal → VersionRecordRead → Type 0
RefusesToCompare file wanted refusal (Refuses other) = refusal ≡ other
RefusesToCompare file wanted refusal (Misses other) = refusal ≡ other
RefusesToCompare file wanted refusal (Meets strings met) =
    (names_version file met ≡ true)
    × ((cause : Cause) × (same strings (name_index file met) wanted ≡ Err cause) × (refusal ≡ record { at = named_at file met; cause = cause }))

-- and goes on after others
abbrev pub IsComparable : List ℕ → (wanted : List ℕ) → VersionRecordRead → Type 0
IsComparable file wanted reading = (refusal : Refusal) → RefusesToCompare file wanted refusal reading → ⊥

-- how many records are read there: one, unless there is none
abbrev pub records_read : VersionRecordRead → ℕ
records_read (Misses refusal) = 0
records_read _ = 1

-- the first of some records at which comparing is refused, after this many are read
pub record IsRefusedAt (file wanted : List ℕ) (refusal : Refusal) (all : List VersionRecordRead) (read : ℕ) : Type 0 where
  pub before : List VersionRecordRead
  pub last : VersionRecordRead
  pub others : List VersionRecordRead
  pub parts : all ≡ before ++ last ∷ others
  pub refuses : RefusesToCompare file wanted refusal last
  pub goes_on : All (IsComparable file wanted) before
  pub read_is : read ≡ length before + records_read last

-- comparing that is refused is refused at the first such record
abbrev pub ComparingEndsAtTheFirst : Type 0
ComparingEndsAtTheFirst =
    (file wanted : List ℕ) (all : List VersionRecordRead) (refusal : Refusal)
    → (compared_with file wanted all).refused ≡ Some refusal
    → IsRefusedAt file wanted refusal all (compared_with file wanted all).read
