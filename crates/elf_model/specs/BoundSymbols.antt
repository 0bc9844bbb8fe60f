-- Which object defines each symbol that the objects of a program reference: each object's symbols
-- in order, with what binds each, as a GNU loader binds them over all objects in order (gABI 5,
-- Shared Object Dependencies), and the lines of these.
use Rattle.std.specs.Prelude.{ℕ, zero, suc, ◌-◌, ◌==◌, ◌||◌, nat_lt, if◌then◌else◌, Bool, true, false, List, [], ◌∷◌, ◌++◌, length, get_or, position, Option, None, Some, Result, Ok, Err}
use Rattle.elf_model.specs.BindingLines.{binding_line, is_unbound, unbound_state}
use Rattle.elf_model.specs.Bindings.{Binding, BoundTo, BoundToNone, StoppedIn, bound_in, is_weak, reference_at, symbols_hashed, whole_name}
use Rattle.elf_model.specs.Lines.{refusal_line}
use Rattle.elf_model.specs.Loader.{Meets, Misses, VersionRecordRead, VersionRecordTable, Refuses, DynamicSymbols, SymbolQuery, asked_name, compared_with, readings, symbol_offset, versym_at}
use Rattle.elf_model.specs.LoaderScope.{LookupTables, lookup_tables_of}
use Rattle.elf_model.specs.Records.{versym}
use Rattle.elf_model.specs.Versions.{VisitedRecord, name_index, named_at, names_version_index, number_in}
use Rattle.elf_model.specs.declared.causes.Refusal.{Refusal}
use Rattle.elf_model.specs.declared.formats.Format.{Format}
use Rattle.elf_model.specs.declared.states.BindingState.{BindingState}
use Rattle.elf_model.specs.declared.states.BindingState.TheVariants as state
use Rattle.elf_model.specs.declared.versions.VersionKind.{VersionKind}
use Rattle.elf_model.specs.declared.versions.VersionKind.TheVariants.{Definition, File, Need}

-- THE OBJECTS THAT ARE SEARCHED, in order: the bytes of each one's file, its index among all
-- objects of the program, how many headers are allowed in each, and the index of the first object
-- that has a name: one that it was needed by or gives itself
pub record BoundObjects : Type 0 where
  pub files : List (List ℕ)
  pub indexes : List ℕ
  pub headers : ℕ
  pub called : List ℕ → Option ℕ

-- the index of the object at a position, and the file of the object of an index, if it is searched
abbrev pub index_at : BoundObjects → ℕ → ℕ
index_at objects place = get_or objects.indexes place 0

abbrev pub place_of : BoundObjects → ℕ → Option ℕ
place_of objects index = position (λ other. other == index) objects.indexes

-- THE NEEDED FILE of the version of an index: the last that is visited before the record of that
-- index, if records of needed files are visited before it
abbrev pub file_or : VisitedRecord → Option VisitedRecord → Option VisitedRecord
file_or met before = elim met.kind [ Definition ↦ before | File ↦ Some met | Need ↦ before ]

unfoldable pub file_before : List ℕ → (number : ℕ) → Option VisitedRecord → List VersionRecordRead → Option VisitedRecord
file_before file number before [] = None
file_before file number before (Misses refusal ∷ others) = None
file_before file number before (Refuses refusal ∷ others) = None
file_before file number before (Meets strings met ∷ others) =
    elim (names_version_index file number met) [
      | true ↦ before
      | false ↦ file_before file number (file_or met before) others
    ]

-- that of the version of a symbol, by its versym entry
unfoldable pub file_of_version : List ℕ → DynamicSymbols → ℕ → Option VisitedRecord
file_of_version file symbols y = elim symbols.words [
  | None ↦ None
  | Some words ↦
      let number = number_in (versym file (versym_at words y)) in
      if nat_lt number 2 then None else file_before file number None (readings file symbols.records)
]

-- A FILE LACKS A VERSION: it has version definitions, and none by that name. A record of theirs may
-- be refused
abbrev pub is_definition : VersionKind → Bool
is_definition kind = elim kind [ Definition ↦ true | File ↦ false | Need ↦ false ]

unfoldable pub definitions_among : List VersionRecordTable → List VersionRecordTable
definitions_among [] = []
definitions_among (table ∷ tables) =
    if is_definition table.kind then table ∷ definitions_among tables else definitions_among tables

abbrev pub is_none_of : List ℕ → Bool
is_none_of [] = true
is_none_of (number ∷ numbers) = false

unfoldable pub lacks_among : List ℕ → (version : List ℕ) → List VersionRecordTable → Result Bool Refusal
lacks_among file version [] = Ok false
lacks_among file version (table ∷ tables) =
    let compared = compared_with file version (readings file (table ∷ tables)) in
    elim compared.refused [ Some refusal ↦ Err refusal | None ↦ Ok (is_none_of compared.numbers) ]

unfoldable pub lacks_version : List ℕ → DynamicSymbols → (version : List ℕ) → Result Bool Refusal
lacks_version file symbols version = elim symbols.words [
  | None ↦ Ok false
  | Some words ↦ lacks_among file version (definitions_among symbols.records)
]

-- the same of the object of a name; it lacks none if there is no such object, or it is not
-- searched, or is refused
unfoldable pub file_lacks : (headers : ℕ) → (version : List ℕ) → List ℕ → Bool
file_lacks headers version file = elim (lookup_tables_of file headers) [
  | Err refusal ↦ false
  | Ok scope ↦ elim (lacks_version file scope.symbols version) [ Err refusal ↦ false | Ok lacks ↦ lacks ]
]

unfoldable pub object_lacks : BoundObjects → (name version : List ℕ) → Bool
object_lacks objects name version = elim (objects.called name) [
  | None ↦ false
  | Some index ↦ elim (place_of objects index) [
    | None ↦ false
    | Some place ↦
        if nat_lt place (length objects.files) then file_lacks objects.headers version (get_or objects.files place []) else false
  ]
]

-- whether the object lacks a version that a symbol requests of it; a weak symbol is not checked. A
-- fault of that object's name is at the record of the needed file
unfoldable pub missing_version_requested : BoundObjects → List ℕ → DynamicSymbols → ℕ → Option (List ℕ) → Result Bool Refusal
missing_version_requested objects file symbols y None = Ok false
missing_version_requested objects file symbols y (Some version) =
    if is_weak file (symbol_offset symbols y) then Ok false
    else elim (file_of_version file symbols y) [
      | None ↦ Ok false
      | Some met ↦ elim (whole_name symbols.strings (name_index file met) (named_at file met)) [
        | Err refusal ↦ Err refusal
        | Ok name ↦ Ok (object_lacks objects name version)
      ]
    ]

-- WHAT BINDS A SYMBOL with this reference
unfoldable pub state_by : BoundObjects → List ℕ → DynamicSymbols → ℕ → SymbolQuery → Binding → Result BindingState Refusal
state_by objects file symbols y wanted (BoundTo place symbol) = Ok (state.Bound (index_at objects place) symbol)
state_by objects file symbols y wanted (StoppedIn place refusal) = Ok (state.Refused (index_at objects place))
state_by objects file symbols y wanted BoundToNone = elim (missing_version_requested objects file symbols y (asked_name wanted.asked)) [
  | Err refusal ↦ Err refusal
  | Ok lacks ↦ Ok (unbound_state (is_weak file (symbol_offset symbols y)) lacks)
]

abbrev pub state_in : BoundObjects → List ℕ → DynamicSymbols → ℕ → SymbolQuery → Result BindingState Refusal
state_in objects file symbols y wanted =
    state_by objects file symbols y wanted (bound_in objects.headers wanted objects.files)

-- WHAT IS LISTED OF AN OBJECT: what binds a symbol of it, which has an index there, under its
-- requested name and with the requested version, if there is one; or the refusal of its own symbol,
-- name or version, with which it ends
pub data BoundItem : Type 0 where
  Told : (object symbol : ℕ) → BindingState → (name : List ℕ) → (version : Option (List ℕ)) → BoundItem
  Faulty : Refusal → BoundItem

-- of one symbol of the object at a position: nothing if it is not a reference
abbrev pub reported_as : (object symbol : ℕ) → SymbolQuery → Result BindingState Refusal → Option BoundItem
reported_as object symbol wanted (Err refusal) = Some (Faulty refusal)
reported_as object symbol wanted (Ok found) = Some (Told object symbol found wanted.name (asked_name wanted.asked))

unfoldable pub bound_item : BoundObjects → (place : ℕ) → List ℕ → DynamicSymbols → ℕ → Option BoundItem
bound_item objects place file symbols y = elim (reference_at file symbols y) [
  | Err refusal ↦ Some (Faulty refusal)
  | Ok None ↦ None
  | Ok (Some wanted) ↦ reported_as (index_at objects place) y wanted (state_in objects file symbols y wanted)
]

-- items after an item or nothing: a fault is the last
abbrev pub before_items : Option BoundItem → List BoundItem → List BoundItem
before_items None items = items
before_items (Some (Faulty refusal)) items = Faulty refusal ∷ []
before_items (Some (Told object symbol found name version)) items = Told object symbol found name version ∷ items

-- of this many symbols, starting at one
unfoldable pub items_from : BoundObjects → (place : ℕ) → List ℕ → DynamicSymbols → (first count : ℕ) → List BoundItem
items_from objects place file symbols y zero = []
items_from objects place file symbols y (suc count) =
    before_items (bound_item objects place file symbols y) (items_from objects place file symbols (suc y) count)

-- of all symbols of an object, except the first, which is none
unfoldable pub counted_items : BoundObjects → (place : ℕ) → List ℕ → LookupTables → Result ℕ Refusal → List BoundItem
counted_items objects place file scope (Err refusal) = Faulty refusal ∷ []
counted_items objects place file scope (Ok count) = items_from objects place file scope.symbols 1 (count - 1)

unfoldable pub object_items : BoundObjects → (place : ℕ) → List ℕ → List BoundItem
object_items objects place file = elim (lookup_tables_of file objects.headers) [
  | Err refusal ↦ []
  | Ok scope ↦ counted_items objects place file scope (symbols_hashed file scope)
]

-- of the objects from a position on, by their files
unfoldable pub objects_items : BoundObjects → (place : ℕ) → List (List ℕ) → List BoundItem
objects_items objects place [] = []
objects_items objects place (file ∷ files) = object_items objects place file ++ objects_items objects (suc place) files

-- THE BINDINGS OF A PROGRAM'S OBJECTS
abbrev pub bound_items : BoundObjects → List BoundItem
bound_items objects = objects_items objects 0 objects.files

-- the line of an item, and those of some
abbrev pub item_line : Format → BoundItem → List ℕ
item_line format (Told object symbol found name version) = binding_line format object symbol found name version
item_line format (Faulty refusal) = refusal_line format refusal

abbrev pub bound_text : Format → List BoundItem → List ℕ
bound_text format [] = []
bound_text format (item ∷ items) = item_line format item ++ bound_text format items

-- an item says that a symbol is missing, or that its state is not known; and one of some does, so
-- that the exit status is 1
abbrev pub is_failed : BoundItem → Bool
is_failed (Told object symbol found name version) = is_unbound found
is_failed (Faulty refusal) = true

abbrev pub any_unbound : List BoundItem → Bool
any_unbound [] = false
any_unbound (item ∷ items) = is_failed item || any_unbound items
