-- The effect of binding the symbols of a program's objects, over files that are kept open.
use Rattle.std.specs.Prelude.{ℕ, ◌≡◌, ◌+◌, ◌<◌, ◌≤◌, List, [], ◌++◌, length, get_or, Option, None, Some, Result, Ok, Err}
use Rattle.elf_model.specs.Prelude.{BoundItem, BoundObjects, Faulty, IsBudgetRefusal, LookupTables as IsScopeOf, Told, any_unbound, before_items, file_of_version, is_weak, lookup_tables_of, symbol_offset}
use Rattle.elf_model.specs.declared.states.BindingState.{BindingState}
use Rattle.elf_source.specs.Source.{counted}
use Rattle.elf_model.specs.declared.causes.Refusal.{Refusal}
use Rattle.elf_source.specs.Output.{OutState}
use Rattle.elf_table.specs.declared.fault.Fault.{Fault}
use Rattle.elf_table.specs.declared.fault.Fault.TheVariants.{Refused, Source}
use Rattle.elf_needs.specs.Binds.{AreObjectFiles, asked_of_all}
use Rattle.elf_library.specs.Prelude.{LookupObjectState, SpendsBudget}
use Rattle.elf_needs.specs.ItemLines.{ItemLines, WritesLines, status_after}
use Rattle.elf_needs.specs.ListedLines.{listed_text}
use Rattle.elf_needs.specs.declared.line_options.LineOptions.{LineOptions}
use Rattle.elf_library.specs.declared.reference.SymbolReference.{SymbolReference}
use Rattle.elf_loader.specs.Naming.{IsFileIf}
use Rattle.elf_needs.specs.Called.{called_by}
use Rattle.elf_needs.specs.declared.search_scope.SearchScope.{SearchScope}
use Rattle.elf_needs.specs.declared.search_scope.WriteEnd.{WriteEnd}
use Rattle.elf_needs.specs.declared.search_scope.WriteEnd.TheVariants.{Cut, Ended, Whole}
use Rattle.elf_needs.specs.declared.known_object.ObjectList.{ObjectList}
use Rattle.elf_library.specs.declared.needs_fault.NeedsFault.{NeedsFault}

-- the objects whose files these are, with a given number of headers allowed in each, their indices
-- among all objects, and all objects
abbrev pub bound_of : (headers : ℕ) → (files : List (List ℕ)) → (indexes : List ℕ) → ObjectList → BoundObjects
bound_of headers files indexes known = record { files = files; indexes = indexes; headers = headers; called = called_by known }

abbrev pub bound_among : (headers : ℕ) → List (List ℕ) → SearchScope → BoundObjects
bound_among headers files scope = bound_of headers files scope.indexes.now scope.known.now

-- an object is unchanged, except how many bytes were requested from it; and each of some
pub record SameObject (old new : LookupObjectState) : Type 0 where
  pub same_size : new.src.seen.size ≡ old.src.seen.size
  pub same_file : new.src.seen.file ≡ old.src.seen.file
  pub same_headers : new.headers ≡ old.headers
  pub grows : old.src.asked ≤ new.src.asked

pub record SameObjects (old new : List LookupObjectState) : Type 0 where
  pub same_length : length new ≡ length old
  pub each : (k : ℕ) (d : LookupObjectState) → k < length old → SameObject (get_or old k d) (get_or new k d)

-- WHAT WAS REQUESTED FROM OBJECTS, for any sources: what is left of the budget decreases by what
-- was requested from all of them
pub record AsksAll (old new : List LookupObjectState) (left_old left_new : Option ℕ) : Type 0 where
  pub objects : SameObjects old new
  pub pays : SpendsBudget left_old left_new (asked_of_all old) (asked_of_all new)

-- a budget is exhausted at an offset of a file: what is left of it, counted from what was requested
-- from the file, is fewer than 4,096 bytes
pub record UsesUp (object : LookupObjectState) (left : Option ℕ) (refusal : Refusal) : Type 0 where
  pub inside : refusal.at < object.src.seen.size
  pub bytes : ℕ
  pub is_left : left ≡ Some bytes
  pub few : counted object.src.asked bytes < object.src.asked + 4096

-- it is, at an offset of the file of one of the objects
abbrev pub IsBudgetShort : List LookupObjectState → Option ℕ → Refusal → Type 0
IsBudgetShort objects left refusal = (k : ℕ) × ((d : LookupObjectState) → UsesUp (get_or objects k d) left refusal)

-- a fault is for lack of budget only if that is short
abbrev pub OnlyShort : List LookupObjectState → Option ℕ → Fault → Type 0
OnlyShort objects left (Refused refusal) = IsBudgetRefusal refusal → IsBudgetShort objects left refusal
OnlyShort objects left (Source fault at) = Unit {0}

-- what is found over known files for a symbol of the object at a position, of which this was read
abbrev pub OfSought : List LookupObjectState → (place symbol : ℕ) → SymbolReference → (ℕ → List (List ℕ) → IsScopeOf → Type 0) → Type 0
OfSought objects place symbol sought tells =
    (headers : ℕ) (files : List (List ℕ)) (told : IsScopeOf) → AreObjectFiles headers objects files → lookup_tables_of (get_or files place []) headers ≡ Ok told
    → 0 < told.table.symbols → sought.weak ≡ is_weak (get_or files place []) (symbol_offset told.symbols symbol)
    → IsFileIf (get_or files place []) (file_of_version (get_or files place []) told.symbols symbol) sought.file → tells headers files told

-- what is found for a symbol of an object, under a name and with a version
abbrev pub ReturnsItem : Option BoundItem → (object symbol : ℕ) → (name : List ℕ) → (version : Option (List ℕ)) → Result (Option BindingState) Fault → Type 0
ReturnsItem told object symbol name version (Ok None) = told ≡ None
ReturnsItem told object symbol name version (Ok (Some found)) = told ≡ Some (Told object symbol found name version)
ReturnsItem told object symbol name version (Err (Refused refusal)) = (IsBudgetRefusal refusal → ⊥) → told ≡ Some (Faulty refusal)
ReturnsItem told object symbol name version (Err (Source fault at)) = Unit {0}

-- how the lines of symbols are written
abbrev pub bound_lines : LineOptions → ItemLines BoundItem
bound_lines lines = record { format = lines.format; text = listed_text lines; fails = any_unbound }

-- how the items of an object go on after those of one symbol: a fault is the last
abbrev pub LeadsItems : Option BoundItem → Result WriteEnd NeedsFault → Type 0
LeadsItems item (Ok (Whole fails)) = (rest : List BoundItem) → before_items item rest ≡ before_items item [] ++ rest
LeadsItems item (Ok Ended) = (rest : List BoundItem) → before_items item rest ≡ before_items item []
LeadsItems item (Ok Cut) = Unit {0}
LeadsItems item (Err fault) = Unit {0}

-- THE EFFECT OF WRITING THE LINE OF A SYMBOL
pub record WritesSymbol (lines : LineOptions) (item : Option BoundItem) (short : Refusal → Type 0) (old new : OutState) (result : Result WriteEnd NeedsFault) : Type 0 where
  pub writes : WritesLines (bound_lines lines) (before_items item []) short old new result
  pub leads : LeadsItems item result

-- THE EFFECT OF WRITING THE BINDINGS OF ALL OBJECTS
abbrev pub WritesBindings : LineOptions → List BoundItem → (short : Refusal → Type 0) → OutState → OutState → (status : ℕ) → Result ℕ NeedsFault → Type 0
WritesBindings lines all short old new before (Ok status) =
    (end : WriteEnd) × WritesLines (bound_lines lines) all short old new (Ok end) × (status ≡ status_after end before)
WritesBindings lines all short old new before (Err fault) = WritesLines (bound_lines lines) all short old new (Err fault)
