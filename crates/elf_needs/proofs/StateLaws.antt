-- What binds a symbol, by the lookup over the objects and the object of its version's file.
use Rattle.std.proofs.Common.{◌≡◌, ℕ, ◌<◌, ◌≤◌, nat_lt, Bool, true, false, List, [], length, get_or, Option, None, Some, Result, Ok, Err, refl, sym, ◌∙◌, arith}
use Rattle.std.proofs.lemmas.Bool.Decides.{nat_tests}
use Rattle.elf_model.specs.BindingLines.{unbound_state}
use Rattle.elf_model.specs.Bindings.{BoundTo, BoundToNone, bound_in, is_weak, reference_at, whole_name}
use Rattle.elf_model.specs.BoundSymbols.{BoundObjects, Told, bound_item, file_lacks, file_of_version, lacks_version, missing_version_requested, object_lacks, place_of, state_by, state_in}
use Rattle.elf_model.specs.Loader.{DynamicSymbols, SymbolQuery, VersionQuery, asked_name, symbol_offset}
use Rattle.elf_model.specs.LoaderScope.{LookupTables, lookup_tables_of}
use Rattle.elf_model.specs.Versions.{VisitedRecord, name_index, named_at}
use Rattle.elf_model.specs.declared.states.BindingState.{BindingState}
use Rattle.elf_model.specs.declared.causes.Refusal.{Refusal}
use Rattle.elf_model.specs.declared.states.BindingState.TheVariants as state
use Rattle.elf_table.specs.declared.fault.Fault.{Fault}
use Rattle.elf_table.specs.declared.fault.Fault.TheVariants.{Refused, Source}
use Rattle.elf_hash.specs.Prelude.{RefusesAs, ReturnsAs}
use Rattle.elf_library.specs.Prelude.{IsReportedAlone, ReturnsSought, ReturnsWhole, asked_if}
use Rattle.elf_needs.specs.Prelude.{ReturnsBinding, ReturnsItem}
use Rattle.elf_needs.specs.declared.bind_name.BindFault.{BindFault}
use Rattle.elf_loader.specs.Naming.{IsFileIf}
use Rattle.elf_note.specs.declared.record.VersionRecord.{VersionRecord}

pub wanted_is : (wanted : SymbolQuery) (name : List ℕ) (asked : VersionQuery) → wanted.name ≡ name → wanted.asked ≡ asked → wanted ≡ record { name = name; asked = asked }
wanted_is wanted name asked n a = rw (← n, ← a) refl

module _ (objects : BoundObjects) (file : List ℕ) (symbols : DynamicSymbols) (y : ℕ) (wanted : SymbolQuery) where
  pub state_bound : (place symbol : ℕ) → bound_in objects.headers wanted objects.files ≡ BoundTo place symbol
      → state_in objects file symbols y wanted ≡ Ok (state.Bound (get_or objects.indexes place 0) symbol)
  unfolding state_by
  state_bound place symbol e = rw (e, state_by) refl

  pub state_refused : (blame : BindFault) → (IsReportedAlone blame.fault → ⊥) → ReturnsBinding (bound_in objects.headers wanted objects.files) (Err blame)
      → state_in objects file symbols y wanted ≡ Ok (state.Refused (get_or objects.indexes blame.object 0))
  unfolding state_by
  state_refused blame alone tells = go blame.fault refl alone tells
    where
      go : (fault : Fault) → blame.fault ≡ fault → (IsReportedAlone fault → ⊥) → ReturnsBinding (bound_in objects.headers wanted objects.files) (Err (record { object = blame.object; fault = fault }))
          → state_in objects file symbols y wanted ≡ Ok (state.Refused (get_or objects.indexes blame.object 0))
      go (Refused refusal) is alone tells = let e = tells alone in rw (e, state_by) refl
      go (Source fault at) is alone tells = absurd (alone tt)

  pub state_none : (lacks : Bool) → bound_in objects.headers wanted objects.files ≡ BoundToNone → missing_version_requested objects file symbols y (asked_name wanted.asked) ≡ Ok lacks
      → state_in objects file symbols y wanted ≡ Ok (unbound_state (is_weak file (symbol_offset symbols y)) lacks)
  unfolding state_by
  state_none lacks e l = rw (e, state_by) (rw l refl)

  pub state_fault : (fault : Fault) → bound_in objects.headers wanted objects.files ≡ BoundToNone → RefusesAs (missing_version_requested objects file symbols y (asked_name wanted.asked)) fault
      → RefusesAs (state_in objects file symbols y wanted) fault
  unfolding state_by
  state_fault (Refused refusal) e l = λ unless. let r = l unless in rw (e, state_by) (rw r refl)
  state_fault (Source fault at) e l = tt

-- a fault that is reported alone is no result
pub alone_refuses : {X : Type 0} (told : Result X Refusal) (fault : Fault) → IsReportedAlone fault → RefusesAs told fault
alone_refuses told (Refused refusal) alone = λ unless. absurd (unless alone)
alone_refuses told (Source fault at) alone = tt

same_name : (strings : List ℕ) (i j x y : ℕ) → i ≡ x → j ≡ y → whole_name strings i j ≡ whole_name strings x y
same_name strings i j x y e f = rw (e, f) refl

-- WHETHER THE OBJECT of a version's file lacks it
module _ (objects : BoundObjects) (file : List ℕ) (symbols : DynamicSymbols) (y : ℕ) where
  pub lacks_unversioned : (version : List ℕ) (versioned : Bool) → versioned ≡ false → missing_version_requested objects file symbols y (asked_name (asked_if versioned version)) ≡ Ok false
  unfolding missing_version_requested
  lacks_unversioned version versioned e = rw (e, missing_version_requested) refl

  pub lacks_weak : (version : List ℕ) (versioned weak : Bool) → versioned ≡ true → weak ≡ is_weak file (symbol_offset symbols y) → weak ≡ true
      → missing_version_requested objects file symbols y (asked_name (asked_if versioned version)) ≡ Ok false
  unfolding missing_version_requested
  lacks_weak version versioned weak v w e = let is : is_weak file (symbol_offset symbols y) ≡ true = sym w ∙ e in rw (v, missing_version_requested) (rw is refl)

  module _ (version : List ℕ) (versioned weak : Bool) (v : versioned ≡ true) (w : weak ≡ is_weak file (symbol_offset symbols y)) (e : weak ≡ false) where
    strong : is_weak file (symbol_offset symbols y) ≡ false
    strong = sym w ∙ e

    fileless : (of : Option VisitedRecord) → file_of_version file symbols y ≡ of → IsFileIf file of None → missing_version_requested objects file symbols y (asked_name (asked_if versioned version)) ≡ Ok false
    unfolding missing_version_requested
    fileless None f is = let s = strong in rw (v, missing_version_requested) (rw s (rw f refl))
    fileless (Some met) f is = absurd is

    pub lacks_fileless : (given : Option VersionRecord) → IsFileIf file (file_of_version file symbols y) given → given ≡ None → missing_version_requested objects file symbols y (asked_name (asked_if versioned version)) ≡ Ok false
    lacks_fileless given is none = fileless (file_of_version file symbols y) refl (rw none at is)

    named : (of : Option VisitedRecord) (given : VersionRecord) → file_of_version file symbols y ≡ of → IsFileIf file of (Some given)
        → (met : VisitedRecord) × (file_of_version file symbols y ≡ Some met) × (given.name ≡ name_index file met) × (given.named_at ≡ named_at file met)
    named None given f is = absurd is
    named (Some met) given f is = (met, f, is.name, is.named_at)

    module _ (given : VersionRecord) (maybe : Option VersionRecord) (is : IsFileIf file (file_of_version file symbols y) maybe) (some : maybe ≡ Some given) where
      of_it : (met : VisitedRecord) × (file_of_version file symbols y ≡ Some met) × (given.name ≡ name_index file met) × (given.named_at ≡ named_at file met)
      of_it = named (file_of_version file symbols y) given refl (rw some at is)

      named_as : whole_name symbols.strings given.name given.named_at ≡ whole_name symbols.strings (name_index file of_it.0) (named_at file of_it.0)
      named_as = same_name symbols.strings _ _ _ _ of_it.2 of_it.3

      pub lacks_unnamed : (name : List ℕ) (fault : Fault) → ReturnsWhole (whole_name symbols.strings given.name given.named_at) name (Err fault)
          → RefusesAs (missing_version_requested objects file symbols y (asked_name (asked_if versioned version))) fault
      unfolding missing_version_requested
      lacks_unnamed name (Refused refusal) tells = λ unless.
          let s = strong in
          let f = of_it.1 in
          let r : whole_name symbols.strings (name_index file of_it.0) (named_at file of_it.0) ≡ Err refusal = sym named_as ∙ tells unless in
          rw (v, missing_version_requested) (rw s (rw f (rw r refl)))
      lacks_unnamed name (Source fault at) tells = tt

      pub lacks_named : (name : List ℕ) → whole_name symbols.strings given.name given.named_at ≡ Ok name
          → missing_version_requested objects file symbols y (asked_name (asked_if versioned version)) ≡ Ok (object_lacks objects name version)
      unfolding missing_version_requested
      lacks_named name tells =
          let s = strong in
          let f = of_it.1 in
          let r : whole_name symbols.strings (name_index file of_it.0) (named_at file of_it.0) ≡ Ok name = sym named_as ∙ tells in
          rw (v, missing_version_requested) (rw s (rw f (rw r refl)))

-- WHETHER AN OBJECT lacks a version
module _ (objects : BoundObjects) (name version : List ℕ) where
  pub not_called : objects.called name ≡ None → object_lacks objects name version ≡ false
  unfolding object_lacks
  not_called e = rw (e, object_lacks) refl

  module _ (index : ℕ) (called : objects.called name ≡ Some index) where
    pub not_placed : place_of objects index ≡ None → object_lacks objects name version ≡ false
    unfolding object_lacks
    not_placed e = rw (called, object_lacks) (rw e refl)

    module _ (place : ℕ) (placed : place_of objects index ≡ Some place) where
      pub not_there : length objects.files ≤ place → object_lacks objects name version ≡ false
      unfolding object_lacks
      not_there past = let out : nat_lt place (length objects.files) ≡ false = grind (arith, nat_tests) in rw (called, object_lacks) (rw placed (rw out refl))

      there : place < length objects.files → object_lacks objects name version ≡ file_lacks objects.headers version (get_or objects.files place [])
      unfolding object_lacks
      there low = let in_it : nat_lt place (length objects.files) ≡ true = grind (arith, nat_tests) in rw (called, object_lacks) (rw placed (rw in_it refl))

      lacks_by : (scope : LookupTables) → lookup_tables_of (get_or objects.files place []) objects.headers ≡ Ok scope
          → (lacks : Bool) → lacks_version (get_or objects.files place []) scope.symbols version ≡ Ok lacks → file_lacks objects.headers version (get_or objects.files place []) ≡ lacks
      unfolding file_lacks
      lacks_by scope found lacks e = rw (found, file_lacks) (rw e refl)

      refused_by : (scope : LookupTables) → lookup_tables_of (get_or objects.files place []) objects.headers ≡ Ok scope
          → (refusal : Refusal) → lacks_version (get_or objects.files place []) scope.symbols version ≡ Err refusal → file_lacks objects.headers version (get_or objects.files place []) ≡ false
      unfolding file_lacks
      refused_by scope found refusal e = rw (found, file_lacks) (rw e refl)

      module _ (low : place < length objects.files) (scope : LookupTables) (found : lookup_tables_of (get_or objects.files place []) objects.headers ≡ Ok scope) where
        pub lacks_it : (lacks : Bool) → ReturnsAs (lacks_version (get_or objects.files place []) scope.symbols version) (Ok lacks) → object_lacks objects name version ≡ lacks
        lacks_it lacks tells = there low ∙ lacks_by scope found lacks tells

        pub lacks_refused : (fault : Fault) → (IsReportedAlone fault → ⊥) → ReturnsAs (lacks_version (get_or objects.files place []) scope.symbols version) (Err fault) → object_lacks objects name version ≡ false
        lacks_refused (Refused refusal) alone tells = there low ∙ refused_by scope found refusal (tells alone)
        lacks_refused (Source fault at) alone tells = absurd (alone tt)

-- WHAT IS FOUND FOR A SYMBOL
module _ (objects : BoundObjects) (place : ℕ) (file : List ℕ) (symbols : DynamicSymbols) (y : ℕ) where
  pub item_fault : (weak : Bool) (name version shown : List ℕ) (under : Option (List ℕ)) (object : ℕ) (fault : Fault) → ReturnsSought (reference_at file symbols y) weak name version (Err fault)
      → ReturnsItem (bound_item objects place file symbols y) object y shown under (Err fault)
  unfolding bound_item
  item_fault weak name version shown under object (Refused refusal) tells = λ unless. let e = tells unless in rw (e, bound_item) refl
  item_fault weak name version shown under object (Source fault at) tells = tt

  pub item_none : reference_at file symbols y ≡ Ok None → bound_item objects place file symbols y ≡ None
  unfolding bound_item
  item_none e = rw (e, bound_item) refl

  module _ (name version : List ℕ) (versioned : Bool) (sought : reference_at file symbols y ≡ Ok (Some (record { name = name; asked = asked_if versioned version }))) where
    pub item_state : (found : BindingState) → state_in objects file symbols y (record { name = name; asked = asked_if versioned version }) ≡ Ok found
        → bound_item objects place file symbols y ≡ Some (Told (get_or objects.indexes place 0) y found name (asked_name (asked_if versioned version)))
    unfolding bound_item
    item_state found e = rw (sought, bound_item) (rw e refl)

    pub item_stopped : (shown : List ℕ) (under : Option (List ℕ)) (object : ℕ) (fault : Fault) → RefusesAs (state_in objects file symbols y (record { name = name; asked = asked_if versioned version })) fault
        → ReturnsItem (bound_item objects place file symbols y) object y shown under (Err fault)
    unfolding bound_item
    item_stopped shown under object (Refused refusal) tells = λ unless. let e = tells unless in rw (sought, bound_item) (rw e refl)
    item_stopped shown under object (Source fault at) tells = tt
