-- Whether a file lacks a version, by what is read of its definitions.
use Rattle.std.proofs.Common.{◌≡◌, ℕ, ◌+◌, ◌≤◌, ◌==◌, nat_lt, Bool, true, false, if◌then◌else◌, is_some, not, MatchBool, List, [], ◌∷◌, ◌++◌, length, Option, None, Some, Result, Ok, Err, refl, sym, ap, ◌∙◌, arith, mul-le-mul_right}
use Rattle.std.proofs.lemmas.Bool.Decides.{nat_tests}
use Rattle.elf_model.specs.Prelude.{CompareResult, DynamicSymbols as AreSymbolsOf, LookupTables as IsScopeOf, Version, VersionRecordTable as IsTableOf, VersymTable as AreWordsOf, compared_with, definitions_among, is_among, is_definition, is_none_of, lacks_among, lacks_version, pad64, readings, version_indices}
use Rattle.elf_model.specs.declared.causes.Refusal.{Refusal}
use Rattle.elf_table.specs.declared.fault.Fault.{Fault}
use Rattle.elf_table.specs.declared.fault.Fault.TheVariants.{Refused, Source}
use Rattle.elf_source.specs.Source.{CountedState}
use Rattle.elf_loader.specs.Prelude.{CollectsNumbers, comparing_bytes, has_number, max_records_of, max_versions_of}
use Rattle.elf_hash.specs.Prelude.{AreVersionRecordTables, AreVersymTable, IsDynamicSymbols, RefusesAs, ReturnsAs, table_if_any}
use Rattle.elf_hash.specs.declared.symbols.DynamicSymbols.{DynamicSymbols}
use Rattle.elf_hash.specs.declared.symbols.VersionRecordTable.{VersionRecordTable}
use Rattle.elf_hash.specs.declared.symbols.VersymTable.{VersymTable}
use Rattle.elf_library.specs.Prelude.{definition_if, definitions_of}

-- there is none, or one
pub none_where : {X : Type 0} (o : Option X) (none : Bool) → is_some o ≡ not none → none ≡ true → o ≡ None
none_where None none e is = refl
none_where (Some x) true e is = let no : true ≡ false = e in cc
none_where (Some x) false e is = let no : false ≡ true = is in cc

pub some_where : {X : Type 0} (o : Option X) (none : Bool) → is_some o ≡ not none → none ≡ false → o ≡ None → ⊥
some_where None true e is n = let no : true ≡ false = is in cc
some_where None false e is n = let no : false ≡ true = e in cc
some_where (Some x) none e is n = cc

-- those of some tables that are of definitions
abbrev definition_tables : List VersionRecordTable → List VersionRecordTable
definition_tables [] = []
definition_tables (table ∷ tables) = if is_definition table.kind then table ∷ definition_tables tables else definition_tables tables

-- they are not more
fewer_if : (records : Option VersionRecordTable) → max_records_of (definition_if records) ≤ max_records_of records
fewer_if None = omega arith
fewer_if (Some table) = go (is_definition table.kind) refl
  where
    go : (b : Bool) → is_definition table.kind ≡ b → max_records_of (definition_if (Some table)) ≤ max_records_of (Some table)
    go true e = rw e (omega arith)
    go false e = rw e (omega arith)

pub fewer_bytes : (version : List ℕ) (symbols : DynamicSymbols) → comparing_bytes (Version version) (max_versions_of (definitions_of symbols)) ≤ comparing_bytes (Version version) (max_versions_of symbols)
fewer_bytes version symbols =
    let first = fewer_if symbols.definitions in
    let second = fewer_if symbols.needs in
    mul-le-mul_right (28 + pad64 (length version + 1)) (omega (arith, first, second))

both_tables : (first second : Option VersionRecordTable)
    → definition_tables (table_if_any first ++ table_if_any second) ≡ table_if_any (definition_if first) ++ table_if_any (definition_if second)
both_tables None None = refl
both_tables None (Some second) = go (is_definition second.kind) refl
  where
    go : (b : Bool) → is_definition second.kind ≡ b → definition_tables (second ∷ []) ≡ table_if_any (definition_if (Some second))
    go true e = rw e refl
    go false e = rw e refl
both_tables (Some first) None = go (is_definition first.kind) refl
  where
    go : (b : Bool) → is_definition first.kind ≡ b → definition_tables (first ∷ []) ≡ table_if_any (definition_if (Some first)) ++ []
    go true e = rw e refl
    go false e = rw e refl
both_tables (Some first) (Some second) = go (is_definition first.kind) refl (is_definition second.kind) refl
  where
    go : (b : Bool) → is_definition first.kind ≡ b → (d : Bool) → is_definition second.kind ≡ d
        → definition_tables (first ∷ second ∷ []) ≡ table_if_any (definition_if (Some first)) ++ table_if_any (definition_if (Some second))
    go true e true f = rw (e, f) refl
    go true e false f = rw (e, f) refl
    go false e true f = rw (e, f) refl
    go false e false f = rw (e, f) refl

module _ (file : List ℕ) where
  among : (told : List IsTableOf) (tables : List VersionRecordTable) → AreVersionRecordTables file told tables → AreVersionRecordTables file (definitions_among told) (definition_tables tables)
  unfolding definitions_among
  among [] [] are = tt
  among [] (table ∷ tables) are = absurd are
  among (one ∷ told) [] are = absurd are
  among (one ∷ told) (table ∷ tables) are = go (is_definition one.kind) refl (ap is_definition are.0.kind) (among told tables are.1)
    where
      go : (b : Bool) → is_definition one.kind ≡ b → is_definition table.kind ≡ is_definition one.kind → AreVersionRecordTables file (definitions_among told) (definition_tables tables)
          → AreVersionRecordTables file (definitions_among (one ∷ told)) (definition_tables (table ∷ tables))
      go true e k rest = let f = k ∙ e in rw (e, definitions_among) (rw f (are.0, rest))
      go false e k rest = let f = k ∙ e in rw (e, definitions_among) (rw f rest)

  -- the symbols with these alone
  abbrev pub only_definitions : AreSymbolsOf → AreSymbolsOf
  only_definitions told =
      record {
        index = told.index;
        place = told.place;
        strings = told.strings;
        strings_at = told.strings_at;
        words = told.words;
        records = definitions_among told.records;
      }

  pub are_definitions : (told : AreSymbolsOf) (symbols : DynamicSymbols) → IsDynamicSymbols file told symbols → IsDynamicSymbols file (only_definitions told) (definitions_of symbols)
  are_definitions told symbols is = record {
    index = is.index;
    place = is.place;
    names = is.names;
    names_at = is.names_at;
    words = is.words;
    records = rw (← both_tables symbols.definitions symbols.needs) (among told.records _ is.records);
  }

  none_told : (told : List IsTableOf) → AreVersionRecordTables file told [] → told ≡ []
  none_told [] are = refl
  none_told (one ∷ told) are = absurd are

  module _ (told : AreSymbolsOf) (symbols : DynamicSymbols) (is : IsDynamicSymbols file told symbols) (version : List ℕ) where
    no_words : (words : Option AreWordsOf) → told.words ≡ words → AreVersymTable words None → lacks_version file told version ≡ Ok false
    unfolding lacks_version
    no_words None e are = rw (e, lacks_version) refl
    no_words (Some words) e are = absurd are

    pub lacks_wordless : symbols.words ≡ None → lacks_version file told version ≡ Ok false
    lacks_wordless none = no_words told.words refl (rw none at is.words)

    without : (words : Option AreWordsOf) → told.words ≡ words → definitions_among told.records ≡ [] → lacks_version file told version ≡ Ok false
    unfolding lacks_version lacks_among
    without None e none = rw (e, lacks_version) refl
    without (Some words) e none = rw (e, lacks_version) (rw none refl)

    pub lacks_none : definition_if symbols.definitions ≡ None → definition_if symbols.needs ≡ None → lacks_version file told version ≡ Ok false
    lacks_none first second =
        let are = (are_definitions told symbols is).records in
        without told.words refl (none_told (definitions_among told.records) (rw (first, second) at are))

    -- if there are any, they are compared
    abbrev compared_lacks : CompareResult → Result Bool Refusal
    compared_lacks compared = elim compared.refused [ Some refusal ↦ Err refusal | None ↦ Ok (is_none_of compared.numbers) ]

    among_some : (table : IsTableOf) (tables : List IsTableOf) → lacks_among file version (table ∷ tables) ≡ compared_lacks (compared_with file version (readings file (table ∷ tables)))
    unfolding lacks_among
    among_some table tables = refl

    worded : (words : AreWordsOf) → told.words ≡ Some words → lacks_version file told version ≡ lacks_among file version (definitions_among told.records)
    unfolding lacks_version
    worded words e = rw (e, lacks_version) refl

    some_told : (records : List IsTableOf) (first second : Option VersionRecordTable) → AreVersionRecordTables file records (table_if_any first ++ table_if_any second) → ((first ≡ None) × (second ≡ None) → ⊥)
        → lacks_among file version records ≡ compared_lacks (compared_with file version (readings file records))
    some_told [] None None are some = absurd (some (refl, refl))
    some_told [] (Some first) second are some = absurd are
    some_told [] None (Some second) are some = absurd are
    some_told (table ∷ tables) first second are some = among_some table tables

    lacks_worded : (words : Option AreWordsOf) → told.words ≡ words → AreVersymTable words symbols.words → (symbols.words ≡ None → ⊥)
        → ((definition_if symbols.definitions ≡ None) × (definition_if symbols.needs ≡ None) → ⊥)
        → lacks_version file told version ≡ compared_lacks (compared_with file version (readings file (definitions_among told.records)))
    lacks_worded (Some words) e are wide some =
        worded words e ∙ some_told (definitions_among told.records) (definition_if symbols.definitions) (definition_if symbols.needs) (are_definitions told symbols is).records some
    lacks_worded None e are wide some = go symbols.words refl are
      where
        go : (words : Option VersymTable) → symbols.words ≡ words → AreVersymTable None words → lacks_version file told version ≡ compared_lacks (compared_with file version (readings file (definitions_among told.records)))
        go None e are = absurd (wide e)
        go (Some words) e are = absurd are

    pub lacks_as : (symbols.words ≡ None → ⊥) → ((definition_if symbols.definitions ≡ None) × (definition_if symbols.needs ≡ None) → ⊥)
        → lacks_version file told version ≡ compared_lacks (compared_with file version (readings file (definitions_among told.records)))
    lacks_as wide some = lacks_worded told.words refl is.words wide some

  -- an index is among some, and none is among none
  first_among : (number : ℕ) (numbers : List ℕ) → is_among number (number ∷ numbers) ≡ true
  first_among number numbers = let same : (number == number) ≡ true = grind (arith, nat_tests) in
      let less : nat_lt 0 (length (number ∷ numbers)) ≡ true = grind (arith, nat_tests) in rw same (rw less refl)

  emptied : (all numbers : List ℕ) → ((number : ℕ) → has_number numbers number ≡ is_among number all) → (empty : Bool)
      → MatchBool empty ((number : ℕ) → has_number numbers number ≡ false) ((number : ℕ) × (has_number numbers number ≡ true)) → is_none_of all ≡ empty
  emptied [] numbers same true none = refl
  emptied [] numbers same false some = let e = same some.0 in let h = some.1 in cc
  emptied (number ∷ all) numbers same false some = refl
  emptied (number ∷ all) numbers same true none =
      let e = same number in let h = none number in let f = first_among number all in cc

  -- what was collected of the definitions
  module _ (told : IsScopeOf) (version : List ℕ) where
    abbrev pub definitions_alone : IsScopeOf
    definitions_alone = record { kind = told.kind; head = told.head; table = told.table; symbols = only_definitions told.symbols }

    compared_of : (words : Option AreWordsOf) → told.symbols.words ≡ words → (words ≡ None → ⊥)
        → version_indices file definitions_alone (Version version) ≡ compared_with file version (readings file (definitions_among told.symbols.records))
    unfolding version_indices
    compared_of None e wide = absurd (wide refl)
    compared_of (Some words) e wide = rw (e, version_indices) refl

    words_told : (of : Option AreWordsOf) (words : Option VersymTable) → AreVersymTable of words → (words ≡ None → ⊥) → of ≡ None → ⊥
    words_told None None are wide e = wide refl
    words_told (Some of) words are wide e = cc
    words_told None (Some words) are wide e = are

    module _ (symbols : DynamicSymbols) (is : IsDynamicSymbols file told.symbols symbols) (wide : symbols.words ≡ None → ⊥) (some : (definition_if symbols.definitions ≡ None) × (definition_if symbols.needs ≡ None) → ⊥) where
      whole : lacks_version file told.symbols version ≡ compared_lacks told.symbols symbols is version (version_indices file definitions_alone (Version version))
      whole =
          lacks_as told.symbols symbols is version wide some
          ∙ ap (compared_lacks told.symbols symbols is version) (sym (compared_of told.symbols.words refl (words_told told.symbols.words symbols.words is.words wide)))

      pub tells_empty : (a b : CountedState) (each : ℕ) (numbers : List ℕ) (empty : Bool) → CollectsNumbers a b each (version_indices file definitions_alone (Version version)) (Ok numbers)
          → MatchBool empty ((number : ℕ) → has_number numbers number ≡ false) ((number : ℕ) × (has_number numbers number ≡ true)) → ReturnsAs (lacks_version file told.symbols version) (Ok empty)
      tells_empty a b each numbers empty collects is_empty =
          let none = collects.1 in
          let e = emptied (version_indices file definitions_alone (Version version)).numbers numbers collects.2 empty is_empty in
          whole ∙ rw (none, e) refl

      pub tells_fault : (a b : CountedState) (each : ℕ) (fault : Fault) → CollectsNumbers a b each (version_indices file definitions_alone (Version version)) (Err fault)
          → RefusesAs (lacks_version file told.symbols version) fault
      tells_fault a b each (Refused refusal) collects = λ unless. let e = collects.1 unless in whole ∙ rw e refl
      tells_fault a b each (Source fault at) collects = tt
