-- What a symbol references, by what is read of it.
use Rattle.std.proofs.Common.{◌≡◌, ℕ, ◌<◌, ◌≤◌, ◌%◌, ◌^◌, nat_lt, ◌==◌, length, Bool, true, false, List, [], ◌∷◌, Option, None, Some, Ok, Err, refl, sym, subst, ◌∙◌, arith}
use Rattle.std.proofs.lemmas.Bool.Decides.{nat_tests}
use Rattle.elf_model.specs.Prelude.{Cut as ShownCut, DynamicSymbols as AreSymbolsOf, LookupTables as IsScopeOf, NoVersion, NumberNameSource, SOUGHT_BYTES, Version, VersymTable as AreWordsOf, VisitedRecord, field, file_before, file_of_version, first_refusal, is_reference, name_index, named_at, naming_of, number_in, readings, reference_at, reference_by_index, reference_version, shown, st_name, symbol_offset, versym, versym_at, whole_name}
use Rattle.elf_model.specs.declared.causes.Refusal.{Refusal}
use Rattle.elf_model.specs.declared.causes.Cause.TheVariants.{TooLong, VersionCut, VersionIndex}
use Rattle.elf_table.specs.Prelude.{Refuses as RefusesName, row_at, strings_in}
use Rattle.elf_table.specs.declared.fault.Fault.{Fault}
use Rattle.elf_hash.specs.Prelude.{AreVersymTable, IsDynamicSymbols, RefusesAs}
use Rattle.elf_hash.specs.declared.symbols.DynamicSymbols.{DynamicSymbols}
use Rattle.elf_hash.specs.declared.symbols.VersymTable.{VersymTable}
use Rattle.elf_model.specs.Names.DisplayedName.{Whole as ShownWhole}
use Rattle.elf_source.specs.Source.{CountedState}
use Rattle.elf_record.specs.Prelude.{IsSym}
use Rattle.elf_record.specs.declared.sym.Sym.{Sym}
use Rattle.elf_table.specs.declared.fault.Fault.TheVariants.{Refused, Source}
use Rattle.elf_loader.specs.Prelude.{NamesBefore}
use Rattle.elf_loader.specs.declared.version_name_record.VersionNameRecord.{VersionNameRecord}
use Rattle.elf_library.specs.Sought.{ReturnsSought, ReturnsWhole, asked_if}

-- A WHOLE NAME
module _ (strings : List ℕ) (index at : ℕ) where
  pub whole_is : (name : List ℕ) → shown strings index SOUGHT_BYTES ≡ Ok (ShownWhole name) → whole_name strings index at ≡ Ok name
  unfolding whole_name
  whole_is name e = rw (e, whole_name) refl

  pub whole_cut : (front : List ℕ) → shown strings index SOUGHT_BYTES ≡ Ok (ShownCut front) → whole_name strings index at ≡ Err (record { at = at; cause = TooLong })
  unfolding whole_name
  whole_cut front e = rw (e, whole_name) refl

  pub whole_fault : (fault : Fault) → RefusesName at fault (shown strings index SOUGHT_BYTES) → RefusesAs (whole_name strings index at) fault
  unfolding whole_name
  whole_fault (Refused refusal) tells = λ unless.
      let t = tells unless in
      let e = t.1 in
      let here = t.0 in
      rw (e, ← here, whole_name) refl
  whole_fault (Source fault offset) tells = tt

-- THE VERSION WITH AN INDEX
module _ (file : List ℕ) (told : AreSymbolsOf) (number at : ℕ) where
  abbrev naming : NumberNameSource
  naming = naming_of file number (readings file told.records)

  found_by : (strings : List ℕ) (met : VisitedRecord) (name : List ℕ) → naming.found ≡ Some (strings, met) → whole_name strings (name_index file met) (named_at file met) ≡ Ok name
      → reference_by_index file told.records number at ≡ Ok (Version name)
  unfolding reference_by_index
  found_by strings met name found e = rw (found, reference_by_index) (rw e refl)

  fault_by : (strings : List ℕ) (met : VisitedRecord) (refusal : Refusal) → naming.found ≡ Some (strings, met) → whole_name strings (name_index file met) (named_at file met) ≡ Err refusal
      → reference_by_index file told.records number at ≡ Err refusal
  unfolding reference_by_index
  fault_by strings met refusal found e = rw (found, reference_by_index) (rw e refl)

  pub none_by : {a b : CountedState} (left : NumberNameSource) → left ≡ record { found = None; refused = None; read = 0 } → NamesBefore file a b naming left (Ok None)
      → reference_by_index file told.records number at ≡ Err (record { at = at; cause = VersionIndex })
  unfolding reference_by_index
  none_by left nothing p =
      let n = rw nothing at p.2 in
      let found = n.found in
      let none = n.refused in
      rw (found, none, reference_by_index) refl

  pub unnamed_by : (a b : CountedState) (left : NumberNameSource) (fault : Fault) → NamesBefore file a b naming left (Err fault) → RefusesAs (reference_by_index file told.records number at) fault
  unfolding reference_by_index
  unnamed_by a b left (Refused refusal) p = λ unless.
      let r = p.1 unless in
      let found = r.0 in
      let is = r.1 in
      rw (found, is, reference_by_index) refl
  unnamed_by a b left (Source fault offset) p = tt

  pub spelt_by : (a b : CountedState) (left : NumberNameSource) (by : VersionNameRecord) (version : List ℕ) → NamesBefore file a b naming left (Ok (Some by))
      → whole_name (strings_in file by.names) by.«record».name by.«record».named_at ≡ Ok version → reference_by_index file told.records number at ≡ Ok (Version version)
  spelt_by a b left by version p tells =
      let is = p.2 in
      let name = is.name in
      let place = is.named_at in
      found_by (strings_in file by.names) p.0 version p.1 (rw (name, place) at tells)

  pub unspelt_by : (a b : CountedState) (left : NumberNameSource) (by : VersionNameRecord) (version : List ℕ) (fault : Fault) → NamesBefore file a b naming left (Ok (Some by))
      → ReturnsWhole (whole_name (strings_in file by.names) by.«record».name by.«record».named_at) version (Err fault) → RefusesAs (reference_by_index file told.records number at) fault
  unspelt_by a b left by version (Refused refusal) p tells = λ unless.
      let is = p.2 in
      let name = is.name in
      let place = is.named_at in
      fault_by (strings_in file by.names) p.0 refusal p.1 (rw (name, place) at (tells unless))
  unspelt_by a b left by version (Source fault offset) p tells = tt

-- WHETHER A SYMBOL NEEDS A VERSION
module _ (file : List ℕ) (told : AreSymbolsOf) (symbols : DynamicSymbols) (y : ℕ) (is : IsDynamicSymbols file told symbols) where
  no_words : (words : Option AreWordsOf) → told.words ≡ words → AreVersymTable words None → reference_version file told y ≡ Ok NoVersion
  unfolding reference_version
  no_words None e are = rw (e, reference_version) refl
  no_words (Some words) e are = absurd are

  pub wordless : symbols.words ≡ None → reference_version file told y ≡ Ok NoVersion
  wordless none = no_words told.words refl (rw none at is.words)

  module _ (words : VersymTable) (some : symbols.words ≡ Some words) where
    cut_at : (of : Option AreWordsOf) → told.words ≡ of → AreVersymTable of (Some words) → words.words.count ≤ y → reference_version file told y ≡ Err (record { at = words.head; cause = VersionCut })
    unfolding reference_version
    cut_at None e are past = absurd are
    cut_at (Some of) e are past =
        let head = are.head in
        let out : nat_lt y of.count ≡ false = let count = are.count in grind (arith, nat_tests) in
        rw (e, reference_version) (rw (out, head) refl)

    pub cut : words.words.count ≤ y → reference_version file told y ≡ Err (record { at = words.head; cause = VersionCut })
    cut past = cut_at told.words refl (rw some at is.words) past

    module _ (word : ℕ) (entry : words.words.entry ≡ 2) (low : y < words.words.count) (read : word ≡ field file (row_at words.words y) 2) where
      plain_at : (of : Option AreWordsOf) → told.words ≡ of → AreVersymTable of (Some words) → word % 2 ^ 15 < 2 → reference_version file told y ≡ Ok NoVersion
      unfolding reference_version
      plain_at None e are few = absurd are
      plain_at (Some of) e are few =
          let within : nat_lt y of.count ≡ true = let count = are.count in grind (arith, nat_tests) in
          let place : row_at words.words y ≡ versym_at of y = rw (entry, are.place) (omega arith) in
          let is_word : word ≡ versym file (versym_at of y) = subst (λ (p : ℕ). word ≡ field file p 2) place read in
          let small : nat_lt (number_in (versym file (versym_at of y))) 2 ≡ true = rw (← is_word) (grind (arith, nat_tests)) in
          rw (e, reference_version) (rw (within, small) refl)

      pub plain : word % 2 ^ 15 < 2 → reference_version file told y ≡ Ok NoVersion
      plain few = plain_at told.words refl (rw some at is.words) few

      numbered_at : (of : Option AreWordsOf) → told.words ≡ of → AreVersymTable of (Some words) → 2 ≤ word % 2 ^ 15
          → reference_version file told y ≡ reference_by_index file told.records (word % 2 ^ 15) (row_at words.words y)
      unfolding reference_version
      numbered_at None e are many = absurd are
      numbered_at (Some of) e are many =
          let within : nat_lt y of.count ≡ true = let count = are.count in grind (arith, nat_tests) in
          let place : row_at words.words y ≡ versym_at of y = rw (entry, are.place) (omega arith) in
          let is_word : word ≡ versym file (versym_at of y) = subst (λ (p : ℕ). word ≡ field file p 2) place read in
          let large : nat_lt (number_in (versym file (versym_at of y))) 2 ≡ false = rw (← is_word) (grind (arith, nat_tests)) in
          rw (e, reference_version) (rw (within, large) (rw (← is_word, ← place) refl))

      pub numbered : 2 ≤ word % 2 ^ 15 → reference_version file told y ≡ reference_by_index file told.records (word % 2 ^ 15) (row_at words.words y)
      numbered many = numbered_at told.words refl (rw some at is.words) many

-- THE NEEDED FILE of the version of a symbol
module _ (file : List ℕ) (told : AreSymbolsOf) (symbols : DynamicSymbols) (y : ℕ) (is : IsDynamicSymbols file told symbols) where
  of_no_words : (words : Option AreWordsOf) → told.words ≡ words → AreVersymTable words None → file_of_version file told y ≡ None
  unfolding file_of_version
  of_no_words None e are = rw (e, file_of_version) refl
  of_no_words (Some words) e are = absurd are

  pub of_none : symbols.words ≡ None → file_of_version file told y ≡ None
  of_none none = of_no_words told.words refl (rw none at is.words)

  module _ (words : VersymTable) (some : symbols.words ≡ Some words) (word : ℕ) (entry : words.words.entry ≡ 2) (read : word ≡ field file (row_at words.words y) 2) where
    of_plain_at : (of : Option AreWordsOf) → told.words ≡ of → AreVersymTable of (Some words) → word % 2 ^ 15 < 2 → file_of_version file told y ≡ None
    unfolding file_of_version
    of_plain_at None e are few = absurd are
    of_plain_at (Some of) e are few =
        let place : row_at words.words y ≡ versym_at of y = rw (entry, are.place) (omega arith) in
        let is_word : word ≡ versym file (versym_at of y) = subst (λ (p : ℕ). word ≡ field file p 2) place read in
        let small : nat_lt (number_in (versym file (versym_at of y))) 2 ≡ true = rw (← is_word) (grind (arith, nat_tests)) in
        rw (e, file_of_version) (rw (small) refl)

    pub of_plain : word % 2 ^ 15 < 2 → file_of_version file told y ≡ None
    of_plain few = of_plain_at told.words refl (rw some at is.words) few

    of_numbered_at : (of : Option AreWordsOf) → told.words ≡ of → AreVersymTable of (Some words) → 2 ≤ word % 2 ^ 15
        → file_of_version file told y ≡ file_before file (word % 2 ^ 15) None (readings file told.records)
    unfolding file_of_version
    of_numbered_at None e are many = absurd are
    of_numbered_at (Some of) e are many =
        let place : row_at words.words y ≡ versym_at of y = rw (entry, are.place) (omega arith) in
        let is_word : word ≡ versym file (versym_at of y) = subst (λ (p : ℕ). word ≡ field file p 2) place read in
        let large : nat_lt (number_in (versym file (versym_at of y))) 2 ≡ false = rw (← is_word) (grind (arith, nat_tests)) in
        rw (e, file_of_version) (rw (large) (rw (← is_word) refl))

    pub of_numbered : 2 ≤ word % 2 ^ 15 → file_of_version file told y ≡ file_before file (word % 2 ^ 15) None (readings file told.records)
    of_numbered many = of_numbered_at told.words refl (rw some at is.words) many

-- A SYMBOL that is read
module _ (file : List ℕ) (told : AreSymbolsOf) (symbols : DynamicSymbols) (index : ℕ) (symbol : Sym) (is : IsDynamicSymbols file told symbols) (entry : symbols.table.entry ≡ 24) (low : index < symbols.table.count)
    (is_at : IsSym file (row_at symbols.table index) symbol) where
  place_is : row_at symbols.table index ≡ symbol_offset told index
  place_is = rw (entry, is.place) (omega arith)

  pub symbol_is : IsSym file (symbol_offset told index) symbol
  symbol_is = subst (λ (at : ℕ). IsSym file at symbol) place_is is_at

  pub nothing : is_reference file (symbol_offset told index) ≡ false → reference_at file told index ≡ Ok None
  unfolding reference_at
  nothing e = rw (e, reference_at) refl

  module _ (sought : is_reference file (symbol_offset told index) ≡ true) where
    name_as : whole_name (strings_in file symbols.names) symbol.st_name (row_at symbols.table index) ≡ whole_name told.strings (st_name file (symbol_offset told index)) (symbol_offset told index)
    name_as =
        let names : strings_in file symbols.names ≡ told.strings = is.names (omega (arith, low)) in
        let name : symbol.st_name ≡ st_name file (symbol_offset told index) = symbol_is.st_name in
        rw (names, name, place_is) refl

    pub nameless : (weak : Bool) (name version : List ℕ) (fault : Fault) → ReturnsWhole (whole_name (strings_in file symbols.names) symbol.st_name (row_at symbols.table index)) name (Err fault)
        → ReturnsSought (reference_at file told index) weak name version (Err fault)
    unfolding reference_at
    nameless weak name version (Refused refusal) tells = λ unless.
        let e = sym name_as ∙ tells unless in
        rw (sought, reference_at) (rw e refl)
    nameless weak name version (Source fault at) tells = tt

    module _ (name : List ℕ) (named : whole_name (strings_in file symbols.names) symbol.st_name (row_at symbols.table index) ≡ Ok name) where
      pub unnamed : (length name == 0) ≡ true → reference_at file told index ≡ Ok None
      unfolding reference_at
      unnamed empty =
          let e = sym name_as ∙ named in
          rw (sought, reference_at) (rw (e, empty) refl)

      pub versionless : (length name == 0) ≡ false → (weak : Bool) (version : List ℕ) (fault : Fault) → RefusesAs (reference_version file told index) fault → ReturnsSought (reference_at file told index) weak name version (Err fault)
      unfolding reference_at
      versionless full weak version (Refused refusal) tells = λ unless.
          let e = sym name_as ∙ named in
          let v = tells unless in
          rw (sought, reference_at) (rw (e, full) (rw v refl))
      versionless full weak version (Source fault at) tells = tt

      pub asks : (length name == 0) ≡ false → (version : List ℕ) (versioned : Bool) → reference_version file told index ≡ Ok (asked_if versioned version)
          → reference_at file told index ≡ Ok (Some (record { name = name; asked = asked_if versioned version }))
      unfolding reference_at
      asks full version versioned v =
          let e = sym name_as ∙ named in
          rw (sought, reference_at) (rw (e, full) (rw v refl))
