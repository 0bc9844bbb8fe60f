-- If the records of versions are such that the empty version is not refused, and their strings end
-- in a NUL, none is refused.
use Rattle.std.proofs.Common.{◌≡◌, ℕ, zero, suc, ◌+◌, ◌-◌, ◌*◌, ◌/◌, ◌<◌, ◌≤◌, mul-le-mul_right, IsTrue, ◌==◌, ◌||◌, nat_lt, Bool, true, false, List, [], ◌∷◌, ◌++◌, length, drop, Option, None, Some, Result, Ok, Err, IfSome, refl, sym, ap, subst, ◌∙◌, arith}
use Rattle.elf_model.specs.Prelude.{CompareResult, LookupTables as IsScopeOf, Meets, Misses, Refuses, Version, VersionQuery, VersionRecordRead, VersionRecordTable as IsTableOf, VersymTable, VisitedRecord, asked_name, begins, compared_with, counts_check, end_reading, first_refusal, is_empty_at_zero, meetings, name_index, named_at, names_version, pad64, readings, readings_of, record_cost, same, version_indices}
use Rattle.elf_model.specs.declared.causes.Cause.{Cause}
use Rattle.elf_model.specs.declared.causes.Cause.TheVariants.{NameOutside}
use Rattle.elf_model.specs.declared.causes.Refusal.{Refusal}
use Rattle.elf_table.specs.Prelude.{ComparesName, strings_in}
use Rattle.std.proofs.lemmas.Bool.{eqb-false, eqb-true, ltb-true, ne_eqb}
use Rattle.elf_hash.specs.Prelude.{AreVersionRecordTables, IsDynamicSymbols, IsLookupTables, IsTable, table_if_any}
use Rattle.elf_hash.specs.declared.symbols.DynamicSymbols.{DynamicSymbols}
use Rattle.elf_hash.specs.declared.table.HashTable.{HashTable}
use Rattle.elf_hash.specs.declared.lookup_tables.LookupTables.{LookupTables}
use Rattle.elf_hash.specs.declared.symbols.VersionRecordTable.{VersionRecordTable}
use Rattle.elf_model.proofs.Slices.{slice-size}
use Rattle.elf_library.specs.Ready.{EndsInNul, HasNoNul, IsReadyIf, NamesEnd, has_zero, ready_bytes, table_where}

-- bytes whose last one is a NUL
abbrev EndsInZero : List ℕ → Type 0
EndsInZero [] = ⊥
EndsInZero (b ∷ []) = b ≡ 0
EndsInZero (b ∷ c ∷ more) = EndsInZero (c ∷ more)

or_parts : (a b : Bool) → (a || b) ≡ false → (a ≡ false) × (b ≡ false)
or_parts true b e = cc
or_parts false b e = (refl, e)

-- a text without a NUL
first_not : (w : ℕ) (wanted : List ℕ) → has_zero (w ∷ wanted) ≡ false → (w == 0) ≡ false
first_not w wanted none = (or_parts (w == 0) (has_zero wanted) none).0

rest_not : (w : ℕ) (wanted : List ℕ) → has_zero (w ∷ wanted) ≡ false → has_zero wanted ≡ false
rest_not w wanted none = (or_parts (w == 0) (has_zero wanted) none).1

other_byte : (b w : ℕ) → b ≡ 0 → (w == 0) ≡ false → (b == w) ≡ false
other_byte b w nul other = rw nul (ne_eqb 0 w (λ e. eqb-false w 0 other (sym e)))

-- what is said of them does not fail
abbrev Answers : Result Bool Cause → Type 0
Answers result = (said : Bool) × (result ≡ Ok said)

module _ where
  alike : (b w : ℕ) (bytes wanted : List ℕ) → (b == w) ≡ true → begins (b ∷ bytes) (w ∷ wanted) ≡ begins bytes wanted
  unfolding begins
  alike b w bytes wanted e = rw (e, begins) refl

  unlike : (b w : ℕ) (bytes wanted : List ℕ) → (b == w) ≡ false → begins (b ∷ bytes) (w ∷ wanted) ≡ Ok false
  unfolding begins
  unlike b w bytes wanted e = rw (e, begins) refl

  begun : (bytes : List ℕ) → begins bytes [] ≡ Ok true
  unfolding begins
  begun bytes = refl

-- bytes that end in a NUL begin with a text without one, and the NUL after it, or do not
begins_answers : (bytes wanted : List ℕ) → EndsInZero bytes → has_zero wanted ≡ false → Answers (begins bytes (wanted ++ 0 ∷ []))
begins_answers [] wanted ends none = absurd ends
begins_answers (b ∷ bytes) [] ends none = go (b == 0) refl
  where
    go : (t : Bool) → (b == 0) ≡ t → Answers (begins (b ∷ bytes) (0 ∷ []))
    go true e = (true, alike b 0 bytes [] e ∙ begun bytes)
    go false e = (false, unlike b 0 bytes [] e)
begins_answers (b ∷ []) (w ∷ wanted) ends none =
    (false, unlike b w [] (wanted ++ 0 ∷ []) (other_byte b w ends (first_not w wanted none)))
begins_answers (b ∷ c ∷ bytes) (w ∷ wanted) ends none = go (b == w) refl (begins_answers (c ∷ bytes) wanted ends (rest_not w wanted none))
  where
    go : (t : Bool) → (b == w) ≡ t → Answers (begins (c ∷ bytes) (wanted ++ 0 ∷ [])) → Answers (begins (b ∷ c ∷ bytes) (w ∷ wanted ++ 0 ∷ []))
    go true e rest = (rest.0, alike b w (c ∷ bytes) (wanted ++ 0 ∷ []) e ∙ rest.1)
    go false e rest = (false, unlike b w (c ∷ bytes) (wanted ++ 0 ∷ []) e)

-- a name at an index that has no other fault is read
ends_from : (strings : List ℕ) (index : ℕ) → EndsInZero strings → index < length strings → EndsInZero (drop index strings)
ends_from [] index ends less = absurd ends
ends_from (b ∷ strings) zero ends less = ends
ends_from (b ∷ []) (suc index) ends less = absurd (omega (arith, less))
ends_from (b ∷ c ∷ strings) (suc index) ends less = ends_from (c ∷ strings) index ends (omega (arith, less))

module _ (strings : List ℕ) (index : ℕ) (wanted : List ℕ) where
  same_none : is_empty_at_zero strings index ≡ true → same strings index wanted ≡ Ok false
  unfolding same
  same_none e = rw (e, same) refl

  same_out : is_empty_at_zero strings index ≡ false → nat_lt index (length strings) ≡ false → same strings index wanted ≡ Err NameOutside
  unfolding same
  same_out e out = rw (e, same) (rw out refl)

  same_in : is_empty_at_zero strings index ≡ false → nat_lt index (length strings) ≡ true
      → same strings index wanted ≡ begins (drop index strings) (wanted ++ 0 ∷ [])
  unfolding same
  same_in e within = rw (e, same) (rw within refl)

same_answers : (strings : List ℕ) (index : ℕ) (wanted : List ℕ) → EndsInZero strings → has_zero wanted ≡ false → Answers (same strings index []) → Answers (same strings index wanted)
same_answers strings index wanted ends none said = go (is_empty_at_zero strings index) refl (nat_lt index (length strings)) refl
  where
    go : (e : Bool) → is_empty_at_zero strings index ≡ e → (l : Bool) → nat_lt index (length strings) ≡ l → Answers (same strings index wanted)
    go true e l within = (false, same_none strings index wanted e)
    go false e true within =
        let begun = begins_answers (drop index strings) wanted (ends_from strings index ends (ltb-true index (length strings) within)) none in
        (begun.0, same_in strings index wanted e within ∙ begun.1)
    go false e false out = let is = said.1 in let isnt = same_out strings index [] e out in cc

-- bytes that end in a NUL by their last name
zero_at : (bytes : List ℕ) (last : ℕ) → length bytes ≡ last + 1 → begins (drop last bytes) (0 ∷ []) ≡ Ok true → EndsInZero bytes
zero_at [] last is said = absurd (omega (arith, is))
zero_at (b ∷ []) zero is said = go (b == 0) refl
  where
    go : (t : Bool) → (b == 0) ≡ t → b ≡ 0
    go true e = eqb-true b 0 e
    go false e = let isnt = unlike b 0 [] [] e in let so = said in cc
zero_at (b ∷ c ∷ bytes) zero is said = absurd (omega (arith, is))
zero_at (b ∷ []) (suc last) is said = absurd (omega (arith, is))
zero_at (b ∷ c ∷ bytes) (suc last) is said = zero_at (c ∷ bytes) last (omega (arith, is)) said

ends_in_zero : (bytes : List ℕ) → EndsInNul bytes → EndsInZero bytes
ends_in_zero bytes (last, is, said) = go (is_empty_at_zero bytes last) refl (nat_lt last (length bytes)) refl
  where
    go : (e : Bool) → is_empty_at_zero bytes last ≡ e → (l : Bool) → nat_lt last (length bytes) ≡ l → EndsInZero bytes
    go true e l within = let isnt = same_none bytes last [] e in let so = said in cc
    go false e true within = zero_at bytes last is (sym (same_in bytes last [] e within) ∙ said)
    go false e false out = let isnt = same_out bytes last [] e out in let so = said in cc

-- the strings of all visited records end in a NUL
abbrev StringsEnd : List VersionRecordRead → Type 0
StringsEnd [] = Unit {0}
StringsEnd (Meets strings met ∷ others) = EndsInZero strings × StringsEnd others
StringsEnd (Refuses refusal ∷ others) = Unit {0}
StringsEnd (Misses refusal ∷ others) = Unit {0}

module _ (file version : List ℕ) where
  no_more : compared_with file version [] ≡ record { numbers = []; refused = None; read = 0 }
  unfolding compared_with
  no_more = refl

  at_miss : (refusal : Refusal) (others : List VersionRecordRead) → (compared_with file version (Misses refusal ∷ others)).refused ≡ Some refusal
  unfolding compared_with
  at_miss refusal others = refl

  at_refusal : (refusal : Refusal) (others : List VersionRecordRead) → (compared_with file version (Refuses refusal ∷ others)).refused ≡ Some refusal
  unfolding compared_with
  at_refusal refusal others = refl

  module _ (strings : List ℕ) (met : VisitedRecord) (others : List VersionRecordRead) where
    passed : names_version file met ≡ false → (compared_with file version (Meets strings met ∷ others)).refused ≡ (compared_with file version others).refused
    unfolding compared_with
    passed e = rw (e, compared_with) refl

    faulty : (cause : Cause) → names_version file met ≡ true → same strings (name_index file met) version ≡ Err cause
        → (compared_with file version (Meets strings met ∷ others)).refused ≡ Some (record { at = named_at file met; cause = cause })
    unfolding compared_with
    faulty cause e fault = rw (e, compared_with) (rw fault refl)

    compared : (said : Bool) → names_version file met ≡ true → same strings (name_index file met) version ≡ Ok said
        → (compared_with file version (Meets strings met ∷ others)).refused ≡ (compared_with file version others).refused
    unfolding compared_with
    compared said e told = rw (e, compared_with) (rw told refl)

-- if the empty version is not refused, none is
none_refused : (file version : List ℕ) → has_zero version ≡ false → (records : List VersionRecordRead) → StringsEnd records → (compared_with file [] records).refused ≡ None
    → (compared_with file version records).refused ≡ None
none_refused file version plain [] ends fine = ap (λ (c : CompareResult). c.refused) (no_more file version)
none_refused file version plain (Misses refusal ∷ others) ends fine = let some = at_miss file [] refusal others in let no = fine in cc
none_refused file version plain (Refuses refusal ∷ others) ends fine = let some = at_refusal file [] refusal others in let no = fine in cc
none_refused file version plain (Meets strings met ∷ others) ends fine = go (names_version file met) refl (same strings (name_index file met) []) refl (none_refused file version plain others ends.1)
  where
    go : (n : Bool) → names_version file met ≡ n → (s : Result Bool Cause) → same strings (name_index file met) [] ≡ s
        → ((compared_with file [] others).refused ≡ None → (compared_with file version others).refused ≡ None)
        → (compared_with file version (Meets strings met ∷ others)).refused ≡ None
    go false e s is rest = passed file version strings met others e ∙ rest (sym (passed file [] strings met others e) ∙ fine)
    go true e (Err cause) is rest = let some = faulty file [] strings met others cause e is in let no = fine in cc
    go true e (Ok said) is rest =
        let told = same_answers strings (name_index file met) version ends.0 plain (said, is) in
        compared file version strings met others told.0 e told.1 ∙ rest (sym (compared file [] strings met others said e is) ∙ fine)

-- THE READINGS of tables whose strings end in a NUL
meetings_end : (strings : List ℕ) (met : List VisitedRecord) (others : List VersionRecordRead) → EndsInZero strings → StringsEnd others → StringsEnd (meetings strings met others)
unfolding meetings
meetings_end strings [] others ends rest = rest
meetings_end strings (m ∷ met) others ends rest = (ends, meetings_end strings met others ends rest)

end_ends : (is_at : Bool) (cut : Option Refusal) (others : List VersionRecordRead) → StringsEnd others → StringsEnd (end_reading is_at cut ++ others)
end_ends is_at None others rest = rest
end_ends true (Some refusal) others rest = tt
end_ends false (Some refusal) others rest = tt

readings_end : (file : List ℕ) (table : IsTableOf) (others : List VersionRecordRead) → EndsInZero table.strings → StringsEnd others → StringsEnd (readings_of file table others)
unfolding readings_of
readings_end file table others ends rest = meetings_end table.strings _ _ ends (end_ends _ _ others rest)

-- so of each table
abbrev Each : (VersionRecordTable → Type 0) → List VersionRecordTable → Type 0
Each P [] = Unit {0}
Each P (table ∷ tables) = P table × Each P tables

both : (P : VersionRecordTable → Type 0) (first second : Option VersionRecordTable) → IfSome first P → IfSome second P → Each P (table_if_any first ++ table_if_any second)
both P None None f s = tt
both P None (Some second) f s = (s, tt)
both P (Some first) None f s = (f, tt)
both P (Some first) (Some second) f s = (f, (s, tt))

all_end : (file : List ℕ) (told : List IsTableOf) (tables : List VersionRecordTable) → AreVersionRecordTables file told tables → Each (NamesEnd file) tables → StringsEnd (readings file told)
unfolding readings
all_end file [] [] are ends = tt
all_end file [] (table ∷ tables) are ends = absurd are
all_end file (t ∷ told) [] are ends = absurd are
all_end file (t ∷ told) (table ∷ tables) are ends =
    readings_end file t (readings file told)
    (subst EndsInZero (are.0.names ends.0.0) (ends_in_zero (strings_in file table.names) ends.0.1))
    (all_end file told tables are.1 ends.1)

-- THE LAW: if the empty version is not refused, and the strings of both tables end in a NUL, no
-- version is
module _ (file : List ℕ) (scope : IsScopeOf) where
  unasked : (asked : VersionQuery) → asked_name asked ≡ None → (version_indices file scope asked).refused ≡ None
  unfolding version_indices
  unasked asked e = rw (e, version_indices) refl

  wordless : (asked : VersionQuery) (version : List ℕ) → asked_name asked ≡ Some version → scope.symbols.words ≡ None → (version_indices file scope asked).refused ≡ None
  unfolding version_indices
  wordless asked version e none = rw (e, version_indices) (rw none refl)

  collected : (asked : VersionQuery) (version : List ℕ) (words : VersymTable) → asked_name asked ≡ Some version → scope.symbols.words ≡ Some words
      → (version_indices file scope asked).refused ≡ (compared_with file version (readings file scope.symbols.records)).refused
  unfolding version_indices
  collected asked version words e some = rw (e, version_indices) (rw some refl)

  module _ (symbols : DynamicSymbols) (are : IsDynamicSymbols file scope.symbols symbols) (fine : (version_indices file scope (Version [])).refused ≡ None)
      (definitions : IfSome symbols.definitions (NamesEnd file)) (needs : IfSome symbols.needs (NamesEnd file)) where
    pub none_is_refused : (asked : VersionQuery) → HasNoNul asked → (version_indices file scope asked).refused ≡ None
    none_is_refused asked plain = go (asked_name asked) refl plain scope.symbols.words refl
      where
        go : (name : Option (List ℕ)) → asked_name asked ≡ name → IfSome name (λ version. has_zero version ≡ false) → (words : Option VersymTable) → scope.symbols.words ≡ words
            → (version_indices file scope asked).refused ≡ None
        go None e p words w = unasked asked e
        go (Some version) e p None w = wordless asked version e w
        go (Some version) e p (Some words) w =
            let ends = all_end file scope.symbols.records _ are.records (both (NamesEnd file) symbols.definitions symbols.needs definitions needs) in
            collected asked version words e w
            ∙ none_refused file version p (readings file scope.symbols.records) ends (sym (collected (Version []) [] words refl w) ∙ fine)

-- A TABLE OF RECORDS whose strings were checked
pub nul_ends : (file : List ℕ) (records : VersionRecordTable) (at : ℕ) (ends : Bool) → 0 < records.table.count → 0 < records.names.size
    → records.names.at + records.names.size ≤ length file → ComparesName at (Ok ends) (same (strings_in file records.names) (records.names.size - 1) [])
    → IsTrue ends → NamesEnd file records
nul_ends file records at true some bytes within compares so =
    let size = slice-size file records.names.at records.names.size within in
    (some, (records.names.size - 1, omega (arith, size, bytes), compares))
nul_ends file records at false some bytes within compares so = let no : false ≡ true = so in cc

-- THE TABLE IS READY if both of its tables of records end so
module _ (file : List ℕ) (told : IsScopeOf) (scope : LookupTables) (table : HashTable) (is : IsLookupTables file told scope) where
  pub ready_where : (one other : Bool) → first_refusal (counts_check file told ∷ []) ≡ None → IsTable file told table → (version_indices file told (Version [])).refused ≡ None
      → (IsTrue one → IfSome scope.symbols.definitions (NamesEnd file)) → (IsTrue other → IfSome scope.symbols.needs (NamesEnd file))
      → IsReadyIf file told (table_where one other table)
  ready_where true true counts is_table fine definitions needs =
      record { counts = counts; is = is_table; versions = none_is_refused file told scope.symbols is.symbols fine (definitions refl) (needs refl) }
  ready_where true false counts is_table fine definitions needs = tt
  ready_where false other counts is_table fine definitions needs = tt

-- how many bytes that reads
pub ready_within : (size few records : ℕ) → few ≤ 16 → records ≤ size / 8 → few + (records * (28 + pad64 (0 + 1)) + (64 + 64)) ≤ ready_bytes size
ready_within size few records low less =
    let most = mul-le-mul_right (record_cost (Version [])) less in
    omega (arith, most, low)
