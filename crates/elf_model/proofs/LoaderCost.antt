-- What a loader's lookup reads is within its ceiling.
use Rattle.std.proofs.Common.{◌≡◌, ℕ, suc, ◌+◌, ◌*◌, ◌/◌, ◌<◌, ◌≤◌, ◌==◌, nat_lt, Bool, true, false, List, [], ◌∷◌, ◌++◌, length, Option, None, Some, Result, Ok, Err, inl, inr, refl, ap, arith}
use Rattle.std.proofs.Math.Nat.{mul-le-mul, mul-add}
use Rattle.std.proofs.lemmas.Bool.{cases_Bool, and_parts, ltb-true, ltb-false, eqb-true}
use Rattle.std.proofs.lemmas.Nat.{le-div}
use Rattle.elf_model.specs.Prelude.{ChainResult, DisplayedName, GnuTable, HashStyle, LoaderCostIsWithinCeiling, LoaderLookup, LookupTables, Meets, Misses, NumberNameSource, RecordCursorState, Refuses, SymbolQuery, SysvTable, TOLD_BYTES, VersionQuery, VersionRecordRead, VersionRecordTable, VersymTable, VisitedRecord, answers, asked_name, before_headers, compared_with, cost_where, counts_check, dynamic_segment_index, e_phnum, e_shnum, end_reading, first_refusal, found_in, gnu_hash, has_record, is_among, is_loadable, loaded_in, loader_ceiling, loader_cost, loader_looked, looked_by, lookup_asks, lookup_tables_of, max_records, meetings, name_index, named_by_record, names_version, names_version_index, naming_of, number_in, p_filesz, p_offset, pad64, pass, position_after, readings, readings_of, record_cost, same, segment_at, segment_dynamic_checks, segments_asked, shown, sysv_hash, sysv_nbucket, sysv_nchain, version_indices, versions_in, versym, versym_at, walk_in}
use Rattle.elf_model.specs.declared.causes.Cause.{Cause}
use Rattle.elf_model.specs.declared.causes.Refusal.{Refusal}
use Rattle.elf_model.proofs.CostLemmas.{loadable-within}
use Rattle.elf_model.proofs.TableBounds.{whole_within}
use Rattle.elf_model.proofs.SumLemmas.{cost_where-le, cost_where-within}
use Rattle.elf_model.proofs.GnuHashLaws.{gnu_lookup_is_bounded}
use Rattle.elf_model.proofs.LoaderScopes.{max_records_of, IsInside, scope_inside}
use Rattle.elf_model.proofs.SysvWalkLaws.{sysv_walk_is_bounded}
use Rattle.elf_model.proofs.VersionLaws.{records_are_bounded}

-- how many records are read
count_of : List VersionRecordRead → ℕ
count_of [] = 0
count_of (Meets strings met ∷ others) = suc (count_of others)
count_of (Refuses refusal ∷ others) = suc (count_of others)
count_of (Misses refusal ∷ others) = count_of others

module _ (file : List ℕ) where
  -- comparing reads no more
  compared_few : (wanted : List ℕ) (all : List VersionRecordRead) → (compared_with file wanted all).read ≤ count_of all
  unfolding compared_with count_of
  compared_few wanted [] = omega arith
  compared_few wanted (Refuses refusal ∷ others) = omega arith
  compared_few wanted (Misses refusal ∷ others) = omega arith
  compared_few wanted (Meets strings met ∷ others) = go (names_version file met) (same strings (name_index file met) wanted) refl refl (compared_few wanted others)
    where
      go : (names : Bool) (equal : Result Bool Cause) → names_version file met ≡ names → same strings (name_index file met) wanted ≡ equal
          → (compared_with file wanted others).read ≤ count_of others
          → (compared_with file wanted (Meets strings met ∷ others)).read ≤ suc (count_of others)
      go false equal n e few = rw (n, compared_with) (omega arith)
      go true (Err cause) n e few = rw (n, e, compared_with) (omega arith)
      go true (Ok is) n e few = rw (n, e, compared_with) (omega arith)

  -- and neither does naming
  naming_few : (number : ℕ) (all : List VersionRecordRead) → (naming_of file number all).read ≤ count_of all
  unfolding naming_of count_of
  naming_few number [] = omega arith
  naming_few number (Refuses refusal ∷ others) = omega arith
  naming_few number (Misses refusal ∷ others) = omega arith
  naming_few number (Meets strings met ∷ others) = go (names_version_index file number met) refl (naming_few number others)
    where
      go : (names : Bool) → names_version_index file number met ≡ names → (naming_of file number others).read ≤ count_of others
          → (naming_of file number (Meets strings met ∷ others)).read ≤ suc (count_of others)
      go true n few = rw (n, naming_of) (omega arith)
      go false n few = rw (n, naming_of) (omega arith)

  count_meetings : (strings : List ℕ) (mets : List VisitedRecord) (others : List VersionRecordRead) → count_of (meetings strings mets others) ≡ length mets + count_of others
  unfolding meetings count_of
  count_meetings strings [] others = omega arith
  count_meetings strings (met ∷ mets) others = omega (arith, count_meetings strings mets others)

  count_end : (is_there : Bool) (cut : Option Refusal) (others : List VersionRecordRead) (met most : ℕ) → met ≤ most → (is_there ≡ true → met < most)
      → met + count_of (end_reading is_there cut ++ others) ≤ most + count_of others
  unfolding count_of
  count_end is_there None others met most le lt = omega arith
  count_end true (Some refusal) others met most le lt = let low = lt refl in omega arith
  count_end false (Some refusal) others met most le lt = omega arith

  record_below : (table : VersionRecordTable) (met : ℕ) (stand : Option RecordCursorState) → has_record table met stand ≡ true → met < max_records table.kind table.size
  record_below table met None h = absurd (cc)
  record_below table met (Some stand) h = ltb-true met (max_records table.kind table.size) (and_parts _ _ h).0

  readings_few : (tables : List VersionRecordTable) → count_of (readings file tables) ≤ max_records_of tables
  unfolding readings readings_of max_records_of count_of
  readings_few [] = omega arith
  readings_few (table ∷ tables) =
      let versions = versions_in table.kind file table.head table.place table.size in
      let count = length versions.met in
      let most = records_are_bounded table.kind file table.head table.place table.size in
      let others = readings file tables in
      let is_there = has_record table count (position_after file table count) in
      let all = count_meetings table.strings versions.met (end_reading is_there versions.cut ++ others) in
      let ends = count_end is_there versions.cut others count (max_records table.kind table.size) most
      (λ h. record_below table count (position_after file table count) h) in
      let few = readings_few tables in
      omega arith

-- what a lookup has read is bounded by a number of bytes
record IsFewReads (size : ℕ) (loader : LoaderLookup) : Type 0 where
  few_tried : loader.lookup.compared ≤ loader.chain_words
  few_words : 4 * loader.chain_words ≤ size
  few_records : loader.records ≤ size / 8

-- and so is a walk
record IsShort (size : ℕ) (walked : ChainResult) : Type 0 where
  few_tried : walked.tried ≤ walked.read
  few_words : 4 * walked.read ≤ size

module _ (file : List ℕ) (scope : LookupTables) where
  -- the counts of a gABI hash table fit it
  counts_fit : (none short : Bool) → (sysv_nbucket file scope.table.place == 0) ≡ none
      → nat_lt scope.table.size (8 + 4 * sysv_nbucket file scope.table.place + 4 * sysv_nchain file scope.table.place) ≡ short
      → scope.kind ≡ SysvTable → first_refusal (counts_check file scope ∷ []) ≡ None → 4 * sysv_nchain file scope.table.place ≤ scope.table.size
  unfolding counts_check
  counts_fit true short n s k e = absurd (let a = rw (k, counts_check) at e in let b = rw n at a in cc)
  counts_fit false true n s k e = absurd (let a = rw (k, counts_check) at e in let b = rw (n, s) at a in cc)
  counts_fit false false n s k e =
      let fits = ltb-false scope.table.size (8 + 4 * sysv_nbucket file scope.table.place + 4 * sysv_nchain file scope.table.place) s in
      omega arith

  walk_short : (wanted : SymbolQuery) (is_wanted : ℕ → Bool) (size : ℕ) (kind : HashStyle) → scope.kind ≡ kind → scope.table.size ≤ size
      → first_refusal (counts_check file scope ∷ []) ≡ None → IsShort size (walk_in file scope wanted is_wanted)
  unfolding walk_in
  walk_short wanted is_wanted size GnuTable k inside e =
      let bound = gnu_lookup_is_bounded file scope.table (gnu_hash wanted.name) (answers file scope.symbols wanted is_wanted) in
      let tried = bound.tried_are_read in
      let bytes = bound.within_bytes in
      rw (k, walk_in) (record { few_tried = tried; few_words = omega arith })
  walk_short wanted is_wanted size SysvTable k inside e =
      let bound = sysv_walk_is_bounded file scope.table (sysv_hash wanted.name) (answers file scope.symbols wanted is_wanted) in
      let same = bound.0 in
      let few = bound.1 in
      let fits = counts_fit _ _ refl refl k e in
      rw (k, walk_in) (record { few_tried = omega arith; few_words = omega arith })

  told_few : (words : VersymTable) (y size : ℕ) (walked : ChainResult) (naming : NumberNameSource) → IsShort size walked → naming.read ≤ size / 8
      → IsFewReads size (named_by_record file scope words y walked naming)
  unfolding named_by_record
  told_few words y size walked naming short few = go naming.found refl
    where
      go : (found : Option (List ℕ × VisitedRecord)) → naming.found ≡ found → IsFewReads size (named_by_record file scope words y walked naming)
      go (Some found) f = named (shown found.0 (name_index file found.1) TOLD_BYTES) refl
        where
          named : (name : Result DisplayedName Cause) → shown found.0 (name_index file found.1) TOLD_BYTES ≡ name → IsFewReads size (named_by_record file scope words y walked naming)
          named (Ok name) n = rw (f, n, named_by_record) (record { few_tried = short.few_tried; few_words = short.few_words; few_records = few })
          named (Err cause) n = rw (f, n, named_by_record) (record { few_tried = short.few_tried; few_words = short.few_words; few_records = few })
      go None f = unnamed naming.refused refl
        where
          unnamed : (refused : Option Refusal) → naming.refused ≡ refused → IsFewReads size (named_by_record file scope words y walked naming)
          unnamed (Some refusal) r = rw (f, r, named_by_record) (record { few_tried = short.few_tried; few_words = short.few_words; few_records = few })
          unnamed None r = rw (f, r, named_by_record) (record { few_tried = short.few_tried; few_words = short.few_words; few_records = few })

  found_few : (asked : VersionQuery) (records y size : ℕ) (walked : ChainResult) (words : Option VersymTable) → IsShort size walked → records ≤ size / 8
      → max_records_of scope.symbols.records ≤ size / 8 → IsFewReads size (found_in file scope asked records y walked words)
  unfolding found_in
  found_few asked records y size walked None short few most =
      record { few_tried = short.few_tried; few_words = short.few_words; few_records = few }
  found_few asked records y size walked (Some words) short few most = go (asked_name asked) refl
    where
      go : (name : Option (List ℕ)) → asked_name asked ≡ name → IsFewReads size (found_in file scope asked records y walked (Some words))
      go (Some version) n = rw (n, found_in) (record { few_tried = short.few_tried; few_words = short.few_words; few_records = few })
      go None n =
          elim (cases_Bool (nat_lt (number_in (versym file (versym_at words y))) 2)) [
            | inl small ↦ rw (n, small, found_in) (record { few_tried = short.few_tried; few_words = short.few_words; few_records = few })
            | inr large ↦
                let naming = naming_of file (number_in (versym file (versym_at words y))) (readings file scope.symbols.records) in
                let less = naming_few file (number_in (versym file (versym_at words y))) (readings file scope.symbols.records) in
                let all = readings_few file scope.symbols.records in
                rw (n, large, found_in) (told_few words y size walked naming short (omega arith))
          ]

  looked_few : (asked : VersionQuery) (records size : ℕ) (walked : ChainResult) → IsShort size walked → records ≤ size / 8
      → max_records_of scope.symbols.records ≤ size / 8 → IsFewReads size (looked_by file scope asked records walked)
  unfolding looked_by
  looked_few asked records size walked short few most = go walked.answer refl
    where
      go : (answer : Result (Option ℕ) Refusal) → walked.answer ≡ answer → IsFewReads size (looked_by file scope asked records walked)
      go (Err refusal) a = rw (a, looked_by) (record { few_tried = short.few_tried; few_words = short.few_words; few_records = few })
      go (Ok None) a = rw (a, looked_by) (record { few_tried = short.few_tried; few_words = short.few_words; few_records = few })
      go (Ok (Some y)) a = rw (a, looked_by) (found_few asked records y size walked scope.symbols.words short few most)

  numbers_few : (asked : VersionQuery) (size : ℕ) → max_records_of scope.symbols.records ≤ size / 8 → (version_indices file scope asked).read ≤ size / 8
  unfolding version_indices
  numbers_few asked size most = go (asked_name asked) refl
    where
      go : (name : Option (List ℕ)) → asked_name asked ≡ name → (version_indices file scope asked).read ≤ size / 8
      go None n = rw (n, version_indices) (omega arith)
      go (Some version) n = worded scope.symbols.words refl
        where
          worded : (words : Option VersymTable) → scope.symbols.words ≡ words → (version_indices file scope asked).read ≤ size / 8
          worded None w = rw (n, w, version_indices) (omega arith)
          worded (Some words) w =
              let less = compared_few file version (readings file scope.symbols.records) in
              let all = readings_few file scope.symbols.records in
              rw (n, w, version_indices) (omega arith)

  loaded_few : (wanted : SymbolQuery) (size : ℕ) → IsInside size scope → IsFewReads size (loaded_in file scope wanted)
  unfolding loaded_in
  loaded_few wanted size inside = go (first_refusal (counts_check file scope ∷ [])) (version_indices file scope wanted.asked).refused refl refl
    where
      go : (shape refused : Option Refusal) → first_refusal (counts_check file scope ∷ []) ≡ shape
          → (version_indices file scope wanted.asked).refused ≡ refused → IsFewReads size (loaded_in file scope wanted)
      go (Some refusal) refused s r = rw (s, loaded_in) (record { few_tried = omega arith; few_words = omega arith; few_records = omega arith })
      go None (Some refusal) s r =
          let few = numbers_few wanted.asked size inside.few_records in
          rw (s, r, loaded_in) (record { few_tried = omega arith; few_words = omega arith; few_records = few })
      go None None s r =
          let few = numbers_few wanted.asked size inside.few_records in
          let short = walk_short wanted (λ number. is_among number (version_indices file scope wanted.asked).numbers) size _ refl inside.table_inside s in
          rw (s, r, loaded_in) (looked_few wanted.asked (version_indices file scope wanted.asked).read size _ short few inside.few_records)

looked_up_few : (file : List ℕ) (headers : ℕ) (wanted : SymbolQuery) → IsFewReads (length file) (loader_looked file headers wanted)
unfolding loader_looked
looked_up_few file headers wanted = go (lookup_tables_of file headers) refl
  where
    go : (scope : Result LookupTables Refusal) → lookup_tables_of file headers ≡ scope → IsFewReads (length file) (loader_looked file headers wanted)
    go (Err refusal) s = rw (s, loader_looked) (record { few_tried = omega arith; few_words = omega arith; few_records = omega arith })
    go (Ok scope) s = rw (s, loader_looked) (loaded_few file scope wanted (length file) (scope_inside file headers scope s))

-- this many bytes of words, symbols and records
asked_within : (words tried records name version size : ℕ) → tried ≤ words → 4 * words ≤ size → records ≤ size / 8
    → 4 * words + tried * (26 + name) + records * version ≤ size / 4 * (30 + name) + size / 8 * version
asked_within words tried records name version size t w r =
    let few : words ≤ size / 4 = le-div words size 4 (omega arith) (omega arith) in
    let a : tried * (26 + name) ≤ words * (26 + name) = mul-le-mul t (omega arith) in
    let b : words * (30 + name) ≤ size / 4 * (30 + name) = mul-le-mul few (omega arith) in
    let c : words * (4 + (26 + name)) ≡ words * 4 + words * (26 + name) = mul-add words 4 (26 + name) in
    let d : words * (30 + name) ≡ words * (4 + (26 + name)) = ap (λ (n : ℕ). words * n) (omega arith) in
    let e : records * version ≤ size / 8 * version = mul-le-mul r (omega arith) in
    omega arith

-- the headers, and the dynamic entries
entries_within : (file : List ℕ) (at : ℕ) → cost_where (pass (segment_dynamic_checks file at)) (p_filesz file at) ≤ length file
entries_within file at = cost_where-within (pass (segment_dynamic_checks file at)) (p_filesz file at) (length file) (λ h. go (p_filesz file at == 0) refl h)
  where
    go : (empty : Bool) → (p_filesz file at == 0) ≡ empty → pass (segment_dynamic_checks file at) ≡ true → p_filesz file at ≤ length file
    go true z h = let n : p_filesz file at ≡ 0 = eqb-true (p_filesz file at) 0 z in omega arith
    go false z h = whole_within (length file) (p_offset file at) (p_filesz file at) at 16 (rw z at h)

segments_within : (file : List ℕ) (headers : ℕ) → e_shnum file ≤ headers → e_phnum file ≤ headers
    → 64 * e_shnum file + segments_asked file ≤ 64 * headers + length file
unfolding segments_asked
segments_within file headers s p = go (e_shnum file == 0) refl (dynamic_segment_index file) refl
  where
    go : (none : Bool) → (e_shnum file == 0) ≡ none → (index : Option ℕ) → dynamic_segment_index file ≡ index
        → 64 * e_shnum file + segments_asked file ≤ 64 * headers + length file
    go false z index d = rw (z, segments_asked) (omega arith)
    go true z None d =
        let n : e_shnum file ≡ 0 = eqb-true (e_shnum file) 0 z in
        rw (z, d, segments_asked) (omega arith)
    go true z (Some index) d =
        let n : e_shnum file ≡ 0 = eqb-true (e_shnum file) 0 z in
        let within = entries_within file (segment_at file index) in
        rw (z, d, segments_asked) (omega arith)

pub loader_cost_is_within_ceiling : LoaderCostIsWithinCeiling
unfolding loader_cost loader_ceiling lookup_asks is_loadable
loader_cost_is_within_ceiling file headers wanted = go (first_refusal (before_headers file headers)) refl
  where
    go : (refusal : Option Refusal) → first_refusal (before_headers file headers) ≡ refusal
        → loader_cost file headers wanted ≤ loader_ceiling (length file) headers wanted
    go (Some refusal) r = rw (r, loader_cost) (omega arith)
    go None r =
        let h : is_loadable file headers ≡ true = rw (r, is_loadable) refl in
        let counts = loadable-within file headers h in
        let segments = segments_within file headers counts.0 counts.1 in
        let few = looked_up_few file headers wanted in
        let loader = loader_looked file headers wanted in
        let asks = asked_within loader.chain_words loader.lookup.compared loader.records (pad64 (length wanted.name + 1)) (record_cost wanted.asked)
        (length file) few.few_tried few.few_words few.few_records in
        let named = cost_where-le loader.is_named (pad64 (TOLD_BYTES + 1)) in
        rw (r, loader_cost) (omega arith)
