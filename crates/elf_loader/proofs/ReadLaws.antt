-- How much a lookup reads, and an upper bound of that.
use Rattle.std.proofs.Common.{◌≡◌, ℕ, zero, suc, ◌+◌, ◌*◌, ◌/◌, ◌<◌, ◌≤◌, nat_lt, Bool, false, inl, inr, List, Option, None, Some, Result, Ok, Err, IfSome, length, refl, sym, ap, subst, arith, mul-le-mul_right}
use Rattle.std.proofs.lemmas.Bool.{cases_Bool}
use Rattle.elf_model.specs.Prelude.{Absent, ChainResult, LoaderLookup, LookupTables, SymbolQuery, VersionQuery, VersymTable, asked_name, cost_where, found_in, loader_ceiling, looked_by, lookup_asks, max_records, naming_of, number_in, pad64, readings, record_cost, refused_lookup, versym, versym_at}
use Rattle.elf_model.specs.declared.versions.VersionKind.TheVariants.{Definition, File, Need}
use Rattle.elf_model.specs.declared.causes.Refusal.{Refusal}
use Rattle.elf_model.specs.declared.versions.VersionKind.{VersionKind}
use Rattle.elf_hash.specs.Prelude.{DynamicSymbolsInBounds, VersionRecordsInBounds, walk_bytes}
use Rattle.elf_hash.specs.declared.symbols.DynamicSymbols.{DynamicSymbols}
use Rattle.elf_hash.specs.declared.symbols.VersionRecordTable.{VersionRecordTable}
use Rattle.elf_loader.specs.Prelude.{LookupSpends, comparing_bytes, lookup_bytes, match_bytes, max_records_of, max_versions_of, parsed_member_bytes, telling_bytes}
use Rattle.elf_loader.proofs.FoundLaws.{in-told, in-unnamed, in-wanted, told-spends}

-- A SOURCE'S RECORDS are few
most_one : (kind : VersionKind) (count size : ℕ) → (kind ≡ Need → ⊥) → count ≤ size → max_records kind count ≤ size / 16
most_one Definition count size other low = omega (arith, low)
most_one File count size other low = omega (arith, low)
most_one Need count size other low = absurd (other refl)

count_low : (at count entry size : ℕ) → entry ≡ 1 → (0 < count → at + count * entry ≤ size) → count ≤ size
count_low at zero entry size one within = omega arith
count_low at (suc n) entry size one within = let low = rw one at (within (omega arith)) in omega (arith, low)

most_in : (records : Option VersionRecordTable) (size : ℕ) → IfSome records (VersionRecordsInBounds size) → max_records_of records ≤ size / 16
most_in None size within = omega arith
most_in (Some records) size within =
    most_one records.kind records.table.count size records.first (count_low records.table.at records.table.count records.table.entry size records.bytes within.table)

pub most_all : (symbols : DynamicSymbols) (size : ℕ) → DynamicSymbolsInBounds size symbols → max_versions_of symbols ≤ size / 8
most_all symbols size lies = omega (arith, most_in symbols.definitions size lies.definitions, most_in symbols.needs size lies.needs)

-- they are read to be compared or to find a version
pub one_of_both : (asked : VersionQuery) (most : ℕ) → comparing_bytes asked most + telling_bytes asked most ≤ most * record_cost asked + parsed_member_bytes
one_of_both asked most = go (asked_name asked) refl
  where
    go : (name : Option (List ℕ)) → asked_name asked ≡ name → comparing_bytes asked most + telling_bytes asked most ≤ most * record_cost asked + parsed_member_bytes
    go None n = rw (n, comparing_bytes, telling_bytes) (omega arith)
    go (Some version) n = rw (n, comparing_bytes, telling_bytes) (omega arith)

-- all that is requested after the counts
pub after_within :
    (wanted : SymbolQuery) (symbols : DynamicSymbols) (place table size : ℕ) → DynamicSymbolsInBounds size symbols → place + table ≤ size
    → comparing_bytes wanted.asked (max_versions_of symbols) + (walk_bytes 12 (table / 4) (table / 4) (match_bytes wanted) + telling_bytes wanted.asked (max_versions_of symbols))
    ≤ lookup_bytes 12 size wanted
after_within wanted symbols place table size lies within =
    let both = one_of_both wanted.asked (max_versions_of symbols) in
    let quarter : table / 4 ≤ size / 4 = omega (arith, within) in
    let steps = mul-le-mul_right (4 + match_bytes wanted) quarter in
    let records = mul-le-mul_right (record_cost wanted.asked) (most_all symbols size lies) in
    omega (arith, both, steps, records)

-- and with the headers
pub ceiling_is : (size headers : ℕ) (wanted : SymbolQuery) → loader_ceiling size headers wanted ≡ 64 + 64 * headers + size + lookup_bytes 28 size wanted
unfolding loader_ceiling
ceiling_is size headers wanted = omega arith

-- the result of a lookup by its walk
module _ (file : List ℕ) (scope : LookupTables) (asked : VersionQuery) (before : ℕ) (walked : ChainResult) where
  pub by_absent : walked.answer ≡ Ok None → (looked_by file scope asked before walked).lookup ≡ record { answer = Absent; compared = walked.tried }
  unfolding looked_by
  by_absent e = rw (e, looked_by) refl

  pub by_refused : (refusal : Refusal) → walked.answer ≡ Err refusal → looked_by file scope asked before walked ≡ refused_lookup walked.tried walked.read before false refusal
  unfolding looked_by
  by_refused refusal e = rw (e, looked_by) refl

  with_answer : Result (Option ℕ) Refusal → ChainResult
  with_answer answer = record { answer = answer; tried = walked.tried; read = walked.read }

  pub by_found : (y : ℕ) → walked.answer ≡ Ok (Some y) → looked_by file scope asked before walked ≡ found_in file scope asked before y walked scope.symbols.words
  unfolding looked_by with_answer
  by_found y e =
      subst (λ (answer : Result (Option ℕ) Refusal). looked_by file scope asked before (with_answer answer) ≡ found_in file scope asked before y (with_answer answer) scope.symbols.words) (sym e) refl

-- WHAT A LOOKUP READS by its walk, for any result, and the records that were read before
pub record ReadsWalk (looked : LoaderLookup) (walked : ChainResult) (before : ℕ) : Type 0 where
  pub tried : looked.lookup.compared ≡ walked.tried
  pub chain_words : looked.chain_words ≡ walked.read
  pub records : before ≤ looked.records

spends_reads : (looked : LoaderLookup) (walked : ChainResult) (before records : ℕ) (is_named : Bool) → LookupSpends looked walked records is_named → before ≤ records → ReadsWalk looked walked before
spends_reads looked walked before records is_named spends low =
    record { tried = spends.tried; chain_words = spends.chain_words; records = omega (arith, low, spends.records) }

module _ (file : List ℕ) (scope : LookupTables) (asked : VersionQuery) (before : ℕ) (walked : ChainResult) (first : asked_name asked ≡ None → before ≡ 0) where
  found_reads : (y : ℕ) (words : Option VersymTable) → ReadsWalk (found_in file scope asked before y walked words) walked before
  unfolding found_in
  found_reads y None = record { tried = refl; chain_words = refl; records = omega arith }
  found_reads y (Some words) = go (asked_name asked) refl
    where
      go : (name : Option (List ℕ)) → asked_name asked ≡ name → ReadsWalk (found_in file scope asked before y walked (Some words)) walked before
      go (Some version) n = rw (in-wanted file scope asked before y walked words version n) (record { tried = refl; chain_words = refl; records = omega arith })
      go None n =
          elim (cases_Bool (nat_lt (number_in (versym file (versym_at words y))) 2)) [
            | inl low ↦ rw (in-unnamed file scope asked before y walked words n low) (record { tried = refl; chain_words = refl; records = omega arith })
            | inr high ↦
                let naming = naming_of file (number_in (versym file (versym_at words y))) (readings file scope.symbols.records) in
                let none = first n in
                rw (in-told file scope asked before y walked words n high)
                (spends_reads _ walked before naming.read _ (told-spends file scope words y walked naming) (omega (arith, none)))
          ]

  pub looked_reads : ReadsWalk (looked_by file scope asked before walked) walked before
  unfolding looked_by
  looked_reads = go walked.answer refl
    where
      go : (answer : Result (Option ℕ) Refusal) → walked.answer ≡ answer → ReadsWalk (looked_by file scope asked before walked) walked before
      go (Err refusal) a = rw (a, looked_by) (record { tried = refl; chain_words = refl; records = omega arith })
      go (Ok None) a = rw (a, looked_by) (record { tried = refl; chain_words = refl; records = omega arith })
      go (Ok (Some y)) a = let is = by_found file scope asked before walked y a in rw is (found_reads y scope.symbols.words)

-- how many bytes that is
asks_are : (wanted : SymbolQuery) (looked : LoaderLookup)
    → lookup_asks wanted looked ≡ 4 * looked.chain_words + looked.lookup.compared * match_bytes wanted + looked.records * record_cost wanted.asked + cost_where looked.is_named parsed_member_bytes
unfolding lookup_asks
asks_are wanted looked = refl

pub asks_least : (wanted : SymbolQuery) (looked : LoaderLookup) (walked : ChainResult) (before : ℕ) → ReadsWalk looked walked before
    → walk_bytes (before * record_cost wanted.asked) walked.read walked.tried (match_bytes wanted) ≤ lookup_asks wanted looked
asks_least wanted looked walked before reads =
    let records = mul-le-mul_right (record_cost wanted.asked) reads.records in
    let words = reads.chain_words in
    let tried = ap (λ (n : ℕ). n * match_bytes wanted) reads.tried in
    let are = asks_are wanted looked in
    omega (arith, records, words, tried, are)

pub asks_records : (wanted : SymbolQuery) (looked : LoaderLookup) (read : ℕ) → read ≤ looked.records → read * record_cost wanted.asked ≤ lookup_asks wanted looked
asks_records wanted looked read low =
    let records = mul-le-mul_right (record_cost wanted.asked) low in
    let are = asks_are wanted looked in
    omega (arith, records, are)

least_each : (n more : ℕ) → n * 28 ≤ n * (28 + more)
least_each n more = omega arith

both_each : (before records each : ℕ) → (before + records) * each ≡ before * each + records * each
both_each before records each = omega arith

pub asks_all : (wanted : SymbolQuery) (looked : LoaderLookup) (walked : ChainResult) (before records : ℕ) (is_named : Bool) → LookupSpends looked walked (before + records) is_named
    → walk_bytes (before * record_cost wanted.asked) walked.read walked.tried (match_bytes wanted) + (records * 28 + cost_where is_named parsed_member_bytes) ≤ lookup_asks wanted looked
asks_all wanted looked walked before records is_named spends =
    let each = least_each records (elim (asked_name wanted.asked) [ None ↦ 0 | Some version ↦ pad64 (length version + 1) ]) in
    let all = both_each before records (record_cost wanted.asked) in
    let read = ap (λ (n : ℕ). n * record_cost wanted.asked) spends.records in
    let words = spends.chain_words in
    let tried = ap (λ (n : ℕ). n * match_bytes wanted) spends.tried in
    let named = ap (λ (b : Bool). cost_where b parsed_member_bytes) spends.is_named in
    let are = asks_are wanted looked in
    omega (arith, each, all, read, words, tried, named, are)
