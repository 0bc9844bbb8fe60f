-- What the words that are kept of a filter exclude.
use Rattle.std.proofs.Common.{◌≡◌, ℕ, ◌+◌, ◌*◌, ◌/◌, ◌%◌, ◌^◌, ◌≤◌, ◌&&◌, not, Bool, false, true, List, [], is_some, length, take, Option, None, Some, Ok, refl, sym, ap, subst, ◌∙◌, arith}
use Rattle.elf_model.specs.Bytes.{field, slice}
use Rattle.elf_model.specs.GnuHash.{filter_may_contain, gnu_hash, is_set}
use Rattle.elf_model.specs.Prelude.{GnuTable, SymbolQuery}
use Rattle.elf_model.proofs.Slices.{field-slice}
use Rattle.elf_source.specs.Source.{CountedState, SetsLimit, KeepsSource, SourceState}
use Rattle.elf_source.proofs.ReadsLaws.{ReadsUpTo-none}
use Rattle.elf_table.proofs.LedgerLaws.{CallReads-more, CallReads-none}
use Rattle.elf_hash.specs.Prelude.{ReturnsExcluded}
use Rattle.elf_hash.specs.declared.place.HashTableLocation.{HashTableLocation}
use Rattle.elf_hash.specs.declared.table.HashTable.{HashTable}
use Rattle.elf_hash.specs.declared.lookup_tables.LookupTables.{LookupTables}
use Rattle.elf_hash.proofs.GnuSteps.{passed_over, reported_none}
use Rattle.elf_library.specs.Filters.{ExcludesHash, FilterWords, HasFilter, IsFilterOf, IsHashOf, KeepsFilter}
use Rattle.elf_library.specs.Indices.{KeepsIndices, KnowsIndices}
use Rattle.elf_library.specs.Kept.{IsKept, KnowsVersions, LookupObjectState}
use Rattle.elf_library.specs.Looks.{ExcludesName, LooksInObject, SpendsAtMost, SpendsBudget}
use Rattle.elf_library.specs.VersionNames.{KeepsNames, KnowsNames}
use Rattle.elf_library.specs.VersionTables.{FileVersionsInBounds}
use Rattle.elf_library.specs.declared.kept_indices.VersionIndices.{VersionIndices}
use Rattle.elf_library.specs.declared.kept_version_names.NamedVersion.{NamedVersion}
use Rattle.elf_library.specs.declared.version_tables.FileVersions.{FileVersions}
use Rattle.elf_library.proofs.DefinerLaws.{defines_excluded}
use Rattle.elf_library.proofs.IndexLaws.{knows_indices, same_indices}
use Rattle.elf_library.proofs.NameLaws.{knows_names, same_names}
use Rattle.elf_library.proofs.SpendLaws.{kept_ready, scoped}

-- a word among those that are kept
pub word_kept : (file bytes : List ℕ) (held from at : ℕ) → held ≤ length bytes → at + 8 ≤ held → take held bytes ≡ slice file from held → field bytes at 8 ≡ field file (from + at) 8
word_kept file bytes held from at most within is =
    ap (λ (p : ℕ). field bytes p 8) (omega arith) ∙ sym (field-slice bytes 0 held at 8 within) ∙ ap (λ (b : List ℕ). field b at 8) is ∙ field-slice file from held at 8 within

pub not_so : (b : Bool) → not b ≡ true → b ≡ false
not_so true e = sym e
not_so false e = refl

-- without both bits of a hash it excludes the hash
pub word_excludes :
    (file : List ℕ) (place : HashTableLocation) (filter : FilterWords) (hash word : ℕ) → HasFilter file place filter
    → word ≡ field file (place.at + (16 + 8 * (hash / 64 % filter.count))) 8
    → (is_set word (hash % 64) && is_set word (hash / 2 ^ filter.shift % 64)) ≡ false → filter_may_contain file place.at hash ≡ false
unfolding filter_may_contain
word_excludes file place filter hash word has read isnt = rw (read, has.count, has.shift) at isnt

-- what is excluded has no definition
module _ (src : CountedState) (headers : ℕ) (scope : LookupTables) (table : HashTable) (filter : FilterWords) (wanted : SymbolQuery) (hash : ℕ) where
  pub excludes_name : IsKept src.seen headers scope (Some table) → KeepsFilter src scope.hash filter → ExcludesHash filter hash → IsHashOf wanted hash
      → ExcludesName wanted (record { src = src; headers = headers })
  excludes_name kept keeps excludes is_hash = record {
    free = keeps.free excludes.some;
    known = λ file held.
        let in_file = kept.known file held in
        let told = in_file.told in
        let ready = kept.ready_in file held told in_file.is in
        let has = keeps.known file held excludes.some in
        let kind : told.kind ≡ GnuTable = sym in_file.is.kind ∙ has.kind in
        let isnt : filter_may_contain file told.table.place (gnu_hash wanted.name) ≡ false =
        rw (in_file.is.place, is_hash.0) at (excludes.known file scope.hash has) in
        let none : ReturnsExcluded file told wanted.name (Ok true) =
        λ says. rw kind (passed_over file told.table (gnu_hash wanted.name) says (reported_none file told.table.place (gnu_hash wanted.name) isnt)) in
        let defines = defines_excluded file told wanted ready.counts (ready.versions wanted.asked is_hash.1) none (CallReads-more 12 (omega arith) (CallReads-none src)) in
        ap (λ looked. looked.answer) (scoped file headers wanted told in_file.found) ∙ defines.tells;
  }

-- with a table that is ready, or none
pub excludes_if : (src : CountedState) (headers : ℕ) (scope : LookupTables) (ready : Option HashTable) (filter : FilterWords) (wanted : SymbolQuery) (hash : ℕ) → is_some ready ≡ true
    → IsKept src.seen headers scope ready → KeepsFilter src scope.hash filter → ExcludesHash filter hash → IsHashOf wanted hash → ExcludesName wanted (record { src = src; headers = headers })
excludes_if src headers scope None filter wanted hash some kept keeps excludes is_hash = cc
excludes_if src headers scope (Some table) filter wanted hash some kept keeps excludes is_hash = excludes_name src headers scope table filter wanted hash kept keeps excludes is_hash

-- no word is kept
pub no_filter : (src : CountedState) (place : HashTableLocation) (filter : FilterWords) → filter.bytes ≡ [] → KeepsFilter src place filter
no_filter src place filter empty =
    let none : length filter.bytes ≡ 0 = ap length empty in
    record { free = λ some. absurd (omega (arith, none, some)); known = λ file held some. absurd (omega (arith, none, some)) }

pays_none : (left : Option ℕ) (asked : ℕ) → SpendsBudget left left asked asked
pays_none None asked = tt
pays_none (Some bytes) asked = refl

spends_none : (src : CountedState) (left : Option ℕ) (n : ℕ) → src.most ≡ None → SpendsAtMost src src left None n
spends_none src left n free =
    let reads = ReadsUpTo-none src n in
    record { keeps = reads.keeps; view = reads.view; grows = reads.grows; at_most = reads.at_most; free = free; says = tt }

-- and its lookup reads nothing
pub looks_excluded : (wanted : SymbolQuery) (object : LookupObjectState) (left : Option ℕ) → ExcludesName wanted object → LooksInObject wanted object object left left (Ok None)
looks_excluded wanted object left excludes = record {
  costs = spends_none object.src left _ excludes.free;
  same_headers = refl;
  pays = pays_none left object.src.asked;
  known = λ file held. record { costs = spends_none object.src left _ excludes.free; tells = excludes.known file held };
}

-- WHAT IS KEPT stays so after a call between two limits, the second of which is none
module _ {a b c d : CountedState} {left : Option ℕ} (set : SetsLimit a b left) (keeps : KeepsSource b.seen c.seen) (free : SetsLimit c d None) where
  pub same_size : d.seen.size ≡ a.seen.size
  same_size = ap (λ (s : SourceState). s.size) free.seen ∙ keeps.same_size ∙ ap (λ (s : SourceState). s.size) set.seen

  pub same_file : d.seen.file ≡ a.seen.file
  same_file = ap (λ (s : SourceState). s.file) free.seen ∙ keeps.same_file ∙ ap (λ (s : SourceState). s.file) set.seen

  -- the filter, as it was read or before
  pub keeps_filter : {place : HashTableLocation} {filter : FilterWords} → ((file : List ℕ) → a.seen.file ≡ Some file → IsFilterOf file place filter) → KeepsFilter d place filter
  keeps_filter tells = record { free = λ some. free.most; known = λ file held. tells file (sym same_file ∙ held) }

  pub kept_after :
      {headers : ℕ} {scope : LookupTables} {ready : Option HashTable} {versions : FileVersions} {place : HashTableLocation} {filter : FilterWords} {old new : List (Option VersionIndices)} {was now : List (Option NamedVersion)}
      → IsKept a.seen headers scope ready × KnowsVersions a.seen versions × KeepsFilter a place filter × KnowsIndices a.seen scope old × KnowsNames a.seen scope.symbols was
      → KeepsIndices b.seen scope old new → KeepsNames b.seen scope.symbols was now
      → IsKept d.seen headers scope ready × KnowsVersions d.seen versions × KeepsFilter d place filter × KnowsIndices d.seen scope new × KnowsNames d.seen scope.symbols now
  kept_after {headers} {scope} {ready} {versions} (kept, knows, filters, indices, names) keeps_indices keeps_names = (
    kept_ready a.seen d.seen headers scope ready ready kept same_size same_file kept.placed kept.ready_in,
    record { lies = subst (λ (n : ℕ). FileVersionsInBounds n versions) (sym same_size) knows.lies; known = λ file held. knows.known file (sym same_file ∙ held) },
    keeps_filter filters.known,
    knows_indices set keeps free indices keeps_indices,
    knows_names set keeps free names keeps_names,
  )

  pub kept_between :
      {headers : ℕ} {scope : LookupTables} {ready : Option HashTable} {versions : FileVersions} {place : HashTableLocation} {filter : FilterWords} {places : List (Option VersionIndices)} {names : List (Option NamedVersion)}
      → IsKept a.seen headers scope ready × KnowsVersions a.seen versions × KeepsFilter a place filter × KnowsIndices a.seen scope places × KnowsNames a.seen scope.symbols names
      → IsKept d.seen headers scope ready × KnowsVersions d.seen versions × KeepsFilter d place filter × KnowsIndices d.seen scope places × KnowsNames d.seen scope.symbols names
  kept_between all = kept_after all same_indices same_names
