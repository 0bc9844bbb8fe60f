-- The version of a symbol that is found.
use Rattle.std.proofs.Common.{◌≡◌, ℕ, ◌+◌, ◌*◌, ◌<◌, ◌≤◌, subst, nat_lt, true, false, is_some, List, [], Option, None, Some, Result, Ok, Err, refl, sym, ap, ◌∙◌, arith}
use Rattle.std.proofs.lemmas.Bool.Decides.{nat_tests}
use Rattle.elf_model.specs.Prelude.{ChainResult, DisplayedName, LoaderLookup, LookupTables, NumberNameSource, TOLD_BYTES, VersionQuery, VersymTable, VisitedRecord, asked_name, cost_where, field, found_in, found_lookup, name_index, named_by_record, naming_of, number_in, readings, shown, versym, versym_at}
use Rattle.elf_model.specs.declared.causes.Cause.{Cause}
use Rattle.elf_model.specs.declared.causes.Refusal.{Refusal}
use Rattle.elf_model.specs.Names.DisplayedName.{Whole}
use Rattle.elf_source.specs.Source.{CountedState}
use Rattle.elf_table.specs.Prelude.{CallReads, row_at}
use Rattle.elf_table.specs.declared.fault.Fault.{Fault}
use Rattle.elf_table.specs.declared.fault.Fault.TheVariants.{Refused, Source}
use Rattle.elf_table.proofs.LedgerLaws.{CallReads-more, CallReads-none}
use Rattle.elf_hash.specs.Prelude.{AreVersymTable, IsVersymTable}
use Rattle.elf_hash.specs.declared.symbols.VersymTable.{VersymTable as Words}
use Rattle.elf_loader.specs.Prelude.{FindsVersion, IsRelocationReported, IsVersionFound, LookupSpends, ReturnsVersionName, name_shown, parsed_member_bytes}
use Rattle.elf_loader.specs.declared.found.FoundVersion.{FoundVersion}
use Rattle.elf_loader.specs.declared.resolved_version_name.ResolvedVersionName.{ResolvedVersionName}
use Rattle.elf_loader.specs.declared.found.VersionName.TheVariants.{Told, Unnamed, Wanted}
use Rattle.elf_loader.specs.declared.found.VersionName.{VersionName}

-- if a version is wanted, it is returned as it is wanted
pub in-wanted :
    (file : List ℕ) (scope : LookupTables) (asked : VersionQuery) (records y : ℕ) (walked : ChainResult) (words : VersymTable) (version : List ℕ) → asked_name asked ≡ Some version
    → found_in file scope asked records y walked (Some words)
    ≡ found_lookup scope y walked records false (Some (record { index = words.index; word = versym file (versym_at words y); name = Whole version }))
unfolding found_in
in-wanted file scope asked records y walked words version n = rw (n, found_in) refl

-- if its version index is 0 or 1, it has no name
pub in-unnamed :
    (file : List ℕ) (scope : LookupTables) (asked : VersionQuery) (records y : ℕ) (walked : ChainResult) (words : VersymTable) → asked_name asked ≡ None
    → nat_lt (number_in (versym file (versym_at words y))) 2 ≡ true
    → found_in file scope asked records y walked (Some words)
    ≡ found_lookup scope y walked records false (Some (record { index = words.index; word = versym file (versym_at words y); name = Whole [] }))
unfolding found_in
in-unnamed file scope asked records y walked words n low = rw (n, low, found_in) refl

-- otherwise it is that of its index
pub in-told :
    (file : List ℕ) (scope : LookupTables) (asked : VersionQuery) (records y : ℕ) (walked : ChainResult) (words : VersymTable) → asked_name asked ≡ None
    → nat_lt (number_in (versym file (versym_at words y))) 2 ≡ false
    → found_in file scope asked records y walked (Some words)
    ≡ named_by_record file scope words y walked (naming_of file (number_in (versym file (versym_at words y))) (readings file scope.symbols.records))
unfolding found_in
in-told file scope asked records y walked words n high = rw (n, high, found_in) refl

-- what finding it reads, for any result
pub told-spends : (file : List ℕ) (scope : LookupTables) (words : VersymTable) (y : ℕ) (walked : ChainResult) (naming : NumberNameSource) → LookupSpends (named_by_record file scope words y walked naming) walked naming.read (is_some naming.found)
unfolding named_by_record
told-spends file scope words y walked naming = go naming.found refl naming.refused refl
  where
    read : (found : List ℕ × VisitedRecord) → naming.found ≡ Some found → (name : Result DisplayedName Cause) → shown found.0 (name_index file found.1) TOLD_BYTES ≡ name → LookupSpends (named_by_record file scope words y walked naming) walked naming.read (is_some naming.found)
    read found f (Ok name) n = rw (f, named_by_record) (rw (n, named_by_record) (record { tried = refl; chain_words = refl; records = refl; is_named = refl }))
    read found f (Err cause) n = rw (f, named_by_record) (rw (n, named_by_record) (record { tried = refl; chain_words = refl; records = refl; is_named = refl }))

    go : (found : Option (List ℕ × VisitedRecord)) → naming.found ≡ found → (refused : Option Refusal) → naming.refused ≡ refused → LookupSpends (named_by_record file scope words y walked naming) walked naming.read (is_some naming.found)
    go (Some found) f refused r = read found f (shown found.0 (name_index file found.1) TOLD_BYTES) refl
    go None f None r = rw (f, r, named_by_record) (record { tried = refl; chain_words = refl; records = refl; is_named = refl })
    go None f (Some refusal) r = rw (f, r, named_by_record) (record { tried = refl; chain_words = refl; records = refl; is_named = refl })

-- the version of a symbol that is found is returned without a read
finds-here :
    (file : List ℕ) (scope : LookupTables) (asked : VersionQuery) (words : VersymTable) (y word : ℕ) (told : List ℕ) (c : CountedState) (code : Words) (named : VersionName)
    → IsVersymTable words code → word ≡ versym file (versym_at words y) → IsRelocationReported file told 0 named → CallReads c c None 0
    → ((before : ℕ) (walked : ChainResult) → found_in file scope asked before y walked (Some words)
    ≡ found_lookup scope y walked before false (Some (record { index = words.index; word = versym file (versym_at words y); name = name_shown (asked_name asked) told named })))
    → FindsVersion Some file scope asked (Some words) y c c told (Ok (record { index = code.index; word = word; name = named; name_at = 0 }))
finds-here file scope asked words y word told c code named is here is_at none in_is = record {
  records = 0;
  is_named = false;
  costs = CallReads-more _ (omega arith) none;
  spends = λ walked before first.
      let e = in_is before walked in
      rw e (record { tried = refl; chain_words = refl; records = omega arith; is_named = refl });
  finds = λ walked before first.
      let e = in_is before walked in
      let index = is.index in
      rw (e, index, here) refl;
  is_at = is_at;
}

-- under the wanted name
pub finds-wanted :
    (file : List ℕ) (scope : LookupTables) (asked : VersionQuery) (words : VersymTable) (y word : ℕ) (version told : List ℕ) (c : CountedState) (code : Words)
    → asked_name asked ≡ Some version → IsVersymTable words code → word ≡ versym file (versym_at words y) → CallReads c c None 0
    → FindsVersion Some file scope asked (Some words) y c c told (Ok (record { index = code.index; word = word; name = Wanted; name_at = 0 }))
finds-wanted file scope asked words y word version told c code n is here none =
    finds-here file scope asked words y word told c code Wanted is here refl none (λ before walked. rw n (in-wanted file scope asked before y walked words version n))

-- without a name
pub finds-unnamed :
    (file : List ℕ) (scope : LookupTables) (asked : VersionQuery) (words : VersymTable) (y word : ℕ) (told : List ℕ) (c : CountedState) (code : Words)
    → asked_name asked ≡ None → IsVersymTable words code → word ≡ versym file (versym_at words y) → number_in word < 2 → CallReads c c None 0
    → FindsVersion Some file scope asked (Some words) y c c told (Ok (record { index = code.index; word = word; name = Unnamed; name_at = 0 }))
finds-unnamed file scope asked words y word told c code n is here low none =
    let small : nat_lt (number_in (versym file (versym_at words y))) 2 ≡ true = subst (λ (w : ℕ). nat_lt (number_in w) 2 ≡ true) here (below (number_in word) low) in
    finds-here file scope asked words y word told c code Unnamed is here refl none (λ before walked. in-unnamed file scope asked before y walked words n small)
  where
    below : (number : ℕ) → number < 2 → nat_lt number 2 ≡ true
    below number low = grind (arith, nat_tests)

-- by the name of its version index
above : (number : ℕ) → 2 ≤ number → nat_lt number 2 ≡ false
above number high = grind (arith, nat_tests)

finds-told :
    (file : List ℕ) (scope : LookupTables) (asked : VersionQuery) (words : VersymTable) (y word : ℕ) (told : List ℕ) (a b : CountedState) (code : Words) (name : ResolvedVersionName)
    → asked_name asked ≡ None → IsVersymTable words code → word ≡ versym file (versym_at words y) → 2 ≤ number_in word
    → ReturnsVersionName file scope words y (naming_of file (number_in word) (readings file scope.symbols.records)) a b told (Ok name)
    → FindsVersion Some file scope asked (Some words) y a b told (Ok (record { index = code.index; word = word; name = Told name.end; name_at = name.at }))
finds-told file scope asked words y word told a b code name n is here high tells =
    let naming = naming_of file (number_in word) (readings file scope.symbols.records) in
    let large : nat_lt (number_in (versym file (versym_at words y))) 2 ≡ false = subst (λ (w : ℕ). nat_lt (number_in w) 2 ≡ false) here (above (number_in word) high) in
    let in_told : (before : ℕ) (walked : ChainResult) → found_in file scope asked before y walked (Some words) ≡ named_by_record file scope words y walked naming =
    λ before walked. in-told file scope asked before y walked words n large ∙ ap (λ (w : ℕ). named_by_record file scope words y walked (naming_of file (number_in w) (readings file scope.symbols.records))) (sym here) in
    record {
      records = naming.read;
      is_named = true;
      costs = tells.0;
      spends = λ walked before first.
          let e = in_told before walked ∙ tells.1 walked in
          let none = first n in
          rw e (record { tried = refl; chain_words = refl; records = omega (arith, none); is_named = refl });
      finds = λ walked before first.
          let e = in_told before walked ∙ tells.1 walked in
          let index = is.index in
          rw (e, index, here) refl;
      is_at = tells.2;
    }

-- or it is not returned
finds-fault :
    (file : List ℕ) (scope : LookupTables) (asked : VersionQuery) (words : VersymTable) (y word : ℕ) (told : List ℕ) (a b : CountedState) (fault : Fault)
    → asked_name asked ≡ None → word ≡ versym file (versym_at words y) → 2 ≤ number_in word
    → ReturnsVersionName file scope words y (naming_of file (number_in word) (readings file scope.symbols.records)) a b told (Err fault)
    → FindsVersion Some file scope asked (Some words) y a b told (Err fault)
finds-fault file scope asked words y word told a b fault n here high tells =
    let naming = naming_of file (number_in word) (readings file scope.symbols.records) in
    let large : nat_lt (number_in (versym file (versym_at words y))) 2 ≡ false = subst (λ (w : ℕ). nat_lt (number_in w) 2 ≡ false) here (above (number_in word) high) in
    let in_told : (before : ℕ) (walked : ChainResult) → found_in file scope asked before y walked (Some words) ≡ named_by_record file scope words y walked naming =
    λ before walked. in-told file scope asked before y walked words n large ∙ ap (λ (w : ℕ). named_by_record file scope words y walked (naming_of file (number_in w) (readings file scope.symbols.records))) (sym here) in
    record {
      records = naming.read;
      is_named = is_some naming.found;
      costs = paid fault tells;
      spends = λ walked before first.
          let e = in_told before walked in
          let none = first n in
          let spends = told-spends file scope words y walked naming in
          rw e (record { tried = spends.tried; chain_words = spends.chain_words; records = omega (arith, none, spends.records); is_named = spends.is_named });
      finds = λ walked before first. refused fault tells walked (found_in file scope asked before y walked (Some words)) (in_told before walked);
      is_at = tt;
    }
  where
    naming : NumberNameSource
    naming = naming_of file (number_in word) (readings file scope.symbols.records)

    paid : (fault : Fault) → ReturnsVersionName file scope words y naming a b told (Err fault) → CallReads a b (Some fault) (naming.read * 28 + cost_where (is_some naming.found) parsed_member_bytes)
    paid (Refused refusal) t = t.0
    paid (Source fault at) t = t

    refused : (fault : Fault) → ReturnsVersionName file scope words y naming a b told (Err fault) → (walked : ChainResult) (lookup : LoaderLookup) → lookup ≡ named_by_record file scope words y walked naming
        → IsVersionFound Some scope asked y told walked lookup (Err fault)
    refused (Refused refusal) t walked lookup e = λ other. let told_so = e ∙ t.1 other walked in rw told_so refl
    refused (Source fault at) t walked lookup e = tt

-- the same for an index that is the one in the versym entry
pub finds-told-by :
    (file : List ℕ) (scope : LookupTables) (asked : VersionQuery) (words : VersymTable) (y word number : ℕ) (told : List ℕ) (a b : CountedState) (code : Words) (name : ResolvedVersionName)
    → number ≡ number_in word → asked_name asked ≡ None → IsVersymTable words code → word ≡ versym file (versym_at words y) → 2 ≤ number
    → ReturnsVersionName file scope words y (naming_of file number (readings file scope.symbols.records)) a b told (Ok name)
    → FindsVersion Some file scope asked (Some words) y a b told (Ok (record { index = code.index; word = word; name = Told name.end; name_at = name.at }))
finds-told-by file scope asked words y word number told a b code name e n is here high tells =
    finds-told file scope asked words y word told a b code name n is here (subst (λ (m : ℕ). 2 ≤ m) e high)
    (subst (λ (m : ℕ). ReturnsVersionName file scope words y (naming_of file m (readings file scope.symbols.records)) a b told (Ok name)) e tells)

pub finds-fault-by :
    (file : List ℕ) (scope : LookupTables) (asked : VersionQuery) (words : VersymTable) (y word number : ℕ) (told : List ℕ) (a b : CountedState) (fault : Fault)
    → number ≡ number_in word → asked_name asked ≡ None → word ≡ versym file (versym_at words y) → 2 ≤ number
    → ReturnsVersionName file scope words y (naming_of file number (readings file scope.symbols.records)) a b told (Err fault)
    → FindsVersion Some file scope asked (Some words) y a b told (Err fault)
finds-fault-by file scope asked words y word number told a b fault e n here high tells =
    finds-fault file scope asked words y word told a b fault n here (subst (λ (m : ℕ). 2 ≤ m) e high)
    (subst (λ (m : ℕ). ReturnsVersionName file scope words y (naming_of file m (readings file scope.symbols.records)) a b told (Err fault)) e tells)

-- the offset of a versym entry
pub word-at : (told : VersymTable) (code : Words) (y : ℕ) → IsVersymTable told code → code.words.entry ≡ 2 → row_at code.words y ≡ versym_at told y
word-at told code y is entry = rw (entry, is.place) (omega arith)

pub word-is : (file : List ℕ) (told : VersymTable) (code : Words) (y word : ℕ) → IsVersymTable told code → code.words.entry ≡ 2 → word ≡ field file (row_at code.words y) 2
    → word ≡ versym file (versym_at told y)
word-is file told code y word is entry is_at = is_at ∙ ap (λ (at : ℕ). field file at 2) (word-at told code y is entry)

-- the same if there may be no versions
pub finds-none : (file : List ℕ) (scope : LookupTables) (asked : VersionQuery) (y : ℕ) (told : List ℕ) (c : CountedState) → AreVersymTable scope.symbols.words None → FindsVersion (λ (version : Option FoundVersion). version) file scope asked scope.symbols.words y c c told (Ok None)
unfolding found_in
finds-none file scope asked y told c are = go scope.symbols.words refl are
  where
    go : (words : Option VersymTable) → scope.symbols.words ≡ words → AreVersymTable words None → FindsVersion (λ (version : Option FoundVersion). version) file scope asked scope.symbols.words y c c told (Ok None)
    go None e none = record {
      records = 0;
      is_named = false;
      costs = CallReads-more _ (omega arith) (CallReads-none c);
      spends = λ walked before first. rw e (record { tried = refl; chain_words = refl; records = omega arith; is_named = refl });
      finds = λ walked before first. rw e refl;
      is_at = tt;
    }
    go (Some words) e none = absurd none

with-words : (file : List ℕ) (scope : LookupTables) (asked : VersionQuery) (y : ℕ) {words : VersymTable} → scope.symbols.words ≡ Some words → (before : ℕ) (walked : ChainResult)
    → found_in file scope asked before y walked scope.symbols.words ≡ found_in file scope asked before y walked (Some words)
with-words file scope asked y e before walked = ap (found_in file scope asked before y walked) e

module _ {a b : CountedState} (file : List ℕ) (scope : LookupTables) (asked : VersionQuery) (y : ℕ) (told : List ℕ) (code : Words) (are : AreVersymTable scope.symbols.words (Some code)) where
  pub finds-some : (version : FoundVersion) → ((words : VersymTable) → IsVersymTable words code → FindsVersion Some file scope asked (Some words) y a b told (Ok version))
      → FindsVersion (λ (version : Option FoundVersion). version) file scope asked scope.symbols.words y a b told (Ok (Some version))
  finds-some version finds = go scope.symbols.words refl are
    where
      go : (words : Option VersymTable) → scope.symbols.words ≡ words → AreVersymTable words (Some code) → FindsVersion (λ (version : Option FoundVersion). version) file scope asked scope.symbols.words y a b told (Ok (Some version))
      go None e is = absurd is
      go (Some words) e is =
          let f = finds words is in
          record {
            records = f.records;
            is_named = f.is_named;
            costs = f.costs;
            spends = λ walked before first. let is = with-words file scope asked y e before walked in rw is (f.spends walked before first);
            finds = λ walked before first. let is = with-words file scope asked y e before walked in rw is (f.finds walked before first);
            is_at = f.is_at;
          }

  pub finds-failed : (fault : Fault) → ((words : VersymTable) → IsVersymTable words code → FindsVersion Some file scope asked (Some words) y a b told (Err fault))
      → FindsVersion (λ (version : Option FoundVersion). version) file scope asked scope.symbols.words y a b told (Err fault)
  finds-failed fault finds = go scope.symbols.words refl are
    where
      fails : (fault : Fault) (walked : ChainResult) (looked there : LoaderLookup) → looked ≡ there → IsVersionFound Some scope asked y told walked there (Err fault) → IsVersionFound (λ (version : Option FoundVersion). version) scope asked y told walked looked (Err fault)
      fails (Refused refusal) walked looked there e found = λ other. ap (λ (l : LoaderLookup). l.lookup.answer) e ∙ found other
      fails (Source fault at) walked looked there e found = tt

      go : (words : Option VersymTable) → scope.symbols.words ≡ words → AreVersymTable words (Some code) → FindsVersion (λ (version : Option FoundVersion). version) file scope asked scope.symbols.words y a b told (Err fault)
      go None e is = absurd is
      go (Some words) e is =
          let f = finds words is in
          record {
            records = f.records;
            is_named = f.is_named;
            costs = f.costs;
            spends = λ walked before first. let is = with-words file scope asked y e before walked in rw is (f.spends walked before first);
            finds = λ walked before first. fails fault walked _ _ (with-words file scope asked y e before walked) (f.finds walked before first);
            is_at = tt;
          }
