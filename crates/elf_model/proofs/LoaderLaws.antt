-- A loader's lookup: a symbol that is found is one to take.
use Rattle.std.proofs.Common.{◌≡◌, ℕ, Bool, true, false, nat_lt, List, [], ◌∷◌, Option, None, Some, Result, Ok, Err, inl, inr, refl}
use Rattle.std.proofs.lemmas.Bool.{cases_Bool}
use Rattle.elf_model.specs.Prelude.{ChainResult, DisplayedName, DynamicSymbols, Found, GnuTable, HashStyle, IsTaken, LoaderFoundIsTaken, LookupTables, NumberNameSource, SymbolQuery, SysvTable, TOLD_BYTES, VersionQuery, VersymTable, VisitedRecord, answers, asked_name, counts_check, first_refusal, found_in, gnu_hash, is_among, is_exported, loaded_in, loader_looked, looked_by, lookup_tables_of, name_index, named_by_record, number_in, same, shown, st_name, symbol_offset, sysv_hash, version_fits, version_indices, versym, versym_at, walk_in}
use Rattle.elf_model.specs.declared.causes.Cause.{Cause}
use Rattle.elf_model.specs.declared.causes.Refusal.{Refusal}
use Rattle.elf_model.specs.Hash.{Refused}
use Rattle.elf_model.proofs.GnuHashLaws.{gnu_found_answers}
use Rattle.elf_model.proofs.SysvWalkLaws.{sysv_found_answers}

-- a result is that a symbol is found, returned in this way
record IsSymbol (scope : LookupTables) (y section index symbol : ℕ) : Type 0 where
  section_is : section ≡ scope.symbols.index
  index_is : index ≡ y
  symbol_is : symbol ≡ symbol_offset scope.symbols y

is_symbol : (scope : LookupTables) (y section index symbol : ℕ)
    → Found scope.symbols.index y (symbol_offset scope.symbols y) ≡ Found section index symbol → IsSymbol scope y section index symbol
is_symbol scope y section index symbol e = record { section_is = cc; index_is = cc; symbol_is = cc }

not_refused : (refusal : Refusal) (section index symbol : ℕ) → Refused refusal ≡ Found section index symbol → ⊥
not_refused refusal section index symbol e = cc

-- what makes a symbol answer
module _ (file : List ℕ) (symbols : DynamicSymbols) (wanted : SymbolQuery) (is_wanted : ℕ → Bool) (y : ℕ) where
  record Parts : Type 0 where
    named : same symbols.strings (st_name file (symbol_offset symbols y)) wanted.name ≡ Ok true
    offered : is_exported file (symbol_offset symbols y) ≡ true
    fitting : version_fits file symbols.words wanted.asked is_wanted y ≡ Ok true

  parts_by :
      (equal : Result Bool Cause) (offered : Bool) → same symbols.strings (st_name file (symbol_offset symbols y)) wanted.name ≡ equal
      → is_exported file (symbol_offset symbols y) ≡ offered → answers file symbols wanted is_wanted y ≡ Ok true → Parts
  unfolding answers
  parts_by (Err cause) offered n o e = absurd (let a = rw (n, answers) at e in cc)
  parts_by (Ok false) offered n o e = absurd (let a = rw (n, answers) at e in cc)
  parts_by (Ok true) false n o e = absurd (let a = rw (n, o, answers) at e in cc)
  parts_by (Ok true) true n o e = record { named = n; offered = o; fitting = rw (n, o, answers) at e }

  answer_parts : answers file symbols wanted is_wanted y ≡ Ok true → Parts
  answer_parts e = parts_by _ _ refl refl e

-- a symbol that a walk of either kind finds answers
walk_by : (file : List ℕ) (scope : LookupTables) (wanted : SymbolQuery) (is_wanted : ℕ → Bool) (y : ℕ) (kind : HashStyle) → scope.kind ≡ kind
    → (walk_in file scope wanted is_wanted).answer ≡ Ok (Some y) → answers file scope.symbols wanted is_wanted y ≡ Ok true
unfolding walk_in
walk_by file scope wanted is_wanted y GnuTable k e =
    let found = gnu_found_answers file scope.table (gnu_hash wanted.name) (answers file scope.symbols wanted is_wanted) y (rw (k, walk_in) at e) in
    found.answers
walk_by file scope wanted is_wanted y SysvTable k e =
    sysv_found_answers file scope.table (sysv_hash wanted.name) (answers file scope.symbols wanted is_wanted) y (rw (k, walk_in) at e)

-- the symbol in the result is the one that the walk finds
module _ (file : List ℕ) (scope : LookupTables) (words : VersymTable) (y : ℕ) (walked : ChainResult) where
  told-shown :
      (naming : NumberNameSource) (found : List ℕ × VisitedRecord) → naming.found ≡ Some found
      → (name : Result DisplayedName Cause) → shown found.0 (name_index file found.1) TOLD_BYTES ≡ name
      → (section index symbol : ℕ) → (named_by_record file scope words y walked naming).lookup.answer ≡ Found section index symbol
      → IsSymbol scope y section index symbol
  unfolding named_by_record
  told-shown naming found f (Ok name) n section index symbol e = is_symbol scope y section index symbol (rw (f, n, named_by_record) at e)
  told-shown naming found f (Err cause) n section index symbol e = absurd (not_refused _ section index symbol (rw (f, n, named_by_record) at e))

  told-unnamed :
      (naming : NumberNameSource) (refused : Option Refusal) → naming.found ≡ None → naming.refused ≡ refused
      → (section index symbol : ℕ) → (named_by_record file scope words y walked naming).lookup.answer ≡ Found section index symbol → ⊥
  unfolding named_by_record
  told-unnamed naming (Some refusal) f r section index symbol e = not_refused refusal section index symbol (rw (f, r, named_by_record) at e)
  told-unnamed naming None f r section index symbol e = not_refused _ section index symbol (rw (f, r, named_by_record) at e)

  reported_is :
      (naming : NumberNameSource) (found : Option (List ℕ × VisitedRecord)) → naming.found ≡ found
      → (section index symbol : ℕ) → (named_by_record file scope words y walked naming).lookup.answer ≡ Found section index symbol
      → IsSymbol scope y section index symbol
  reported_is naming (Some found) f section index symbol e = told-shown naming found f _ refl section index symbol e
  reported_is naming None f section index symbol e = absurd (told-unnamed naming _ f refl section index symbol e)

module _ (file : List ℕ) (scope : LookupTables) (asked : VersionQuery) (records y : ℕ) (walked : ChainResult) where
  found-with :
      (words : VersymTable) (name : Option (List ℕ)) → asked_name asked ≡ name
      → (section index symbol : ℕ) → (found_in file scope asked records y walked (Some words)).lookup.answer ≡ Found section index symbol
      → IsSymbol scope y section index symbol
  unfolding found_in
  found-with words (Some version) n section index symbol e = is_symbol scope y section index symbol (rw (n, found_in) at e)
  found-with words None n section index symbol e =
      elim (cases_Bool (nat_lt (number_in (versym file (versym_at words y))) 2)) [
        | inl small ↦ is_symbol scope y section index symbol (rw (n, small, found_in) at e)
        | inr large ↦ reported_is file scope words y walked _ _ refl section index symbol (rw (n, large, found_in) at e)
      ]

  found_is :
      (words : Option VersymTable) (section index symbol : ℕ)
      → (found_in file scope asked records y walked words).lookup.answer ≡ Found section index symbol
      → IsSymbol scope y section index symbol
  unfolding found_in
  found_is None section index symbol e = is_symbol scope y section index symbol e
  found_is (Some words) section index symbol e = found-with words _ refl section index symbol e

-- the result of a walk that finds a symbol
record FoundBy (scope : LookupTables) (walked : ChainResult) (section index symbol : ℕ) : Type 0 where
  gives : walked.answer ≡ Ok (Some index)
  section_is : section ≡ scope.symbols.index
  symbol_is : symbol ≡ symbol_offset scope.symbols index

module _ (file : List ℕ) (scope : LookupTables) (asked : VersionQuery) (records : ℕ) (walked : ChainResult) where
  found_by :
      (answer : Result (Option ℕ) Refusal) → walked.answer ≡ answer
      → (section index symbol : ℕ) → (looked_by file scope asked records walked).lookup.answer ≡ Found section index symbol
      → FoundBy scope walked section index symbol
  unfolding looked_by
  found_by (Err refusal) a section index symbol e = absurd (not_refused refusal section index symbol (rw (a, looked_by) at e))
  found_by (Ok None) a section index symbol e = absurd (let b = rw (a, looked_by) at e in cc)
  found_by (Ok (Some y)) a section index symbol e =
      let is = found_is file scope asked records y walked scope.symbols.words section index symbol (rw (a, looked_by) at e) in
      let same_index = is.index_is in
      record {
        gives = rw same_index a;
        section_is = is.section_is;
        symbol_is = rw same_index (is.symbol_is);
      }

module _ (file : List ℕ) (scope : LookupTables) (wanted : SymbolQuery) where
  is_wanted : ℕ → Bool
  is_wanted number = is_among number (version_indices file scope wanted.asked).numbers

  loaded_by :
      (shape refused : Option Refusal) → first_refusal (counts_check file scope ∷ []) ≡ shape
      → (version_indices file scope wanted.asked).refused ≡ refused
      → (section index symbol : ℕ) → (loaded_in file scope wanted).lookup.answer ≡ Found section index symbol
      → FoundBy scope (walk_in file scope wanted is_wanted) section index symbol
  unfolding loaded_in is_wanted
  loaded_by (Some refusal) refused s r section index symbol e = absurd (not_refused refusal section index symbol (rw (s, loaded_in) at e))
  loaded_by None (Some refusal) s r section index symbol e = absurd (not_refused refusal section index symbol (rw (s, r, loaded_in) at e))
  loaded_by None None s r section index symbol e =
      found_by file scope wanted.asked _ (walk_in file scope wanted is_wanted) _ refl section index symbol (rw (s, r, loaded_in) at e)

module _ (file : List ℕ) (headers : ℕ) (wanted : SymbolQuery) where
  taken_by :
      (scope : Result LookupTables Refusal) → lookup_tables_of file headers ≡ scope
      → (section index symbol : ℕ) → (loader_looked file headers wanted).lookup.answer ≡ Found section index symbol
      → IsTaken file headers wanted section index symbol
  unfolding loader_looked is_wanted
  taken_by (Err refusal) s section index symbol e = absurd (not_refused refusal section index symbol (rw (s, loader_looked) at e))
  taken_by (Ok scope) s section index symbol e =
      let by = loaded_by file scope wanted _ _ refl refl section index symbol (rw (s, loader_looked) at e) in
      let answer = walk_by file scope wanted (is_wanted file scope wanted) index _ refl by.gives in
      let parts = answer_parts file scope.symbols wanted (is_wanted file scope wanted) index answer in
      let place = by.symbol_is in
      record {
        scope = scope;
        is_scope = s;
        named_by_record = by.section_is;
        place = place;
        named = rw place parts.named;
        offered = rw place parts.offered;
        fitting = parts.fitting;
      }

pub loader_found_is_taken : LoaderFoundIsTaken
loader_found_is_taken file headers wanted section index symbol e = taken_by file headers wanted _ refl section index symbol e
