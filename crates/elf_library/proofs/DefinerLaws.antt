-- What looking up the symbol that defines a name gives, stage by stage.
use mathlib.Core.Path.{fun_ext}
use Rattle.std.proofs.Common.{◌≡◌, ℕ, ◌+◌, ◌*◌, ◌≤◌, ◌==◌, if◌then◌else◌, not, Bool, true, false, List, [], ◌∷◌, Option, None, Some, Result, Ok, Err, refl, sym, ap, subst, ◌∙◌, arith}
use Rattle.elf_model.specs.Prelude.{ChainResult as NoteScan, CompareResult, DefinerLookup, LookupTables as IsScopeOf, SHN_UNDEF, SymbolQuery, answers, counts_check, definer_by, definer_walk, defines, definition_cost, definition_in, first_refusal, is_among, record_cost, st_shndx, symbol_offset, unwalked, version_indices}
use Rattle.elf_model.specs.declared.causes.Refusal.{Refusal}
use Rattle.elf_source.specs.Source.{CountedState}
use Rattle.elf_table.specs.Prelude.{CallReads, IsOfRead, row_at}
use Rattle.elf_table.specs.declared.fault.Fault.{Fault}
use Rattle.elf_table.specs.declared.fault.Fault.TheVariants.{Refused, Source}
use Rattle.elf_table.proofs.LedgerLaws.{CallReads-then}
use Rattle.elf_hash.proofs.SymbolCountLaws.{few_counts}
use Rattle.elf_hash.specs.Prelude.{GivesWalked, HasCounts, IsLookupTables, IsPlaceIn, ReturnsExcluded, TriesSymbol, WalksChain, counts_bytes, index_of, walk_bytes, walked_in}
use Rattle.elf_hash.specs.declared.chain_result.ChainResult.{ChainResult}
use Rattle.elf_hash.specs.declared.symbols.DynamicSymbols.{DynamicSymbols}
use Rattle.elf_hash.specs.declared.hash_style.HashStyle.{HashStyle}
use Rattle.elf_hash.specs.declared.table.HashTable.{HashTable}
use Rattle.elf_hash.specs.declared.lookup_tables.LookupTables.{LookupTables}
use Rattle.elf_hash.specs.declared.answer.SymbolMatch.{SymbolMatch}
use Rattle.elf_hash.specs.declared.hash_style.HashStyle.TheVariants.{Gnu, Sysv}
use Rattle.elf_loader.specs.Prelude.{CollectsNumbers, IsSymbolWithVersym, has_number, match_bytes}
use Rattle.elf_library.specs.Definers.{DefinesAfter, SaysDefines, ReturnsDefiner, definer_with, the_defined}

-- A MATCHER that skips what is undefined
module _ (file : List ℕ) (symbols : DynamicSymbols) (wanted : SymbolQuery) (is_wanted : ℕ → Bool) (says : ℕ → Result Bool Refusal) (index : ℕ) (is : SaysDefines file symbols wanted is_wanted says) where
  said : says index ≡ defines file is.told wanted is_wanted index
  said = ap (λ (s : ℕ → Result Bool Refusal). s index) is.says_so

  refuses : (refusal : Refusal) → answers file is.told wanted is_wanted index ≡ Err refusal → defines file is.told wanted is_wanted index ≡ Err refusal
  unfolding defines
  refuses refusal e = rw (e, defines) refl

  other : answers file is.told wanted is_wanted index ≡ Ok false → defines file is.told wanted is_wanted index ≡ Ok false
  unfolding defines
  other e = rw (e, defines) refl

  decides : answers file is.told wanted is_wanted index ≡ Ok true
      → defines file is.told wanted is_wanted index ≡ Ok (not (st_shndx file (symbol_offset is.told index) == SHN_UNDEF))
  unfolding defines
  decides e = rw (e, defines) refl

  pub tries_fault : (fault : Fault) → TriesSymbol (IsSymbolWithVersym file symbols) (answers file is.told wanted is_wanted) index (Err fault) → TriesSymbol (IsSymbolWithVersym file symbols) says index (Err fault)
  tries_fault (Refused refusal) tries = λ unless. said ∙ refuses refusal (tries unless)
  tries_fault (Source fault at) tries = tt

  pub tries_answer : (answer : Option SymbolMatch) → symbols.table.entry ≡ 24 → TriesSymbol (IsSymbolWithVersym file symbols) (answers file is.told wanted is_wanted) index (Ok answer)
      → TriesSymbol (IsSymbolWithVersym file symbols) says index (Ok (the_defined answer))
  tries_answer None entry tries = said ∙ other tries
  tries_answer (Some answer) entry tries = go (answer.symbol.st_shndx == SHN_UNDEF) refl
    where
      at : row_at symbols.table index ≡ symbol_offset is.told index
      at = let place = is.are.place in rw (entry, place) (omega arith)

      shndx : answer.symbol.st_shndx ≡ st_shndx file (symbol_offset is.told index)
      shndx = subst (λ (p : ℕ). answer.symbol.st_shndx ≡ st_shndx file p) at tries.1.0.st_shndx

      defined : (b : Bool) → (answer.symbol.st_shndx == SHN_UNDEF) ≡ b → says index ≡ Ok (not b)
      defined b e = said ∙ decides tries.0 ∙ ap (λ (x : Bool). Ok (not x)) (ap (λ (x : ℕ). x == SHN_UNDEF) (sym shndx) ∙ e)

      go : (b : Bool) → (answer.symbol.st_shndx == SHN_UNDEF) ≡ b → TriesSymbol (IsSymbolWithVersym file symbols) says index (Ok (if b then None else Some answer))
      go true e = defined true e
      go false e = (defined false e, tries.1)

-- one call after another
pub defines_then :
    {wanted : SymbolQuery} {looked : DefinerLookup} {a b c : CountedState} {result : Result (Option ℕ) Fault} (n few before few_behind before_behind : ℕ)
    → before + n + few_behind ≤ before_behind + few → CallReads a b None n → DefinesAfter wanted few_behind before_behind looked b c result
    → DefinesAfter wanted few before looked a c result
defines_then n few before few_behind before_behind less first looks = record {
  spent = n + looks.spent;
  costs = CallReads-then (n + looks.spent) (omega arith) first looks.costs;
  within = omega (arith, less, looks.within);
  tells = looks.tells;
}

-- how many bytes that is
asks_are : (wanted : SymbolQuery) (looked : DefinerLookup)
    → definition_cost wanted looked ≡ 4 * looked.chain_words + looked.tried * match_bytes wanted + looked.records * record_cost wanted.asked
unfolding definition_cost
asks_are wanted looked = refl

-- the walk is that of the matcher
definer_walk_is : (file : List ℕ) (scope : IsScopeOf) (wanted : SymbolQuery) (is_wanted : ℕ → Bool)
    → definer_walk file scope wanted is_wanted ≡ walked_in file scope wanted.name (defines file scope.symbols wanted is_wanted)
unfolding definer_walk
definer_walk_is file scope wanted is_wanted = refl

pub definer_walks :
    {a b : CountedState} {is_at : ℕ → SymbolMatch → Type 0} (file : List ℕ) (scope : IsScopeOf) (wanted : SymbolQuery) (is_wanted : ℕ → Bool) (cost : ℕ) (result : Result ChainResult Fault)
    → WalksChain is_at 12 cost (walked_in file scope wanted.name (defines file scope.symbols wanted is_wanted)) a b result → WalksChain is_at 12 cost (definer_walk file scope wanted is_wanted) a b result
definer_walks file scope wanted is_wanted cost result walks = rw (definer_walk_is file scope wanted is_wanted) walks

-- THE WALK, before which n records were read
module _ (wanted : SymbolQuery) (before : ℕ) (walk : NoteScan) where
  spends : before * record_cost wanted.asked + walk_bytes 12 walk.read walk.tried (match_bytes wanted) ≤ 12 + definition_cost wanted (definer_by before walk)
  spends = let are = asks_are wanted (definer_by before walk) in omega (arith, are)

  pub defines_unwalked : {a b : CountedState} {is_at : ℕ → SymbolMatch → Type 0} (fault : Fault) → WalksChain is_at 12 (match_bytes wanted) walk a b (Err fault)
      → DefinesAfter wanted 12 (before * record_cost wanted.asked) (definer_by before walk) a b (Err fault)
  defines_unwalked {is_at = is_at} fault walks = record {
    spent = walk_bytes 12 walk.read walk.tried (match_bytes wanted);
    costs = walks.costs;
    within = spends;
    tells = tells fault walks.gives;
  }
    where
      tells : (fault : Fault) → GivesWalked is_at walk (Err fault) → ReturnsDefiner (definer_by before walk) (Err fault)
      tells (Refused refusal) gives = gives
      tells (Source fault at) gives = tt

  pub defines_walked : {a b : CountedState} {is_at : ℕ → SymbolMatch → Type 0} (w : ChainResult) → WalksChain is_at 12 (match_bytes wanted) walk a b (Ok w)
      → DefinesAfter wanted 12 (before * record_cost wanted.asked) (definer_by before walk) a b (Ok (index_of w.found))
  defines_walked w walks = record {
    spent = walk_bytes 12 walk.read walk.tried (match_bytes wanted);
    costs = walks.costs;
    within = spends;
    tells = ap (λ (w : NoteScan). w.answer) walks.gives.0;
  }

-- the stages, by the definitions
module _ (file : List ℕ) (told : IsScopeOf) (wanted : SymbolQuery) where
  abbrev compared : CompareResult
  compared = version_indices file told wanted.asked

  misshapen : (refusal : Refusal) → first_refusal (counts_check file told ∷ []) ≡ Some refusal → definition_in file told wanted ≡ unwalked 0 refusal
  unfolding definition_in
  misshapen refusal e = rw (e, definition_in) refl

  shaped : first_refusal (counts_check file told ∷ []) ≡ None → definition_in file told wanted ≡ definer_with file told wanted compared
  unfolding definition_in
  shaped e = rw (e, definition_in) refl

  with_refused : (refusal : Refusal) → compared.refused ≡ Some refusal → definer_with file told wanted compared ≡ unwalked compared.read refusal
  with_refused refusal e = rw (e, definer_with) refl

  with_told : compared.refused ≡ None → definer_with file told wanted compared ≡ definer_by compared.read (definer_walk file told wanted (λ number. is_among number compared.numbers))
  with_told e = rw (e, definer_with) refl

  reads : (refused : Option Refusal) → compared.refused ≡ refused → (definer_with file told wanted compared).records ≡ compared.read
  reads (Some refusal) e = ap (λ (d : DefinerLookup). d.records) (with_refused refusal e)
  reads None e = ap (λ (d : DefinerLookup). d.records) (with_told e)

  asks_read : compared.read * record_cost wanted.asked ≤ definition_cost wanted (definer_with file told wanted compared)
  asks_read =
      let are = asks_are wanted (definer_with file told wanted compared) in
      let same = ap (λ (n : ℕ). n * record_cost wanted.asked) (reads compared.refused refl) in
      omega (arith, are, same)

  -- THE INDICES of the wanted version
  pub defines_unnumbered : {a b : CountedState} (fault : Fault) → CollectsNumbers a b (record_cost wanted.asked) compared (Err fault)
      → DefinesAfter wanted 12 0 (definer_with file told wanted compared) a b (Err fault)
  defines_unnumbered (Refused refusal) collects =
      let few = asks_read in
      record {
        spent = compared.read * record_cost wanted.asked;
        costs = collects.0;
        within = omega (arith, few);
        tells = λ unless. ap (λ (d : DefinerLookup). d.answer) (with_refused refusal (collects.1 unless));
      }
  defines_unnumbered (Source fault at) collects =
      let few = asks_read in
      record { spent = compared.read * record_cost wanted.asked; costs = collects; within = omega (arith, few); tells = tt }

  pub defines_numbered : {a b c : CountedState} (numbers : List ℕ) (result : Result (Option ℕ) Fault) → CollectsNumbers a b (record_cost wanted.asked) compared (Ok numbers)
      → DefinesAfter wanted 12 (compared.read * record_cost wanted.asked) (definer_by compared.read (definer_walk file told wanted (has_number numbers))) b c result
      → DefinesAfter wanted 12 0 (definer_with file told wanted compared) a c result
  defines_numbered numbers result collects looks =
      let same : has_number numbers ≡ (λ number. is_among number compared.numbers) = fun_ext collects.2 in
      let is = with_told collects.1 in
      rw (is, ← same) (defines_then (compared.read * record_cost wanted.asked) 12 0 12 (compared.read * record_cost wanted.asked) (omega arith) collects.0 looks)

  -- A TABLE THAT IS READY, which excludes the name or not
  module _ (counts : first_refusal (counts_check file told ∷ []) ≡ None) where
    pub defines_excluded : {a b : CountedState} → compared.refused ≡ None → ReturnsExcluded file told wanted.name (Ok true) → CallReads a b None 12
        → DefinesAfter wanted 28 0 (definition_in file told wanted) a b (Ok None)
    defines_excluded listed_all none costs =
        let is_wanted : ℕ → Bool = λ (number : ℕ). is_among number compared.numbers in
        let walk : definer_walk file told wanted is_wanted ≡ record { answer = Ok None; tried = 0; read = 0 } = definer_walk_is file told wanted is_wanted ∙ none _ in
        record {
          spent = 12;
          costs = costs;
          within = omega arith;
          tells = ap (λ (d : DefinerLookup). d.answer) (shaped counts ∙ with_told listed_all) ∙ ap (λ (w : NoteScan). w.answer) walk;
        }

    pub defines_unread : {a b : CountedState} (fault : Fault) → IsOfRead fault → CallReads a b (Some fault) 12 → DefinesAfter wanted 28 0 (definition_in file told wanted) a b (Err fault)
    defines_unread fault is costs = record { spent = 12; costs = costs; within = omega arith; tells = tells fault is }
      where
        tells : (fault : Fault) → IsOfRead fault → ReturnsDefiner (definition_in file told wanted) (Err fault)
        tells (Refused refusal) is = λ unless. absurd (unless is)
        tells (Source fault at) is = tt

    pub defines_unless : {a b c : CountedState} (result : Result (Option ℕ) Fault) → CallReads a b None 12 → DefinesAfter wanted 12 0 (definer_with file told wanted compared) b c result
        → DefinesAfter wanted 28 0 (definition_in file told wanted) a c result
    defines_unless result costs looks = let is = shaped counts in rw is (defines_then 12 28 0 12 0 (omega arith) costs looks)

  -- THE COUNTS of the hash table
  module _ (kind : HashStyle) where
    pub defines_uncounted : {a b : CountedState} (fault : Fault) → CallReads a b (Some fault) (counts_bytes kind) → HasCounts file told (Err fault)
        → DefinesAfter wanted 28 0 (definition_in file told wanted) a b (Err fault)
    defines_uncounted fault costs counts =
        let few = few_counts kind in
        record { spent = counts_bytes kind; costs = costs; within = omega (arith, few); tells = tells fault counts }
      where
        tells : (fault : Fault) → HasCounts file told (Err fault) → ReturnsDefiner (definition_in file told wanted) (Err fault)
        tells (Refused refusal) counts = λ unless. ap (λ (d : DefinerLookup). d.answer) (misshapen refusal (counts unless))
        tells (Source fault at) counts = tt

    pub defines_counted : {a b c : CountedState} (table : HashTable) (result : Result (Option ℕ) Fault) → CallReads a b None (counts_bytes kind) → HasCounts file told (Ok table)
        → DefinesAfter wanted 12 0 (definer_with file told wanted compared) b c result → DefinesAfter wanted 28 0 (definition_in file told wanted) a c result
    defines_counted table result costs counts looks =
        let few = few_counts kind in
        let is = shaped counts.0 in
        rw is (defines_then (counts_bytes kind) 28 0 12 0 (omega (arith, few)) costs looks)
