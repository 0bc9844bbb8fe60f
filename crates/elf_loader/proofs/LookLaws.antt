-- The result of a lookup, stage by stage.
use mathlib.Core.Path.{fun_ext}
use Rattle.std.proofs.Common.{◌≡◌, ℕ, ◌+◌, ◌*◌, ◌≤◌, Bool, false, List, [], ◌∷◌, ◌++◌, Option, None, Some, Result, Ok, Err, refl, sym, ap, subst, ◌∙◌, arith}
use Rattle.elf_model.specs.Prelude.{ChainResult as NoteScan, CompareResult, LoaderLookup, LookupTables as IsScopeOf, SymbolQuery, answers, asked_name, before_headers, cost_where, counts_check, e_shnum, early_checks, first_refusal, found_in, header_checks, is_among, load_checks, loaded_in, loader_cost, loader_looked, looked_by, lookup_asks, lookup_tables_of, record_cost, refused_lookup, section_name_checks, segments_asked, symbol_offset, version_indices, walk_in}
use Rattle.elf_model.specs.declared.causes.Refusal.{Refusal}
use Rattle.elf_model.proofs.CheckSteps.{first_refusal-none, passes_front}
use Rattle.elf_record.specs.Sym.{IsSym}
use Rattle.elf_source.specs.Source.{CountedState}
use Rattle.elf_table.specs.Prelude.{CallReads, row_at}
use Rattle.elf_table.specs.declared.fault.Fault.{Fault}
use Rattle.elf_table.specs.declared.fault.Fault.TheVariants.{Refused, Source}
use Rattle.elf_table.proofs.LedgerLaws.{CallReads-more, CallReads-none, CallReads-then}
use Rattle.elf_hash.specs.Prelude.{FindsLookupTables, GivesWalked, HasCounts, IsLookupTables, IsPlaceIn, WalksChain, counts_bytes, scope_cost, walk_bytes, walked_in}
use Rattle.elf_hash.specs.declared.chain_result.ChainResult.{ChainResult}
use Rattle.elf_hash.specs.declared.hash_style.HashStyle.{HashStyle}
use Rattle.elf_hash.specs.declared.table.HashTable.{HashTable}
use Rattle.elf_hash.specs.declared.lookup_tables.LookupTables.{LookupTables}
use Rattle.elf_hash.specs.declared.answer.SymbolMatch.{SymbolMatch}
use Rattle.elf_hash.specs.declared.hash_style.HashStyle.TheVariants.{Gnu, Sysv}
use Rattle.elf_hash.proofs.SearchedTableLaws.{walk_in_is}
use Rattle.elf_loader.specs.Prelude.{CollectsNumbers, FindsVersion, IsSymbolWithVersym, IsVersionFound, LooksAfter, LooksUp, ReturnsLookup, has_number, looked_with, match_bytes, parsed_member_bytes}
use Rattle.elf_loader.specs.declared.lookup.SymbolLookup.TheVariants.{Absent, Found as IsFoundSymbol}
use Rattle.elf_loader.specs.declared.found.FoundVersion.{FoundVersion}
use Rattle.elf_loader.specs.declared.lookup.SymbolLookup.{SymbolLookup}
use Rattle.elf_loader.proofs.CollectLaws.{no-version}
use Rattle.elf_loader.proofs.ReadLaws.{asks_all, asks_least, asks_records, by_absent, by_found, by_refused, looked_reads}

-- one call after another
pub looks_then :
    {file : List ℕ} {wanted : SymbolQuery} {looked : LoaderLookup} {told : List ℕ} {a b c : CountedState} {result : Result SymbolLookup Fault} (n few before few_behind before_behind : ℕ)
    → before + n + few_behind ≤ before_behind + few → CallReads a b None n → LooksAfter file wanted few_behind before_behind looked told b c result
    → LooksAfter file wanted few before looked told a c result
looks_then n few before few_behind before_behind less first looks = record {
  spent = n + looks.spent;
  costs = CallReads-then (n + looks.spent) (omega arith) first looks.costs;
  within = omega (arith, less, looks.within);
  tells = looks.tells;
}

-- the stages, by the definitions
module _ (file : List ℕ) (scope : IsScopeOf) (wanted : SymbolQuery) where
  misshapen : (refusal : Refusal) → first_refusal (counts_check file scope ∷ []) ≡ Some refusal → loaded_in file scope wanted ≡ refused_lookup 0 0 0 false refusal
  unfolding loaded_in
  misshapen refusal e = rw (e, loaded_in) refl

  pub shaped : first_refusal (counts_check file scope ∷ []) ≡ None → loaded_in file scope wanted ≡ looked_with file scope wanted (version_indices file scope wanted.asked)
  unfolding loaded_in
  shaped e = rw (e, loaded_in) refl

  with_refused : (compared : CompareResult) (refusal : Refusal) → compared.refused ≡ Some refusal → looked_with file scope wanted compared ≡ refused_lookup 0 0 compared.read false refusal
  with_refused compared refusal e = rw (e, looked_with) refl

  pub with_told : (compared : CompareResult) → compared.refused ≡ None
      → looked_with file scope wanted compared ≡ looked_by file scope wanted.asked compared.read (walk_in file scope wanted (λ number. is_among number compared.numbers))
  with_told compared e = rw (e, looked_with) refl

-- THE RESULT BY A WALK, before which a number of records were read
module _ (file : List ℕ) (told : IsScopeOf) (wanted : SymbolQuery) (before : ℕ) (walk : NoteScan) (first : asked_name wanted.asked ≡ None → before ≡ 0) where
  abbrev looked : LoaderLookup
  looked = looked_by file told wanted.asked before walk

  abbrev asked_before : ℕ
  asked_before = walk_bytes (before * record_cost wanted.asked) walk.read walk.tried (match_bytes wanted)

  least : asked_before ≤ lookup_asks wanted looked
  least = asks_least wanted looked walk before (looked_reads file told wanted.asked before walk first)

  pub looks_absent : (c : CountedState) (name : List ℕ) (tried : ℕ) → walk.answer ≡ Ok None → tried ≡ walk.tried
      → LooksAfter file wanted 0 asked_before looked name c c (Ok (Absent tried))
  looks_absent c name tried e same = record {
    spent = 0;
    costs = CallReads-none c;
    within = omega (arith, least);
    tells = rw same (by_absent file told wanted.asked before walk e);
  }

  module _ (y : ℕ) (e : walk.answer ≡ Ok (Some y)) where
    is_found : looked ≡ found_in file told wanted.asked before y walk told.symbols.words
    is_found = by_found file told wanted.asked before walk y e

    pub looks_found : {a b : CountedState} (name : List ℕ) (scope : LookupTables) (answer : SymbolMatch) (version : Option FoundVersion) (tried : ℕ)
        → IsLookupTables file told scope → IsSymbolWithVersym file scope.symbols y answer → tried ≡ walk.tried → FindsVersion (λ (version : Option FoundVersion). version) file told wanted.asked told.symbols.words y a b name (Ok version)
        → LooksAfter file wanted 0 asked_before looked name a b
        (Ok (IsFoundSymbol (record { section = scope.symbols.index; machine = scope.machine; index = y; symbol = answer.symbol; version = version; tried = tried })))
    looks_found name scope answer version tried is is_at same finds =
        let here = is_found ∙ finds.finds walk before first in
        let spends = rw (← is_found) at (finds.spends walk before first) in
        let entry = scope.symbols.rows in
        let place = is.symbols.place in
        let index = is.symbols.index in
        let at : row_at scope.symbols.table y ≡ symbol_offset told.symbols y = rw (entry, place) (omega arith) in
        let all = asks_all wanted looked walk before finds.records finds.is_named spends in
        record {
          spent = finds.records * 28 + cost_where finds.is_named parsed_member_bytes;
          costs = finds.costs;
          within = omega (arith, all);
          tells = (
            symbol_offset told.symbols y,
            rw (index, same) (ap (λ (l : LoaderLookup). l.lookup) here),
            subst (λ (p : ℕ). IsSym file p answer.symbol) at is_at.0,
            ap (λ (l : LoaderLookup). l.version) here,
            is.machine,
            finds.is_at,
          );
        }

    pub looks_untold : {a b : CountedState} (name : List ℕ) (fault : Fault) → FindsVersion (λ (version : Option FoundVersion). version) file told wanted.asked told.symbols.words y a b name (Err fault)
        → LooksAfter file wanted 0 asked_before looked name a b (Err fault)
    looks_untold name fault finds =
        let spends = rw (← is_found) at (finds.spends walk before first) in
        let all = asks_all wanted looked walk before finds.records finds.is_named spends in
        record {
          spent = finds.records * 28 + cost_where finds.is_named parsed_member_bytes;
          costs = finds.costs;
          within = omega (arith, all);
          tells = tells fault (finds.finds walk before first);
        }
      where
        tells : (fault : Fault) → IsVersionFound (λ (version : Option FoundVersion). version) told wanted.asked y name walk (found_in file told wanted.asked before y walk told.symbols.words) (Err fault)
            → ReturnsLookup file wanted.asked name looked (Err fault)
        tells (Refused refusal) found = λ other. ap (λ (l : LoaderLookup). l.lookup.answer) is_found ∙ found other
        tells (Source fault at) found = tt

  -- a walk that has no result
  pub looks_unwalked : {a b : CountedState} {is_at : ℕ → SymbolMatch → Type 0} (name : List ℕ) (fault : Fault) → WalksChain is_at 12 (match_bytes wanted) walk a b (Err fault)
      → LooksAfter file wanted 12 (before * record_cost wanted.asked) looked name a b (Err fault)
  looks_unwalked {is_at = is_at} name fault walks = record {
    spent = walk_bytes 12 walk.read walk.tried (match_bytes wanted);
    costs = walks.costs;
    within = omega (arith, least);
    tells = tells fault walks.gives;
  }
    where
      tells : (fault : Fault) → GivesWalked is_at walk (Err fault) → ReturnsLookup file wanted.asked name looked (Err fault)
      tells (Refused refusal) gives = λ other. ap (λ (l : LoaderLookup). l.lookup.answer) (by_refused file told wanted.asked before walk refusal (gives other))
      tells (Source fault at) gives = tt

  pub looks_walked : {a b c : CountedState} {is_at : ℕ → SymbolMatch → Type 0} (name : List ℕ) (w : ChainResult) (result : Result SymbolLookup Fault) → WalksChain is_at 12 (match_bytes wanted) walk a b (Ok w)
      → LooksAfter file wanted 0 asked_before looked name b c result → LooksAfter file wanted 12 (before * record_cost wanted.asked) looked name a c result
  looks_walked name w result walks looks =
      looks_then (walk_bytes 12 walk.read walk.tried (match_bytes wanted)) 12 (before * record_cost wanted.asked) 0 asked_before (omega arith) walks.costs looks

-- THE INDICES of the wanted version
module _ (file : List ℕ) (told : IsScopeOf) (wanted : SymbolQuery) where
  abbrev compared : CompareResult
  compared = version_indices file told wanted.asked

  pub none_read : asked_name wanted.asked ≡ None → compared.read ≡ 0
  none_read n = ap (λ (c : CompareResult). c.read) (no-version file told wanted.asked n)

  with_reads : (refused : Option Refusal) → compared.refused ≡ refused → compared.read ≤ (looked_with file told wanted compared).records
  with_reads (Some refusal) e = rw (with_refused file told wanted compared refusal e) (omega arith)
  with_reads None e =
      rw (with_told file told wanted compared e)
      (looked_reads file told wanted.asked compared.read (walk_in file told wanted (λ number. is_among number compared.numbers)) none_read).records

  pub looks_unnumbered : {a b : CountedState} (name : List ℕ) (fault : Fault) → CollectsNumbers a b (record_cost wanted.asked) compared (Err fault)
      → LooksAfter file wanted 12 0 (looked_with file told wanted compared) name a b (Err fault)
  looks_unnumbered name (Refused refusal) collects =
      let records = asks_records wanted (looked_with file told wanted compared) compared.read (with_reads compared.refused refl) in
      record {
        spent = compared.read * record_cost wanted.asked;
        costs = collects.0;
        within = omega (arith, records);
        tells = λ other. ap (λ (l : LoaderLookup). l.lookup.answer) (with_refused file told wanted compared refusal (collects.1 other));
      }
  looks_unnumbered name (Source fault at) collects =
      let records = asks_records wanted (looked_with file told wanted compared) compared.read (with_reads compared.refused refl) in
      record { spent = compared.read * record_cost wanted.asked; costs = collects; within = omega (arith, records); tells = tt }

  pub looks_numbered : {a b c : CountedState} (name numbers : List ℕ) (result : Result SymbolLookup Fault) → CollectsNumbers a b (record_cost wanted.asked) compared (Ok numbers)
      → LooksAfter file wanted 12 (compared.read * record_cost wanted.asked) (looked_by file told wanted.asked compared.read (walk_in file told wanted (has_number numbers))) name b c result
      → LooksAfter file wanted 12 0 (looked_with file told wanted compared) name a c result
  looks_numbered name numbers result collects looks =
      let same : has_number numbers ≡ (λ number. is_among number compared.numbers) = fun_ext collects.2 in
      let is = with_told file told wanted compared collects.1 in
      rw (is, ← same) (looks_then (compared.read * record_cost wanted.asked) 12 0 12 (compared.read * record_cost wanted.asked) (omega arith) collects.0 looks)

-- THE COUNTS of the hash table
pub counts_few : (kind : HashStyle) → counts_bytes kind ≤ 16
counts_few Gnu = omega arith
counts_few Sysv = omega arith

pub place_in : (file : List ℕ) (told : IsScopeOf) (scope : LookupTables) → IsLookupTables file told scope → IsPlaceIn told scope.hash
place_in file told scope is = record { kind = is.kind; head = is.head; table = record { start = is.place; size = is.size; symbols = is.count } }

module _ (file : List ℕ) (told : IsScopeOf) (wanted : SymbolQuery) (kind : HashStyle) where
  pub looks_uncounted : {a b : CountedState} (name : List ℕ) (fault : Fault) → CallReads a b (Some fault) (counts_bytes kind) → HasCounts file told (Err fault)
      → LooksAfter file wanted 28 0 (loaded_in file told wanted) name a b (Err fault)
  looks_uncounted name fault costs counts =
      let few = counts_few kind in
      record { spent = counts_bytes kind; costs = costs; within = omega (arith, few); tells = tells fault counts }
    where
      tells : (fault : Fault) → HasCounts file told (Err fault) → ReturnsLookup file wanted.asked name (loaded_in file told wanted) (Err fault)
      tells (Refused refusal) counts = λ other. ap (λ (l : LoaderLookup). l.lookup.answer) (misshapen file told wanted refusal (counts other))
      tells (Source fault at) counts = tt

  pub looks_counted : {a b c : CountedState} (name : List ℕ) (table : HashTable) (result : Result SymbolLookup Fault) → CallReads a b None (counts_bytes kind) → HasCounts file told (Ok table)
      → LooksAfter file wanted 12 0 (looked_with file told wanted (version_indices file told wanted.asked)) name b c result
      → LooksAfter file wanted 28 0 (loaded_in file told wanted) name a c result
  looks_counted name table result costs counts looks =
      let few = counts_few kind in
      let is = shaped file told wanted counts.0 in
      rw is (looks_then (counts_bytes kind) 28 0 12 0 (omega (arith, few)) costs looks)

-- THE TABLES THAT THE LOOKUP SEARCHES
module _ (file : List ℕ) (headers : ℕ) (wanted : SymbolQuery) where
  scope_within : scope_cost file headers ≤ loader_cost file headers wanted
  unfolding loader_cost
  scope_within = go (first_refusal (before_headers file headers)) refl
    where
      go : (refusal : Option Refusal) → first_refusal (before_headers file headers) ≡ refusal → scope_cost file headers ≤ loader_cost file headers wanted
      go None e = rw (e, loader_cost, scope_cost) (omega arith)
      go (Some refusal) e = rw (e, loader_cost, scope_cost) (omega arith)

  looked_refused : (refusal : Refusal) → lookup_tables_of file headers ≡ Err refusal → loader_looked file headers wanted ≡ refused_lookup 0 0 0 false refusal
  unfolding loader_looked
  looked_refused refusal e = rw (e, loader_looked) refl

  pub looks_unscoped : {a b : CountedState} (name : List ℕ) (fault : Fault) → CallReads a b (Some fault) (scope_cost file headers) → FindsLookupTables file (lookup_tables_of file headers) (Err fault)
      → LooksUp file headers wanted name a b (Err fault)
  looks_unscoped name fault costs finds = record { costs = CallReads-more _ scope_within costs; tells = tells fault finds }
    where
      tells : (fault : Fault) → FindsLookupTables file (lookup_tables_of file headers) (Err fault) → ReturnsLookup file wanted.asked name (loader_looked file headers wanted) (Err fault)
      tells (Refused refusal) finds = λ other. ap (λ (l : LoaderLookup). l.lookup.answer) (looked_refused refusal (finds other))
      tells (Source fault at) finds = tt

  module _ (told : IsScopeOf) (found : lookup_tables_of file headers ≡ Ok told) where
    looked_there : loader_looked file headers wanted ≡ loaded_in file told wanted
    unfolding loader_looked
    looked_there = rw (found, loader_looked) refl

    checks_pass : first_refusal (header_checks file ++ load_checks file headers) ≡ None
    unfolding lookup_tables_of
    checks_pass = go (first_refusal (header_checks file ++ load_checks file headers)) refl
      where
        go : (refusal : Option Refusal) → first_refusal (header_checks file ++ load_checks file headers) ≡ refusal → first_refusal (header_checks file ++ load_checks file headers) ≡ None
        go None e = e
        go (Some refusal) e = absurd (let is = rw (e, lookup_tables_of) at found in cc)

    before_pass : first_refusal (before_headers file headers) ≡ None
    before_pass =
        let header = passes_front (header_checks file) (load_checks file headers) checks_pass in
        let load = sym (first_refusal-none (header_checks file) (load_checks file headers) header) ∙ checks_pass in
        first_refusal-none (header_checks file) (early_checks file headers) header ∙ passes_front (early_checks file headers) (section_name_checks file) load

    cost_there : loader_cost file headers wanted ≡ scope_cost file headers + (28 + lookup_asks wanted (loaded_in file told wanted))
    unfolding loader_cost
    cost_there =
        let cost : loader_cost file headers wanted ≡ 92 + 64 * e_shnum file + segments_asked file + lookup_asks wanted (loader_looked file headers wanted) = rw (before_pass, loader_cost) refl in
        let scope : scope_cost file headers ≡ 64 + 64 * e_shnum file + segments_asked file = rw (before_pass, scope_cost) refl in
        let same = ap (lookup_asks wanted) looked_there in
        omega (arith, cost, scope, same)

    pub looks_scoped : {a b c : CountedState} (name : List ℕ) (result : Result SymbolLookup Fault) → CallReads a b None (scope_cost file headers)
        → LooksAfter file wanted 28 0 (loaded_in file told wanted) name b c result → LooksUp file headers wanted name a c result
    looks_scoped name result costs looks =
        let within = looks.within in
        let cost = cost_there in
        record {
          costs = CallReads-then _ (omega (arith, within, cost)) costs looks.costs;
          tells = rw looked_there looks.tells;
        }

-- the walk for the symbol that matches, as it is made
pub walks_as :
    {a b : CountedState} {is_at : ℕ → SymbolMatch → Type 0} (file : List ℕ) (told : IsScopeOf) (wanted : SymbolQuery) (is_wanted : ℕ → Bool) (cost : ℕ) (result : Result ChainResult Fault)
    → WalksChain is_at 12 cost (walked_in file told wanted.name (answers file told.symbols wanted is_wanted)) a b result → WalksChain is_at 12 cost (walk_in file told wanted is_wanted) a b result
walks_as file told wanted is_wanted cost result walks = rw (walk_in_is file told wanted is_wanted) walks
