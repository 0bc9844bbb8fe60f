-- The stages of a file's traits, one after another.
use Rattle.std.proofs.Common.{◌≡◌, ℕ, ◌+◌, ◌-◌, ◌*◌, ◌/◌, ◌≤◌, List, Option, None, Some, Result, Ok, Err, IfErr, IfOk, refl, sym, ap, subst, ◌∙◌, arith, mul-le-mul}
use Rattle.elf_source.specs.Source.{CountedState, ReadsUpTo}
use Rattle.elf_table.specs.Prelude.{CallDid, IsOfRead, IsReadFault, TableRange, fault_of_result}
use Rattle.elf_table.specs.declared.fault.Fault.{Fault}
use Rattle.elf_table.specs.declared.fault.Fault.TheVariants.{Refused, Source}
use Rattle.elf_model.specs.Prelude.{GnuTable, HashStyle, LookupTables as IsScopeOf, SymbolTraitFlags, SysvTable, dynamic_segment_index, find_symbol_traits, gnu_nbucket, hash_words_asked, hashed_symbol_count, known_symbols, least_size, loaded_traits, marks_from, no_symbol_traits, p_filesz, p_offset, segment_at, symbols_asked, traits_with, x86_feature_word}
use Rattle.elf_model.specs.declared.traits.Hardening.{Hardening}
use Rattle.elf_model.specs.declared.causes.Refusal.{Refusal}
use Rattle.elf_loader.specs.Prelude.{AreListedValues, KnownLie, KnownLies, ReturnsKnown, ReturnsMarks, ReturnsTraitEntries, ReturnsValue, counts_asked, marks_asked, marks_told, symbol_traits_of}
use Rattle.elf_loader.specs.declared.known.CountedSymbols.{CountedSymbols}
use Rattle.elf_loader.specs.declared.symbol_traits.SymbolTraits.{SymbolTraits}
use Rattle.elf_loader.specs.declared.trait_tags.TraitTags.{TraitTags}
use Rattle.elf_hash.specs.Prelude.{extent_bytes, place_of_table}
use Rattle.elf_hash.proofs.FoundLaws.{size_within}
use Rattle.elf_loader.proofs.CauseLaws.{entries_pass}
use Rattle.elf_loader.proofs.EntryLaws.{read_entries}
use Rattle.elf_loader.proofs.ValueLaws.{values_are}

-- the result of a pass over the entries of a table
abbrev pub ReturnsListed : List ℕ → TableRange → Result TraitTags Fault → Type 0
ReturnsListed file table (Ok found) = AreListedValues file table found
ReturnsListed file table (Err fault) = IsOfRead fault

pub listed_did : {a b : CountedState} {n : ℕ} (table : TableRange) (result : Result TraitTags Fault) → ReadsUpTo a b n → IfErr result (IsReadFault a b n) → IfErr result IsOfRead
    → ((file : List ℕ) → a.seen.file ≡ Some file → IfOk result (AreListedValues file table))
    → CallDid a b (fault_of_result result) n (λ file. ReturnsListed file table result)
listed_did table (Ok found) reads says fault are = record { costs = record { reads = reads; says = tt }; known = are }
listed_did table (Err stop) reads says fault are = record { costs = record { reads = reads; says = says }; known = λ file held. fault }

pub listed_finds : (file : List ℕ) (i : ℕ) → dynamic_segment_index file ≡ Some i → (table : TableRange) → table.at ≡ p_offset file (segment_at file i)
    → table.count ≡ p_filesz file (segment_at file i) / 16 → (result : Result TraitTags Fault) → ReturnsListed file table result → ReturnsTraitEntries file result
listed_finds file i e table place count (Ok found) are = values_are file i e table place count found are
listed_finds file i e table place count (Err fault) read = read_entries file fault read

-- THE SYMBOLS THAT ARE KNOWN come before all else
module _ (file : List ℕ) where
  pub known_is : (found : Option CountedSymbols) → ReturnsKnown file (Ok found) → (scope : Option IsScopeOf) × (known_symbols file ≡ Ok scope)
  known_is None tells = (None, tells)
  known_is (Some known) tells = (Some tells.scope, tells.told)

  known_fails : (refusal : Refusal) → known_symbols file ≡ Err refusal → loaded_traits file ≡ Err refusal
  unfolding loaded_traits
  known_fails refusal e = rw (e, loaded_traits) refl

  pub known_stops : (fault : Fault) → ReturnsKnown file (Err fault) → ReturnsValue {X = Hardening} (loaded_traits file) (Err fault)
  known_stops (Refused refusal) tells = λ other. known_fails refusal (tells other)
  known_stops (Source fault at) tells = tt

  module _ (scope : Option IsScopeOf) (known : known_symbols file ≡ Ok scope) where
    -- then the dynamic entries are not refused
    pub entries_stop : (fault : Fault) → ReturnsTraitEntries file (Err fault) → ReturnsValue {X = Hardening} (loaded_traits file) (Err fault)
    entries_stop (Refused refusal) tells = λ other. let e = tells other in absurd (entries_pass file scope known e.index e.first refusal e.fails)
    entries_stop (Source fault at) tells = tt

    word_fails : (refusal : Refusal) → x86_feature_word file ≡ Err refusal → loaded_traits file ≡ Err refusal
    unfolding loaded_traits
    word_fails refusal e = rw (known, e, loaded_traits) refl

    pub word_stops : (fault : Fault) → ReturnsValue {X = ℕ} (x86_feature_word file) (Err fault) → ReturnsValue {X = Hardening} (loaded_traits file) (Err fault)
    word_stops (Refused refusal) tells = λ other. word_fails refusal (tells other)
    word_stops (Source fault at) tells = tt

    reported_is : marks_told file ≡ find_symbol_traits file scope
    reported_is = rw (known, marks_told) refl

    module _ (word : ℕ) (featured : x86_feature_word file ≡ Ok word) where
      marks_fail : (refusal : Refusal) → find_symbol_traits file scope ≡ Err refusal → loaded_traits file ≡ Err refusal
      unfolding loaded_traits
      marks_fail refusal e = rw (known, featured, e, loaded_traits) refl

      marks_are : (marks : SymbolTraitFlags) → find_symbol_traits file scope ≡ Ok marks → loaded_traits file ≡ Ok (traits_with file word marks)
      unfolding loaded_traits
      marks_are marks e = rw (known, featured, e, loaded_traits) refl

      pub marks_stop : (fault : Fault) → ReturnsMarks (marks_told file) (Err fault) → ReturnsValue {X = Hardening} (loaded_traits file) (Err fault)
      marks_stop (Refused refusal) tells = λ other. marks_fail refusal (sym reported_is ∙ tells other)
      marks_stop (Source fault at) tells = tt

      pub traits_are : (marks : SymbolTraits) → ReturnsMarks (marks_told file) (Ok marks) → loaded_traits file ≡ Ok (traits_with file word (symbol_traits_of marks))
      traits_are marks tells = marks_are (symbol_traits_of marks) (sym reported_is ∙ tells)

  -- WHAT SYMBOLS REQUEST: the counts of their hash table, and what follows
  pub symbols_cost : counts_asked file + marks_asked file ≤ symbols_asked file
  unfolding symbols_asked hash_words_asked
  symbols_cost = go (known_symbols file) refl
    where
      go : (known : Result (Option IsScopeOf) Refusal) → known_symbols file ≡ known → counts_asked file + marks_asked file ≤ symbols_asked file
      go (Err refusal) e =
          let a : counts_asked file ≡ 16 = rw (e, counts_asked) refl in
          let b : marks_asked file ≡ 0 = rw (e, marks_asked) refl in
          let c : symbols_asked file ≡ 16 = rw (e, symbols_asked) refl in
          omega (arith, a, b, c)
      go (Ok None) e =
          let a : counts_asked file ≡ 0 = rw (e, counts_asked) refl in
          let b : marks_asked file ≡ 0 = rw (e, marks_asked) refl in
          omega (arith, a, b)
      go (Ok (Some scope)) e = by_kind scope.kind refl
        where
          rest : ℕ
          rest = (hashed_symbol_count file scope - 1) * 88

          a : counts_asked file ≡ least_size scope.kind
          a = rw (e, counts_asked) refl

          b : marks_asked file ≡ extent_bytes file scope + (hashed_symbol_count file scope - 1) * 88
          b = rw (e, marks_asked) refl

          d : symbols_asked file ≡ hash_words_asked file scope + (hashed_symbol_count file scope - 1) * 88
          d = rw (e, symbols_asked) refl

          by_kind : (kind : HashStyle) → scope.kind ≡ kind → counts_asked file + marks_asked file ≤ symbols_asked file
          by_kind GnuTable is =
              let l : least_size scope.kind ≡ 16 = ap least_size is in
              let x : extent_bytes file scope ≡ 4 * gnu_nbucket file scope.table.place + 4 * hashed_symbol_count file scope =
              ap (λ (k : HashStyle). elim k as (λ x. ℕ) [ GnuTable ↦ 4 * gnu_nbucket file scope.table.place + 4 * hashed_symbol_count file scope | SysvTable ↦ 0 ]) is in
              let w : hash_words_asked file scope ≡ 16 + 4 * gnu_nbucket file scope.table.place + 4 * hashed_symbol_count file scope =
              ap (λ (k : HashStyle). elim k as (λ x. ℕ) [ GnuTable ↦ 16 + 4 * gnu_nbucket file scope.table.place + 4 * hashed_symbol_count file scope | SysvTable ↦ 8 ]) is in
              omega (arith, a, b, d, l, x, w)
          by_kind SysvTable is =
              let l : least_size scope.kind ≡ 8 = ap least_size is in
              let x : extent_bytes file scope ≡ 0 =
              ap (λ (k : HashStyle). elim k as (λ x. ℕ) [ GnuTable ↦ 4 * gnu_nbucket file scope.table.place + 4 * hashed_symbol_count file scope | SysvTable ↦ 0 ]) is in
              let w : hash_words_asked file scope ≡ 8 =
              ap (λ (k : HashStyle). elim k as (λ x. ℕ) [ GnuTable ↦ 16 + 4 * gnu_nbucket file scope.table.place + 4 * hashed_symbol_count file scope | SysvTable ↦ 8 ]) is in
              omega (arith, a, b, d, l, x, w)

-- THE RESULT BY KNOWN SYMBOLS
module _ (file : List ℕ) where
  reported_none : known_symbols file ≡ Ok None → marks_told file ≡ Ok no_symbol_traits
  unfolding find_symbol_traits
  reported_none e = rw (e, marks_told) refl

  pub marks_none : known_symbols file ≡ Ok None → (marks : SymbolTraits) → symbol_traits_of marks ≡ no_symbol_traits → ReturnsMarks (marks_told file) (Ok marks)
  marks_none e marks is = reported_none e ∙ ap (λ (m : SymbolTraitFlags). Ok m) (sym is)

  module _ (scope : IsScopeOf) (e : known_symbols file ≡ Ok (Some scope)) where
    pub rest_asked : marks_asked file ≡ extent_bytes file scope + (hashed_symbol_count file scope - 1) * 88
    rest_asked = rw (e, marks_asked) refl

    told_some : marks_told file ≡ marks_from file scope.symbols no_symbol_traits 1 (hashed_symbol_count file scope - 1)
    unfolding find_symbol_traits
    told_some = rw (e, marks_told) refl

    pub marks_some : (count : ℕ) → count ≡ hashed_symbol_count file scope → marks_from file scope.symbols no_symbol_traits 1 (count - 1) ≡ marks_told file
    marks_some count is = ap (λ (n : ℕ). marks_from file scope.symbols no_symbol_traits 1 (n - 1)) is ∙ sym told_some

-- and what they request at most, in a source of a size
pub rows_most : (known : CountedSymbols) (size count : ℕ) → KnownLies size known → count ≤ (place_of_table known.table).symbols → (count - 1) * 88 ≤ size / 24 * 88
rows_most known size count lies few =
    let entry = ap (λ (n : ℕ). known.symbols.table.count * n) known.symbols.rows in
    let same = lies.count in
    let within = size_within known.symbols.table size lies.symbols.table in
    let rows : known.symbols.table.count ≤ size / 24 = omega (arith, entry, within) in
    mul-le-mul (omega (arith, rows, same, few)) (omega arith)

-- symbols lie within a source of the same size
pub known_lie : (found : Option CountedSymbols) (a b : ℕ) → a ≡ b → KnownLie a found → KnownLie b found
known_lie found a b same lie = subst (λ n. KnownLie n found) same lie
