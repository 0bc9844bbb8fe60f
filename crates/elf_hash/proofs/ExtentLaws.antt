-- The number of symbols that a hash table covers, word by word.
use Rattle.std.proofs.Common.{◌≡◌, ℕ, zero, suc, ◌+◌, ◌-◌, ◌*◌, ◌<◌, ◌≤◌, max, min, nat_lt, Bool, true, false, List, Option, None, Some, Result, Ok, refl, sym, ap, subst, ◌∙◌, arith, nat_cmp}
use Rattle.std.specs.Ordering.{ord_max}
use Rattle.std.proofs.lemmas.Bool.Decides.{nat_tests}
use Rattle.elf_model.specs.Prelude.{GnuTable, HashStyle, HashTable as Table, LookupTables, SysvTable, before_strings, chain_word, field, first_that, gnu_bucket_at, gnu_first, gnu_nbucket, gnu_symbols, hashed_symbol_count, is_chain_end, is_chained, is_last_in, max_bucket, sysv_nchain, unfound}
use Rattle.elf_source.specs.Source.{CountedState}
use Rattle.elf_table.specs.Prelude.{Advances, CallReads, CursorState, EndsRows, GivesRow, IsRead, TableRange, row_at, size_of, unread_bytes}
use Rattle.elf_table.specs.declared.fault.Fault.{Fault}
use Rattle.elf_table.proofs.LedgerLaws.{CallReads-more}
use Rattle.elf_hash.specs.Prelude.{EndsChain, IsGnu, IsSysv, ReturnsExtent, SymbolsBegin, extent_bytes, last_in}
use Rattle.elf_hash.specs.declared.gnu_table.GnuHashTable.{GnuHashTable as Gnu}
use Rattle.elf_hash.specs.declared.sysv_table.SysvHashTable.{SysvHashTable as Sysv}
use Rattle.elf_hash.proofs.GnuSteps.{chain_is}

-- the words of buckets, as a table
abbrev pub buckets_of : Gnu → TableRange
buckets_of t = record { at = t.place.at + (16 + 8 * t.nbloom); count = t.nbucket; entry = 4 }

-- the offset of one
pub bucket_stands : (file : List ℕ) (table : Table) (t : Gnu) (index : ℕ) → IsGnu file table t → row_at (buckets_of t) index ≡ gnu_bucket_at file table.place index
bucket_stands file table t index is =
    let start = is.place.start in
    let filters = is.filters in
    omega (arith, start, filters)

-- a step that returned a row yielded it, and one that returned none ended
pub row_given : (file : Option (List ℕ)) (old new : CursorState) (b : Bool) → b ≡ true → Advances file old new (Ok b) → GivesRow file old new
row_given file old new true t s = s
row_given file old new false t s = cc

pub row_ended : (file : Option (List ℕ)) (old new : CursorState) (b : Bool) → b ≡ false → Advances file old new (Ok b) → EndsRows old new
row_ended file old new false t s = s
row_ended file old new true t s = cc

-- the greater of two numbers, as `max` returns it
pub greater_is : (a b : ℕ) → ord_max nat_cmp a b ≡ max a b
greater_is a b = grind (arith, nat_tests)

-- no bucket is passed; one more is
pub highest_none : (file : List ℕ) (place : ℕ) → max_bucket file place 0 ≡ 0
unfolding max_bucket
highest_none file place = refl

pub highest_next : (file : List ℕ) (place n word : ℕ) → word ≡ field file (gnu_bucket_at file place n) 4
    → max (max_bucket file place n) word ≡ max_bucket file place (suc n)
unfolding max_bucket
highest_next file place n word is = ap (max (max_bucket file place n)) is

module _ (file : List ℕ) (table : Table) where
  abbrev test : ℕ → Bool
  test y = is_last_in file table y

  that_here : (first n : ℕ) → test first ≡ true → first_that test first (suc n) ≡ Some first
  unfolding first_that
  that_here first n t = rw (t, first_that) refl

  that_more : (first n : ℕ) → test first ≡ false → first_that test first (suc n) ≡ first_that test (suc first) n
  unfolding first_that
  that_more first n t = rw (t, first_that) refl

  that_none : (first : ℕ) → first_that test first 0 ≡ None
  unfolding first_that
  that_none first = refl

  abbrev past : Option ℕ → ℕ
  past None = table.symbols
  past (Some y) = suc y

  last_is : (start : ℕ) → last_in file table start ≡ past (first_that test start (table.symbols - start))
  last_is start = go (first_that test start (table.symbols - start)) refl
    where
      go : (found : Option ℕ) → first_that test start (table.symbols - start) ≡ found → last_in file table start ≡ past found
      go None e = rw (e, last_in) refl
      go (Some y) e = rw (e, last_in) refl

  pub last_here : (index : ℕ) → index < table.symbols → test index ≡ true → last_in file table index ≡ suc index
  last_here index below t =
      let left : table.symbols - index ≡ suc (table.symbols - suc index) = omega arith in
      last_is index ∙ (ap (λ (n : ℕ). past (first_that test index n)) left ∙ ap past (that_here index (table.symbols - suc index) t))

  pub last_more : (index : ℕ) → index < table.symbols → test index ≡ false → last_in file table index ≡ last_in file table (suc index)
  last_more index below t =
      let left : table.symbols - index ≡ suc (table.symbols - suc index) = omega arith in
      last_is index ∙ (ap (λ (n : ℕ). past (first_that test index n)) left
      ∙ (ap past (that_more index (table.symbols - suc index) t) ∙ sym (last_is (suc index))))

  pub last_past : (index : ℕ) → table.symbols ≤ index → last_in file table index ≡ table.symbols
  last_past index behind =
      let none : table.symbols - index ≡ 0 = omega arith in
      last_is index ∙ (ap (λ (n : ℕ). past (first_that test index n)) none ∙ ap past (that_none index))

  -- what is found is after what is passed
  above : (first n : ℕ) → first + n ≤ table.symbols → 0 < n → first < past (first_that test first n)
  above first zero within some = absurd (omega arith)
  above first (suc n) within some = go (λ more. above (suc first) n (omega arith) more) (test first) refl
    where
      go : (0 < n → suc first < past (first_that test (suc first) n)) → (b : Bool) → test first ≡ b → first < past (first_that test first (suc n))
      go more true t = let e = ap past (that_here first n t) in omega (arith, e)
      go more false t = rest more n refl
        where
          rest : (0 < n → suc first < past (first_that test (suc first) n)) → (k : ℕ) → n ≡ k → first < past (first_that test first (suc n))
          rest more zero none =
              let e = ap past (that_more first n t) in
              let last = ap (λ (m : ℕ). past (first_that test (suc first) m)) none in
              let end = ap past (that_none (suc first)) in
              omega (arith, e, last, end, within)
          rest more (suc k) some =
              let e = ap past (that_more first n t) in
              let on = more (omega (arith, some)) in
              omega (arith, e, on)

  pub last_above : (index : ℕ) → index < table.symbols → index < last_in file table index
  last_above index below =
      let a = above index (table.symbols - index) (omega arith) (omega arith) in
      let e = last_is index in
      omega (arith, a, e)

  -- a symbol that has no chain word, the last of a chain, and another
  pub not_chained : (index : ℕ) → is_chained file table index ≡ false → test index ≡ true
  not_chained index isnt = rw (isnt, is_last_in) refl

  pub ends_there : (index : ℕ) → is_chained file table index ≡ true → is_chain_end (chain_word file table.place index) ≡ true → test index ≡ true
  ends_there index is ends = rw (is, ends, is_last_in) refl

  pub goes_on : (index : ℕ) → is_chained file table index ≡ true → is_chain_end (chain_word file table.place index) ≡ false → test index ≡ false
  goes_on index is ends = rw (is, ends, is_last_in) refl

  -- those of the whole table, by the largest bucket value
  module _ (start before : ℕ) (is : start ≡ max_bucket file table.place (gnu_nbucket file table.place)) where
    pub none_chained : start < gnu_first file table.place → gnu_symbols file table before ≡ unfound (gnu_first file table.place) before table.symbols
    unfolding gnu_symbols
    none_chained low =
        let less : nat_lt (max_bucket file table.place (gnu_nbucket file table.place)) (gnu_first file table.place) ≡ true = grind (arith, is) in
        rw (less, gnu_symbols) refl

    pub some_chained : gnu_first file table.place ≤ start → gnu_symbols file table before ≡ last_in file table start
    unfolding gnu_symbols
    some_chained high =
        let less : nat_lt (max_bucket file table.place (gnu_nbucket file table.place)) (gnu_first file table.place) ≡ false = grind (arith, is) in
        rw (less, gnu_symbols) (ap (last_in file table) (sym is))

module _ (file : List ℕ) (scope : LookupTables) where
  abbrev before : ℕ
  before = before_strings scope.table scope.symbols.place scope.symbols.strings_at

  pub gnu_count : scope.kind ≡ GnuTable → hashed_symbol_count file scope ≡ gnu_symbols file scope.table before
  unfolding hashed_symbol_count
  gnu_count kind = rw (kind, hashed_symbol_count) refl

  pub sysv_count : scope.kind ≡ SysvTable → hashed_symbol_count file scope ≡ min (sysv_nchain file scope.table.place) scope.table.symbols
  unfolding hashed_symbol_count
  sysv_count kind = rw (kind, hashed_symbol_count) refl

  pub gnu_bytes : scope.kind ≡ GnuTable → extent_bytes file scope ≡ 4 * gnu_nbucket file scope.table.place + 4 * gnu_symbols file scope.table before
  gnu_bytes kind =
      let count = gnu_count kind in
      let is : extent_bytes file scope ≡ 4 * gnu_nbucket file scope.table.place + 4 * hashed_symbol_count file scope =
      ap (λ (k : HashStyle). elim k as (λ x. ℕ) [ GnuTable ↦ 4 * gnu_nbucket file scope.table.place + 4 * hashed_symbol_count file scope | SysvTable ↦ 0 ]) kind in
      omega (arith, is, count)

  pub sysv_bytes : scope.kind ≡ SysvTable → extent_bytes file scope ≡ 0
  sysv_bytes kind = rw (kind, extent_bytes) refl

-- what a cursor over buckets may request before the first
pub unread_start : (c : CursorState) (t : Gnu) → c.failed ≡ None → c.table ≡ buckets_of t → c.unread ≡ size_of c.table → unread_bytes c ≡ 4 * t.nbucket
unread_start c t none is unread = rw (none, unread, is) (omega arith)

-- the chain word of a symbol, as it is read
pub word_is : (file : List ℕ) (table : Table) (t : Gnu) (index word place : ℕ) → IsGnu file table t
    → place ≡ t.place.at + (16 + 8 * t.nbloom + 4 * t.nbucket + 4 * (index - t.first)) → word ≡ field file place 4 → word ≡ chain_word file table.place index
word_is file table t index word place is at read = read ∙ ap (λ (n : ℕ). field file n 4) (at ∙ chain_is file table index t is)

-- a number that is read, in other terms
pub read_of : (result : Result ℕ Fault) (count other : ℕ) → count ≡ other → IsRead result count → IsRead result other
read_of result count other same read = subst (λ n. IsRead result n) same read

-- if there is no symbol the strings do not count
no_room : (table : Table) (symbols strings : ℕ) → table.symbols ≡ 0 → before_strings table symbols strings ≡ 0
unfolding before_strings
no_room table symbols strings none = grind (arith, nat_tests, none)

behind_is : (scope : LookupTables) (symbols strings : ℕ) → SymbolsBegin scope symbols strings
    → before_strings scope.table symbols strings ≡ before_strings scope.table scope.symbols.place scope.symbols.strings_at
behind_is scope symbols strings are = go scope.table.symbols refl
  where
    go : (room : ℕ) → scope.table.symbols ≡ room → before_strings scope.table symbols strings ≡ before_strings scope.table scope.symbols.place scope.symbols.strings_at
    go zero none = no_room scope.table symbols strings none ∙ sym (no_room scope.table scope.symbols.place scope.symbols.strings_at none)
    go (suc room) some =
        let first = ap (λ (n : ℕ). before_strings scope.table n strings) (sym are.place) in
        first ∙ ap (λ (n : ℕ). before_strings scope.table scope.symbols.place n) (sym (are.strings_at (omega (arith, some))))

-- the result for a table of either style
pub gnu_told : (file : List ℕ) (scope : LookupTables) (t : Gnu) (symbols strings before : ℕ) {a b : CountedState} {result : Result ℕ Fault}
    → scope.kind ≡ GnuTable → IsGnu file scope.table t → SymbolsBegin scope symbols strings → before ≡ before_strings scope.table symbols strings
    → EndsChain (4 * t.nbucket) (gnu_symbols file scope.table before) a b result → ReturnsExtent file scope a b result
gnu_told file scope t symbols strings before {result = result} kind is are found ends =
    let same : gnu_symbols file scope.table before ≡ hashed_symbol_count file scope =
    ap (gnu_symbols file scope.table) (found ∙ behind_is scope symbols strings are) ∙ sym (gnu_count file scope kind) in
    let bytes = gnu_bytes file scope kind in
    let count = gnu_count file scope kind in
    record {
      costs = CallReads-more _ (omega (arith, bytes, is.buckets, same, count)) ends.costs;
      tells = read_of result _ _ same ends.tells;
    }

pub sysv_told : (file : List ℕ) (scope : LookupTables) (t : Sysv) {a b : CountedState} {count : ℕ} → scope.kind ≡ SysvTable → IsSysv file scope.table t
    → CallReads a b None 0 → count ≡ min t.nchain t.place.symbols → ReturnsExtent file scope a b (Ok count)
sysv_told file scope t kind is costs told =
    let bytes = sysv_bytes file scope kind in
    record {
      costs = CallReads-more _ (omega (arith, bytes)) costs;
      tells = told ∙ (ap (λ (n : ℕ). min n t.place.symbols) is.chains ∙ (ap (min _) is.place.symbols ∙ sym (sysv_count file scope kind)));
    }
