-- A walk in a GNU hash table step by step: what it finds at the current symbol.
use Rattle.std.proofs.Common.{◌≡◌, ℕ, zero, suc, ◌+◌, ◌-◌, ◌*◌, ◌/◌, ◌%◌, ◌^◌, ◌<◌, ◌≤◌, ◌&&◌, inl, inr, not, nat_lt, if◌then◌else◌, Bool, true, false, List, Option, None, Some, Result, Ok, Err, refl, sym, ap, ◌∙◌, arith, add-one}
use Rattle.std.proofs.lemmas.Bool.{cases_eq, cases_lt, ne_eqb}
use Rattle.elf_model.specs.Prelude.{Answers, ChainResult as NoteScan, GoesOn, HashTable as Table, IsGnuLookup, Last, NotThere, Untried, WalkEnd, chain_word, cost_where, end_of_chain, end_of_match, field, filter_may_contain, gnu_bucket_of, gnu_chain_at, gnu_end, gnu_looked_up, gnu_start, gnu_symbol, gnu_tried, gnu_walked_at, gnu_word_at, hash_bits_match, holds_none, is_chain_end, is_chained, is_set, nothing_tried, sum_over}
use Rattle.elf_model.specs.declared.causes.Cause.TheVariants.{HashIndex}
use Rattle.elf_model.specs.declared.causes.Refusal.{Refusal}
use Rattle.elf_model.proofs.GnuHashLaws.{gnu_lookup_answers, gnu_lookup_is_one}
use Rattle.elf_model.proofs.LookupSteps.{goes_on_more}
use Rattle.elf_model.proofs.WalkLaws.{not_both}
use Rattle.elf_table.specs.Prelude.{IsOfRead}
use Rattle.elf_table.specs.declared.fault.Fault.{Fault}
use Rattle.elf_table.specs.declared.fault.Fault.TheVariants.{Refused}
use Rattle.elf_hash.specs.Prelude.{HoldsHash, IsGnu, TriesDefinedSymbol, TriesSymbol, walk_bytes}
use Rattle.elf_hash.specs.declared.gnu_table.GnuHashTable.{GnuHashTable}
use Rattle.elf_hash.specs.declared.answer.SymbolMatch.{SymbolMatch}
use Rattle.elf_hash.proofs.WalkLaws.{Meets, bytes_most, bytes_tried, meets_answer, meets_fault, meets_refusal, meets_untried}

-- one if the condition holds
abbrev pub one_if : Bool → ℕ
one_if b = cost_where b 1

-- one more of a sum, at its end
sum_last : (amount : ℕ → ℕ) (first count : ℕ) → sum_over amount first (suc count) ≡ sum_over amount first count + amount (first + count)
unfolding sum_over
sum_last amount first zero =
    let here : first ≡ first + 0 = omega arith in
    let same = ap amount here in
    omega (arith, same)
sum_last amount first (suc count) =
    let rest = sum_last amount (suc first) count in
    let same : amount (suc first + count) ≡ amount (first + suc count) = ap amount (omega arith) in
    omega (arith, rest, same)

-- what is requested with one more word, and with a symbol that is tried or not
pub bytes_where : (few read tried cost : ℕ) (b : Bool) → walk_bytes few read tried cost + 4 + cost_where b cost ≡ walk_bytes few (suc read) (tried + one_if b) cost
bytes_where few read tried cost true = rw (add-one) (omega (arith, bytes_tried few read tried cost))
bytes_where few read tried cost false = omega arith

pub bytes_next : (few read tried cost all : ℕ) (b : Bool) → all ≡ tried + one_if b
    → walk_bytes few read tried cost + 4 + cost_where b cost ≤ walk_bytes few (read + 1) all cost
bytes_next few read tried cost all b count = rw (count, add-one) (let bytes = bytes_where few read tried cost b in omega (arith, bytes))

pub one_most : (b : Bool) → one_if b ≤ 1
one_most true = omega arith
one_most false = omega arith

-- there is room for one more chain word, if there is a symbol
pub room_for : (first start read index before size : ℕ) → index ≡ start + read → (0 < read → first ≤ start) → first ≤ index
    → before + 4 * (index - first) + 4 ≤ size → (first ≤ start) × (4 * (read + 1) ≤ size)
room_for first start zero index before size rises begins low lies = (omega arith, omega arith)
room_for first start (suc read) index before size rises begins low lies = let b = begins (omega arith) in (b, omega arith)

-- and for what is requested
pub spent_most : (read tried cost size : ℕ) (b : Bool) → tried ≤ read → 4 * (read + 1) ≤ size
    → walk_bytes 0 read tried cost + 4 + cost_where b cost ≤ walk_bytes 0 (size / 4) (size / 4) cost
spent_most read tried cost size b few fits =
    let bytes = bytes_where 0 read tried cost b in
    let one = one_most b in
    let most = bytes_most 0 (suc read) (tried + one_if b) (size / 4) (size / 4) cost (omega arith) (omega arith) in
    omega (arith, bytes, most)

module _ (file : List ℕ) (table : Table) (hash : ℕ) (says : ℕ → Result Bool Refusal) where
  abbrev ends : ℕ → Option WalkEnd
  ends y = gnu_end file table hash says y

  abbrev symbols : ℕ → ℕ
  symbols i = gnu_symbol file table.place hash i

  abbrev tried_of : ℕ → ℕ
  tried_of i = gnu_tried file table.place hash i

  abbrev word_of : ℕ → ℕ
  word_of y = chain_word file table.place y

  abbrev walk : NoteScan
  walk = gnu_looked_up file table hash says

  tried_next : (i : ℕ) → tried_of (suc i) ≡ tried_of i + one_if (hash_bits_match (word_of (symbols i)) hash)
  unfolding gnu_tried
  tried_next i = sum_last _ (gnu_start file table.place hash) i

  tried_most : (i more : ℕ) → tried_of i ≤ tried_of (i + more)
  tried_most i zero = rw (i_zero i) (omega arith)
    where
      i_zero : (n : ℕ) → n + 0 ≡ n
      i_zero n = omega arith
  tried_most i (suc more) =
      let next = tried_next (i + more) in
      let on = tried_most i more in
      let same : tried_of (i + suc more) ≡ tried_of (suc (i + more)) = ap tried_of (omega arith) in
      omega (arith, next, on, same)

  -- a walk has read a number of chain words and tried a number of symbols, and has come to a symbol
  -- index by the word at an offset
  pub record Along (read tried index place : ℕ) : Type 0 where
    pub told : holds_none file table.place hash ≡ false
    pub goes : GoesOn ends symbols read
    pub index_is : index ≡ symbols read
    pub place_is : place ≡ gnu_word_at file table.place hash read
    pub tried_is : tried ≡ tried_of read

  pub along_start : (start place : ℕ) → HoldsHash file table.place hash start → place ≡ gnu_bucket_of file table.place hash → Along 0 0 start place
  unfolding gnu_word_at gnu_tried sum_over
  along_start start place holds here = record {
    told = holds.0;
    goes = λ i low. absurd (omega arith);
    index_is = let e = holds.1 in omega arith;
    place_is = here;
    tried_is = refl;
  }

  -- it ends there
  ends_here : (read tried index place : ℕ) (end : WalkEnd) → Along read tried index place → ends index ≡ Some end
      → walk ≡ gnu_walked_at file table.place hash read end
  ends_here read tried index place end along here =
      gnu_lookup_is_one file table hash says walk _ (gnu_lookup_answers file table hash says)
      (inr (record {
        told = along.told;
        number = read;
        end = end;
        first = record { here = ap ends (sym along.index_is) ∙ here; none_before = along.goes };
        gives = refl;
      }))

  end_not_there : (y : ℕ) → is_chained file table y ≡ false → ends y ≡ Some NotThere
  unfolding gnu_end
  end_not_there y isnt = rw (isnt, gnu_end) refl

  end_by : (y : ℕ) (b : Bool) → is_chained file table y ≡ true → hash_bits_match (word_of y) hash ≡ b
      → ends y ≡ (elim b [ true ↦ end_of_match (says y) (end_of_chain (word_of y)) | false ↦ end_of_chain (word_of y) ])
  unfolding gnu_end
  end_by y b is of_hash = rw (is, gnu_end) (rw of_hash refl)

  -- no fewer words are read and symbols tried than so far, and one more at a symbol that exists
  least_at : (i : ℕ) (end : WalkEnd) → (end ≡ NotThere → ⊥)
      → (tried_of (suc i) ≤ (gnu_walked_at file table.place hash i end).tried) × (suc i ≤ (gnu_walked_at file table.place hash i end).read)
  unfolding gnu_walked_at
  least_at i NotThere other = absurd (other refl)
  least_at i (Untried refusal) other = (omega arith, omega arith)
  least_at i Answers other = (omega arith, omega arith)
  least_at i Last other = (omega arith, omega arith)

  least_before : (i : ℕ) (end : WalkEnd)
      → (tried_of i ≤ (gnu_walked_at file table.place hash i end).tried) × (i ≤ (gnu_walked_at file table.place hash i end).read)
  unfolding gnu_walked_at
  least_before i NotThere = (omega arith, omega arith)
  least_before i (Untried refusal) = let next = tried_next i in (omega arith, omega arith)
  least_before i Answers = let next = tried_next i in (omega arith, omega arith)
  least_before i Last = let next = tried_next i in (omega arith, omega arith)

  not_there_isnt : (y : ℕ) → is_chained file table y ≡ true → ends y ≡ Some NotThere → ⊥
  not_there_isnt y is e = by_word (hash_bits_match (word_of y) hash) refl
    where
      by_end : (b : Bool) → (if b then Some Last else None) ≡ Some NotThere → ⊥
      by_end true f = cc
      by_end false f = cc

      by_trial : (r : Result Bool Refusal) → end_of_match r (end_of_chain (word_of y)) ≡ Some NotThere → ⊥
      by_trial (Ok true) f = cc
      by_trial (Ok false) f = by_end (is_chain_end (word_of y)) f
      by_trial (Err refusal) f = cc

      by_word : (b : Bool) → hash_bits_match (word_of y) hash ≡ b → ⊥
      by_word true t = by_trial (says y) (sym (end_by y true is t) ∙ e)
      by_word false t = by_end (is_chain_end (word_of y)) (sym (end_by y false is t) ∙ e)

  least : (walked : NoteScan) → IsGnuLookup file table hash says walked → (read : ℕ) → holds_none file table.place hash ≡ false → GoesOn ends symbols read
      → is_chained file table (symbols read) ≡ true → (tried_of (suc read) ≤ walked.tried) × (suc read ≤ walked.read)
  least walked (inl a) read told goes is = let t = a.told in absurd (cc)
  least walked (inr a) read told goes is = elim (cases_lt a.number read) [
    | inl early ↦ absurd (not_both _ a.end a.first.here (goes a.number early))
    | inr late ↦ rw (a.gives)
        (elim (cases_eq a.number read) [
          | inl same ↦
              let here : ends (symbols read) ≡ Some a.end = rw same at a.first.here in
              rw same (least_at read a.end (λ n. not_there_isnt (symbols read) is (rw n at here)))
          | inr other ↦
              let most = tried_most (suc read) (a.number - suc read) in
              let all : suc read + (a.number - suc read) ≡ a.number = omega arith in
              let before = least_before a.number a.end in
              (let m = rw all at most in omega (arith, m, before.0), omega (arith, before.1))
        ])
  ]

  -- it has come to a symbol that exists, whose chain word is of the hash or not
  pub record There (read tried index word : ℕ) (b : Bool) : Type 0 where
    pub place : ℕ
    pub along : Along read tried index place
    pub is : is_chained file table index ≡ true
    pub word_is : word ≡ word_of index
    pub of_hash : b ≡ hash_bits_match word hash

  module _ (read tried index word : ℕ) (b : Bool) (t : There read tried index word b) where
    tried_now : tried + one_if b ≡ tried_of (suc read)
    tried_now =
        let next = tried_next read in
        let same : one_if b ≡ one_if (hash_bits_match (word_of (symbols read)) hash)
        = ap one_if (t.of_hash ∙ ap (λ (w : ℕ). hash_bits_match w hash) (t.word_is ∙ ap word_of t.along.index_is)) in
        let tried_is = t.along.tried_is in
        omega (arith, next, same, tried_is)

    least_there : (tried + one_if b ≤ walk.tried) × (suc read ≤ walk.read)
    least_there =
        let l = least walk (gnu_lookup_answers file table hash says) read t.along.told t.along.goes (rw (← t.along.index_is) t.is) in
        let now = tried_now in
        (omega (arith, l.0, now), l.1)

    end_there : ends index ≡ (elim b [ true ↦ end_of_match (says index) (end_of_chain (word_of index)) | false ↦ end_of_chain (word_of index) ])
    end_there = end_by index b t.is (ap (λ (w : ℕ). hash_bits_match w hash) (sym t.word_is) ∙ sym t.of_hash)

-- what a walk finds there
module _ (file : List ℕ) (table : Table) (hash : ℕ) (says : ℕ → Result Bool Refusal) (is_at : ℕ → SymbolMatch → Type 0) (cost : ℕ) where
  abbrev looked : NoteScan
  looked = gnu_looked_up file table hash says

  pub meets_not_there : (read tried index place : ℕ) → Along file table hash says read tried index place → is_chained file table index ≡ false
      → Meets is_at 0 cost looked (walk_bytes 0 read tried cost) (Err (Refused (record { at = place; cause = HashIndex })))
  unfolding gnu_walked_at
  meets_not_there read tried index place along isnt =
      let gives = ends_here file table hash says read tried index place NotThere along (end_not_there file table hash says index isnt) in
      rw (along.place_is) (meets_refusal is_at 0 cost looked _ tried read _ (rw (along.tried_is) gives) (omega arith))

  pub meets_unread : (read tried index place : ℕ) → Along file table hash says read tried index place → is_chained file table index ≡ true
      → (fault : Fault) → IsOfRead fault → Meets is_at 0 cost looked (walk_bytes 0 read tried cost + 4) (Err fault)
  meets_unread read tried index place along is fault of_read =
      let t : There file table hash says read tried index (word_of file table hash says index) (hash_bits_match (word_of file table hash says index) hash)
      = record { place = place; along = along; is = is; word_is = refl; of_hash = refl } in
      let least = least_there file table hash says read tried index _ _ t in
      meets_fault is_at 0 cost looked _ tried (suc read) fault of_read (omega (arith, least.0)) least.1 (omega arith)

  module _ (read tried index word : ℕ) (b : Bool) (t : There file table hash says read tried index word b) where
    gives : (end : WalkEnd) → ends file table hash says index ≡ Some end → looked ≡ gnu_walked_at file table.place hash read end
    gives end here = ends_here file table hash says read tried index t.place end t.along here

    -- a symbol that matches, or fails, was to be tried
    wanted : (c : Bool) (result : Result (Option SymbolMatch) Fault) → (result ≡ Ok None → ⊥) → TriesDefinedSymbol c is_at says index result → (c ≡ true) × TriesSymbol is_at says index result
    wanted true result other tries = (refl, tries)
    wanted false result other tries = absurd (other tries)

    pub meets_untried_here : (fault : Fault) → TriesDefinedSymbol b is_at says index (Err fault)
        → Meets is_at 0 cost looked (walk_bytes 0 read tried cost + 4 + cost_where b cost) (Err fault)
    unfolding gnu_walked_at
    meets_untried_here fault tries =
        let least = least_there file table hash says read tried index word b t in
        let w = wanted b (Err fault) (λ e. cc) tries in
        let end = end_there file table hash says read tried index word b t in
        let now = tried_now file table hash says read tried index word b t in
        meets_untried is_at 0 cost looked _ (tried + one_if b) (suc read) index says fault w.1
        (λ refusal e. rw (now) (gives (Untried refusal) (end ∙ rw (w.0, e) refl)))
        least.0 least.1 (let bytes = bytes_where 0 read tried cost b in omega (arith, bytes))

    pub meets_found : (answer : SymbolMatch) (all : ℕ) → TriesDefinedSymbol b is_at says index (Ok (Some answer)) → all ≡ tried + one_if b
        → Meets is_at 0 cost looked (walk_bytes 0 read tried cost + 4 + cost_where b cost)
        (Ok (record { found = Some (record { index = index; answer = answer }); tried = all; read = read + 1 }))
    unfolding gnu_walked_at
    meets_found answer all tries count =
        let w = wanted b (Ok (Some answer)) (λ e. cc) tries in
        let end = end_there file table hash says read tried index word b t in
        let now = tried_now file table hash says read tried index word b t in
        let index_is = t.along.index_is in
        rw (count, add-one)
        (meets_answer is_at 0 cost looked _ (tried + one_if b) (suc read) _
        (rw (now, index_is) (gives Answers (end ∙ rw (w.0, w.1.0) refl)))
        (let bytes = bytes_where 0 read tried cost b in omega (arith, bytes)) w.1.1)

    -- a symbol that does not match, or is not tried
    end_passed : TriesDefinedSymbol b is_at says index (Ok None) → ends file table hash says index ≡ end_of_chain (word_of file table hash says index)
    end_passed tries = by_case b tries (end_there file table hash says read tried index word b t)
      where
        by_case : (c : Bool) → TriesDefinedSymbol c is_at says index (Ok None)
            → ends file table hash says index
            ≡ (elim c [ true ↦ end_of_match (says index) (end_of_chain (word_of file table hash says index)) | false ↦ end_of_chain (word_of file table hash says index) ])
            → ends file table hash says index ≡ end_of_chain (word_of file table hash says index)
        by_case true tries e = e ∙ rw tries refl
        by_case false tries e = e

    pub meets_last : (found : Option SymbolMatch) (all : ℕ) → TriesDefinedSymbol b is_at says index (Ok found) → ((answer : SymbolMatch) → found ≡ Some answer → ⊥)
        → is_chain_end word ≡ true → all ≡ tried + one_if b
        → Meets is_at 0 cost looked (walk_bytes 0 read tried cost + 4 + cost_where b cost)
        (Ok (record { found = None; tried = all; read = read + 1 }))
    unfolding gnu_walked_at
    meets_last (Some answer) all tries other last count = absurd (other answer refl)
    meets_last None all tries other last count =
        let now = tried_now file table hash says read tried index word b t in
        let odd : is_chain_end (word_of file table hash says index) ≡ true = rw (← t.word_is) last in
        rw (count, add-one)
        (meets_answer is_at 0 cost looked _ (tried + one_if b) (suc read) None
        (rw (now) (gives Last (end_passed tries ∙ rw odd refl)))
        (let bytes = bytes_where 0 read tried cost b in omega (arith, bytes)) tt)

    -- past a symbol that does not match and is not the last
    pub along_next : (found : Option SymbolMatch) (all place : ℕ) → TriesDefinedSymbol b is_at says index (Ok found) → ((answer : SymbolMatch) → found ≡ Some answer → ⊥)
        → is_chain_end word ≡ false → all ≡ tried + one_if b → place ≡ gnu_chain_at file table.place index
        → Along file table hash says (read + 1) all (index + 1) place
    unfolding gnu_word_at
    along_next (Some answer) all place tries other last count here = absurd (other answer refl)
    along_next None all place tries other last count here =
        let now = tried_now file table hash says read tried index word b t in
        let odd : is_chain_end (word_of file table hash says index) ≡ false = rw (← t.word_is) last in
        let on : ends file table hash says index ≡ None = end_passed tries ∙ rw odd refl in
        let index_is = t.along.index_is in
        rw (add-one)
        (record {
          told = t.along.told;
          goes = goes_on_more (ends file table hash says) (symbols file table hash says) read t.along.goes (rw (← index_is) on);
          index_is = omega (arith, index_is);
          place_is = here ∙ ap (gnu_chain_at file table.place) index_is;
          tried_is = count ∙ now;
        })

-- the offsets of the words of a table, and its symbol indexes
pub filter_is : (file : List ℕ) (table : Table) (hash word : ℕ) (t : GnuHashTable) → IsGnu file table t
    → word ≡ field file (t.place.at + (16 + 8 * (hash / 64 % t.nbloom))) 8
    → (is_set word (hash % 64) && is_set word (hash / 2 ^ t.shift % 64)) ≡ filter_may_contain file table.place hash
unfolding filter_may_contain
filter_is file table hash word t is read = rw (read, is.place.start, is.filters, is.shift) refl

pub bucket_is : (file : List ℕ) (table : Table) (hash : ℕ) (t : GnuHashTable) → IsGnu file table t
    → t.place.at + (16 + 8 * t.nbloom + 4 * (hash % t.nbucket)) ≡ gnu_bucket_of file table.place hash
unfolding gnu_bucket_of
bucket_is file table hash t is = rw (is.place.start, is.filters, is.buckets) refl

pub chain_is : (file : List ℕ) (table : Table) (index : ℕ) (t : GnuHashTable) → IsGnu file table t
    → t.place.at + (16 + 8 * t.nbloom + 4 * t.nbucket + 4 * (index - t.first)) ≡ gnu_chain_at file table.place index
chain_is file table index t is = rw (is.place.start, is.filters, is.buckets, is.first) refl

pub chained_is : (file : List ℕ) (table : Table) (index : ℕ) (t : GnuHashTable) → IsGnu file table t
    → (not (nat_lt index t.first) && nat_lt index t.place.symbols
    && not (nat_lt t.place.size (16 + 8 * t.nbloom + 4 * t.nbucket + 4 * (index - t.first) + 4)))
    ≡ is_chained file table index
chained_is file table index t is = rw (is.place.symbols, is.place.size, is.filters, is.buckets, is.first) refl

-- a table excludes a hash, by its filter or by an empty bucket, or it does not
pub reported_none : (file : List ℕ) (place hash : ℕ) → filter_may_contain file place hash ≡ false → holds_none file place hash ≡ true
reported_none file place hash isnt = rw isnt refl

pub told_empty : (file : List ℕ) (place hash start : ℕ) → filter_may_contain file place hash ≡ true → start ≡ gnu_start file place hash → start ≡ 0
    → holds_none file place hash ≡ true
told_empty file place hash start may is none = rw (may, sym is ∙ none) refl

pub told_start : (file : List ℕ) (place hash start : ℕ) → filter_may_contain file place hash ≡ true → start ≡ gnu_start file place hash → (start ≡ 0 → ⊥)
    → HoldsHash file place hash start
told_start file place hash start may is some = (rw may (ne_eqb (gnu_start file place hash) 0 (λ e. some (is ∙ e))), is)

-- nothing is tried if the table excludes the hash
pub passed_over : (file : List ℕ) (table : Table) (hash : ℕ) (says : ℕ → Result Bool Refusal) → holds_none file table.place hash ≡ true
    → gnu_looked_up file table hash says ≡ nothing_tried
unfolding gnu_looked_up
passed_over file table hash says told = rw (told, gnu_looked_up) refl
