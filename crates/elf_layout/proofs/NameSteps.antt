-- The result of a search for the bytes at an index of a string table among names in ascending
-- order.
use Rattle.std.proofs.Common.{◌≡◌, ◌≢◌, ℕ, zero, suc, ◌+◌, ◌-◌, ◌<◌, ◌≤◌, ◌==◌, Bool, true, false, MatchBool, nat_eq, List, [], ◌∷◌, ◌++◌, length, get_or, take, drop, max, Ordering, Less, Equal, Greater, Option, Some, None, Result, Ok, Err, refl, sym, ap, ap₂, subst, ◌∙◌, arith, inl, inr, is_eq, nat_cmp, All, add-one, drop-cons, length-take, length-append, append-nil}
use mathlib.Core.Bool.{false≢true}
use Rattle.std.proofs.lemmas.Bool.{cases_lt}
use Rattle.std.proofs.lemmas.Bool.Decides.{Decides-eqb, eqb_tells, nat_tests}
use Rattle.std.proofs.lemmas.Cmp.{nat_list_cmp_total, tied_itself}
use Rattle.std.proofs.lemmas.List.{get_or_default, get_or-take, take-append-drop, take-take, take_all}
use Rattle.std.proofs.lemmas.Map.Text.{is_eq-slice_cmp}
use Rattle.std.proofs.lemmas.Slice.Eq.{bytes_eq-Decides, starts_is}
use Rattle.elf_model.specs.Prelude.{address_named, begins, longest, same, slice}
use Rattle.elf_model.specs.declared.causes.Cause.{Cause}
use Rattle.elf_model.specs.declared.causes.Cause.TheVariants.{NameUnended}
use Rattle.elf_layout.specs.Prelude.{BeginsAt, BeginsWith, FindsKey, IsAddressAt, IsName, MayBorrow, MayFollow, lent_name, name_order, named, search_end}
use Rattle.elf_layout.specs.declared.lent.LentName.{LentName}
use Rattle.std.specs.Cmp.Lexicographic.{pointwise}
use Rattle.std.specs.Ordering.{ord_max}
use Rattle.elf_layout.proofs.LentSteps.{front_falls}
use Rattle.elf_layout.proofs.LayoutSteps.{drop-at, drop-all}

-- names that compare equal are the same
pub order_same : (a b : List ℕ) → name_order a b ≡ Equal → a ≡ b
order_same a b e = (bytes_eq-Decides a b).0 (sym (is_eq-slice_cmp a b) ∙ ap is_eq e)

order_other : (a b : List ℕ) (o : Ordering) → name_order a b ≡ o → (o ≡ Equal → ⊥) → a ≢ b
order_other a b o e not same = not (sym e ∙ (ap (λ x. name_order x b) same ∙ tied_itself nat_list_cmp_total b))

less_not_equal : Less ≡ Equal → ⊥
less_not_equal e = absurd (cc)

greater_not_equal : Greater ≡ Equal → ⊥
greater_not_equal e = absurd (cc)

abbrev NoNul : List ℕ → Type 0
NoNul bytes = All (λ byte. byte ≢ 0) bytes

no_nul_head : (x : ℕ) (xs : List ℕ) → NoNul (x ∷ xs) → (x == 0) ≡ false
no_nul_head x xs h = grind (arith, nat_tests, h 0 0 (omega arith))

no_nul_turned : (x : ℕ) (xs : List ℕ) → NoNul (x ∷ xs) → (0 == x) ≡ false
no_nul_turned x xs h = grind (arith, nat_tests, h 0 0 (omega arith))

no_nul_tail : (x : ℕ) (xs : List ℕ) → NoNul (x ∷ xs) → NoNul xs
no_nul_tail x xs h k d below = h (suc k) d (omega (arith, below))

-- a name with its NUL, against the bytes in the table
ended_same : (name more : List ℕ) → begins (name ++ 0 ∷ more) (name ++ 0 ∷ []) ≡ Ok true
unfolding begins
ended_same [] more = refl
ended_same (x ∷ name) more = grind (arith, nat_tests, ended_same name more)

ended_other : (key name more : List ℕ) → NoNul key → NoNul name → key ≢ name → begins (key ++ 0 ∷ more) (name ++ 0 ∷ []) ≡ Ok false
unfolding begins
ended_other [] [] more k n other = absurd (other refl)
ended_other [] (x ∷ name) more k n other = rw (begins, no_nul_turned x name n) refl
ended_other (x ∷ key) [] more k n other = rw (begins, no_nul_head x key k) refl
ended_other (x ∷ key) (y ∷ name) more k n other =
    elim (eqb_tells x y) [
      | inl alike ↦ grind (arith, alike, ended_other key name more (no_nul_tail x key k) (no_nul_tail y name n) (λ e. other (ap₂ (λ a b. a ∷ b) alike.1 e)))
      | inr differ ↦ rw (begins, differ.0) refl
    ]

unended_begins : (key rest : List ℕ) → begins key ((key ++ rest) ++ 0 ∷ []) ≡ Err NameUnended
unfolding begins
unended_begins [] [] = refl
unended_begins [] (x ∷ rest) = refl
unended_begins (x ∷ key) rest = grind (arith, nat_tests, unended_begins key rest)

unended_other : (key name more : List ℕ) → NoNul key → (BeginsWith name key → ⊥) → begins (key ++ more) (name ++ 0 ∷ []) ≡ Ok false
unfolding begins
unended_other [] name more k other = absurd (other (name, refl))
unended_other (x ∷ key) [] more k other = rw (begins, no_nul_head x key k) refl
unended_other (x ∷ key) (y ∷ name) more k other =
    elim (eqb_tells x y) [
      | inl alike ↦ grind (arith, alike, unended_other key name more (no_nul_tail x key k) (λ b. other (b.0, ap₂ (λ a l. a ∷ l) (sym alike.1) b.1)))
      | inr differ ↦ rw (begins, differ.0) refl
    ]

-- what begins with some bytes is not less than them
begins_not_less : (key rest : List ℕ) → name_order (key ++ rest) key ≡ Less → ⊥
begins_not_less [] [] e = absurd (cc)
begins_not_less [] (x ∷ rest) e = absurd (cc)
begins_not_less (x ∷ key) rest e = grind (arith, nat_tests, begins_not_less key rest)

-- a name greater than some bytes and less than one that begins with them begins with them too
begins_between : (key name rest : List ℕ) → name_order name key ≡ Greater → name_order name (key ++ rest) ≡ Less → BeginsWith name key
begins_between [] name rest above below = (name, refl)
begins_between (x ∷ key) [] rest above below = absurd (cc)
begins_between (x ∷ key) (y ∷ name) rest above below =
    elim (eqb_tells y x) [
      | inl alike ↦ let b = begins_between key name rest (grind (arith, nat_tests)) (grind (arith, nat_tests)) in (b.0, ap₂ (λ a l. a ∷ l) alike.1 b.1)
      | inr differ ↦ absurd (grind (arith, nat_tests))
    ]

-- each name is at most as long as the longest
as_long : (items : List LentName) (k : ℕ) (d : LentName) → k < length items → length (lent_name (get_or items k d)) ≤ longest (named items)
unfolding longest
as_long [] k d below = absurd (omega (arith, below))
as_long (item ∷ items) zero d below = omega arith
as_long (item ∷ items) (suc k) d below = let more = as_long items k d (omega (arith, below)) in omega (arith, more)

-- with one more
pub longest_more : (items : List LentName) (i : ℕ) (d : LentName) → i < length items → longest (named (take (suc i) items)) ≡ max (longest (named (take i items))) (length (lent_name (get_or items i d)))
unfolding longest
longest_more [] i d below = absurd (omega (arith, below))
longest_more (item ∷ items) zero d below = omega arith
longest_more (item ∷ items) (suc i) d below = let more = longest_more items i d (omega (arith, below)) in omega (arith, more)

-- names that may be borrowed are short
pub few_bytes : (items : List LentName) → All (λ item. IsName (lent_name item)) items → longest (named items) ≤ 255
unfolding longest
few_bytes [] names = omega arith
few_bytes (item ∷ items) names =
    let first = (names 0 item (omega arith)).1 in
    let more = few_bytes items (λ k d below. names (suc k) d (omega (arith, below))) in omega (arith, first, more)

-- the names of a prefix
pub lends_front : (items : List LentName) (i : ℕ) → i < length items → MayBorrow (take (i + 1) items) → MayFollow items i
lends_front items i within lend =
    (λ d. subst (λ x. IsName (lent_name x)) (get_or-take (i + 1) items i d (omega arith)) (lend.names i d (omega (arith, within, length-take (i + 1) items))), front_falls nat_list_cmp_total lent_name items i within lend.rise)

-- the result of `starts_with`
pub begins_said : (name front : List ℕ) (r : Bool) → r ≡ pointwise nat_eq front (take (length front) name) → MatchBool r (BeginsWith name front) (BeginsWith name front → ⊥)
begins_said name front true is = (drop (length front) name, (starts_is Decides-eqb name front true is).0 refl)
begins_said name front false is = λ b. absurd (false≢true ((starts_is Decides-eqb name front false is).1 b.0 b.1))

-- whether a name may follow, from its tests
pub some_item : (items : List LentName) → 0 < length items → LentName
some_item [] some = absurd (omega (arith, some))
some_item (item ∷ items) some = item

module _ (items : List LentName) (i : ℕ) (name : List ℕ) (within : i < length items) (here : (d : LentName) → name ≡ lent_name (get_or items i d)) where
  pub follows_no_name : (IsName name → ⊥) → MayFollow items i → ⊥
  follows_no_name not may =
      let d : LentName = some_item items (omega (arith, within)) in not (subst IsName (sym (here d)) (may.0 d))

  pub follows_first : IsName name → i ≡ 0 → MayFollow items i
  follows_first is first = (λ d. subst IsName (here d) is, λ d some. absurd (omega (arith, first, some)))

  pub follows_said :
      IsName name → 0 < i → (before : List ℕ) → ((d : LentName) → before ≡ lent_name (get_or items (i - 1) d)) → (r : Bool) → MatchBool r (name_order before name ≡ Less) (name_order before name ≢ Less)
      → MatchBool r (MayFollow items i) (MayFollow items i → ⊥)
  follows_said is some before at true less = (λ d. subst IsName (here d) is, λ d _. subst (λ n. name_order n (lent_name (get_or items i d)) ≡ Less) (at d) (subst (λ n. name_order before n ≡ Less) (here d) less))
  follows_said is some before at false not = λ may.
      let d : LentName = some_item items (omega (arith, within)) in
      not (subst (λ n. name_order before n ≡ Less) (sym (here d)) (subst (λ n. name_order n (lent_name (get_or items i d)) ≡ Less) (sym (at d)) (may.1 d some)))

-- whether the name at a position begins with some bytes, from its test
pub begins_there : (items : List LentName) (i : ℕ) (front name : List ℕ) → i < length items → ((d : LentName) → name ≡ lent_name (get_or items i d)) → (r : Bool)
    → MatchBool r (BeginsWith name front) (BeginsWith name front → ⊥) → MatchBool r (BeginsAt items i front) (BeginsAt items i front → ⊥)
begins_there items i front name within here true b =
    let item : LentName = get_or items i (some_item items (omega (arith, within))) in
    (within, (item, get_or_default items i (some_item items (omega (arith, within))) item within, (b.0, sym (here (some_item items (omega (arith, within)))) ∙ b.1)))
begins_there items i front name within here false not = λ at. not (at.1.2.0, here at.1.0 ∙ sym (ap lent_name at.1.1) ∙ at.1.2.1)

-- the names in order, compared with the bytes at an index
module _ (strings : List ℕ) (index : ℕ) where
  abbrev compared : LentName → Result Bool Cause
  compared item = same strings index (lent_name item)

  skip : (items : List LentName) (i : ℕ) → i ≤ length items → ((k : ℕ) (d : LentName) → k < i → compared (get_or items k d) ≡ Ok false)
      → address_named strings index (named items) ≡ address_named strings index (named (drop i items))
  unfolding address_named
  skip items zero within none = refl
  skip [] (suc i) within none = absurd (omega (arith, within))
  skip (item ∷ items) (suc i) within none = rw (address_named, none 0 item (omega arith)) (skip items i (omega (arith, within)) (λ k d below. none (suc k) d (omega (arith, below))))

  at_hit : (items : List LentName) (item : LentName) → compared item ≡ Ok true → address_named strings index (named (item ∷ items)) ≡ Ok (Some item.address)
  unfolding address_named
  at_hit items item e = rw (address_named, e) refl

  at_stop : (items : List LentName) (item : LentName) (cause : Cause) → compared item ≡ Err cause → address_named strings index (named (item ∷ items)) ≡ Err cause
  unfolding address_named
  at_stop items item cause e = rw (address_named, e) refl

  at_end : address_named strings index (named []) ≡ Ok None
  unfolding address_named
  at_end = refl

-- the bytes of a string table at an index, as far as they were read: this many before the first
-- NUL, or all
module _ (strings : List ℕ) (index end most : ℕ) (front : List ℕ) (inside : index < length strings) (is : front ≡ slice strings index (most + 1))
    (within : end ≤ length front) (before : (k : ℕ) → k < end → get_or front k 0 ≢ 0)
  where
    abbrev key : List ℕ
    key = take end front

    rest : List ℕ
    rest = drop index strings

    compared_is : (name : List ℕ) → same strings index name ≡ begins (drop index strings) (name ++ 0 ∷ [])
    unfolding same
    compared_is name = grind (arith, nat_tests)

    key_no_nul : NoNul key
    key_no_nul k d below =
        let short : k < end = omega (arith, below, within, length-take end front) in
        λ e. before k short (get_or_default front k 0 d (omega arith) ∙ sym (get_or-take end front k d short) ∙ e)

    key_is : key ≡ take end (drop index strings)
    key_is = ap (take end) is ∙ take-take end (most + 1) (drop index strings) (omega (arith, within, ap length is, length-take (most + 1) (drop index strings)))

    -- the name is terminated
    parted : (ends : get_or front end 0 ≡ 0) → end < length front → drop index strings ≡ key ++ 0 ∷ drop (end + 1) (drop index strings)
    parted ends short =
        let long : end < length (drop index strings) = omega (arith, short, ap length is, length-take (most + 1) (drop index strings)) in
        let here : get_or (drop index strings) end 0 ≡ 0 = sym (get_or-take (most + 1) (drop index strings) end 0 (omega (arith, short, ap length is, length-take (most + 1) (drop index strings)))) ∙ sym (ap (λ l. get_or l end 0) is) ∙ ends in
        sym (take-append-drop end (drop index strings)) ∙ ap₂ (λ a b. a ++ b) (sym key_is) (drop-cons (drop index strings) end 0 long ∙ ap₂ (λ a b. a ∷ b) here (ap (λ n. drop n (drop index strings)) (sym (add-one end))))

    hit : get_or front end 0 ≡ 0 → end < length front → (name : List ℕ) → key ≡ name → same strings index name ≡ Ok true
    hit ends short name e =
        let more : List ℕ = drop (end + 1) (drop index strings) in
        compared_is name ∙ (ap (λ l. begins l (name ++ 0 ∷ [])) (parted ends short ∙ ap (λ l. l ++ 0 ∷ more) e) ∙ ended_same name more)

    miss : get_or front end 0 ≡ 0 → end < length front → (name : List ℕ) → NoNul name → key ≢ name → same strings index name ≡ Ok false
    miss ends short name n other =
        compared_is name ∙ (ap (λ l. begins l (name ++ 0 ∷ [])) (parted ends short) ∙ ended_other key name (drop (end + 1) (drop index strings)) key_no_nul n other)

    -- it is not, as far as it was read
    key_all : end ≡ length front → key ≡ front
    key_all all = take_all end front (omega (arith, all))

    other : end ≡ length front → (name : List ℕ) → (BeginsWith name key → ⊥) → same strings index name ≡ Ok false
    other all name not =
        let more : List ℕ = drop (most + 1) (drop index strings) in
        compared_is name
        ∙ (ap (λ l. begins l (name ++ 0 ∷ [])) (sym (take-append-drop (most + 1) (drop index strings)) ∙ ap (λ l. l ++ more) (sym is ∙ sym (key_all all)))
        ∙ unended_other key name more key_no_nul not)

    stop : end ≡ length front → (name : List ℕ) → length name ≤ most → BeginsWith name key → same strings index name ≡ Err NameUnended
    stop all name short b =
        let key_long = ap length (key_all all) in
        let long = ap length b.1 ∙ length-append key b.0 in
        let whole : length (drop index strings) ≤ most + 1 = omega (arith, key_long, long, short, ap length is, length-take (most + 1) (drop index strings)) in
        let all_of : drop index strings ≡ key = sym (take_all (most + 1) (drop index strings) whole) ∙ (sym is ∙ sym (key_all all)) in
        compared_is name ∙ (ap₂ begins all_of (ap (λ l. l ++ 0 ∷ []) b.1) ∙ unended_begins key b.0)

    -- names in ascending order
    module _ (items : List LentName) (lend : MayBorrow items) (longest_is : most ≡ longest (named items)) where
      no_nul : (k : ℕ) (d : LentName) → k < length items → NoNul (lent_name (get_or items k d))
      no_nul k d below = (lend.names k d below).2

      less_other : (name : List ℕ) → name_order name key ≡ Less → key ≢ name
      less_other name e same = order_other name key Less e less_not_equal (sym same)

      greater_other : (name : List ℕ) → name_order name key ≡ Greater → key ≢ name
      greater_other name e same = order_other name key Greater e greater_not_equal (sym same)

      from : (i : ℕ) (item : LentName) → i < length items → item ≡ get_or items i item → ((k : ℕ) (d : LentName) → k < i → same strings index (lent_name (get_or items k d)) ≡ Ok false)
          → address_named strings index (named items) ≡ address_named strings index (named (item ∷ drop (i + 1) items))
      from i item within here none = skip strings index items i (omega (arith, within)) none ∙ ap (λ l. address_named strings index (named l)) (drop-at items i item item within here)

      none_of : ((k : ℕ) (d : LentName) → k < length items → same strings index (lent_name (get_or items k d)) ≡ Ok false) → address_named strings index (named items) ≡ Ok None
      none_of none = skip strings index items (length items) (omega arith) none ∙ (ap (λ l. address_named strings index (named l)) (drop-all items (length items) (omega arith)) ∙ at_end strings index)

      pub found : get_or front end 0 ≡ 0 → end < length front → (i : ℕ) → FindsKey name_order lent_name items key (Ok i) → (item : LentName) → item ≡ get_or items i item
          → address_named strings index (named items) ≡ Ok (Some item.address)
      found ends short i finds item here =
          from i item finds.0 here (λ k d below. miss ends short (lent_name (get_or items k d)) (no_nul k d (omega (arith, below, finds.0))) (less_other (lent_name (get_or items k d)) (finds.2 k d below)))
          ∙ at_hit strings index (drop (i + 1) items) item (hit ends short (lent_name item) (sym (ap lent_name here ∙ order_same (lent_name (get_or items i item)) key (finds.1 item))))

      pub absent : get_or front end 0 ≡ 0 → end < length front → (i : ℕ) → FindsKey name_order lent_name items key (Err i) → address_named strings index (named items) ≡ Ok None
      absent ends short i finds = none_of (λ k d below. miss ends short (lent_name (get_or items k d)) (no_nul k d below) (elim (cases_lt k i) [
        | inl first ↦ less_other (lent_name (get_or items k d)) (finds.1 k d first)
        | inr later ↦ greater_other (lent_name (get_or items k d)) (finds.2 k d later below)
      ]))

      not_begun : (k : ℕ) (d : LentName) → name_order (lent_name (get_or items k d)) key ≡ Less → BeginsWith (lent_name (get_or items k d)) key → ⊥
      not_begun k d e b = begins_not_less key b.0 (ap (λ l. name_order l key) (sym b.1) ∙ e)

      before_place : (r : Result ℕ ℕ) → FindsKey name_order lent_name items key r → (k : ℕ) (d : LentName) → k < search_end r → name_order (lent_name (get_or items k d)) key ≡ Less
      before_place (Ok i) finds k d below = finds.2 k d below
      before_place (Err i) finds k d below = finds.1 k d below

      pub stopped : end ≡ length front → (r : Result ℕ ℕ) → FindsKey name_order lent_name items key r → BeginsAt items (search_end r) key
          → address_named strings index (named items) ≡ Err NameUnended
      stopped all r finds at =
          from (search_end r) at.1.0 at.0 at.1.1 (λ k d below. other all (lent_name (get_or items k d)) (not_begun k d (before_place r finds k d below)))
          ∙ at_stop strings index (drop (search_end r + 1) items) at.1.0 NameUnended (stop all (lent_name at.1.0) (omega (arith, longest_is, as_long items (search_end r) at.1.0 at.0, ap (λ (x : LentName). length (lent_name x)) at.1.1)) at.1.2)

      begun_at : (i k : ℕ) (d : LentName) → i ≤ k → k < length items → name_order (lent_name (get_or items i d)) key ≡ Greater → BeginsWith (lent_name (get_or items k d)) key → BeginsAt items i key
      begun_at i k d up within above b = (
        omega (arith, up, within),
        (
          get_or items i d,
          get_or_default items i d (get_or items i d) (omega (arith, up, within)),
          elim (cases_lt i k) [
            | inl lower ↦ begins_between key (lent_name (get_or items i d)) b.0 above (ap (λ l. name_order (lent_name (get_or items i d)) l) (sym b.1) ∙ lend.rise i k d lower within)
            | inr level ↦ let one : i ≡ k = omega (arith, up, level) in subst (λ n. BeginsWith (lent_name (get_or items n d)) key) (sym one) b
          ],
        ),
      )

      never_begun : (r : Result ℕ ℕ) → FindsKey name_order lent_name items key r → (BeginsAt items (search_end r) key → ⊥) → (k : ℕ) (d : LentName) → k < length items
          → BeginsWith (lent_name (get_or items k d)) key → ⊥
      never_begun (Ok i) finds not k d within b =
          not (finds.0, (get_or items i d, get_or_default items i d (get_or items i d) finds.0, ([], order_same (lent_name (get_or items i d)) key (finds.1 d) ∙ sym (append-nil key))))
      never_begun (Err i) finds not k d within b = elim (cases_lt k i) [
        | inl first ↦ not_begun k d (finds.1 k d first) b
        | inr later ↦ not (begun_at i k d later within (finds.2 i d (omega arith) (omega (arith, later, within))) b)
      ]

      pub unstopped : end ≡ length front → (r : Result ℕ ℕ) → FindsKey name_order lent_name items key r → (BeginsAt items (search_end r) key → ⊥)
          → address_named strings index (named items) ≡ Ok None
      unstopped all r finds not = none_of (λ k d below. other all (lent_name (get_or items k d)) (never_begun r finds not k d below))

      -- the result of a search for terminated bytes
      pub said : get_or front end 0 ≡ 0 → end < length front → (r : Result ℕ ℕ) → FindsKey name_order lent_name items key r → (address : Option ℕ) → IsAddressAt items r address
          → address_named strings index (named items) ≡ Ok address
      said ends short (Ok i) finds address at = found ends short i finds at.0 at.1 ∙ ap (λ a. Ok a) (sym at.2)
      said ends short (Err i) finds address none = absent ends short i finds ∙ ap (λ a. Ok a) (sym none)

-- the greater of two numbers, as `max` returns it
pub greater_is : (a b : ℕ) → ord_max nat_cmp a b ≡ max a b
greater_is a b = grind (arith, nat_tests)
