-- Items of lines in order, and sorted items of which two have the same key.
use Rattle.std.proofs.Common.{◌≡◌, ◌≢◌, ℕ, ◌+◌, ◌-◌, ◌<◌, ◌≤◌, List, [], ◌∷◌, ◌++◌, length, get_or, take, map, ap₂, drop, take-append-drop, append_assoc, ◌==◌, Ordering, Less, Equal, Greater, MatchBool, Bool, true, false, refl, sym, ap, subst, ◌∙◌, arith, inl, inr, is_lt, nat_cmp}
use Rattle.std.specs.Cmp.{IsTotalOrder}
use Rattle.std.specs.List.{AllZip}
use Rattle.std.specs.List.{slice_split}
use Rattle.std.specs.List.Sorted.{IsSorted}
use Rattle.std.specs.Ordering.{ordering_reverse, ordering_then}
use Rattle.std.specs.Str.Lines.{lines, lines_of_parts}
use Rattle.std.proofs.lemmas.Bool.{cases_lt}
use Rattle.std.proofs.lemmas.Bool.Decides.{nat_tests}
use Rattle.std.proofs.lemmas.Cmp.{nat_list_cmp_total}
use Rattle.std.proofs.lemmas.List.{get_or-map, get_or_default, length-map}
use Rattle.std.proofs.lemmas.List.Splits.{length-slice_split}
use Rattle.std.proofs.lemmas.List.Sums.{count_by-le-length}
use Rattle.std.proofs.lemmas.List.Elements.{All-nil, All-push}
use Rattle.elf_model.specs.Placing.{Layout}
use Rattle.elf_layout.specs.Prelude.{AreAlike, Follows, GiveItems, HasTwice, HaveNames, IsLastAlike, IsName, KeysNeverDescend, MayFollow, ParsesItem, ParsesSameItem, lent_name, name_order, named, with_item, with_items}
use Rattle.elf_layout.specs.declared.layout.Item.TheVariants.{Define, Entry, Section, Table, Thread}
use Rattle.elf_layout.specs.declared.layout.Item.{Item}
use Rattle.elf_layout.specs.declared.lent.LentName.{LentName}
use Rattle.elf_layout.proofs.ItemLaws.{SameItem, one_item}
use Rattle.elf_layout.proofs.LayoutSteps.{drop-at}
use Rattle.elf_layout.proofs.NameSteps.{order_same}

zip_push : (lines : List (List ℕ)) (items : List Item) (line : List ℕ) (item : Item) → AllZip ParsesItem lines items → ParsesItem line item → AllZip ParsesItem (lines ++ line ∷ []) (items ++ item ∷ [])
zip_push [] [] line item zip spells = (spells, tt)
zip_push [] (x ∷ items) line item zip spells = absurd zip
zip_push (l ∷ lines) [] line item zip spells = absurd zip
zip_push (l ∷ lines) (x ∷ items) line item zip spells = (zip.0, zip_push lines items line item zip.1 spells)

items_push : (old : Layout) (items : List Item) (item : Item) → with_items old (items ++ item ∷ []) ≡ with_item (with_items old items) item
items_push old [] item = refl
items_push old (x ∷ items) item = items_push (with_item old x) items item

-- no lines give no items
pub gives_none : (old : Layout) → GiveItems [] old old
gives_none old = record { items = []; spelled = tt; placed = refl }

-- one line more gives one item more
pub gives_more : (lines : List (List ℕ)) (line : List ℕ) (item : Item) (old new newer : Layout) → GiveItems lines old new → ParsesItem line item → newer ≡ with_item new item
    → GiveItems (lines ++ line ∷ []) old newer
gives_more lines line item old new newer gives spells is = record {
  items = gives.items ++ item ∷ [];
  spelled = zip_push lines gives.items line item gives.spelled spells;
  placed = is ∙ ap (λ l. with_item l item) gives.placed ∙ sym (items_push old gives.items item);
}

-- equal items are alike to the same others
same_alike : (one other wanted : Item) → SameItem one other → AreAlike other wanted → AreAlike one wanted
same_alike (Section i a) (Section j b) (Section k c) same alike = same.0 ∙ alike
same_alike (Define i a) (Define j b) (Define k c) same alike = same.0 ∙ alike
same_alike (Entry i a) (Entry j b) (Entry k c) same alike = same.0 ∙ alike
same_alike (Table i a) (Table j b) (Table k c) same alike = same.0 ∙ alike
same_alike (Thread i a) (Thread j b) (Thread k c) same alike = same.0 ∙ alike
same_alike (Section i a) (Section j b) _ same alike = absurd alike
same_alike (Define i a) (Define j b) _ same alike = absurd alike
same_alike (Entry i a) (Entry j b) _ same alike = absurd alike
same_alike (Table i a) (Table j b) _ same alike = absurd alike
same_alike (Thread i a) (Thread j b) _ same alike = absurd alike
same_alike _ _ _ same alike = absurd same

-- a line is one item, so it is alike or no line is
pub alike_told : (line : List ℕ) (found wanted : Item) (answer : Bool) → ParsesItem line found → MatchBool answer (AreAlike found wanted) (AreAlike found wanted → ⊥)
    → MatchBool answer (ParsesSameItem wanted line) (ParsesSameItem wanted line → ⊥)
alike_told line found wanted true spells alike = (found, spells, alike)
alike_told line found wanted false spells other = λ said. other (same_alike found said.0 wanted (one_item line found said.0 spells said.1) said.2)

-- the last line that is alike, after one more line
pub last_none : (wanted : Item) → IsLastAlike [] wanted 0
last_none wanted = inl (refl, All-nil (λ line. ParsesSameItem wanted line → ⊥))

pub last_here : (lines : List (List ℕ)) (line : List ℕ) (wanted : Item) (number : ℕ) → ParsesSameItem wanted line → number ≡ length lines + 1 → IsLastAlike (lines ++ line ∷ []) wanted number
last_here lines line wanted number alike is = inr (lines, line, [], refl, alike, All-nil (λ line. ParsesSameItem wanted line → ⊥), is)

pub last_before : (lines : List (List ℕ)) (line : List ℕ) (wanted : Item) (number : ℕ) → (ParsesSameItem wanted line → ⊥) → IsLastAlike lines wanted number → IsLastAlike (lines ++ line ∷ []) wanted number
last_before lines line wanted number other (inl (is, none)) = inl (is, All-push (λ line. ParsesSameItem wanted line → ⊥) lines line none other)
last_before lines line wanted number other (inr (front, here, rest, parted, alike, none, is)) =
    inr (front, here, rest ++ line ∷ [], ap (λ l. l ++ line ∷ []) parted ∙ append_assoc front (here ∷ rest) (line ∷ []), alike, All-push (λ line. ParsesSameItem wanted line → ⊥) rest line none other, is)

-- how many lines a text may have
parts_few : (parts : List (List ℕ)) → length (lines_of_parts parts) ≤ length parts
parts_few [] = omega arith
parts_few (x ∷ []) = grind (arith, nat_tests)
parts_few (x ∷ y ∷ more) = omega (arith, parts_few (y ∷ more))

pub lines_few : (text : List ℕ) → length (lines text) ≤ length text + 1
lines_few text = omega (arith, parts_few (slice_split (λ b. b == 10) text), length-slice_split (λ b. b == 10) text, count_by-le-length (λ b. b == 10) text)

-- one of the lines, after those before it
pub line_parted : (all front : List (List ℕ)) (n : ℕ) (line : List ℕ) → front ≡ take n all → n < length all → line ≡ get_or all n line → all ≡ front ++ line ∷ drop (n + 1) all
line_parted all front n line is within here = sym (take-append-drop n all) ∙ ap₂ (λ a b. a ++ b) (sym is) (drop-at all n line line within here)

-- sorted items one of which does not follow the one before it: both have the same key
module _ {K : Type 0} {order : K → K → Ordering} (total : IsTotalOrder order) (equal : (a b : K) → order a b ≡ Equal → a ≡ b) (items : List (K × ℕ)) (sorted : KeysNeverDescend order items) where
  alike_at : (j i : ℕ) (d : K × ℕ) → j + 1 ≡ i → i < length items → (order (get_or items j d).0 (get_or items i d).0 ≡ Less → ⊥) → (get_or items j d).0 ≡ (get_or items i d).0
  alike_at j i d next within not = by_order (order (get_or items j d).0 (get_or items i d).0) refl
    where
      falls : order (get_or items i d).0 (get_or items j d).0 ≢ Less
      falls = subst (λ n. order (get_or items n d).0 (get_or items j d).0 ≢ Less) next (sorted j d (omega (arith, next, within)))

      by_order : (o : Ordering) → order (get_or items j d).0 (get_or items i d).0 ≡ o → (get_or items j d).0 ≡ (get_or items i d).0
      by_order Less e = absurd (not e)
      by_order Equal e = equal (get_or items j d).0 (get_or items i d).0 e
      by_order Greater e = absurd (falls (total.antisymm (get_or items i d).0 (get_or items j d).0 ∙ ap ordering_reverse e))

  pub has_twice : (i : ℕ) (e : K × ℕ) → i < length items → (Follows order (λ x. x.0) items i → ⊥) → HasTwice items (get_or items i e).0
  has_twice i e within not = elim (cases_lt 0 i) [
    | inl some ↦
        let before : i - 1 < length items = omega (arith, within) in
        let same = alike_at (i - 1) i e (omega (arith, some)) within (λ less. not (λ d above.
        subst (λ x. order (get_or items (i - 1) d).0 x.0 ≡ Less) (get_or_default items i e d within) (subst (λ x. order x.0 (get_or items i e).0 ≡ Less) (get_or_default items (i - 1) e d before) less))) in
        (i - 1, i, omega (arith, some), within, λ d. ap (λ x. x.0) (get_or_default items (i - 1) d e before) ∙ same, λ d. ap (λ x. x.0) (get_or_default items i d e within))
    | inr none ↦ absurd (not (λ d above. absurd (omega (arith, above, none))))
  ]

-- sorted pairs have sorted keys
then_falls : (a b : Ordering) → is_lt (ordering_then a b) ≡ false → a ≡ Less → ⊥
then_falls Less b falls less = cc
then_falls Equal b falls less = cc
then_falls Greater b falls less = cc

first_of : {X : Type 0} (items : List X) → 0 < length items → X
first_of [] some = absurd (omega (arith, some))
first_of (item ∷ items) some = item

-- borrowed items, as pairs of their keys and addresses
module _ {X K : Type 0} (key : X → K) (address : X → ℕ) (items : List X) where
  abbrev pub pair : X → K × ℕ
  pair item = (key item, address item)

  abbrev pub pairs : List (K × ℕ)
  pairs = map pair items

  pair_at : (i : ℕ) (d : X) (e : K × ℕ) → i < length items → get_or pairs i e ≡ pair (get_or items i d)
  pair_at i d e within = get_or-map pair items i d e within

  long : length pairs ≡ length items
  long = length-map items pair

  -- one that does not follow the one before it
  pub key_twice : {order : K → K → Ordering} (total : IsTotalOrder order) (equal : (a b : K) → order a b ≡ Equal → a ≡ b) (i : ℕ) (e : X) → i < length items → KeysNeverDescend order pairs
      → (Follows order key items i → ⊥) → HasTwice pairs (key (get_or items i e))
  key_twice {order} total equal i e within sorted not =
      let inside : i < length pairs = omega (arith, within, long) in
      subst (HasTwice pairs) (ap (λ (x : K × ℕ). x.0) (pair_at i e (pair e) within)) (has_twice total equal pairs sorted i (pair e) inside (λ follows. not (λ d some.
      let before : i - 1 < length items = omega (arith, within) in
      subst (λ x. order x (key (get_or items i d)) ≡ Less) (ap (λ (x : K × ℕ). x.0) (pair_at (i - 1) d (pair d) before)) (subst (λ x. order (get_or pairs (i - 1) (pair d)).0 x ≡ Less) (ap (λ (x : K × ℕ). x.0) (pair_at i d (pair d) within)) (follows (pair d) some)))))

  -- sorted by their keys, and then by their addresses
  pub keys_sorted : (order : K → K → Ordering) → IsSorted (λ (x y : X). ordering_then (order (key x) (key y)) (nat_cmp (address x) (address y))) items → KeysNeverDescend order pairs
  keys_sorted order sorted i e within less =
      let inside : i + 1 < length items = omega (arith, within, long) in
      let before : i < length items = omega (arith, inside) in
      let d = first_of items (omega (arith, inside)) in
      then_falls (order (key (get_or items (i + 1) d)) (key (get_or items i d))) (nat_cmp (address (get_or items (i + 1) d)) (address (get_or items i d))) (sorted i d (omega arith) inside)
      (subst (λ x. order x (key (get_or items i d)) ≡ Less) (ap (λ (x : K × ℕ). x.0) (pair_at (i + 1) d e inside)) (subst (λ x. order (get_or pairs (i + 1) e).0 x ≡ Less) (ap (λ (x : K × ℕ). x.0) (pair_at i d e before)) less))

-- borrowed names
pub names_twice : (items : List LentName) (i : ℕ) (e : LentName) → i < length items → KeysNeverDescend name_order (named items) → (MayFollow items i → ⊥) → IsName (lent_name (get_or items i e))
    → HasTwice (named items) (lent_name (get_or items i e))
names_twice items i e within sorted not is_name =
    key_twice lent_name (λ item. item.address) items nat_list_cmp_total order_same i e within sorted (λ follows. not ((λ d. subst (λ x. IsName (lent_name x)) (get_or_default items i e d within) is_name), follows))

-- the name of a borrowed item, if each has a valid one
pub name_there : (items : List LentName) (i : ℕ) (e : LentName) → i < length items → HaveNames (named items) → IsName (lent_name (get_or items i e))
name_there items i e within names =
    let its : LentName → List ℕ × ℕ = λ item. (lent_name item, item.address) in
    subst (λ (x : List ℕ × ℕ). IsName x.0) (get_or-map its items i e (its e) within) (names i (its e) (omega (arith, within, length-map items its)))
