-- The result of a search among items in ascending order.
use Rattle.std.proofs.Common.{◌≡◌, ◌≢◌, ℕ, zero, suc, ◌+◌, ◌<◌, ◌≤◌, List, [], ◌∷◌, length, length-take, get_or, take, ◌-◌, Ordering, Less, Equal, Greater, Some, None, Result, Ok, Err, refl, sym, ap, subst, ◌∙◌, arith, inl, inr, is_lt, nat_cmp}
use Rattle.std.specs.Cmp.{IsTotalOrder}
use Rattle.std.specs.List.Sorted.{IsSearchInRange, IsBinarySearchResult, IsSortedBy}
use Rattle.std.specs.Ordering.{ordering_reverse}
use Rattle.std.proofs.lemmas.Bool.{cases_lt, ne_eqb}
use Rattle.std.proofs.lemmas.Cmp.{alike_right, ranked}
use Rattle.std.proofs.lemmas.List.{get_or-take}
use Rattle.std.proofs.lemmas.List.Sorted.{searchable_from_sorted}
use Rattle.elf_model.specs.Placing.{address_in}
use Rattle.elf_layout.specs.Prelude.{FindsKey, Follows, KeysAscend, borrowed_index, placed}
use Rattle.elf_layout.specs.declared.lent.LentSection.{LentSection}
use Rattle.elf_layout.proofs.LayoutSteps.{address_in-hit, address_in-miss}

-- a search by an order, among items whose keys ascend
module _ {K X : Type 0} {order : K → K → Ordering} (total : IsTotalOrder order) (key : X → K) (items : List X) (rises : KeysAscend order key items) where
  sorted : IsSortedBy (λ a b. is_lt (order (key a) (key b))) items
  sorted k d low within =
      ap is_lt (total.antisymm (key (get_or items (k + 1) d)) (key (get_or items k d)) ∙ ap ordering_reverse (rises k (k + 1) d (omega arith) within))

  pub searched : (wanted : K) (r : Result ℕ ℕ) → IsSearchInRange r (length items) → IsBinarySearchResult (λ y. order (key y) wanted) items r → FindsKey order key items wanted r
  searched wanted (Ok i) within equal =
      (within, equal, λ k d below. sym (alike_right total (key (get_or items i d)) wanted (key (get_or items k d)) (equal d)) ∙ rises k i d below within)
  searched wanted (Err i) within parted =
      let p = parted (searchable_from_sorted total key items wanted sorted) in
      (within, λ k d below. p.0 k d (omega arith) below, λ k d from below. p.1 k d from below)

-- items whose keys ascend before a position, and one more
module _ {K X : Type 0} {order : K → K → Ordering} (total : IsTotalOrder order) (key : X → K) (items : List X) where
  abbrev pub Below : ℕ → Type 0
  Below n = (a b : ℕ) (d : X) → a < b → b < n → order (key (get_or items a d)) (key (get_or items b d)) ≡ Less

  pub below_more : (n : ℕ) → Below n → Follows order key items n → Below (n + 1)
  below_more n low next a b d less within = elim (cases_lt b n) [
    | inl inside ↦ low a b d less inside
    | inr top ↦ subst (λ m. order (key (get_or items a d)) (key (get_or items m d)) ≡ Less) {x = n} (omega (arith, top, within)) (elim (cases_lt a (n - 1)) [
      | inl far ↦ total.trans (key (get_or items a d)) (key (get_or items (n - 1) d)) (key (get_or items n d)) (low a (n - 1) d far (omega (arith, less, within, top, far))) (next d (omega (arith, far)))
      | inr near ↦ subst (λ m. order (key (get_or items m d)) (key (get_or items n d)) ≡ Less) {x = n - 1} (omega (arith, near, less, within, top)) (next d (omega (arith, less, within, top)))
    ])
  ]

  pub all_rise : (n : ℕ) → Below n → length items ≤ n → KeysAscend order key items
  all_rise n low past a b d less within = low a b d less (omega (arith, past, within))

  -- and one that does not ascend
  pub front_falls : (n : ℕ) → n < length items → KeysAscend order key (take (n + 1) items) → Follows order key items n
  front_falls n within rises d some =
      let long = length-take (n + 1) items in
      let up = rises (n - 1) n d (omega (arith, some)) (omega (arith, long, within)) in
      subst (λ x. order (key x) (key (get_or items n d)) ≡ Less) (get_or-take (n + 1) items (n - 1) d (omega arith)) (subst (λ x. order (key (get_or (take (n + 1) items) (n - 1) d)) (key x) ≡ Less) (get_or-take (n + 1) items n d (omega arith)) up)

-- sections
found_first : (items : List LentSection) (section i : ℕ) (d : LentSection) → i < length items → borrowed_index (get_or items i d) ≡ section
    → ((k : ℕ) → k < i → borrowed_index (get_or items k d) ≢ section) → address_in (placed items) section ≡ Some (get_or items i d).address
found_first [] section i d within has none = absurd (omega (arith, within))
found_first (x ∷ xs) section zero d within has none = address_in-hit (placed xs) (borrowed_index x, x.address) section has
found_first (x ∷ xs) section (suc i) d within has none =
    address_in-miss (placed xs) (borrowed_index x, x.address) section (ne_eqb (borrowed_index x) section (none 0 (omega arith))) ∙ found_first xs section i d (omega (arith, within)) has (λ k below. none (suc k) (omega (arith, below)))

found_none : (items : List LentSection) (section : ℕ) (d : LentSection) → ((k : ℕ) → k < length items → borrowed_index (get_or items k d) ≢ section) → address_in (placed items) section ≡ None
unfolding address_in
found_none [] section d none = refl
found_none (x ∷ xs) section d none =
    address_in-miss (placed xs) (borrowed_index x, x.address) section (ne_eqb (borrowed_index x) section (none 0 (omega arith))) ∙ found_none xs section d (λ k below. none (suc k) (omega (arith, below)))

below_is_other : (x wanted : ℕ) → nat_cmp x wanted ≡ Less → x ≢ wanted
below_is_other x wanted e same = let below : x < wanted = ranked x wanted Less (sym e) in omega (arith, below, same)

above_is_other : (x wanted : ℕ) → nat_cmp x wanted ≡ Greater → x ≢ wanted
above_is_other x wanted e same = let above : wanted < x = ranked x wanted Greater (sym e) in omega (arith, above, same)

pub section_found : (items : List LentSection) (section i : ℕ) (item : LentSection) → FindsKey nat_cmp borrowed_index items section (Ok i) → item ≡ get_or items i item → address_in (placed items) section ≡ Some item.address
section_found items section i item found is =
    found_first items section i item found.0 (ranked (borrowed_index (get_or items i item)) section Equal (sym (found.1 item))) (λ k below. below_is_other (borrowed_index (get_or items k item)) section (found.2 k item below))
    ∙ ap (λ (x : LentSection). Some x.address) (sym is)

-- a section without an item
abbrev pub nowhere : LentSection
nowhere = record { index = 0; address = 0 }

pub section_absent : (items : List LentSection) (section i : ℕ) → FindsKey nat_cmp borrowed_index items section (Err i) → address_in (placed items) section ≡ None
section_absent items section i found = found_none items section nowhere other
  where
    other : (k : ℕ) → k < length items → borrowed_index (get_or items k nowhere) ≢ section
    other k below = elim (cases_lt k i) [
      | inl before ↦ below_is_other (borrowed_index (get_or items k nowhere)) section (found.1 k nowhere before)
      | inr behind ↦ above_is_other (borrowed_index (get_or items k nowhere)) section (found.2 k nowhere behind below)
    ]
