-- What a search among items finds.
use Rattle.std.proofs.Common.{◌≡◌, ◌≢◌, ℕ, zero, suc, ◌^◌, ◌<◌, ◌==◌, List, [], ◌∷◌, length, get_or, Less, Equal, Greater, Some, None, Ok, Err, refl, sym, ap, ◌∙◌, arith, inl, inr, nat_cmp}
use Rattle.std.proofs.lemmas.Bool.{cases_Bool, cases_lt, eqb-true, ne_eqb, eq-eqb}
use Rattle.std.proofs.lemmas.Cmp.{ranked}
use Rattle.elf_model.specs.ImageItems.{bytes_for}
use Rattle.elf_model.specs.Placing.{address_in}
use Rattle.elf_layout.specs.Prelude.{FindsKey}
use Rattle.elf_layout.proofs.LayoutSteps.{address_in-hit, address_in-miss}
use Rattle.elf_image.specs.Items.{bytes_from, copied, copies_of, copy_bytes, copy_index, copy_size, of_kind, item_rank, item_rank_of}
use Rattle.elf_image.specs.declared.image_items.CopyBytes.{CopyBytes}
use Rattle.elf_image.specs.declared.image_items.CopyItem.{CopyItem}
use Rattle.elf_image.specs.declared.image_items.NumberItem.{NumberItem}

-- no number
abbrev pub no_number : NumberItem
no_number = record { kind = 0; key = 0; value = 0 }

-- an item of another place in the order
passed : (x : NumberItem) (xs : List NumberItem) (kind key : ℕ) → item_rank_of x ≢ item_rank kind key → address_in (of_kind kind (x ∷ xs)) key ≡ address_in (of_kind kind xs) key
unfolding of_kind
passed x xs kind key other = elim (cases_Bool (x.kind == kind)) [
  | inl same ↦
      let equal = eqb-true x.kind kind same in
      let apart : x.key ≢ key = λ keys. other (omega (arith, equal, keys)) in
      rw same (address_in-miss (of_kind kind xs) (x.key, x.value) key (ne_eqb x.key key apart))
  | inr else ↦ rw else refl
]

found_first : (items : List NumberItem) (kind key i : ℕ) (d : NumberItem) → i < length items → (get_or items i d).kind ≡ kind → (get_or items i d).key ≡ key
    → ((k : ℕ) → k < i → item_rank_of (get_or items k d) ≢ item_rank kind key) → address_in (of_kind kind items) key ≡ Some (get_or items i d).value
unfolding of_kind
found_first [] kind key i d within kinds keys none = absurd (omega (arith, within))
found_first (x ∷ xs) kind key zero d within kinds keys none =
    rw (eq-eqb x.kind kind kinds) (address_in-hit (of_kind kind xs) (x.key, x.value) key keys)
found_first (x ∷ xs) kind key (suc i) d within kinds keys none =
    passed x xs kind key (none 0 (omega arith)) ∙ found_first xs kind key i d (omega (arith, within)) kinds keys (λ k below. none (suc k) (omega (arith, below)))

found_none : (items : List NumberItem) (kind key : ℕ) (d : NumberItem) → ((k : ℕ) → k < length items → item_rank_of (get_or items k d) ≢ item_rank kind key) → address_in (of_kind kind items) key ≡ None
unfolding of_kind address_in
found_none [] kind key d none = refl
found_none (x ∷ xs) kind key d none = passed x xs kind key (none 0 (omega arith)) ∙ found_none xs kind key d (λ k below. none (suc k) (omega (arith, below)))

below_is_other : (x wanted : ℕ) → nat_cmp x wanted ≡ Less → x ≢ wanted
below_is_other x wanted e same = let below : x < wanted = ranked x wanted Less (sym e) in omega (arith, below, same)

above_is_other : (x wanted : ℕ) → nat_cmp x wanted ≡ Greater → x ≢ wanted
above_is_other x wanted e same = let above : wanted < x = ranked x wanted Greater (sym e) in omega (arith, above, same)

pub number_found : (items : List NumberItem) (kind key i its_key its_value : ℕ) → key < 2 ^ 64 → its_key < 2 ^ 64
    → FindsKey nat_cmp item_rank_of items (item_rank kind key) (Ok i) → ((d : NumberItem) → its_key ≡ (get_or items i d).key) → ((d : NumberItem) → its_value ≡ (get_or items i d).value)
    → address_in (of_kind kind items) key ≡ Some its_value
number_found items kind key i its_key its_value small fits found keyed valued =
    let item = get_or items i no_number in
    let same : item_rank_of item ≡ item_rank kind key = ranked (item_rank_of item) (item_rank kind key) Equal (sym (found.1 no_number)) in
    let k = keyed no_number in
    let kinds : item.kind ≡ kind = omega (arith, same, small, fits, k) in
    let keys : item.key ≡ key = omega (arith, same, small, fits, k) in
    found_first items kind key i no_number found.0 kinds keys
    (λ k below. below_is_other (item_rank_of (get_or items k no_number)) (item_rank kind key) (found.2 k no_number below))
    ∙ ap Some (sym (valued no_number))

pub number_absent : (items : List NumberItem) (kind key i : ℕ) → FindsKey nat_cmp item_rank_of items (item_rank kind key) (Err i) → address_in (of_kind kind items) key ≡ None
number_absent items kind key i found = found_none items kind key no_number other
  where
    other : (k : ℕ) → k < length items → item_rank_of (get_or items k no_number) ≢ item_rank kind key
    other k below = elim (cases_lt k i) [
      | inl before ↦ below_is_other (item_rank_of (get_or items k no_number)) (item_rank kind key) (found.1 k no_number before)
      | inr behind ↦ above_is_other (item_rank_of (get_or items k no_number)) (item_rank kind key) (found.2 k no_number behind below)
    ]

-- the same of copied objects
copy_first : (items : List CopyItem) (index i : ℕ) (d : CopyItem) → i < length items → copy_index (get_or items i d) ≡ index
    → ((k : ℕ) → k < i → copy_index (get_or items k d) ≢ index) → bytes_for (copies_of items) index ≡ Some (copy_bytes (copied (get_or items i d)))
unfolding bytes_for
copy_first [] index i d within has none = absurd (omega (arith, within))
copy_first (x ∷ xs) index zero d within has none = rw (eq-eqb (copy_index x) index has, bytes_for) refl
copy_first (x ∷ xs) index (suc i) d within has none =
    rw (ne_eqb (copy_index x) index (none 0 (omega arith)), bytes_for) (copy_first xs index i d (omega (arith, within)) has (λ k below. none (suc k) (omega (arith, below))))

copy_none : (items : List CopyItem) (index : ℕ) (d : CopyItem) → ((k : ℕ) → k < length items → copy_index (get_or items k d) ≢ index) → bytes_for (copies_of items) index ≡ None
unfolding bytes_for
copy_none [] index d none = refl
copy_none (x ∷ xs) index d none = rw (ne_eqb (copy_index x) index (none 0 (omega arith)), bytes_for) (copy_none xs index d (λ k below. none (suc k) (omega (arith, below))))

pub copy_found : (items : List CopyItem) (index i : ℕ) (item : CopyItem) → FindsKey nat_cmp copy_index items index (Ok i) → item ≡ get_or items i item
    → bytes_for (copies_of items) index ≡ Some (copy_bytes (copied item))
copy_found items index i item found is =
    copy_first items index i item found.0 (ranked (copy_index (get_or items i item)) index Equal (sym (found.1 item))) (λ k below. below_is_other (copy_index (get_or items k item)) index (found.2 k item below))
    ∙ ap (λ (x : CopyItem). Some (copy_bytes (copied x))) (sym is)

pub copy_absent : (items : List CopyItem) (index i : ℕ) (d : CopyItem) → FindsKey nat_cmp copy_index items index (Err i) → bytes_for (copies_of items) index ≡ None
copy_absent items index i d found = copy_none items index d other
  where
    other : (k : ℕ) → k < length items → copy_index (get_or items k d) ≢ index
    other k below = elim (cases_lt k i) [
      | inl before ↦ below_is_other (copy_index (get_or items k d)) index (found.1 k d before)
      | inr behind ↦ above_is_other (copy_index (get_or items k d)) index (found.2 k d behind below)
    ]

-- as many bytes as a copied object has
length-bytes_from : (bytes : CopyBytes) (index count : ℕ) → length (bytes_from bytes index count) ≡ count
unfolding bytes_from
length-bytes_from bytes index zero = refl
length-bytes_from bytes index (suc count) = ap suc (length-bytes_from bytes (suc index) count)

pub copy_length : (bytes : CopyBytes) → length (copy_bytes bytes) ≡ copy_size bytes
copy_length bytes = length-bytes_from bytes 0 (copy_size bytes)
