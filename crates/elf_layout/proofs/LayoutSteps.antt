-- The items of a layout, one after another.
use Rattle.std.proofs.Common.{◌≡◌, ℕ, suc, ◌+◌, ◌<◌, ◌≤◌, ◌==◌, ◌≢◌, Bool, MatchBool, is_some, true, false, List, [], ◌∷◌, length, drop, get_or, None, Some, refl, sym, ap, ◌∙◌, arith, inl, inr, add-one, drop-cons, eq-eqb}
use Rattle.std.proofs.lemmas.List.{drop_all}
use Rattle.std.proofs.lemmas.List.Elements.{All-cons}
use Rattle.std.proofs.lemmas.List.Sums.{sum_by-cons}
use Rattle.std.proofs.lemmas.Bool.{ne_eqb}
use Rattle.std.proofs.lemmas.Bool.Decides.{eqb_tells}
use Rattle.elf_model.specs.Prelude.{address_in, pad64}
use Rattle.elf_layout.specs.Layouts.{HasKey, LacksKey, items_cost}

pub drop-at : {A : Type 0} (items : List A) (i : ℕ) (d item : A) → i < length items → item ≡ get_or items i d → drop i items ≡ item ∷ drop (i + 1) items
drop-at items i d item below is = rw (add-one, drop-cons items i d below) (ap (λ x. x ∷ drop (suc i) items) (sym is))

pub drop-all : {A : Type 0} (items : List A) (i : ℕ) → length items ≤ i → drop i items ≡ []
drop-all items i past = drop_all i items past

pub address_in-hit : (items : List (ℕ × ℕ)) (item : ℕ × ℕ) (section : ℕ) → item.0 ≡ section → address_in (item ∷ items) section ≡ Some item.1
unfolding address_in
address_in-hit items item section e = rw (eq-eqb item.0 section e, address_in) refl

pub address_in-miss : (items : List (ℕ × ℕ)) (item : ℕ × ℕ) (section : ℕ) → (item.0 == section) ≡ false → address_in (item ∷ items) section ≡ address_in items section
unfolding address_in
address_in-miss items item section e = rw (e, address_in) refl

-- the step of a search
pub address_hit : (items : List (ℕ × ℕ)) (i section : ℕ) (d item : ℕ × ℕ) → i < length items → item ≡ get_or items i d → item.0 ≡ section
    → address_in (drop i items) section ≡ Some item.1
address_hit items i section d item below is e = ap (λ l. address_in l section) (drop-at items i d item below is) ∙ address_in-hit (drop (i + 1) items) item section e

pub address_miss : (items : List (ℕ × ℕ)) (i section : ℕ) (d item : ℕ × ℕ) → i < length items → item ≡ get_or items i d → (item.0 ≡ section → ⊥)
    → address_in (drop i items) section ≡ address_in (drop (i + 1) items) section
address_miss items i section d item below is e = ap (λ l. address_in l section) (drop-at items i d item below is) ∙ address_in-miss (drop (i + 1) items) item section (ne_eqb item.0 section e)

pub address_none : (items : List (ℕ × ℕ)) (i section : ℕ) → length items ≤ i → address_in (drop i items) section ≡ None
unfolding address_in
address_none items i section past = rw (drop-all items i past) refl

-- an address is found if one of the items has the index
has_more : (section : ℕ) (item : ℕ × ℕ) (items : List (ℕ × ℕ)) → (item.0 ≡ section → ⊥) → (found : Bool) → MatchBool found (HasKey items section) (LacksKey items section) → MatchBool found (HasKey (item ∷ items) section) (LacksKey (item ∷ items) section)
has_more section item items other true has = (suc has.0, has.1, omega (arith, has.2), has.3, has.4)
has_more section item items other false lacks = All-cons (λ (x : ℕ × ℕ). x.0 ≢ section) item items other lacks

pub has_address : (items : List (ℕ × ℕ)) (section : ℕ) (found : Bool) → found ≡ is_some (address_in items section) → MatchBool found (HasKey items section) (LacksKey items section)
unfolding address_in
has_address [] section found is = rw is (λ k d below. absurd (omega (arith, below)))
has_address (item ∷ items) section found is =
    elim (eqb_tells item.0 section) [
      | inl same ↦ let yes : found ≡ true = is ∙ ap is_some (address_in-hit items item section same.1) in rw yes (0, item, omega arith, refl, same.1)
      | inr other ↦ has_more section item items other.1 found (has_address items section found (is ∙ ap is_some (address_in-miss items item section other.0)))
    ]

-- the cost of the remaining names
pub cost_step : (i : ℕ) (items : List (List ℕ × ℕ)) (item : List ℕ × ℕ) (name : List ℕ) → i < length items → item ≡ get_or items i item → name ≡ item.0
    → items_cost (drop i items) ≡ pad64 (length name + 1) + items_cost (drop (i + 1) items)
cost_step i items item name below is named = ap items_cost (drop-at items i item item below is) ∙ (sum_by-cons (λ (x : List ℕ × ℕ). pad64 (length x.0 + 1)) item (drop (i + 1) items) ∙ ap (λ n. pad64 (length n + 1) + items_cost (drop (i + 1) items)) (sym named))
