-- The result of a search among sorted texts.
use Rattle.std.proofs.Common.{◌≡◌, ℕ, zero, suc, ◌<◌, ◌≤◌, ◌||◌, Bool, true, false, List, [], ◌∷◌, length, get_or, take, max, All, Ordering, Less, Equal, Greater, Result, Ok, Err, refl, sym, ap, ◌∙◌, arith, inl, inr, is_eq, nat_cmp}
use Rattle.std.specs.Borrow.{Bor}
use Rattle.std.specs.Cmp.Lexicographic.{slice_cmp}
use Rattle.std.specs.List.{list_any}
use Rattle.std.specs.List.Sorted.{IsSearchInRange, IsBinarySearchResult}
use Rattle.std.specs.Ordering.{ordering_reverse}
use Rattle.std.specs.Result.{is_ok}
use Rattle.std.specs.Str.{bytes_eq}
use Rattle.std.proofs.lemmas.Bool.{cases_lt}
use Rattle.std.proofs.lemmas.Cmp.{nat_list_cmp_total}
use Rattle.std.proofs.lemmas.List.Elements.{All-from_get_or, All-nil}
use Rattle.std.proofs.lemmas.List.Folds.{list_any_at, list_any_none}
use Rattle.std.proofs.lemmas.List.Sorted.{searchable_from_sorted}
use Rattle.std.proofs.lemmas.Map.Text.{is_eq-slice_cmp}
use Rattle.elf_model.specs.Choice.{most_bytes}
use Rattle.elf_options.specs.Names.{NeverDescend, texts_of}

-- a test of texts is one of those that are borrowed
any_text : (test : List ℕ → Bool) (texts : List (Bor (List ℕ))) → list_any test (texts_of texts) ≡ list_any (λ text. test text.now) texts
any_text test [] = refl
any_text test (text ∷ texts) = ap (λ more. test text.now || more) (any_text test texts)

-- the order of two texts says whether they are the same, in either direction
same_by : (text wanted : List ℕ) (order : Ordering) → slice_cmp nat_cmp text wanted ≡ order → bytes_eq wanted text ≡ is_eq (ordering_reverse order)
same_by text wanted order is =
    sym (is_eq-slice_cmp wanted text) ∙ ap is_eq (nat_list_cmp_total.antisymm wanted text ∙ ap ordering_reverse is)

module _ (texts : List (Bor (List ℕ))) (wanted : List ℕ) (sorted : NeverDescend texts) where
  abbrev Has : Bool → Type 0
  Has answer = list_any (bytes_eq wanted) (texts_of texts) ≡ answer

  hit : (i : ℕ) → i < length texts → ((d : Bor (List ℕ)) → slice_cmp nat_cmp (get_or texts i d).now wanted ≡ Equal) → Has true
  hit i within equal = go texts i within equal
    where
      go : (all : List (Bor (List ℕ))) (i : ℕ) → i < length all → ((d : Bor (List ℕ)) → slice_cmp nat_cmp (get_or all i d).now wanted ≡ Equal)
          → list_any (bytes_eq wanted) (texts_of all) ≡ true
      go [] i within equal = absurd (omega (arith, within))
      go (first ∷ all) i within equal =
          any_text (bytes_eq wanted) (first ∷ all)
          ∙ list_any_at (λ text. bytes_eq wanted text.now) (first ∷ all) i first within (same_by (get_or (first ∷ all) i first).now wanted Equal (equal first))

  miss : (i : ℕ) → i ≤ length texts → ((k : ℕ) (d : Bor (List ℕ)) → k < i → slice_cmp nat_cmp (get_or texts k d).now wanted ≡ Less)
      → ((k : ℕ) (d : Bor (List ℕ)) → i ≤ k → k < length texts → slice_cmp nat_cmp (get_or texts k d).now wanted ≡ Greater) → Has false
  miss i within below above = any_text (bytes_eq wanted) texts ∙ list_any_none (λ text. bytes_eq wanted text.now) texts (go texts below above)
    where
      go : (all : List (Bor (List ℕ))) → ((k : ℕ) (d : Bor (List ℕ)) → k < i → slice_cmp nat_cmp (get_or all k d).now wanted ≡ Less)
          → ((k : ℕ) (d : Bor (List ℕ)) → i ≤ k → k < length all → slice_cmp nat_cmp (get_or all k d).now wanted ≡ Greater)
          → All (λ text. bytes_eq wanted text.now ≡ false) all
      go [] below above = All-nil _
      go (first ∷ all) below above =
          All-from_get_or (λ text. bytes_eq wanted text.now ≡ false) (first ∷ all) first (λ k inside. elim (cases_lt k i) [
            | inl low ↦ same_by (get_or (first ∷ all) k first).now wanted Less (below k first low)
            | inr high ↦ same_by (get_or (first ∷ all) k first).now wanted Greater (above k first (omega (arith, high)) inside)
          ])

  pub searched : (r : Result ℕ ℕ) → IsSearchInRange r (length texts) → IsBinarySearchResult (λ text. slice_cmp nat_cmp text.now wanted) texts r
      → Has (is_ok r)
  searched (Ok i) within equal = hit i within equal
  searched (Err i) within parted =
      let p = parted (searchable_from_sorted nat_list_cmp_total (λ (text : Bor (List ℕ)). text.now) texts wanted sorted) in
      miss i within (λ k d below. p.0 k d (omega arith) below) (λ k d from below. p.1 k d from below)

-- the longest of some texts, with one more
pub most_more : (texts : List (Bor (List ℕ))) (i : ℕ) (d : Bor (List ℕ)) → i < length texts
    → most_bytes (texts_of (take (suc i) texts)) ≡ max (length (get_or texts i d).now) (most_bytes (texts_of (take i texts)))
unfolding most_bytes
most_more [] i d below = absurd (omega (arith, below))
most_more (text ∷ texts) zero d below = omega arith
most_more (text ∷ texts) (suc i) d below = let more = most_more texts i d (omega (arith, below)) in omega (arith, more)
