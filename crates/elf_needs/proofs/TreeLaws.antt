-- The steps of a walk over a tree.
use Rattle.std.proofs.Common.{◌≡◌, ℕ, suc, zero, ◌+◌, ◌-◌, ◌<◌, ◌≤◌, true, false, List, [], ◌∷◌, ◌++◌, drop, length, slice_get, Option, None, Some, refl, sym, ap, ◌∙◌, append_assoc, append-nil, arith}
use Rattle.std.proofs.lemmas.Bool.Decides.{nat_tests}
use Rattle.std.proofs.lemmas.List.{drop_all, drop_more}
use Rattle.std.proofs.lemmas.Option.{get_or_from_slice_get, none-some, slice_get_within}
use Rattle.elf_needs.specs.Trees.{FindsUnder, IsChain, IsNextUnder, is_under, needer_at, places_after, places_under}
use Rattle.elf_needs.specs.declared.known_object.KnownObject.{KnownObject}
use Rattle.elf_needs.specs.declared.object_lines.ListedPlace.{ListedPlace}

-- an object is under the one that needed it
pub under_needer : (needer parent : Option ℕ) → is_under needer parent ≡ true → needer ≡ parent
under_needer None None is = refl
under_needer (Some needer) (Some parent) is =
    let same : needer ≡ parent = grind (arith, nat_tests) in ap (λ (n : ℕ). Some n) same
under_needer None (Some parent) is = absurd (cc)
under_needer (Some needer) None is = absurd (cc)

-- the object at an index
pub needer_there : (known : List KnownObject) (index : ℕ) (object : KnownObject) → slice_get known index ≡ Some object → needer_at known index ≡ object.needer
needer_there known index object is = rw (is, needer_at) refl

next_is : (known : List KnownObject) (n : ℕ) (object : KnownObject) → slice_get known n ≡ Some object → drop n known ≡ object ∷ drop (suc n) known
next_is known n object is =
    let one : n + 1 ≡ suc n = omega arith in
    rw (sym one) (drop_more known n object (slice_get_within known n object is) ∙ ap (λ (first : KnownObject). first ∷ drop (n + 1) known) (get_or_from_slice_get known n object object is))

pub object_there : (known : List KnownObject) (n : ℕ) → slice_get known n ≡ None → length known ≤ n
object_there [] n is = omega arith
object_there (object ∷ known) zero is = absurd (none-some object (sym is))
object_there (object ∷ known) (suc n) is = let past = object_there known n is in omega (arith, past)

-- the first of some objects is under another, or not
places_here : (level index : ℕ) (parent : Option ℕ) (object : KnownObject) (rest : List KnownObject) → is_under object.needer parent ≡ true
    → places_under level index parent (object ∷ rest)
    ≡ record { index = index; depth = level } ∷ (places_under (suc level) (suc index) (Some index) rest ++ places_under level (suc index) parent rest)
unfolding places_under
places_here level index parent object rest under = rw under refl

places_later : (level index : ℕ) (parent : Option ℕ) (object : KnownObject) (rest : List KnownObject) → is_under object.needer parent ≡ false
    → places_under level index parent (object ∷ rest) ≡ places_under level (suc index) parent rest
unfolding places_under
places_later level index parent object rest under = rw under refl

places_none : (level index : ℕ) (parent : Option ℕ) → places_under level index parent [] ≡ []
unfolding places_under
places_none level index parent = refl

-- those before an index are not under it
abbrev pub AreNotUnder : List KnownObject → Option ℕ → (from at : ℕ) → Type 0
AreNotUnder known parent from at = (level : ℕ) → places_under level from parent (drop from known) ≡ places_under level at parent (drop at known)

module _ (known : List KnownObject) (parent : Option ℕ) (from at : ℕ) (before : AreNotUnder known parent from at) where
  -- the object at it is, or is not either, or there is none
  pub finds_here : (object : KnownObject) → from ≤ at → slice_get known at ≡ Some object → is_under object.needer parent ≡ true → IsNextUnder known parent from at
  finds_here object low is under = record {
    low = low;
    less = slice_get_within known at object is;
    under = needer_there known at object is ∙ under_needer object.needer parent under;
    places = λ level. before level ∙ ap (places_under level at parent) (next_is known at object is) ∙ places_here level at parent object (drop (suc at) known) under;
  }

  pub goes_past : (object : KnownObject) → slice_get known at ≡ Some object → is_under object.needer parent ≡ false → AreNotUnder known parent from (at + 1)
  goes_past object is under =
      let one : at + 1 ≡ suc at = omega arith in
      rw one (λ level. before level ∙ ap (places_under level at parent) (next_is known at object is) ∙ places_later level at parent object (drop (suc at) known) under)

  pub finds_none : slice_get known at ≡ None → FindsUnder known parent from None
  finds_none is = λ level. before level ∙ ap (places_under level at parent) (drop_all at known (object_there known at is)) ∙ places_none level at parent

-- a walk begins
pub begins : (known : List KnownObject) → places_under 0 0 None known ++ places_after known 0 None ≡ places_under 0 0 None known
unfolding places_after
begins known = append-nil (places_under 0 0 None known)

pub chain_begins : (known : List KnownObject) → IsChain known 0 None
unfolding IsChain
chain_begins known = tt

-- the next object is entered
pub enters : (known : List KnownObject) (parent : Option ℕ) (level from index : ℕ) → IsNextUnder known parent from index
    → places_under level from parent (drop from known) ++ places_after known level parent
    ≡ record { index = index; depth = level } ∷ (places_under (level + 1) (index + 1) (Some index) (drop (index + 1) known) ++ places_after known (level + 1) (Some index))
unfolding places_after
enters known parent level from index next =
    let here = places_under (suc level) (suc index) (Some index) (drop (suc index) known) in
    let later = places_under level (suc index) parent (drop (suc index) known) in
    let after = places_after known level parent in
    let place : ListedPlace = record { index = index; depth = level } in
    let deeper : level + 1 ≡ suc level = omega arith in
    let one : index + 1 ≡ suc index = omega arith in
    rw (deeper, one, next.under) (ap (λ ps. ps ++ after) (next.places level) ∙ ap (λ ps. place ∷ ps) (append_assoc here later after))

pub chain_enters : (known : List KnownObject) (parent : Option ℕ) (level from index : ℕ) → IsNextUnder known parent from index
    → level ≤ from → IsChain known level parent → IsChain known (level + 1) (Some index)
unfolding IsChain
chain_enters known parent level from index next low chain =
    let deeper : level + 1 ≡ suc level = omega arith in
    rw (deeper, next.under) (next.less, omega (arith, low, next.low), chain)

-- the walk goes up from a level
module _ (known : List KnownObject) (depth : ℕ) (parent : Option ℕ) (ps : List ListedPlace) (none : ps ≡ []) where
  pub leaves_none : depth ≡ 0 → ps ++ places_after known depth parent ≡ []
  unfolding places_after
  leaves_none zero_level = rw (none, zero_level) refl

  pub leaves_nothing : depth ≡ suc (depth - 1) → parent ≡ None → IsChain known depth parent → ps ++ places_after known depth parent ≡ []
  unfolding places_after IsChain
  leaves_nothing deep is chain = let no : ⊥ = (rw (deep, is) at chain) in absurd no

  module _ (index : ℕ) (deep : depth ≡ suc (depth - 1)) (is : parent ≡ Some index) where
    pub chain_leaves : IsChain known depth parent → (index < length known) × (depth - 1 ≤ index) × IsChain known (depth - 1) (needer_at known index)
    unfolding IsChain
    chain_leaves chain = rw (deep, is) at chain

    pub leaves : places_under (depth - 1) (index + 1) (needer_at known index) (drop (index + 1) known) ++ places_after known (depth - 1) (needer_at known index) ≡ ps ++ places_after known depth parent
    unfolding places_after
    leaves =
        let one : index + 1 ≡ suc index = omega arith in
        let up : places_after known depth parent ≡ places_under (depth - 1) (suc index) (needer_at known index) (drop (suc index) known) ++ places_after known (depth - 1) (needer_at known index) =
        ap (λ d. places_after known d parent) deep ∙ ap (places_after known (suc (depth - 1))) is in
        rw (one, none) (sym up)
