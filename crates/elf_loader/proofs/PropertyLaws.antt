-- The properties of a list, one by one, by the bytes of a file.
use Rattle.std.proofs.Common.{◌≡◌, ℕ, zero, suc, ◌+◌, ◌-◌, ◌<◌, ◌≤◌, ◌==◌, Bool, true, false, List, ◌∷◌, [], length, drop, Option, None, Some, Result, Ok, Err, refl, sym, ap, ◌∙◌, nat_lt, arith, min, ne_eqb, eq-eqb}
use Rattle.std.specs.Prelude.{unwrap_or}
use Rattle.std.proofs.lemmas.Bool.Decides.{nat_tests}
use Rattle.elf_model.specs.Prelude.{GNU_PROPERTY_X86_FEATURE_1_AND, ListEnds, NoProperty, OneProperty, Property, PropertyWalk, bare_property, features_in, field, first_property, next_property, padded_property, pr_datasz, pr_type, properties_from, properties_in, property_word, slice, with_property}
use Rattle.elf_model.specs.declared.causes.Cause.TheVariants.{NoteCut}
use Rattle.elf_model.specs.declared.causes.Refusal.{Refusal}
use Rattle.elf_model.proofs.Slices.{field-slice, slice-rest, slice-size, slice-slice}
use Rattle.elf_loader.specs.Prelude.{found_after, property_at}
use Rattle.elf_loader.specs.declared.property.PropertyHeader.{PropertyHeader}

module _ (file : List ℕ) (at left : ℕ) (within : at + left ≤ length file) where
  sized : length (slice file at left) ≡ left
  sized = slice-size file at left within

  -- fewer bytes than a header has
  pub too_few : 0 < left → left < 8 → next_property (slice file at left) ≡ NoProperty
  unfolding next_property
  too_few some short =
      let size = sized in
      let none : (length (slice file at left) == 0) ≡ false = ne_eqb (length (slice file at left)) 0 (λ e. omega (arith, size, e)) in
      let few : nat_lt (length (slice file at left)) 8 ≡ true = grind (arith, nat_tests) in
      rw (none, few, next_property) refl

  its_size : (datasz : ℕ) → 8 ≤ left → datasz ≡ field file (at + 4) 4 → pr_datasz (slice file at left) 0 ≡ datasz
  its_size datasz head is = field-slice file at left 4 4 (omega arith) ∙ sym is

  its_kind : (kind : ℕ) → 8 ≤ left → kind ≡ field file at 4 → pr_type (slice file at left) 0 ≡ kind
  its_kind kind head is =
      let here : at + 0 ≡ at = omega arith in
      field-slice file at left 0 4 (omega arith) ∙ (ap (λ (n : ℕ). field file n 4) here ∙ sym is)

  -- fewer bytes than its data has with its header
  pub too_long : (datasz : ℕ) → 8 ≤ left → datasz ≡ field file (at + 4) 4 → left < 8 + datasz → next_property (slice file at left) ≡ NoProperty
  unfolding next_property
  too_long datasz head is long =
      let size = sized in
      let told = its_size datasz head is in
      let none : (length (slice file at left) == 0) ≡ false = ne_eqb (length (slice file at left)) 0 (λ e. omega (arith, size, e)) in
      let enough : nat_lt (length (slice file at left)) 8 ≡ false = grind (arith, nat_tests) in
      let cut : nat_lt (length (slice file at left)) (bare_property (pr_datasz (slice file at left) 0)) ≡ true = grind (arith, nat_tests) in
      rw (none, enough, cut, next_property) refl

  same_property : (k k' : ℕ) (c c' : List ℕ) (s s' n n' : ℕ) → k ≡ k' → c ≡ c' → s ≡ s' → n ≡ n'
      → OneProperty (record { kind = k; content = c }) (min (padded_property s) n) ≡ OneProperty (record { kind = k'; content = c' }) (min (padded_property s') n')
  same_property k k' c c' s s' n n' a b d e = rw (a, b, d, e) refl

  -- a property
  pub one_stands : (head : PropertyHeader) → head.kind ≡ field file at 4 → head.datasz ≡ field file (at + 4) 4 → 8 + head.datasz ≤ left
      → next_property (slice file at left) ≡ OneProperty (property_at file at head) (min (padded_property head.datasz) left)
  unfolding next_property
  one_stands head k d fits =
      let size = sized in
      let told = its_size head.datasz (omega arith) d in
      let none : (length (slice file at left) == 0) ≡ false = ne_eqb (length (slice file at left)) 0 (λ e. omega (arith, size, e)) in
      let enough : nat_lt (length (slice file at left)) 8 ≡ false = grind (arith, nat_tests) in
      let whole : nat_lt (length (slice file at left)) (bare_property (pr_datasz (slice file at left) 0)) ≡ false = grind (arith, nat_tests) in
      let content = ap (slice (slice file at left) 8) told ∙ slice-slice file at left 8 head.datasz fits in
      rw (none, enough, whole, next_property)
      (same_property _ _ _ _ _ _ _ _ (its_kind head.kind (omega arith) k) content told size)

-- THE STEPS of a walk
from_end : (most offset : ℕ) (rest : List ℕ) → next_property rest ≡ ListEnds → properties_from (suc most) offset rest ≡ record { properties = []; cut = None }
unfolding properties_from
from_end most offset rest e = rw (e, properties_from) refl

from_none : (most offset : ℕ) (rest : List ℕ) → next_property rest ≡ NoProperty → properties_from (suc most) offset rest ≡ record { properties = []; cut = Some offset }
unfolding properties_from
from_none most offset rest e = rw (e, properties_from) refl

from_one : (most offset : ℕ) (rest : List ℕ) (property : Property) (size : ℕ) → next_property rest ≡ OneProperty property size
    → properties_from (suc most) offset rest ≡ with_property property (properties_from most (offset + size) (drop size rest))
unfolding properties_from
from_one most offset rest property size e = rw (e, properties_from) refl

-- the feature bits of all properties, if they may be found before them
abbrev pub word_after : Option ℕ → List Property → ℕ
word_after (Some word) properties = word
word_after None properties = property_word (first_property GNU_PROPERTY_X86_FEATURE_1_AND properties)

-- the feature bits of the rest of a list that begins at an offset, or the offset of a malformed
-- property
abbrev pub features_after : ℕ → Option ℕ → PropertyWalk → Result ℕ Refusal
features_after place found walk = elim walk.cut [
  | Some offset ↦ Err (record { at = place + offset; cause = NoteCut })
  | None ↦ Ok (word_after found walk.properties)
]

-- the feature bits of a property and of those after it
word_step : (found : Option ℕ) (property : Property) (properties : List Property) → word_after found (property ∷ properties) ≡ word_after (found_after found property) properties
unfolding first_property
word_step (Some word) property properties = refl
word_step None property properties = go (property.kind == GNU_PROPERTY_X86_FEATURE_1_AND) refl
  where
    go : (b : Bool) → (property.kind == GNU_PROPERTY_X86_FEATURE_1_AND) ≡ b → word_after None (property ∷ properties) ≡ word_after (found_after None property) properties
    go true e = rw (e, first_property, found_after) refl
    go false e = rw (e, first_property, found_after) refl

after_step : (place : ℕ) (found : Option ℕ) (property : Property) (walk : PropertyWalk)
    → features_after place found (with_property property walk) ≡ features_after place (found_after found property) walk
after_step place found property walk = go walk.cut refl
  where
    go : (cut : Option ℕ) → walk.cut ≡ cut → features_after place found (with_property property walk) ≡ features_after place (found_after found property) walk
    go (Some offset) e = rw e refl
    go None e = rw e (ap Ok (word_step found property walk.properties))

-- the result for a list, once a number of its bytes are read and feature bits may be found
abbrev pub LeftOf : List ℕ → (at size done : ℕ) → Option ℕ → Type 0
LeftOf file at size done found =
    (most : ℕ) × (size - done < most)
    × (features_in (record { place = at; bytes = slice file at size }) ≡ features_after at found (properties_from most done (slice file (at + done) (size - done))))

module _ (file : List ℕ) (at size : ℕ) where
  -- before the first
  pub left_all : at + size ≤ length file → LeftOf file at size 0 None
  unfolding features_in properties_in
  left_all within =
      let here : at + 0 ≡ at = omega arith in
      let all : size - 0 ≡ size = omega arith in
      let sized = slice-size file at size within in
      (suc (length (slice file at size)), omega (arith, sized), rw (here, all) refl)

  module _ (done : ℕ) (found : Option ℕ) (below : done < size) where
    -- one more
    pub left_more : (property : Property) (n next : ℕ) (now : Option ℕ) → LeftOf file at size done found
        → next_property (slice file (at + done) (size - done)) ≡ OneProperty property n → n ≤ size - done → 0 < n → next ≡ done + n → now ≡ found_after found property
        → LeftOf file at size next now
    left_more property n next now (zero, few, told) is_at fits some is_next is_now = absurd (omega arith)
    left_more property n next now (suc most, few, told) is_at fits some is_next is_now =
        let rest = slice-rest file (at + done) (size - done) n fits in
        let place : at + done + n ≡ at + next = omega arith in
        let count : size - done - n ≡ size - next = omega arith in
        let step = ap (features_after at found) (from_one most done (slice file (at + done) (size - done)) property n is_at) in
        let then = after_step at found property (properties_from most (done + n) (drop n (slice file (at + done) (size - done)))) in
        (most, omega arith, told ∙ (step ∙ (then ∙ rw (rest, place, count, is_next, is_now) refl)))

    -- there is no whole one
    pub left_cut : LeftOf file at size done found → next_property (slice file (at + done) (size - done)) ≡ NoProperty
        → features_in (record { place = at; bytes = slice file at size }) ≡ Err (record { at = at + done; cause = NoteCut })
    left_cut (zero, few, told) is_at = absurd (omega arith)
    left_cut (suc most, few, told) is_at = told ∙ ap (features_after at found) (from_none most done (slice file (at + done) (size - done)) is_at)

  ends : (rest : List ℕ) → length rest ≡ 0 → next_property rest ≡ ListEnds
  unfolding next_property
  ends rest none =
      let e : (length rest == 0) ≡ true = eq-eqb (length rest) 0 none in
      rw (e, next_property) refl

  -- none is left
  pub left_none : (done : ℕ) (found : Option ℕ) → at + size ≤ length file → done ≡ size → LeftOf file at size done found
      → features_in (record { place = at; bytes = slice file at size }) ≡ Ok (word_after found [])
  left_none done found within all (zero, few, told) = absurd (omega arith)
  left_none done found within all (suc most, few, told) =
      let sized = slice-size file (at + done) (size - done) (omega arith) in
      let none : length (slice file (at + done) (size - done)) ≡ 0 = omega (arith, sized) in
      told ∙ ap (features_after at found) (from_end most done (slice file (at + done) (size - done)) (ends _ none))

-- the feature bits that are found when no property is left
pub word_end : (found : Option ℕ) → word_after found [] ≡ unwrap_or found 0
unfolding first_property
word_end None = refl
word_end (Some word) = refl
