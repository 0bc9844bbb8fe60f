-- What the beginning of the rest of some lines becomes with locations.
use Rattle.std.proofs.Common.{◌≡◌, ◌≢◌, ℕ, Bool, Option, Result, Ok, Err, IsTrue, IsErr, IfOk, zero, suc, ◌+◌, ◌-◌, ◌^◌, ◌<◌, ◌≤◌, ◌==◌, ◌⊎◌, inl, inr, nat_le, nat_lt, true, false, if◌then◌else◌, List, [], ◌∷◌, ◌++◌, length, take, drop, get_or, refl, sym, ap, subst, ◌∙◌, arith, append_assoc, length-drop}
use Rattle.std.specs.Io.KnownBytes.{Appends}
use Rattle.std.proofs.KnownBytes.{Appends-trans}
use native.Mathlib.Bridge.{le_prop}
use Rattle.std.proofs.Math.Seq.{take-add}
use Rattle.std.proofs.lemmas.Bool.{cases_Bool, cases_lt}
use Rattle.std.proofs.lemmas.Bool.Decides.{nat_tests}
use Rattle.std.proofs.lemmas.List.{take-take, length-take-le, get_or-drop, get_or-take, take_rest}
use Rattle.elf_model.proofs.LocatedLaws.{end_in_pieces, in_pieces}
use Rattle.elf_model.specs.Located.{LinePosition, Location, located_byte, located_from, location_text, line_position_after, position_at_end}
use Rattle.elf_source.specs.Output.{OutState}
use Rattle.elf_source.specs.Located.{AddsLocation, HasNoNewline, IsPartOfLine, LocatedState, LocationBuffer, letter_after}

abbrev at : ℕ → ℕ → LinePosition
at place letter = record { place = place; letter = letter }

-- a byte up to the end of the letter's member
step : (location : Location) (place letter byte : ℕ) → place < 11
    → (located_byte location (at place letter) byte ≡ byte ∷ []) × (line_position_after (at place letter) byte ≡ at (suc place) (if place == 9 then byte else letter))
unfolding located_byte line_position_after
step location place letter byte before =
    let no : (place == 11) ≡ false = grind (arith, nat_tests) in
    let yes : nat_lt place 11 ≡ true = grind (arith, nat_tests) in
    (rw no refl, rw yes refl)

-- bytes without the letter
pub no_letter : (location : Location) (place letter : ℕ) (bytes : List ℕ) (count : ℕ) → place + count ≤ 11 → count ≤ length bytes → (place + count ≤ 9) ⊎ (9 < place)
    → (located_from location (at place letter) (take count bytes) ≡ take count bytes) × (position_at_end (at place letter) (take count bytes) ≡ at (place + count) letter)
unfolding located_from position_at_end
no_letter location place letter bytes zero few within other =
    let none : place ≡ place + 0 = omega arith in (refl, ap (λ k. at k letter) none)
no_letter location place letter [] (suc count) few within other = absurd (omega arith)
no_letter location place letter (byte ∷ bytes) (suc count) few within other =
    let is = step location place letter byte (omega (arith, few)) in
    let no : (place == 9) ≡ false = grind (arith, nat_tests) in
    let next : line_position_after (at place letter) byte ≡ at (suc place) letter = rw no at is.1 in
    let later : (suc place + count ≤ 9) ⊎ (9 < suc place) = elim other [ inl low ↦ inl (omega (arith, low)) | inr high ↦ inr (omega (arith, high)) ] in
    let rest = no_letter location (suc place) letter bytes count (omega (arith, few)) (omega (arith, within)) later in
    let sum : suc place + count ≡ place + suc count = omega arith in
    (rw (is.0, next) (ap (λ (xs : List ℕ). byte ∷ xs) rest.0), ap (λ (s : LinePosition). position_at_end s (take count bytes)) next ∙ (rest.1 ∙ ap (λ k. at k letter) sum))

-- bytes with the letter
pub with_letter : (location : Location) (place letter : ℕ) (bytes : List ℕ) (count : ℕ) → place + count ≤ 11 → count ≤ length bytes → place ≤ 9 → 9 < place + count
    → (located_from location (at place letter) (take count bytes) ≡ take count bytes) × (position_at_end (at place letter) (take count bytes) ≡ at (place + count) (get_or bytes (9 - place) 0))
unfolding located_from position_at_end
with_letter location place letter bytes zero few within low high = absurd (omega (arith, low, high))
with_letter location place letter [] (suc count) few within low high = absurd (omega arith)
with_letter location place letter (byte ∷ bytes) (suc count) few within low high =
    let is = step location place letter byte (omega (arith, few)) in
    let sum : suc place + count ≡ place + suc count = omega arith in
    elim (cases_Bool (place == 9)) [
      | inr other ↦
          let less : suc place ≤ 9 = grind (arith, nat_tests) in
          let next : line_position_after (at place letter) byte ≡ at (suc place) letter = rw other at is.1 in
          let rest = with_letter location (suc place) letter bytes count (omega (arith, few)) (omega (arith, within)) less (omega (arith, high)) in
          let back : 9 - place ≡ suc (9 - suc place) = omega (arith, less) in
          (rw (is.0, next) (ap (λ (xs : List ℕ). byte ∷ xs) rest.0), rw back (ap (λ (s : LinePosition). position_at_end s (take count bytes)) next ∙ (rest.1 ∙ ap (λ k. at k (get_or bytes (9 - suc place) 0)) sum)))
      | inl is_at ↦
          let same : place ≡ 9 = grind (arith, nat_tests) in
          let next : line_position_after (at place letter) byte ≡ at (suc place) byte = rw is_at at is.1 in
          let rest = no_letter location (suc place) byte bytes count (omega (arith, few)) (omega (arith, within)) (inr (omega (arith, same))) in
          let back : 9 - place ≡ 0 = omega (arith, same) in
          (rw (is.0, next) (ap (λ (xs : List ℕ). byte ∷ xs) rest.0), rw back (ap (λ (s : LinePosition). position_at_end s (take count bytes)) next ∙ (rest.1 ∙ ap (λ k. at k byte) sum)))
    ]

-- what is inserted before the first byte after it
pub inserted : (location : Location) (letter : ℕ) (bytes : List ℕ) → 0 < length bytes
    → (located_from location (at 11 letter) bytes ≡ location_text location letter ++ located_from location (at 12 letter) bytes)
    × (position_at_end (at 11 letter) bytes ≡ position_at_end (at 12 letter) bytes)
unfolding located_from position_at_end located_byte line_position_after
inserted location letter [] some = absurd (omega arith)
inserted location letter (byte ∷ bytes) some =
    (append_assoc (location_text location letter) (byte ∷ []) _, refl)

-- a byte after that
after : (location : Location) (letter byte : ℕ)
    → (located_byte location (at 12 letter) byte ≡ byte ∷ []) × (line_position_after (at 12 letter) byte ≡ at (if byte == 10 then 0 else 12) letter)
unfolding located_byte line_position_after
after location letter byte = (refl, refl)

-- the rest of a line, or a part of it
rest_from : (location : Location) (letter : ℕ) (bytes : List ℕ) (count : ℕ) → count < length bytes → IsPartOfLine bytes (suc count)
    → (located_from location (at 12 letter) (take (suc count) bytes) ≡ take (suc count) bytes)
    × (position_at_end (at 12 letter) (take (suc count) bytes) ≡ at (if get_or bytes count 0 == 10 then 0 else 12) letter)
unfolding located_from position_at_end
rest_from location letter [] count less one = absurd (omega arith)
rest_from location letter (byte ∷ bytes) zero less one =
    let is = after location letter byte in (rw is.0 refl, is.1)
rest_from location letter (byte ∷ bytes) (suc count) less one =
    let is = after location letter byte in
    let no : (byte == 10) ≡ false = let other = one 0 (omega arith) in grind (arith, nat_tests) in
    let next : line_position_after (at 12 letter) byte ≡ at 12 letter = rw no at is.1 in
    let rest = rest_from location letter bytes count (omega (arith, less)) (λ k few. one (suc k) (omega (arith, few))) in
    (rw (is.0, next) (ap (λ (xs : List ℕ). byte ∷ xs) rest.0), ap (λ (s : LinePosition). position_at_end s (take (suc count) bytes)) next ∙ rest.1)

pub rest_becomes : (location : Location) (letter : ℕ) (bytes : List ℕ) (count : ℕ) → 0 < count → count ≤ length bytes → IsPartOfLine bytes count
    → (located_from location (at 12 letter) (take count bytes) ≡ take count bytes)
    × (position_at_end (at 12 letter) (take count bytes) ≡ at (if get_or bytes (count - 1) 0 == 10 then 0 else 12) letter)
rest_becomes location letter bytes zero some within one = absurd (omega (arith, some))
rest_becomes location letter bytes (suc count) some within one =
    let back : suc count - 1 ≡ count = omega arith in
    let from = rest_from location letter bytes count (omega (arith, within)) one in (from.0, rw back from.1)

-- bytes up to the end of the letter's member
pub letter_passes : (location : Location) (position : LinePosition) (bytes : List ℕ) (count : ℕ) → position.place + count ≤ 11 → count ≤ length bytes
    → (located_from location position (take count bytes) ≡ take count bytes)
    × (position_at_end position (take count bytes) ≡ at (position.place + count) (letter_after position bytes count))
letter_passes location position bytes count few within = elim (cases_Bool (nat_le position.place 9)) [
  | inr late ↦
      let past : 9 < position.place = grind (arith, nat_tests) in
      rw late (no_letter location position.place position.letter bytes count few within (inr past))
  | inl early ↦
      let low : position.place ≤ 9 = grind (arith, nat_tests) in
      elim (cases_Bool (nat_lt 9 (position.place + count))) [
        | inr short ↦
            let under : position.place + count ≤ 9 = grind (arith, nat_tests) in
            rw (early, short) (no_letter location position.place position.letter bytes count few within (inl under))
        | inl long ↦
            let over : 9 < position.place + count = grind (arith, nat_tests) in
            rw (early, long) (with_letter location position.place position.letter bytes count few within low over)
      ]
]

-- they were passed on
pub letter_adds : (by : LocationBuffer) (below after : Option (List ℕ)) (failed fails : Bool) (buffer : Option LocationBuffer) (place letter next count most : ℕ) (bytes : List ℕ)
    → place + most ≤ 11 → most ≤ length bytes → count ≤ most → Appends below after (take count (take most bytes)) → next ≡ letter_after (at place letter) bytes count
    → AddsLocation by (record { below = below; failed = failed; buffer = buffer; position = at place letter }) (record { below = after; failed = fails; buffer = buffer; position = at (place + count) next })
    (take count bytes)
letter_adds by below after failed fails buffer place letter next count most bytes few within less put is =
    let passed = letter_passes by.location (at place letter) bytes count (omega (arith, few, less)) (omega (arith, within, less)) in
    let front : take count (take most bytes) ≡ take count bytes = take-take count most bytes less in
    record {
      appends = rw passed.0 (subst (Appends below after) front put);
      position = ap (at (place + count)) is ∙ sym passed.1;
      buffer = refl;
    }

-- 64 more bytes of which none is a newline
pub none_more : (bytes piece : List ℕ) (count : ℕ) → piece ≡ take 64 (drop count bytes)
    → ((k : ℕ) → k < count → get_or bytes k 0 ≡ 10 → ⊥) → ((k : ℕ) → k < 64 → get_or piece k 0 ≡ 10 → ⊥)
    → (k : ℕ) → k < count + 64 → get_or bytes k 0 ≡ 10 → ⊥
none_more bytes piece count same before here k less is = elim (cases_lt k count) [
  | inl below ↦ before k below is
  | inr over ↦
      let few : k - count < 64 = omega (arith, less, over) in
      let back : count + (k - count) ≡ k = omega (arith, over) in
      let at : get_or piece (k - count) 0 ≡ get_or bytes k 0 =
      rw same (get_or-take 64 (drop count bytes) (k - count) 0 few ∙ get_or-drop count bytes (k - count) 0 ∙ ap (λ m. get_or bytes m 0) back) in
      here (k - count) few (at ∙ is)
]

-- none of the first ones is a newline, and none of the last 64
pub none_of_all : (bytes last : List ℕ) (count : ℕ) → length bytes - count < 64 → 64 ≤ length bytes → last ≡ drop (length bytes - 64) bytes
    → ((k : ℕ) → k < count → get_or bytes k 0 ≡ 10 → ⊥) → ((k : ℕ) → k < 64 → get_or last k 0 ≡ 10 → ⊥) → HasNoNewline bytes
none_of_all bytes last count short long same before here k less is = elim (cases_lt k count) [
  | inl below ↦ before k below is
  | inr over ↦
      let from = length bytes - 64 in
      let few : k - from < 64 = omega (arith, less, long) in
      let back : from + (k - from) ≡ k = omega (arith, over, short, long) in
      let at : get_or last (k - from) 0 ≡ get_or bytes k 0 = rw same (get_or-drop from bytes (k - from) 0 ∙ ap (λ m. get_or bytes m 0) back) in
      here (k - from) few (at ∙ is)
]

abbrev output_of : (taken : Option (List ℕ)) (written : ℕ) (failed : Bool) (held room : ℕ) → written < 2 ^ 128 → OutState
output_of taken written failed held room fits = record { taken = taken; written = written; failed = failed; held = held; room = room; fits = fits }

-- an output that has changed in nothing but a proof
pub same_output : (taken : Option (List ℕ)) (written : ℕ) (failed : Bool) (held room : ℕ) (one other : written < 2 ^ 128)
    → ◌≡◌ {A = OutState} (record { taken = taken; written = written; failed = failed; held = held; room = room; fits = one })
    (record { taken = taken; written = written; failed = failed; held = held; room = room; fits = other })
same_output taken written failed held room one other =
    ap (output_of taken written failed held room) (le_prop one other)

-- some bytes, and then more of them
pub adds_both : (by : LocationBuffer) (a b c : LocatedState) (bytes : List ℕ) (d n : ℕ) → AddsLocation by a b (take d bytes)
    → AddsLocation by b c (take n (take (length bytes - d) (drop d bytes))) → AddsLocation by a c (take (d + n) bytes)
adds_both by a b c bytes d n p q =
    let front = take d bytes in
    let rest = take n (drop d bytes) in
    let q2 = subst (λ (l : List ℕ). AddsLocation by b c (take n l)) (take_rest bytes d) q in
    let q3 : Appends b.below c.below (located_from by.location (position_at_end a.position front) rest) = rw p.position at q2.appends in
    subst (AddsLocation by a c) (sym (take-add d n bytes)) (record {
      appends = rw (in_pieces by.location a.position front rest) (Appends-trans a.below b.below c.below _ _ p.appends q3);
      position = q2.position ∙ (ap (λ (s : LinePosition). position_at_end s rest) p.position ∙ sym (end_in_pieces a.position front rest));
      buffer = q2.buffer ∙ p.buffer;
    })

-- the rest of a line, or a part of it, was passed on
rest_adds : (by : LocationBuffer) (below after : Option (List ℕ)) (failed fails : Bool) (buffer : Option LocationBuffer) (place letter end count : ℕ) (bytes : List ℕ) (next : LinePosition)
    → place ≡ 12 → 0 < count → end ≤ length bytes → count ≤ end → IsPartOfLine bytes end → Appends below after (take count (take end bytes))
    → next ≡ at (if get_or bytes (count - 1) 0 == 10 then 0 else 12) letter
    → AddsLocation by (record { below = below; failed = failed; buffer = buffer; position = at place letter }) (record { below = after; failed = fails; buffer = buffer; position = next })
    (take count bytes)
rest_adds by below after failed fails buffer place letter end count bytes next is some within less one put ends =
    let becomes = rest_becomes by.location letter bytes count some (omega (arith, within, less)) (λ k few. one k (omega (arith, few, less))) in
    let front : take count (take end bytes) ≡ take count bytes = take-take count end bytes less in
    rw is (record {
      appends = rw becomes.0 (subst (Appends below after) front put);
      position = ends ∙ sym becomes.1;
      buffer = refl;
    })

pub rest_ended : (by : LocationBuffer) (below after : Option (List ℕ)) (failed fails : Bool) (buffer : Option LocationBuffer) (place letter end count : ℕ) (bytes : List ℕ)
    → place ≡ 12 → 0 < count → end ≤ length bytes → count ≤ end → IsPartOfLine bytes end → Appends below after (take count (take end bytes))
    → get_or bytes (count - 1) 0 ≡ 10
    → AddsLocation by (record { below = below; failed = failed; buffer = buffer; position = at place letter }) (record { below = after; failed = fails; buffer = buffer; position = at 0 letter })
    (take count bytes)
rest_ended by below after failed fails buffer place letter end count bytes is some within less one put newline =
    rest_adds by below after failed fails buffer place letter end count bytes (at 0 letter) is some within less one put (rw newline refl)

pub rest_goes_on : (by : LocationBuffer) (below after : Option (List ℕ)) (failed fails : Bool) (buffer : Option LocationBuffer) (place letter end count : ℕ) (bytes : List ℕ)
    → place ≡ 12 → 0 < count → end ≤ length bytes → count ≤ end → IsPartOfLine bytes end → Appends below after (take count (take end bytes))
    → get_or bytes (count - 1) 0 ≢ 10
    → AddsLocation by (record { below = below; failed = failed; buffer = buffer; position = at place letter }) (record { below = after; failed = fails; buffer = buffer; position = at place letter })
    (take count bytes)
rest_goes_on by below after failed fails buffer place letter end count bytes is some within less one put other =
    let not_it : (get_or bytes (count - 1) 0 == 10) ≡ false = grind (arith, nat_tests) in
    rest_adds by below after failed fails buffer place letter end count bytes (at place letter) is some within less one put (rw (not_it, is) refl)

no_fault_at_ok : false ≡ true → ⊥
no_fault_at_ok is = grind (is, arith)

-- the location was inserted before them
pub first_adds : {E : Type 0} (by : LocationBuffer) (old mid new : LocatedState) (result : Result ℕ E) (bytes : List ℕ)
    → old.position.place ≡ 11 → mid.position ≡ at 12 old.position.letter → mid.buffer ≡ old.buffer
    → (mid.failed ≡ false → Appends old.below mid.below (location_text by.location old.position.letter)) → (IsTrue mid.failed → IsErr result)
    → IfOk result (λ count. (0 < count) × (count ≤ length bytes)) → IfOk result (λ count. AddsLocation by mid new (take count bytes))
    → IfOk result (λ count. AddsLocation by old new (take count bytes))
first_adds by old mid new (Err e) bytes place next keeps puts good some adds = tt
first_adds by old mid new (Ok count) bytes place next keeps puts good some adds =
    let letter = old.position.letter in
    let front = take count bytes in
    let is_at : mid.failed ≡ false = elim (cases_Bool mid.failed) [ inl is_failed ↦ absurd (no_fault_at_ok (good is_failed)) | inr no_fault ↦ no_fault ] in
    let size : length front ≡ count = length-take-le count bytes some.1 in
    let long : 0 < length front = omega (arith, size, some.0) in
    let became = inserted by.location letter front long in
    let begins : old.position ≡ at 11 letter = ap (λ k. at k letter) place in
    let rest : Appends mid.below new.below (located_from by.location (at 12 letter) front) = rw next at adds.appends in
    record {
      appends = rw (begins, became.0) (Appends-trans old.below mid.below new.below _ _ (puts is_at) rest);
      position = adds.position ∙ (ap (λ (s : LinePosition). position_at_end s front) next ∙ (sym became.1 ∙ sym (ap (λ (s : LinePosition). position_at_end s front) begins)));
      buffer = adds.buffer ∙ keeps;
    }
