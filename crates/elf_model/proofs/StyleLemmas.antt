-- A file whose header locates no section headers, byte by byte.
use Rattle.std.proofs.Common.{◌≡◌, ℕ, suc, zero, ◌+◌, ◌*◌, ◌≤◌, ◌<◌, if◌then◌else◌, Bool, true, false, List, [], ◌∷◌, length, take, drop, refl, ap, sym, ◌∙◌, arith, add-zero, zero-add, length-take, inl, inr}
use Rattle.elf_model.specs.Prelude.{ListingStyle, ViewIsAsLong, ViewIsCheckedAlike, ViewIsItsOwnView, ViewIsSeenInSlices, ViewIsTheFileAfterTheHeader, ViewIsTheFileElsewhere, ViewTellsOfNone, field, number, slice, tells_of_sections, viewed, without_sections, without_sections_from}

-- the length is unchanged
pub from_length : (place : ℕ) (bytes : List ℕ) → length (without_sections_from place bytes) ≡ length bytes
unfolding without_sections_from
from_length place [] = refl
from_length place (byte ∷ bytes) = ap suc (from_length (suc place) bytes)

pub view_is_as_long : ViewIsAsLong
view_is_as_long file = from_length 0 file

pub view_length : (style : ListingStyle) (file : List ℕ) → length (viewed style file) ≡ length file
view_length style file = by_cases style.by_segments
  where
    by_cases : (b : Bool) → length (elim b as (λ _. List ℕ) [ true ↦ without_sections file | false ↦ file ]) ≡ length file
    by_cases true = from_length 0 file
    by_cases false = refl

-- a prefix, and what follows one
from_take : (place count : ℕ) (bytes : List ℕ) → take count (without_sections_from place bytes) ≡ without_sections_from place (take count bytes)
unfolding without_sections_from
from_take place zero bytes = refl
from_take place (suc count) [] = refl
from_take place (suc count) (byte ∷ bytes) =
    ap (λ rest. (if tells_of_sections place then 0 else byte) ∷ rest) (from_take (suc place) count bytes)

from_drop : (place count : ℕ) (bytes : List ℕ)
    → drop count (without_sections_from place bytes) ≡ without_sections_from (place + count) (drop count bytes)
unfolding without_sections_from
from_drop place zero bytes = ap (λ n. without_sections_from n bytes) (sym (add-zero place))
from_drop place (suc count) [] = refl
from_drop place (suc count) (byte ∷ bytes) =
    let n : suc place + count ≡ place + suc count = omega arith in
    from_drop (suc place) count bytes ∙ ap (λ n. without_sections_from n (drop count bytes)) n

pub view_in_slices : ViewIsSeenInSlices
view_in_slices file at count =
    ap (take count) (from_drop 0 at file ∙ ap (λ n. without_sections_from n (drop at file)) (zero-add at)) ∙ from_take at count (drop at file)

-- a position that does not locate section headers
pub tells-not : (place : ℕ) → 64 ≤ place → tells_of_sections place ≡ false
unfolding tells_of_sections
tells-not place h = grind arith

tells-before : (place : ℕ) → place < 40 → tells_of_sections place ≡ false
unfolding tells_of_sections
tells-before place h = grind arith

tells-between : (place : ℕ) → 48 ≤ place → place < 60 → tells_of_sections place ≡ false
unfolding tells_of_sections
tells-between place from h = grind arith

-- positions that locate them
tells-offset : (place : ℕ) → 40 ≤ place → place < 48 → tells_of_sections place ≡ true
unfolding tells_of_sections
tells-offset place from h = grind arith

tells-number : (place : ℕ) → 60 ≤ place → place < 64 → tells_of_sections place ≡ true
unfolding tells_of_sections
tells-number place from h = grind arith

pub view_after : ViewIsTheFileAfterTheHeader
unfolding without_sections_from
view_after place [] h = refl
view_after place (byte ∷ bytes) h =
    let here = tells-not place h in
    let rest = view_after (suc place) bytes (omega arith) in
    ap (λ b. (if b then 0 else byte) ∷ without_sections_from (suc place) bytes) here ∙ ap (λ more. byte ∷ more) rest

-- the bytes before e_shoff
front_kept : (place : ℕ) (bytes : List ℕ) → place + length bytes ≤ 40 → without_sections_from place bytes ≡ bytes
unfolding without_sections_from
front_kept place [] h = refl
front_kept place (byte ∷ bytes) h =
    let here = tells-before place (omega (arith, h)) in
    ap (λ b. (if b then 0 else byte) ∷ without_sections_from (suc place) bytes) here
    ∙ ap (λ more. byte ∷ more) (front_kept (suc place) bytes (omega (arith, h)))

-- the bytes between e_shoff and e_shnum
middle_kept : (place : ℕ) (bytes : List ℕ) → 48 ≤ place → place + length bytes ≤ 60 → without_sections_from place bytes ≡ bytes
unfolding without_sections_from
middle_kept place [] from h = refl
middle_kept place (byte ∷ bytes) from h =
    let here = tells-between place from (omega (arith, h)) in
    ap (λ b. (if b then 0 else byte) ∷ without_sections_from (suc place) bytes) here
    ∙ ap (λ more. byte ∷ more) (middle_kept (suc place) bytes (omega (arith, from)) (omega (arith, h)))

pub view_elsewhere : ViewIsTheFileElsewhere
view_elsewhere file at count (inl h) =
    let few = length-take count (drop at file) in
    view_in_slices file at count ∙ front_kept at (slice file at count) (omega (arith, h, few))
view_elsewhere file at count (inr (from, h)) =
    let few = length-take count (drop at file) in
    view_in_slices file at count ∙ middle_kept at (slice file at count) from (omega (arith, h, few))

-- the number that zeros encode, if all positions locate section headers
none_spelled : (place : ℕ) (bytes : List ℕ) → ((at : ℕ) → place ≤ at → at < place + length bytes → tells_of_sections at ≡ true)
    → number (without_sections_from place bytes) ≡ 0
unfolding without_sections_from number
none_spelled place [] h = refl
none_spelled place (byte ∷ bytes) h =
    let here = h place (omega arith) (omega arith) in
    let rest = none_spelled (suc place) bytes (λ at from below. h at (omega (arith, from)) (omega (arith, below))) in
    ap (λ b. (if b then 0 else byte) + 256 * number (without_sections_from (suc place) bytes)) here ∙ omega (arith, rest)

none_told : (file : List ℕ) (at count : ℕ) → ((place : ℕ) → at ≤ place → place < at + count → tells_of_sections place ≡ true) → field (without_sections file) at count ≡ 0
unfolding field
none_told file at count h =
    let few = length-take count (drop at file) in
    ap number (view_in_slices file at count) ∙ none_spelled at (slice file at count) (λ place from below. h place from (omega (arith, below, few)))

pub view_tells_of_none : ViewTellsOfNone
view_tells_of_none file = (
  none_told file 40 8 (λ place from below. tells-offset place from (omega (arith, below))),
  none_told file 60 2 (λ place from below. tells-number place from (omega (arith, below))),
  none_told file 62 2 (λ place from below. tells-number place (omega (arith, from)) (omega (arith, below))),
)

field_elsewhere : (file : List ℕ) (at count : ℕ) → at + count ≤ 40 → field (without_sections file) at count ≡ field file at count
unfolding field
field_elsewhere file at count h = ap number (view_elsewhere file at count (inl h))

pub view_checked_alike : ViewIsCheckedAlike
view_checked_alike file =
    rw (view_is_as_long file, field_elsewhere file 0 4 (omega arith), field_elsewhere file 4 1 (omega arith), field_elsewhere file 5 1 (omega arith), field_elsewhere file 6 1 (omega arith)) refl

hidden_once : (hidden : Bool) (byte : ℕ) → (if hidden then 0 else (if hidden then 0 else byte)) ≡ (if hidden then 0 else byte)
hidden_once true byte = refl
hidden_once false byte = refl

from_twice : (place : ℕ) (bytes : List ℕ) → without_sections_from place (without_sections_from place bytes) ≡ without_sections_from place bytes
unfolding without_sections_from
from_twice place [] = refl
from_twice place (byte ∷ bytes) =
    ap (λ b. b ∷ without_sections_from (suc place) (without_sections_from (suc place) bytes)) (hidden_once (tells_of_sections place) byte)
    ∙ ap (λ rest. (if tells_of_sections place then 0 else byte) ∷ rest) (from_twice (suc place) bytes)

pub view_is_its_own : ViewIsItsOwnView
view_is_its_own file = from_twice 0 file
