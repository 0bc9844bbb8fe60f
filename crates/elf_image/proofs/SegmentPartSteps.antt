-- A part of a segment is read in pieces.
use Rattle.std.proofs.Common.{◌≡◌, ◌∙◌, ℕ, ◌+◌, ◌-◌, ◌*◌, ◌<◌, ◌≤◌, List, ◌++◌, length, take, drop, get_or, replicate, min, inl, inr, ap, sym, refl, arith, append_assoc, length-append, length-take, zero, suc, [], ◌∷◌}
use Rattle.std.proofs.Math.Seq.{take-append_seam}
use Rattle.std.proofs.lemmas.Bool.{cases_lt}
use Rattle.std.proofs.lemmas.List.{get_or_append_left, get_or-append-add, get_or-replicate, get_or_past, length-replicate}
use borrow.Rule.Slice.PartMut.{put_mid, post_of}
use Rattle.elf_model.specs.Bytes.{field, number, slice}
use Rattle.elf_image.specs.SegmentParts.{IsPartOf}
use Rattle.elf_model.proofs.Searches.{slice-two}
use Rattle.elf_model.proofs.Slices.{get_or-slice}

-- one piece more
pub piece-read : (file bytes piece : List ℕ) (at done count k : ℕ) → done ≤ length bytes → take done bytes ≡ slice file at done
    → length piece ≡ count → piece ≡ slice file (at + done) count → take (done + count) (put_mid done k bytes piece) ≡ slice file at (done + count)
piece-read file bytes piece at done count k within before long is =
    let front : List ℕ = take done bytes ++ piece in
    let size : length front ≡ done + count = length-append (take done bytes) piece ∙ omega (arith, long, length-take done bytes, within) in
    let split : put_mid done k bytes piece ≡ front ++ post_of done k bytes = sym (append_assoc (take done bytes) piece (post_of done k bytes)) in
    ap (λ n. take n (put_mid done k bytes piece)) (sym size) ∙ (ap (take (length front)) split ∙ (take-append_seam front (post_of done k bytes)
    ∙ (ap (λ xs. xs ++ piece) before ∙ (ap (λ xs. slice file at done ++ xs) is ∙ sym (slice-two file at done count)))))

-- the bytes of a part: those in the file, and zeros
pub part-shown : (file bytes zeros post : List ℕ) (at size low held i : ℕ) → held ≡ min (size - low) (length bytes) → take held bytes ≡ slice file (at + low) held
    → zeros ≡ replicate (length bytes - held) 0 → i < length bytes
    → get_or (take held bytes ++ (zeros ++ post)) i 0 ≡ get_or (slice file at size) (low + i) 0
part-shown file bytes zeros post at size low held i is front rest below = elim (cases_lt i held) [
  | inl inside ↦
      let long : length (take held bytes) ≡ held = length-take held bytes ∙ omega (arith, is) in
      let sum : at + low + i ≡ at + (low + i) = omega arith in
      get_or_append_left (take held bytes) (zeros ++ post) 0 i (omega (arith, long, inside))
      ∙ (ap (λ xs. get_or xs i 0) front ∙ (get_or-slice file (at + low) held i inside ∙ (ap (λ k. get_or file k 0) sum ∙ sym (get_or-slice file at size (low + i) (omega (arith, is, inside))))))
  | inr past ↦
      let long : length (take held bytes) ≡ held = length-take held bytes ∙ omega (arith, is) in
      let many : length (replicate {A = ℕ} (length bytes - held) 0) ≡ length bytes - held = length-replicate {A = ℕ} (length bytes - held) 0 in
      let index : i ≡ length (take held bytes) + (i - held) = omega (arith, long, past) in
      let none : get_or (slice file at size) (low + i) 0 ≡ 0 = get_or_past (slice file at size) (low + i) 0 (omega (arith, length-take size (drop at file), is, past, below)) in
      ap (λ k. get_or (take held bytes ++ (zeros ++ post)) k 0) index
      ∙ (get_or-append-add (take held bytes) (zeros ++ post) (i - held) 0
      ∙ (ap (λ xs. get_or (xs ++ post) (i - held) 0) rest
      ∙ (get_or_append_left (replicate (length bytes - held) 0) post 0 (i - held) (omega (arith, many, below, past))
      ∙ (get_or-replicate (length bytes - held) (i - held) 0 0 (omega (arith, below, past)) ∙ sym none))))
]

-- the bytes before a window
pub edge-shown : (base front part post : List ℕ) (low edge i : ℕ) → length front ≡ 7 - edge → length part ≡ edge → edge ≡ min 7 low
    → IsPartOf base (low - edge) part → i < 7 → 7 ≤ low + i → get_or (front ++ (part ++ post)) i 0 ≡ get_or base (low + i - 7) 0
edge-shown base front part post low edge i short long is shows below least =
    let k : ℕ = i - (7 - edge) in
    let index : i ≡ length front + k = omega (arith, short, is, least, below) in
    let inside : k < length part = omega (arith, long, is, least, below) in
    let place : low - edge + k ≡ low + i - 7 = omega (arith, is, least, below) in
    ap (λ n. get_or (front ++ (part ++ post)) n 0) index
    ∙ (get_or-append-add front (part ++ post) k 0 ∙ (get_or_append_left part post 0 k inside ∙ (shows k inside ∙ ap (λ n. get_or base n 0) place)))

-- numbers of the same bytes
no-number : (n : ℕ) → number (take n []) ≡ 0
unfolding number
no-number zero = refl
no-number (suc n) = refl

number-step : (bytes : List ℕ) (at n : ℕ) → field bytes at (suc n) ≡ get_or bytes at 0 + 256 * field bytes (suc at) n
unfolding field number
number-step [] zero n = let none : number (take n []) ≡ 0 = no-number n in omega (arith, none)
number-step [] (suc at) n = let none : number (take n []) ≡ 0 = no-number n in omega (arith, none)
number-step (byte ∷ bytes) zero n = refl
number-step (byte ∷ bytes) (suc at) n = number-step bytes at n

pub field-alike : (a b : List ℕ) (i j n : ℕ) → ((k : ℕ) → k < n → get_or a (i + k) 0 ≡ get_or b (j + k) 0) → field a i n ≡ field b j n
unfolding field number
field-alike a b i j zero h = refl
field-alike a b i j (suc n) h =
    let here : i ≡ i + 0 = omega arith in
    let there : j + 0 ≡ j = omega arith in
    let first : get_or a i 0 ≡ get_or b j 0 = ap (λ k. get_or a k 0) here ∙ (h 0 (omega arith) ∙ ap (λ k. get_or b k 0) there) in
    let rest : field a (suc i) n ≡ field b (suc j) n =
    field-alike a b (suc i) (suc j) n (λ k below. ap (λ x. get_or a x 0) (let e : suc i + k ≡ i + suc k = omega arith in e) ∙ (h (suc k) (omega arith) ∙ ap (λ x. get_or b x 0) (let e : j + suc k ≡ suc j + k = omega arith in e))) in
    number-step a i n ∙ (ap (λ x. x + 256 * field a (suc i) n) first ∙ (ap (λ x. get_or b j 0 + 256 * x) rest ∙ sym (number-step b j n)))
