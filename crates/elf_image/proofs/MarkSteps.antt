-- Which windows are marked.
use Rattle.std.proofs.Common.{◌≡◌, ℕ, zero, suc, ◌+◌, ◌-◌, ◌*◌, ◌/◌, ◌%◌, ◌<◌, ◌≤◌, ◌&&◌, ◌||◌, ◌==◌, nat_lt, not, min, max, Bool, false, true, List, [], ◌∷◌, ◌++◌, filter, length, cond, get_or, replicate, ap, sym, ◌∙◌, length-append, refl, arith}
use Rattle.std.proofs.lemmas.Bool.Decides.{nat_tests}
use Rattle.std.proofs.lemmas.List.{get_or-replicate}
use Rattle.std.proofs.Math.Nat.{div-add-mod, div-lt_iff_lt-mul, le-div_iff_mul-le}
use Rattle.elf_image.specs.Marks.{is_window_marked, marked_windows, meets_range}
use Rattle.elf_model.specs.Apply.{places_from}
use Rattle.std.proofs.lemmas.List.Elements.{filter-append}

-- tests that decide the same
same-tests : (first last window k low high offset end width : ℕ) (old : Bool)
    → (first ≤ k → offset < high) → (offset < high → first ≤ k) → (k ≤ last → low < end) → (low < end → k ≤ last)
    → 0 < width → first ≤ window → window ≤ max (last + 1) first → last < window
    → (old || (not (nat_lt k first) && nat_lt k window)) ≡ (old || (nat_lt offset high && (nat_lt low end && not (width == 0))))
same-tests first last window k low high offset end width old a b c d some begun most past = grind (arith, nat_tests)

-- the marks are those of the windows that bytes meet
pub marks-meet : (offset width size last window k : ℕ) (old : Bool)
    → 0 < size → 0 < width → k < 4096
    → last ≡ min ((offset + (width - 1)) / size) 4095 → offset / size ≤ window → window ≤ max (last + 1) (offset / size) → last < window
    → (old || (not (nat_lt k (offset / size)) && nat_lt k window)) ≡ (old || meets_range size k offset width)
marks-meet offset width size last window k old some wide few is begun most past =
    let before = div-lt_iff_lt-mul {k = size} {x = offset} {y = k + 1} some in
    let after = le-div_iff_mul-le {k = size} {x = k} {y = offset + (width - 1)} some in
    let next : (k + 1) * size ≡ size * k + size = omega arith in
    let here : k * size ≡ size * k = omega arith in
    same-tests (offset / size) last window k (size * k) (size * k + size) offset (offset + width) width old
    (λ (h : offset / size ≤ k). let q : offset < (k + 1) * size = before.0 (omega arith) in omega (arith, q, next))
    (λ (h : offset < size * k + size). let q : offset / size < k + 1 = before.1 (omega (arith, h, next)) in omega (arith, q))
    (λ (h : k ≤ last). let q : k * size ≤ offset + (width - 1) = after.0 (omega (arith, h, is)) in omega (arith, q, here))
    (λ (h : size * k < offset + width). let q : k ≤ (offset + (width - 1)) / size = after.1 (omega (arith, h, here)) in omega (arith, q, is))
    wide begun most past

-- a mark of one of the first windows
pub marked-as : (new old : List Bool) (k : ℕ) (met : Bool) → k < 4096
    → get_or new k false ≡ (get_or old k false || met) → is_window_marked new k ≡ (is_window_marked old k || met)
marked-as new old k met few h = let t : nat_lt k 4096 ≡ true = grind (arith, nat_tests) in rw t h

pub unmarked : (k : ℕ) → k < 4096 → is_window_marked (replicate 4096 false) k ≡ false
unmarked k few = let t : nat_lt k 4096 ≡ true = grind (arith, nat_tests) in rw t (get_or-replicate 4096 k false false few)

places-more : (place : ℕ → ℕ) (i n : ℕ) → places_from place i (suc n) ≡ places_from place i n ++ (place (i + n) ∷ [])
unfolding places_from
places-more place i zero = ap (λ k. place k ∷ []) (omega arith)
places-more place i (suc n) = ap (λ xs. place i ∷ xs) (places-more place (suc i) n ∙ ap (λ k. places_from place (suc i) n ++ (place k ∷ [])) (omega arith))

-- one window more
one-more : (met : List Bool) (count : ℕ) (b : Bool) → is_window_marked met count ≡ b → length (filter (is_window_marked met) (count ∷ [])) ≡ cond b 1 0
one-more met count true is = rw is refl
one-more met count false is = rw is refl

pub marked-more : (met : List Bool) (count next : ℕ) (b : Bool) → next ≡ suc count → b ≡ is_window_marked met count
    → marked_windows met next ≡ marked_windows met count + (cond b 1 0)
unfolding marked_windows
marked-more met count next b after is =
    let before : List ℕ = places_from (λ k. k) 0 count in
    let more : places_from (λ k. k) 0 next ≡ before ++ (count ∷ []) =
    ap (places_from (λ k. k) 0) after ∙ (places-more (λ k. k) 0 count ∙ ap (λ k. before ++ (k ∷ [])) (omega arith)) in
    ap (λ xs. length (filter (is_window_marked met) xs)) more
    ∙ (ap (length {A = ℕ}) (filter-append (is_window_marked met) before (count ∷ []))
    ∙ (length-append (filter (is_window_marked met) before) (filter (is_window_marked met) (count ∷ []))
    ∙ ap (λ n. length (filter (is_window_marked met) before) + n) (one-more met count b (sym is))))

pub marked-none : (met : List Bool) → 0 ≡ marked_windows met 0
unfolding marked_windows places_from
marked-none met = refl

-- bytes in one window
pub one-window : (offset width size : ℕ) → 0 < size → 0 < width → width ≤ size - offset % size → (offset + (width - 1)) / size ≡ offset / size
one-window offset width size some wide fits =
    let k : ℕ = offset / size in
    let end : ℕ = offset + (width - 1) in
    let parts : size * k + offset % size ≡ offset = div-add-mod offset size in
    let next : (k + 1) * size ≡ size * k + size = omega arith in
    let here : k * size ≡ size * k = omega arith in
    let low = (le-div_iff_mul-le {k = size} {x = k} {y = end} some).1 (omega (arith, parts, here)) in
    let high = (div-lt_iff_lt-mul {k = size} {x = end} {y = k + 1} some).1 (omega (arith, parts, next, fits, wide)) in
    omega (arith, low, high)
