-- What is stored in a window of a segment.
use Rattle.std.proofs.Common.{◌≡◌, ◌∙◌, ℕ, zero, suc, ◌+◌, ◌-◌, ◌*◌, ◌^◌, ◌<◌, ◌≤◌, ◌==◌, min, max, false, List, [], ◌∷◌, ◌++◌, length, take, drop, map, All, inl, inr, ap, sym, refl, subst, arith, append_assoc, length-append, length-drop, length-take, length-take-le}
use Rattle.std.specs.List.{list_any}
use Rattle.std.proofs.Math.Seq.{take-append_seam, drop-append-add}
use Rattle.std.proofs.lemmas.Bool.{cases_eq, cases_lt, le-ltb, lt-ltb, ne_eqb, or_parts}
use Rattle.std.proofs.lemmas.List.{drop-drop}
use Rattle.std.proofs.lemmas.List.Elements.{All-filter, All-head, All-tail}
use Rattle.elf_model.specs.Apply.{StoredBytes, patched, put}
use Rattle.elf_model.specs.ApplyLaws.{clipped}
use Rattle.elf_model.specs.Image.{SegmentWrite, stored_in, writes_in}
use Rattle.elf_model.specs.ImageCost.{meets_window}
use Rattle.elf_reloc.proofs.PassSteps.{stored-none}
use Rattle.elf_image.specs.Items.{byte_in, bytes_from}
use Rattle.elf_image.specs.RelaRows.{is_in_reach}
use Rattle.elf_image.specs.SegmentParts.{KeepsEdges, PutsBytes}
use Rattle.elf_image.specs.declared.image_items.CopyBytes.{CopyBytes}
use Rattle.elf_image.specs.declared.rela_rows.WindowReach.{WindowReach}
use Rattle.elf_image.specs.declared.window.ImageWindow.{ImageWindow}

-- APART. Bytes that do not meet a window change nothing in it
pub apart-kept : (stored : StoredBytes) (low n : ℕ) (bytes : List ℕ) → length bytes ≡ n → min (stored.at + length stored.bytes) (low + n) ≤ max stored.at low
    → put (clipped low n stored) bytes ≡ bytes
apart-kept stored low n bytes long past =
    sym (stored-none stored low n (max stored.at low) (min (stored.at + length stored.bytes) (low + n)) bytes (sym long) refl refl past)

-- at most 16 bytes at an address that is not in reach of it
pub far_is_apart : (reach : WindowReach) (segment size low n : ℕ) (stored : StoredBytes) (bytes : List ℕ) → length bytes ≡ n
    → reach.first ≡ min (segment + low) (2 ^ 64 - 1) - 15 → reach.last ≡ min (min (segment + low) (2 ^ 64 - 1) + n) (2 ^ 64 - 1)
    → is_in_reach reach (segment + stored.at) ≡ false → length stored.bytes ≤ 16 → segment + size ≤ 2 ^ 64 → low + n ≤ size
    → put (clipped low n stored) bytes ≡ bytes
far_is_apart reach segment size low n stored bytes long first last far few end fits = elim (cases_lt (segment + stored.at) reach.first) [
  | inl below ↦ apart-kept stored low n bytes long (omega (arith, below, first, few, end, fits))
  | inr from ↦ elim (cases_lt reach.last (segment + stored.at)) [
    | inl past ↦ apart-kept stored low n bytes long (omega (arith, past, last, few, end, fits))
    | inr to ↦
        let f = rw (le-ltb (segment + stored.at) reach.first from, le-ltb reach.last (segment + stored.at) to) at far in
        absurd (cc)
  ]
]

-- a write that does not meet the window of an index
pub unmet-kept : (window index n : ℕ) (write : SegmentWrite) (bytes : List ℕ) → length bytes ≡ n → n ≤ window → length write.stored.bytes ≤ write.size
    → meets_window window index write ≡ false → put (clipped (window * index) n write.stored) bytes ≡ bytes
unmet-kept window index n write bytes long fits few unmet =
    let low : ℕ = window * index in
    elim (cases_lt write.stored.at (low + window)) [
      | inr past ↦ apart-kept write.stored low n bytes long (omega (arith, past, fits))
      | inl before ↦ elim (cases_lt low (write.stored.at + write.size)) [
        | inr past ↦ apart-kept write.stored low n bytes long (omega (arith, past, few))
        | inl meets ↦ elim (cases_eq write.size 0) [
          | inl none ↦ apart-kept write.stored low n bytes long (omega (arith, none, few))
          | inr some ↦
              let f = rw (lt-ltb write.stored.at (low + window) before, lt-ltb low (write.stored.at + write.size) meets, ne_eqb write.size 0 some) at unmet in
              absurd (cc)
        ]
      ]
    ]

-- a write changes no more bytes than it says
abbrev pub IsShortWrite : SegmentWrite → Type 0
IsShortWrite write = length write.stored.bytes ≤ write.size

module _ (window index n : ℕ) (bytes : List ℕ) (long : length bytes ≡ n) (fits : n ≤ window) where
  unmet-each : (writes : List SegmentWrite) → All IsShortWrite writes → list_any (meets_window window index) writes ≡ false
      → patched (map (clipped (window * index) n) (map (λ write. write.stored) writes)) bytes ≡ bytes
  unfolding patched
  unmet-each [] few unmet = refl
  unmet-each (write ∷ writes) few unmet =
      let parts = or_parts (meets_window window index write) (list_any (meets_window window index) writes) unmet in
      let rest : List StoredBytes = map (clipped (window * index) n) (map (λ write. write.stored) writes) in
      ap (patched rest) (unmet-kept window index n write bytes long fits (All-head IsShortWrite write writes few) parts.0)
      ∙ unmet-each writes (All-tail IsShortWrite write writes few) parts.1

  pub unmet-all : (segment : ℕ) (writes : List SegmentWrite) → All IsShortWrite writes → list_any (meets_window window index) (writes_in segment writes) ≡ false
      → patched (map (clipped (window * index) n) (stored_in segment writes)) bytes ≡ bytes
  unfolding stored_in
  unmet-all segment writes few unmet = unmet-each (writes_in segment writes) (All-filter (λ write. write.segment == segment) IsShortWrite writes few) unmet

-- ONE AFTER ANOTHER. Bytes that are stored after others are stored with them
drop-both : (k j : ℕ) (xs ys : List ℕ) → j ≡ k - length xs → drop k (xs ++ ys) ≡ drop k xs ++ drop j ys
drop-both zero j xs ys is = let none : j ≡ 0 = omega arith in rw none refl
drop-both (suc k) j [] ys is = let all : j ≡ suc k = omega arith in rw all refl
drop-both (suc k) j (x ∷ xs) ys is = drop-both k j xs ys (omega (arith, is))

take-both : (k j : ℕ) (xs ys : List ℕ) → j ≡ k - length xs → take k (xs ++ ys) ≡ take k xs ++ take j ys
take-both zero j xs ys is = let none : j ≡ 0 = omega arith in rw none refl
take-both (suc k) j [] ys is = let all : j ≡ suc k = omega arith in rw all refl
take-both (suc k) j (x ∷ xs) ys is = ap (λ zs. x ∷ zs) (take-both k j xs ys (omega (arith, is)))

put-then : (a b : ℕ) (u v w : List ℕ) → a ≤ length w → b ≡ a + length u
    → put (record { at = b; bytes = v }) (put (record { at = a; bytes = u }) w) ≡ put (record { at = a; bytes = u ++ v }) w
unfolding put
put-then a b u v w within next =
    let front : List ℕ = take a w in
    let rest : List ℕ = drop (a + length u) w in
    let held : length front ≡ a = length-take-le a w within in
    let size : b ≡ length (front ++ u) = omega (arith, next, held, length-append front u) in
    let whole : front ++ (u ++ rest) ≡ (front ++ u) ++ rest = sym (append_assoc front u rest) in
    let before : take b (front ++ (u ++ rest)) ≡ front ++ u =
    ap (take b) whole ∙ (ap (λ k. take k ((front ++ u) ++ rest)) size ∙ take-append_seam (front ++ u) rest) in
    let past : a + length u + length v ≡ a + length (u ++ v) = omega (arith, length-append u v) in
    let after : drop (b + length v) (front ++ (u ++ rest)) ≡ drop (a + length (u ++ v)) w =
    ap (drop (b + length v)) whole ∙ (ap (λ k. drop (k + length v) ((front ++ u) ++ rest)) size
    ∙ (drop-append-add (front ++ u) rest (length v) ∙ (drop-drop (length v) (a + length u) w ∙ ap (λ k. drop k w) past))) in
    ap (λ xs. xs ++ (v ++ drop (b + length v) (front ++ (u ++ rest)))) before
    ∙ (ap (λ xs. (front ++ u) ++ (v ++ xs)) after
    ∙ (append_assoc front u (v ++ drop (a + length (u ++ v)) w)
    ∙ ap (λ xs. front ++ xs) (sym (append_assoc u v (drop (a + length (u ++ v)) w)))))

next-place : (low n p q size long : ℕ) → q ≡ p + long → size ≡ min (n - (p - low)) (long - (low - p)) → min (q - low) n ≡ min (p - low) n + size
next-place low n p q size long next is = omega arith

next-drop : (low p q long : ℕ) → q ≡ p + long → low - q ≡ low - p - long
next-drop low p q long next = omega arith

next-take : (low n p q long size : ℕ) → q ≡ p + long → size ≡ long - (low - p) → n - (q - low) ≡ n - (p - low) - size
next-take low n p q long size next is = omega arith

pub put-two : (low n p q : ℕ) (xs ys w : List ℕ) → length w ≡ n → q ≡ p + length xs
    → put (clipped low n (record { at = q; bytes = ys })) (put (clipped low n (record { at = p; bytes = xs })) w)
    ≡ put (clipped low n (record { at = p; bytes = xs ++ ys })) w
unfolding clipped
put-two low n p q xs ys w long next =
    let u : List ℕ = take (n - (p - low)) (drop (low - p) xs) in
    let v : List ℕ = take (n - (q - low)) (drop (low - q) ys) in
    let size : length u ≡ min (n - (p - low)) (length xs - (low - p)) =
    length-take (n - (p - low)) (drop (low - p) xs) ∙ ap (min (n - (p - low))) (length-drop (low - p) xs) in
    let bytes : take (n - (p - low)) (drop (low - p) (xs ++ ys)) ≡ u ++ v =
    ap (take (n - (p - low))) (drop-both (low - p) (low - q) xs ys (next-drop low p q (length xs) next))
    ∙ take-both (n - (p - low)) (n - (q - low)) (drop (low - p) xs) (drop (low - q) ys) (next-take low n p q (length xs) (length (drop (low - p) xs)) next (length-drop (low - p) xs)) in
    put-then (min (p - low) n) (min (q - low) n) u v w (omega (arith, long)) (next-place low n p q (length u) (length xs) next size)
    ∙ ap (λ b. put (record { at = min (p - low) n; bytes = b }) w) (sym bytes)

-- two puts into a window, of which the second follows the first
pub puts-two : (old mid new : ImageWindow) (p q : ℕ) (xs ys : List ℕ) → KeepsEdges old mid → PutsBytes old mid p xs → PutsBytes mid new q ys
    → (p + length xs + length ys < 2 ^ 64 → q ≡ p + length xs) → PutsBytes old new p (xs ++ ys)
puts-two old mid new p q xs ys keeps first second next = λ low_fits fits.
    let sum = length-append xs ys in
    let place : q ≡ p + length xs = next (omega (arith, fits, sum)) in
    let before = first low_fits (omega (arith, fits, sum)) in
    let after = second (omega (arith, low_fits, keeps.low, keeps.long)) (omega (arith, fits, sum, place)) in
    after
    ∙ (ap (λ low. put (clipped low (length mid.bytes.now) (record { at = q; bytes = ys })) mid.bytes.now) keeps.low
    ∙ (ap (λ n. put (clipped old.low n (record { at = q; bytes = ys })) mid.bytes.now) keeps.long
    ∙ (ap (put (clipped old.low (length old.bytes.now) (record { at = q; bytes = ys }))) before
    ∙ put-two old.low (length old.bytes.now) p q xs ys old.bytes.now refl place)))

-- no bytes
pub puts-none : (window : ImageWindow) (offset : ℕ) → PutsBytes window window offset []
puts-none window offset = λ low_fits fits.
    sym (apart-kept (record { at = offset; bytes = [] }) window.low (length window.bytes.now) window.bytes.now refl (omega arith))

-- one byte more of a copied object
from-more : (bytes : CopyBytes) (i count next : ℕ) → next ≡ suc count → bytes_from bytes i next ≡ bytes_from bytes i count ++ (byte_in bytes (i + count) ∷ [])
unfolding bytes_from
from-more bytes i zero next is = let first : i + 0 ≡ i = omega arith in rw (is, first) refl
from-more bytes i (suc count) next is =
    let here : i + suc count ≡ suc i + count = omega arith in
    rw (is, here) (ap (λ xs. byte_in bytes i ∷ xs) (from-more bytes (suc i) count (suc count) refl))

pub copied-more : (bytes : CopyBytes) (count next : ℕ) → next ≡ suc count → bytes_from bytes 0 next ≡ bytes_from bytes 0 count ++ (byte_in bytes count ∷ [])
copied-more bytes count next is = from-more bytes 0 count next is ∙ ap (λ k. bytes_from bytes 0 count ++ (byte_in bytes k ∷ [])) (omega arith)

pub copied-none : (window : ImageWindow) (offset : ℕ) (bytes : CopyBytes) → PutsBytes window window offset (bytes_from bytes 0 0)
unfolding bytes_from
copied-none window offset bytes = puts-none window offset

from-long : (bytes : CopyBytes) (i count : ℕ) → length (bytes_from bytes i count) ≡ count
unfolding bytes_from
from-long bytes i zero = refl
from-long bytes i (suc count) = ap suc (from-long bytes (suc i) count)

pub copied-puts : (old mid new : ImageWindow) (bytes : CopyBytes) (offset place i next byte : ℕ) → KeepsEdges old mid → PutsBytes old mid offset (bytes_from bytes 0 i)
    → PutsBytes mid new place (byte ∷ []) → byte ≡ byte_in bytes i → place ≡ min (offset + i) (2 ^ 64 - 1) → next ≡ suc i
    → PutsBytes old new offset (bytes_from bytes 0 next)
copied-puts old mid new bytes offset place i next byte keeps before this is here step =
    let long = from-long bytes 0 i in
    let all : PutsBytes old new offset (bytes_from bytes 0 i ++ (byte ∷ [])) =
    puts-two old mid new offset place (bytes_from bytes 0 i) (byte ∷ []) keeps before this (λ fits. omega (arith, fits, here, long)) in
    let same : bytes_from bytes 0 i ++ (byte ∷ []) ≡ bytes_from bytes 0 next = ap (λ b. bytes_from bytes 0 i ++ (b ∷ [])) is ∙ sym (copied-more bytes i next step) in
    subst (λ all. PutsBytes old new offset all) same all

-- eight bytes that are others only if they do not meet the window
pub puts-word : (old new : ImageWindow) (offset : ℕ) (xs ys : List ℕ) → length xs ≡ 8 → length ys ≡ 8 → PutsBytes old new offset xs
    → (old.low < offset + 8 → offset < old.low + length old.bytes.now → xs ≡ ys) → PutsBytes old new offset ys
puts-word old new offset xs ys wide same puts meets = elim (cases_lt old.low (offset + 8)) [
  | inl from ↦ elim (cases_lt offset (old.low + length old.bytes.now)) [
    | inl to ↦ subst (λ bytes. PutsBytes old new offset bytes) (meets from to) puts
    | inr past ↦ λ low_fits fits.
        puts low_fits (omega (arith, fits, wide, same))
        ∙ (apart-kept (record { at = offset; bytes = xs }) old.low (length old.bytes.now) old.bytes.now refl (omega (arith, past))
        ∙ sym (apart-kept (record { at = offset; bytes = ys }) old.low (length old.bytes.now) old.bytes.now refl (omega (arith, past))))
  ]
  | inr before ↦ λ low_fits fits.
      puts low_fits (omega (arith, fits, wide, same))
      ∙ (apart-kept (record { at = offset; bytes = xs }) old.low (length old.bytes.now) old.bytes.now refl (omega (arith, before, wide))
      ∙ sym (apart-kept (record { at = offset; bytes = ys }) old.low (length old.bytes.now) old.bytes.now refl (omega (arith, before, same))))
]
