-- Patches: the bytes of a patched section, of a window of it, and of the parts that no patch
-- changes.
use Rattle.std.proofs.Common.{◌≡◌, ℕ, ◌+◌, ◌-◌, ◌<◌, ◌≤◌, inl, inr, true, false, nat_lt, nat_le, ◌&&◌, min, List, [], ◌∷◌, ◌++◌, length, get_or, take, drop, map, refl, sym, ap, ◌∙◌, arith, length-append, length-drop, length-take, take-take, drop-drop}
use Rattle.std.proofs.lemmas.Bool.{cases_lt, le-leb, lt-leb, lt-ltb, le-ltb, and_from, and_left, and_right}
use Rattle.std.proofs.lemmas.List.{get_or_append_left, get_or-append_right, get_or-take, get_or-drop, ext_get_or, take-append-le}
use Rattle.std.proofs.lemmas.Slice.{drop-put_mid}
use Rattle.std.proofs.lemmas.List.Elements.{All-head, All-tail}
use Rattle.elf_model.specs.Prelude.{AllInside, BytePatched, FinalBelow, IsInside, KeptAbove, LengthKept, StoredBytes, WindowPatched, byte_after, byte_with, clipped, patched, put, slice}
use Rattle.elf_model.proofs.Slices.{slice-size, get_or-slice}

pub length-put : (patch : StoredBytes) (base : List ℕ) → IsInside (length base) patch → length (put patch base) ≡ length base
unfolding put
length-put patch base inside = simp (length-append, length-take, length-drop) (omega arith)

module _ (patch : StoredBytes) (i byte : ℕ) where
  byte_with_low : i < patch.at → byte_with patch i byte ≡ byte
  unfolding byte_with
  byte_with_low low =
      let no : (nat_le patch.at i && nat_lt i (patch.at + length patch.bytes)) ≡ false
      = and_left _ _ (lt-leb patch.at i low) in
      rw (no, byte_with) refl

  byte_with_high : patch.at + length patch.bytes ≤ i → byte_with patch i byte ≡ byte
  unfolding byte_with
  byte_with_high past =
      let no : (nat_le patch.at i && nat_lt i (patch.at + length patch.bytes)) ≡ false
      = and_right _ _ (le-ltb i (patch.at + length patch.bytes) past) in
      rw (no, byte_with) refl

  byte_with_in :
      patch.at ≤ i → i < patch.at + length patch.bytes → byte_with patch i byte ≡ get_or patch.bytes (i - patch.at) 0
  unfolding byte_with
  byte_with_in from high =
      let yes : (nat_le patch.at i && nat_lt i (patch.at + length patch.bytes)) ≡ true
      = and_from _ _ (le-leb patch.at i from) (lt-ltb i (patch.at + length patch.bytes) high) in
      rw (yes, byte_with) refl

module _ (patch : StoredBytes) (base : List ℕ) (i : ℕ) (inside : IsInside (length base) patch) where
  first_part : length (take patch.at base) ≡ patch.at
  first_part = simp length-take (omega arith)

  -- a byte before the patch
  byte_before : i < patch.at → get_or (put patch base) i 0 ≡ get_or base i 0
  unfolding put
  byte_before low =
      let l = first_part in
      get_or_append_left (take patch.at base) (patch.bytes ++ drop (patch.at + length patch.bytes) base) 0 i (omega arith)
      ∙ get_or-take patch.at base i 0 low

  -- a byte in the patch
  byte_in : patch.at ≤ i → i < patch.at + length patch.bytes → get_or (put patch base) i 0 ≡ get_or patch.bytes (i - patch.at) 0
  unfolding put
  byte_in low high =
      get_or-append_right (take patch.at base) (patch.bytes ++ drop (patch.at + length patch.bytes) base) patch.at i 0 first_part low
      ∙ get_or_append_left patch.bytes (drop (patch.at + length patch.bytes) base) 0 (i - patch.at) (omega arith)

  -- a byte after the patch
  byte_behind : patch.at + length patch.bytes ≤ i → get_or (put patch base) i 0 ≡ get_or base i 0
  unfolding put
  byte_behind high =
      let whole : patch.at + length patch.bytes + (i - patch.at - length patch.bytes) ≡ i = omega arith in
      get_or-append_right (take patch.at base) (patch.bytes ++ drop (patch.at + length patch.bytes) base) patch.at i 0 first_part (omega arith)
      ∙ get_or-append_right patch.bytes (drop (patch.at + length patch.bytes) base) (length patch.bytes) (i - patch.at) 0 refl (omega arith)
      ∙ get_or-drop (patch.at + length patch.bytes) base (i - patch.at - length patch.bytes) 0
      ∙ ap (λ k. get_or base k 0) whole

  -- each byte once a patch is stored
  pub byte_put : get_or (put patch base) i 0 ≡ byte_with patch i (get_or base i 0)
  byte_put =
      elim (cases_lt i patch.at) [
        | inl low ↦ byte_before low ∙ sym (byte_with_low patch i (get_or base i 0) low)
        | inr from ↦ elim (cases_lt i (patch.at + length patch.bytes)) [
          | inl high ↦ byte_in from high ∙ sym (byte_with_in patch i (get_or base i 0) from high)
          | inr past ↦ byte_behind past ∙ sym (byte_with_high patch i (get_or base i 0) past)
        ]
      ]

-- patches that lie within a list lie within it once one is stored
inside_after :
    (patch : StoredBytes) (patches : List StoredBytes) (base : List ℕ)
    → AllInside (length base) (patch ∷ patches) → AllInside (length (put patch base)) patches
inside_after patch patches base inside =
    rw (length-put patch base (All-head (IsInside (length base)) patch patches inside))
    (All-tail (IsInside (length base)) patch patches inside)

pub length_kept : LengthKept
unfolding patched
length_kept [] base inside = refl
length_kept (patch ∷ patches) base inside =
    length_kept patches (put patch base) (inside_after patch patches base inside)
    ∙ length-put patch base (All-head (IsInside (length base)) patch patches inside)

pub byte_patched : BytePatched
unfolding patched byte_after
byte_patched [] base i inside = refl
byte_patched (patch ∷ patches) base i inside =
    byte_patched patches (put patch base) i (inside_after patch patches base inside)
    ∙ ap (byte_after patches i) (byte_put patch base i (All-head (IsInside (length base)) patch patches inside))

-- The part of a patch that falls into a window.
module _ (patch : StoredBytes) (low n : ℕ) where
  length-clipped : length (clipped low n patch).bytes ≡ min (n - (patch.at - low)) (length patch.bytes - (low - patch.at))
  unfolding clipped
  length-clipped = simp (length-take, length-drop)

  at-clipped : (clipped low n patch).at ≡ min (patch.at - low) n
  unfolding clipped
  at-clipped = refl

  clipped_inside : IsInside n (clipped low n patch)
  clipped_inside = let l = length-clipped in let a = at-clipped in omega arith

  byte_clipped : (i : ℕ) → i < n → patch.at ≤ low + i → low + i < patch.at + length patch.bytes
      → get_or (clipped low n patch).bytes (i - (clipped low n patch).at) 0 ≡ get_or patch.bytes (low + i - patch.at) 0
  unfolding clipped
  byte_clipped i here from high =
      let place : i - min (patch.at - low) n ≡ i - (patch.at - low) = omega arith in
      let whole : low - patch.at + (i - (patch.at - low)) ≡ low + i - patch.at = omega arith in
      ap (λ k. get_or (take (n - (patch.at - low)) (drop (low - patch.at) patch.bytes)) k 0) place
      ∙ get_or-take (n - (patch.at - low)) (drop (low - patch.at) patch.bytes) (i - (patch.at - low)) 0 (omega arith)
      ∙ get_or-drop (low - patch.at) patch.bytes (i - (patch.at - low)) 0
      ∙ ap (λ k. get_or patch.bytes k 0) whole

  -- a byte of the window is the byte of the section
  byte_with_clipped : (i byte : ℕ) → i < n → byte_with patch (low + i) byte ≡ byte_with (clipped low n patch) i byte
  byte_with_clipped i byte here =
      let l = length-clipped in
      let a = at-clipped in
      elim (cases_lt (low + i) patch.at) [
        | inl before ↦
            byte_with_low patch (low + i) byte before ∙ sym (byte_with_low (clipped low n patch) i byte (omega arith))
        | inr from ↦ elim (cases_lt (low + i) (patch.at + length patch.bytes)) [
          | inl high ↦
              byte_with_in patch (low + i) byte from high
              ∙ sym (byte_clipped i here from high)
              ∙ sym (byte_with_in (clipped low n patch) i byte (omega arith) (omega arith))
          | inr past ↦
              byte_with_high patch (low + i) byte past
              ∙ sym (byte_with_high (clipped low n patch) i byte (omega arith))
        ]
      ]

-- a window once a patch is stored
pub window_put :
    (patch : StoredBytes) (base : List ℕ) (low n : ℕ) → IsInside (length base) patch → low + n ≤ length base
    → slice (put patch base) low n ≡ put (clipped low n patch) (slice base low n)
window_put patch base low n inside fits =
    let kept = length-put patch base inside in
    let fits_now : low + n ≤ length (put patch base) = omega arith in
    let window = slice-size base low n fits in
    let window_now = slice-size (put patch base) low n fits_now in
    let part_inside : IsInside (length (slice base low n)) (clipped low n patch)
    = let c = clipped_inside patch low n in omega arith in
    let part_kept = length-put (clipped low n patch) (slice base low n) part_inside in
    ext_get_or 0 (slice (put patch base) low n) (put (clipped low n patch) (slice base low n)) (window_now ∙ sym window ∙ sym part_kept)
    (λ i h.
    let here : i < n = omega arith in
    get_or-slice (put patch base) low n i here
    ∙ byte_put patch base (low + i) inside
    ∙ byte_with_clipped patch low n i (get_or base (low + i) 0) here
    ∙ ap (byte_with (clipped low n patch) i) (sym (get_or-slice base low n i here))
    ∙ sym (byte_put (clipped low n patch) (slice base low n) i part_inside))

pub window_patched : WindowPatched
unfolding patched
window_patched [] base low n inside fits = refl
window_patched (patch ∷ patches) base low n inside fits =
    let first = All-head (IsInside (length base)) patch patches inside in
    let kept = length-put patch base first in
    window_patched patches (put patch base) low n (inside_after patch patches base inside) (omega arith)
    ∙ ap (patched (map (clipped low n) patches)) (window_put patch base low n first fits)

take-put : (patch : StoredBytes) (base : List ℕ) (low : ℕ) → IsInside (length base) patch → low ≤ patch.at → take low (put patch base) ≡ take low base
unfolding put
take-put patch base low inside before =
    let l : low ≤ length (take patch.at base) = simp length-take (omega arith) in
    take-append-le low (take patch.at base) (patch.bytes ++ drop (patch.at + length patch.bytes) base) l
    ∙ take-take low patch.at base before

pub final_below : FinalBelow
unfolding patched
final_below [] base low inside behind = refl
final_below (patch ∷ patches) base low inside behind =
    final_below patches (put patch base) low (inside_after patch patches base inside)
    (All-tail (λ p. low ≤ p.at) patch patches behind)
    ∙ take-put patch base low (All-head (IsInside (length base)) patch patches inside)
    (All-head (λ p. low ≤ p.at) patch patches behind)

drop-put :
    (patch : StoredBytes) (base : List ℕ) (high : ℕ) → IsInside (length base) patch → patch.at + length patch.bytes ≤ high
    → drop high (put patch base) ≡ drop high base
unfolding put
drop-put patch base high inside before =
    let two : drop (length patch.bytes) (drop patch.at base) ≡ drop (patch.at + length patch.bytes) base
    = drop-drop (length patch.bytes) patch.at base in
    rw two at (drop-put_mid patch.at (length patch.bytes) base patch.bytes high before (omega arith) refl)

pub kept_above : KeptAbove
unfolding patched
kept_above [] base high inside before = refl
kept_above (patch ∷ patches) base high inside before =
    kept_above patches (put patch base) high (inside_after patch patches base inside)
    (All-tail (λ p. p.at + length p.bytes ≤ high) patch patches before)
    ∙ drop-put patch base high (All-head (IsInside (length base)) patch patches inside)
    (All-head (λ p. p.at + length p.bytes ≤ high) patch patches before)
