-- A change that is stored into a window, and which bytes of it are those before relocations.
use Rattle.std.proofs.Common.{◌≡◌, ℕ, ◌+◌, ◌-◌, ◌%◌, ◌^◌, ◌<◌, ◌≤◌, ◌&&◌, nat_lt, nat_le, min, false, List, [], ◌∷◌, length, get_or, inl, inr, refl, sym, ap, subst, ◌∙◌, arith, length-take, length-drop}
use Rattle.std.proofs.lemmas.Bool.{and_right, cases_eq, le-ltb}
use Rattle.elf_model.specs.Apply.{StoredBytes, put}
use Rattle.elf_model.specs.ApplyLaws.{IsInside, byte_with, clipped}
use Rattle.elf_model.specs.Bytes.{field, little}
use Rattle.elf_model.specs.Image.{ImageSource, SegmentWrite}
use Rattle.elf_model.proofs.PatchLaws.{byte_put}
use Rattle.elf_image.specs.Changes.{StoresAs, segment_word}
use Rattle.elf_image.specs.SegmentParts.{IsWindowOf, KeepsEdges, MeetsWord, PutsBytes}
use Rattle.elf_image.specs.Values.{IsGiven, stored_as}
use Rattle.elf_image.specs.Written.{MeetsBefore, PatchesWindow, bytes_before}
use Rattle.elf_image.specs.declared.changes.PlacedBytes.{PlacedBytes}
use Rattle.elf_image.specs.declared.changes.RelocatedBytes.{RelocatedBytes}
use Rattle.elf_image.specs.declared.changes.RelocatedBytes.TheVariants as stored
use Rattle.elf_image.specs.declared.segment_windows.ImageTarget.{ImageTarget}
use Rattle.elf_image.specs.declared.window.ImageWindow.{ImageWindow}
use Rattle.elf_image.proofs.PassSteps.{segment-as}
use Rattle.elf_image.proofs.PatchSteps.{patches_elsewhere, patches_here, put_elsewhere, put_here}

-- A CHANGE IS STORED
abbrev placed_at : (offset : ℕ) → List ℕ → StoredBytes
placed_at offset bytes = record { at = offset; bytes = bytes }

module _ (source : ImageSource) (target : ImageTarget) (placed : PlacedBytes) (write : SegmentWrite) (old new : ImageWindow) where
  put_as : (bytes : List ℕ) → write.segment ≡ target.index → write.stored ≡ placed_at placed.place.offset bytes → PutsBytes old new placed.place.offset bytes
      → old.low + length old.bytes.now < 2 ^ 64 → (write.segment ≡ target.index → write.stored.at + length write.stored.bytes < 2 ^ 64) → PatchesWindow target (write ∷ []) old new
  put_as bytes same is puts fits ends =
      let end : placed.place.offset + length bytes < 2 ^ 64 = subst (λ (s : StoredBytes). s.at + length s.bytes < 2 ^ 64) is (ends same) in
      patches_here target write old new same (puts fits end ∙ ap (λ (s : StoredBytes). put (clipped old.low (length old.bytes.now) s) old.bytes.now) (sym is))

  given_as : (bytes : RelocatedBytes) → placed.bytes ≡ bytes → IsGiven bytes → StoresAs source placed write → write.stored ≡ placed_at placed.place.offset (stored_as placed.bytes)
  given_as stored.Based is given form = absurd given
  given_as (stored.Value patch) is given form = let f = rw is at form in rw is (ap (λ (w : SegmentWrite). w.stored) f)
  given_as (stored.Pair first second) is given form = let f = rw is at form in rw is (ap (λ (w : SegmentWrite). w.stored) f)
  given_as (stored.Copied bytes) is given form = let f = rw is at form in rw is (ap (λ (w : SegmentWrite). w.stored) f)

  based_as : (base : ℕ) → placed.bytes ≡ stored.Based → base ≡ source.items.base → placed.place.segment ≡ target.index → StoresAs source placed write
      → write.stored ≡ placed_at placed.place.offset (little 8 ((field (bytes_before source target) placed.place.offset 8 + base) % 2 ^ 64))
  based_as base is same here form =
      let f = rw is at form in
      let offset = placed.place.offset in
      ap (λ (w : SegmentWrite). w.stored) f
      ∙ (ap (λ (i : ℕ). placed_at offset (little 8 ((segment_word source i offset + source.items.base) % 2 ^ 64))) here
      ∙ ap (λ (b : ℕ). placed_at offset (little 8 ((segment_word source target.index offset + b) % 2 ^ 64))) (sym same))

  pub store_here : (base : ℕ) → base ≡ source.items.base → placed.place.segment ≡ target.index → StoresAs source placed write → MeetsBefore source target old placed
      → old.low + length old.bytes.now < 2 ^ 64 → (write.segment ≡ target.index → write.stored.at + length write.stored.bytes < 2 ^ 64)
      → ((whole : List ℕ) → placed.bytes ≡ stored.Based
      → (old.low < placed.place.offset + 8 → placed.place.offset < old.low + length old.bytes.now → MeetsWord whole old placed.place.offset)
      → PutsBytes old new placed.place.offset (little 8 ((field whole placed.place.offset 8 + base) % 2 ^ 64)))
      → (IsGiven placed.bytes → PutsBytes old new placed.place.offset (stored_as placed.bytes)) → PatchesWindow target (write ∷ []) old new
  store_here base same here form meets fits ends based given = go placed.bytes refl
    where
      segment : write.segment ≡ target.index
      segment = (segment-as source placed write form).0 ∙ here

      go : (bytes : RelocatedBytes) → placed.bytes ≡ bytes → PatchesWindow target (write ∷ []) old new
      go stored.Based is =
          put_as (little 8 ((field (bytes_before source target) placed.place.offset 8 + base) % 2 ^ 64)) segment (based_as base is same here form) (based (bytes_before source target) is (meets is here)) fits ends
      go (stored.Value patch) is = put_as (stored_as placed.bytes) segment (given_as placed.bytes refl (rw is tt) form) (given (rw is tt)) fits ends
      go (stored.Pair first second) is = put_as (stored_as placed.bytes) segment (given_as placed.bytes refl (rw is tt) form) (given (rw is tt)) fits ends
      go (stored.Copied bytes) is = put_as (stored_as placed.bytes) segment (given_as placed.bytes refl (rw is tt) form) (given (rw is tt)) fits ends

  pub store_elsewhere : (placed.place.segment ≡ target.index → ⊥) → StoresAs source placed write → new.bytes.now ≡ old.bytes.now → PatchesWindow target (write ∷ []) old new
  store_elsewhere other form same = patches_elsewhere target write old new (λ here. other (sym (segment-as source placed write form).0 ∙ here)) same

-- BYTES BEFORE RELOCATIONS: a window has them from an address on
abbrev pub KeepsFrom : (base : List ℕ) (first from : ℕ) → ImageWindow → Type 0
KeepsFrom base first from window =
    (i : ℕ) → from ≤ first + i → window.low ≤ i → i < window.low + length window.bytes.now → get_or window.bytes.now (i - window.low) 0 ≡ get_or base i 0

-- those after a patch are kept
put-above : (patch : StoredBytes) (low i : ℕ) (bytes : List ℕ) → low ≤ i → i < low + length bytes → patch.at + length patch.bytes ≤ i
    → get_or (put (clipped low (length bytes) patch) bytes) (i - low) 0 ≡ get_or bytes (i - low) 0
unfolding clipped byte_with
put-above patch low i bytes from high past =
    let n = length bytes in
    let part = clipped low n patch in
    let long : length part.bytes ≡ min (n - (patch.at - low)) (length patch.bytes - (low - patch.at)) = simp (length-take, length-drop) in
    let place : part.at ≡ min (patch.at - low) n = refl in
    let inside : IsInside n part = omega (arith, long, place) in
    let end : part.at + length part.bytes ≤ i - low = omega (arith, long, place, from, high, past) in
    let no : (nat_le part.at (i - low) && nat_lt (i - low) (part.at + length part.bytes)) ≡ false = and_right (nat_le part.at (i - low)) (nat_lt (i - low) (part.at + length part.bytes)) (le-ltb (i - low) (part.at + length part.bytes) end) in
    byte_put part bytes (i - low) inside ∙ rw (no, byte_with) refl

pub kept_after : (target : ImageTarget) (base : List ℕ) (write : SegmentWrite) (from next : ℕ) (a b : ImageWindow) → KeepsEdges a b → PatchesWindow target (write ∷ []) a b
    → (write.segment ≡ target.index → target.first + (write.stored.at + length write.stored.bytes) ≤ next) → from ≤ next
    → KeepsFrom base target.first from a → KeepsFrom base target.first next b
kept_after target base write from next a b edges patches ends rises kept = λ i least low high.
    let below : a.low ≤ i = omega (arith, low, edges.low) in
    let within : i < a.low + length a.bytes.now = omega (arith, high, edges.low, edges.long) in
    let before : get_or a.bytes.now (i - a.low) 0 ≡ get_or base i 0 = kept i (omega (arith, least, rises)) below within in
    let place : get_or b.bytes.now (i - b.low) 0 ≡ get_or b.bytes.now (i - a.low) 0 = ap (λ (l : ℕ). get_or b.bytes.now (i - l) 0) edges.low in
    elim (cases_eq write.segment target.index) [
      | inl same ↦
          let puts : b.bytes.now ≡ put (clipped a.low (length a.bytes.now) write.stored) a.bytes.now = put_here target write a b same patches in
          let end = ends same in
          place ∙ (ap (λ (bytes : List ℕ). get_or bytes (i - a.low) 0) puts ∙ (put-above write.stored a.low i a.bytes.now below within (omega (arith, end, least)) ∙ before))
      | inr other ↦ place ∙ (ap (λ (bytes : List ℕ). get_or bytes (i - a.low) 0) (put_elsewhere target write a b other patches) ∙ before)
    ]

-- a word that comes next meets them
pub meets_kept : (source : ImageSource) (target : ImageTarget) (placed : PlacedBytes) (first now : ImageWindow) (from : ℕ) → IsWindowOf (bytes_before source target) first.low first → KeepsEdges first now
    → now.low + length now.bytes.now < 2 ^ 64 → placed.place.offset + 8 < 2 ^ 64 → from ≤ target.first + placed.place.offset
    → KeepsFrom (bytes_before source target) target.first from now → now.low < placed.place.offset + 8 → placed.place.offset < now.low + length now.bytes.now
    → MeetsWord (bytes_before source target) now placed.place.offset
meets_kept source target placed first now from window edges fits end least kept low high = record {
  edges = record {
    before = λ i few past.
        let here : 7 ≤ first.low + i = omega (arith, past, edges.low) in
        ap (λ (bytes : List ℕ). get_or bytes i 0) edges.before ∙ (window.edges.before i few here ∙ ap (λ (l : ℕ). get_or (bytes_before source target) (l + i - 7) 0) (sym edges.low));
    after = λ i few.
        ap (λ (bytes : List ℕ). get_or bytes i 0) edges.after
        ∙ (window.edges.after i few ∙ (ap (λ (l : ℕ). get_or (bytes_before source target) (l + length first.bytes.now + i) 0) (sym edges.low) ∙ ap (λ (n : ℕ). get_or (bytes_before source target) (now.low + n + i) 0) (sym edges.long)));
  };
  fits = fits;
  end = end;
  from = low;
  to = high;
  kept = λ i at past below within. kept i (omega (arith, least, at)) below within;
}
