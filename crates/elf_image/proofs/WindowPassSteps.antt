-- The loop that patches a window, step by step.
use Rattle.std.proofs.Common.{◌≡◌, ℕ, ◌+◌, ◌-◌, ◌%◌, ◌^◌, ◌<◌, ◌≤◌, min, Bool, false, List, [], ◌∷◌, ◌++◌, All, length, get_or, Ok, refl, sym, ap, subst, ◌∙◌, arith, append_assoc}
use Rattle.std.proofs.lemmas.List.Elements.{All-head, All-tail}
use Rattle.elf_model.specs.Image.{ImageChange, ImageSource, SegmentWrite, Stores as StoresSome, writes_of}
use Rattle.elf_model.specs.Prelude.{p_memsz, p_vaddr, segment_at}
use Rattle.elf_model.proofs.ChangeLaws.{length-little}
use Rattle.elf_image.specs.Changes.{GoesInTurn, Rises, StoresAs, StoresInTurn, segment_word}
use Rattle.elf_image.specs.SegmentParts.{IsWindowOf, KeepsEdges}
use Rattle.elf_image.specs.Written.{IsTargetOf, MeetsBefore, PatchesWindow, bytes_before}
use Rattle.elf_image.specs.declared.changes.PlacedBytes.{PlacedBytes}
use Rattle.elf_image.specs.declared.changes.RelocatedBytes.{RelocatedBytes}
use Rattle.elf_image.specs.declared.changes.RelocatedBytes.TheVariants as stored
use Rattle.elf_image.specs.declared.rela_rows.WindowReach.{WindowReach}
use Rattle.elf_image.specs.declared.segment_windows.ImageTarget.{ImageTarget}
use Rattle.elf_image.specs.declared.walk.ImageWalk.{ImageWalk}
use Rattle.elf_image.specs.declared.walk.WalkStep.{WalkStep}
use Rattle.elf_image.specs.declared.walk.WalkStep.TheVariants as step
use Rattle.elf_image.specs.declared.window.ImageWindow.{ImageWindow}
use Rattle.elf_image.proofs.PassSteps.{segment-as}
use Rattle.elf_image.proofs.PatchSteps.{PassesWrites, far_kept, patches_none, patches_then, rest_stored}
use Rattle.elf_image.proofs.StoreSteps.{KeepsFrom, kept_after, meets_kept}
use Rattle.elf_image.proofs.WriteLaws.{IsFitting}

-- the addresses at which at most 16 bytes may be in a window, of a segment at an address
pub record IsReachOf (segment : ℕ) (window : ImageWindow) (reach : WindowReach) : Type 0 where
  pub first : reach.first ≡ min (segment + window.low) (2 ^ 64 - 1) - 15
  pub last : reach.last ≡ min (min (segment + window.low) (2 ^ 64 - 1) + length window.bytes.now) (2 ^ 64 - 1)

-- what is kept is kept by one call after another
pub edges_then : (a b c : ImageWindow) → KeepsEdges a b → KeepsEdges b c → KeepsEdges a c
edges_then a b c p q = record { low = q.low ∙ p.low; before = q.before ∙ p.before; after = q.after ∙ p.after; long = q.long ∙ p.long }

-- relative relocations go on rising after a step that stores nothing
pub goes_rises : (file : List ℕ) (old new : ImageWalk) (taken : WalkStep) → ((placed : PlacedBytes) → taken ≡ step.Stores placed → ⊥) → (taken ≡ step.End → ⊥) → GoesInTurn file old new taken → Rises old new
goes_rises file old new (step.Stores placed) stores ends goes = absurd (stores placed refl)
goes_rises file old new (step.Lacks ordered cause) stores ends goes = goes
goes_rises file old new step.Nothing stores ends goes = goes
goes_rises file old new step.End stores ends goes = absurd (ends refl)

-- a list of which nothing is left
nothing-left : (seen rest : List SegmentWrite) → rest ≡ [] → seen ++ rest ≡ seen
nothing-left seen rest none = ap (λ (xs : List SegmentWrite). seen ++ xs) none ∙ go seen
  where
    go : (xs : List SegmentWrite) → xs ++ [] ≡ xs
    go [] = refl
    go (x ∷ xs) = ap (λ (ys : List SegmentWrite). x ∷ ys) (go xs)

all-back : (P : SegmentWrite → Type 0) (front back : List SegmentWrite) → All P (front ++ back) → All P back
all-back P [] back all = all
all-back P (first ∷ front) back all = all-back P front back (All-tail P first (front ++ back) all)

module _ (source : ImageSource) (partial : Bool) (target : ImageTarget) (writes : List SegmentWrite) (first : ImageWindow) where
  abbrev base : List ℕ
  base = bytes_before source target

  -- WHAT WAS SEEN: the window has it, and relative relocations to come meet bytes before relocations
  pub record PatchedSo (left : List ImageChange) (walk : ImageWalk) (now : ImageWindow) : Type 0 where
    pub seen : List SegmentWrite
    pub rest : List SegmentWrite
    pub split : writes ≡ seen ++ rest
    pub are : writes_of partial left ≡ Ok rest
    pub patches : PatchesWindow target seen first now
    pub kept : walk.past_rows ≡ false → KeepsFrom base target.first walk.rows.low now
    pub fits : All (IsFitting source.file) rest

  module _ (is : IsTargetOf source target) (window : IsWindowOf base first.low first) (inside : first.low + length first.bytes.now ≤ target.size) where
    pub patched_none : (left : List ImageChange) (walk : ImageWalk) → writes_of partial left ≡ Ok writes → All (IsFitting source.file) writes → PatchedSo left walk first
    patched_none left walk are fits = record {
      seen = [];
      rest = writes;
      split = refl;
      are = are;
      patches = patches_none target first;
      kept = λ before i least low high.
          let here : i - first.low < length first.bytes.now = omega (arith, low, high) in
          let place : first.low + (i - first.low) ≡ i = omega (arith, low) in
          window.bytes (i - first.low) here ∙ ap (λ (k : ℕ). get_or base k 0) place;
      fits = fits;
    }

    module _ (before after : List ImageChange) (old new : ImageWalk) (now : ImageWindow) (edges : KeepsEdges first now) (known : PatchedSo before old now) where
      bounded : now.low + length now.bytes.now < 2 ^ 64
      bounded = omega (arith, inside, is.small, edges.low, edges.long)

      module _ (placed : PlacedBytes) (write : SegmentWrite) (form : StoresAs source placed write) (stores : before ≡ StoresSome write ∷ after) (goes : StoresInTurn source.file old new placed × Rises old new) where
        fitting : IsFitting source.file write
        fitting =
            let t = rest_stored partial write before after known.rest stores known.are in
            All-head (IsFitting source.file) write t.0 (subst (λ (xs : List SegmentWrite). All (IsFitting source.file) xs) t.1 known.fits)

        pub stored_within : write.segment ≡ target.index → write.stored.at + length write.stored.bytes < 2 ^ 64
        stored_within same =
            let size : p_memsz source.file (segment_at source.file write.segment) ≡ target.size = ap (λ (i : ℕ). p_memsz source.file (segment_at source.file i)) same ∙ sym is.size in
            omega (arith, fitting.within, size, is.small)

        word-long : placed.bytes ≡ stored.Based → length write.stored.bytes ≡ 8
        word-long based =
            let f = rw based at form in
            ap (λ (w : SegmentWrite). length w.stored.bytes) f ∙ length-little 8 ((segment_word source placed.place.segment placed.place.offset + source.items.base) % 2 ^ 64)

        address : placed.place.segment ≡ target.index → p_vaddr source.file (segment_at source.file placed.place.segment) ≡ target.first
        address here = ap (λ (i : ℕ). p_vaddr source.file (segment_at source.file i)) here ∙ sym is.first

        pub meets_before : MeetsBefore source target now placed
        meets_before = λ based here low high.
            let turn = rw based at goes.0 in
            let place = segment-as source placed write form in
            let end = stored_within (place.0 ∙ here) in
            let long = word-long based in
            let at = address here in
            let least : old.rows.low ≤ target.first + placed.place.offset = omega (arith, turn.1, at) in
            meets_kept source target placed first now old.rows.low window edges bounded (omega (arith, end, long, place.1)) least (known.kept turn.0) low high

        pub still_bounded : now.low + length now.bytes.now < 2 ^ 64
        still_bounded = bounded

        after_word : (next : ImageWindow) → KeepsEdges now next → PatchesWindow target (write ∷ []) now next → (bytes : RelocatedBytes) → placed.bytes ≡ bytes → new.past_rows ≡ false
            → KeepsFrom base target.first new.rows.low next
        after_word next keeps patches stored.Based based before_end =
            let turn = rw based at goes.0 in
            let place = segment-as source placed write form in
            let long = word-long based in
            kept_after target base write old.rows.low new.rows.low now next keeps patches
            (λ same. let at = address (sym place.0 ∙ same) in omega (arith, turn.2, at, long, place.1)) (goes.1 before_end).1 (known.kept turn.0)
        after_word next keeps patches (stored.Value patch) given before_end = let turn = rw given at goes.0 in absurd (cc)
        after_word next keeps patches (stored.Pair one two) given before_end = let turn = rw given at goes.0 in absurd (cc)
        after_word next keeps patches (stored.Copied bytes) given before_end = let turn = rw given at goes.0 in absurd (cc)

        pub patched_stored : (next : ImageWindow) → KeepsEdges now next → PatchesWindow target (write ∷ []) now next → PatchedSo after new next
        patched_stored next keeps patches =
            let t = rest_stored partial write before after known.rest stores known.are in
            record {
              seen = known.seen ++ (write ∷ []);
              rest = t.0;
              split = known.split ∙ (ap (λ (xs : List SegmentWrite). known.seen ++ xs) t.1 ∙ sym (append_assoc known.seen (write ∷ []) t.0));
              are = t.2;
              patches = patches_then target known.seen (write ∷ []) first now next edges.low edges.long known.patches patches;
              kept = after_word next keeps patches placed.bytes refl;
              fits = All-tail (IsFitting source.file) write t.0 (subst (λ (xs : List SegmentWrite). All (IsFitting source.file) xs) t.1 known.fits);
            }

      pub patched_passed : (reach : WindowReach) → reach.first ≡ min (target.first + first.low) (2 ^ 64 - 1) - 15
          → reach.last ≡ min (min (target.first + first.low) (2 ^ 64 - 1) + length first.bytes.now) (2 ^ 64 - 1) → Rises old new
          → PassesWrites source.file partial reach after known.rest → PatchedSo after new now
      patched_passed reach low high rises passes = record {
        seen = known.seen ++ passes.passed;
        rest = passes.left;
        split = known.split ∙ (ap (λ (xs : List SegmentWrite). known.seen ++ xs) passes.split ∙ sym (append_assoc known.seen passes.passed passes.left));
        are = passes.are;
        patches =
            let far = far_kept source.file reach target first.low (length first.bytes.now) passes.passed now.bytes.now edges.long low high is.first is.end inside passes.far in
            let same : PatchesWindow target passes.passed now now = rw (edges.low, edges.long) far in
            patches_then target known.seen passes.passed first now now edges.low edges.long known.patches same;
        kept = λ before_end. let r = rises before_end in λ i least. known.kept r.0 i (omega (arith, least, r.1));
        fits = all-back (IsFitting source.file) passes.passed passes.left (subst (λ (xs : List SegmentWrite). All (IsFitting source.file) xs) passes.split known.fits);
      }

    pub patched_all : (left : List ImageChange) (walk : ImageWalk) (now : ImageWindow) → PatchedSo left walk now → left ≡ [] → PatchesWindow target writes first now
    unfolding writes_of
    patched_all left walk now known none =
        let empty : Ok [] ≡ Ok known.rest = sym (ap (writes_of partial) none) ∙ known.are in
        let rest : known.rest ≡ [] = cc in
        let all : known.seen ≡ writes = sym (nothing-left known.seen known.rest rest) ∙ sym known.split in
        subst (λ (xs : List SegmentWrite). PatchesWindow target xs first now) all known.patches
