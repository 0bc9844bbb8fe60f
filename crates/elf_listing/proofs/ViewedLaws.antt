-- Program headers that are loaded remain those of a source that is read, and are checked if a style
-- uses them.
use Rattle.std.proofs.Common.{◌≡◌, ℕ, ◌^◌, ◌==◌, ◌&&◌, nat_lt, Bool, true, false, List, [], None, Some, if◌then◌else◌, refl, ap, ◌∙◌, sym, eq-eqb}
use Rattle.std.proofs.lemmas.Bool.{ltb-false, ltb-true}
use Rattle.elf_model.specs.Prelude.{ListingStyle, e_shnum, first_refusal, length_checks, needs_segments, overlap_checks, view_checks}
use Rattle.elf_model.specs.declared.causes.Cause.TheVariants.{Short, TooLong}
use Rattle.elf_model.specs.declared.causes.Refusal.{Refusal}
use Rattle.elf_source.specs.Source.{CountedState, ReadsUpTo}
use Rattle.elf_table.specs.Prelude.{HoldsSectionHeaders, LoadedFile, StoreState}
use Rattle.elf_listing.specs.Viewed.{HasLength, IsViewed, needs_segment_view, viewed_headers}

-- a length that its checks do not refuse
pub length_fits : (size : ℕ) → ((refusal : Refusal) → first_refusal (length_checks size) ≡ Some refusal → ⊥) → HasLength size
length_fits size passes = by_tests (nat_lt size (2 ^ 63)) (nat_lt size 64) refl refl
  where
    by_tests : (small short : Bool) → nat_lt size (2 ^ 63) ≡ small → nat_lt size 64 ≡ short → HasLength size
    by_tests false short few least = absurd (passes (record { at = size; cause = TooLong }) (rw few refl))
    by_tests true true few least = absurd (passes (record { at = size; cause = Short }) (rw (few, least) refl))
    by_tests true false few least = record { least = ltb-false size 64 least; small = ltb-true size (2 ^ 63) few }

pub still_viewed : {a b : CountedState} {n : ℕ} (loaded : LoadedFile) (store : StoreState) → ReadsUpTo a b n → IsViewed a.seen.file loaded store → IsViewed b.seen.file loaded store
still_viewed loaded store p viewed = record { fits = viewed.fits; all = viewed.all; held = λ file is. viewed.held file (sym p.keeps.same_file ∙ is) }

-- a style does not use them
pub not_by : (by : Bool) → by ≡ false → by ≡ true → ⊥
not_by true n b = cc
not_by false n b = cc

-- if the style uses them the file has no sections, and if the parts need them they are loaded
needed : (file : List ℕ) (style : ListingStyle) (parts : ℕ) (loaded : LoadedFile) (store : StoreState) → HoldsSectionHeaders file loaded store → e_shnum file ≡ 0
    → needs_segments file style parts ≡ needs_segment_view style parts loaded
needed file style parts loaded store belongs none =
    let told : (e_shnum file == 0) ≡ true = eq-eqb (e_shnum file) 0 none in
    let held : (loaded.header.e_shnum == 0) ≡ true = eq-eqb loaded.header.e_shnum 0 (belongs.header.e_shnum ∙ none) in
    rw (held, told) refl

checks_by : (file : List ℕ) (style : ListingStyle) (parts : ℕ) (loaded : LoadedFile) (store : StoreState) (by : Bool) → style.by_segments ≡ by
    → HoldsSectionHeaders file loaded store → (by ≡ true → e_shnum file ≡ 0)
    → view_checks file style parts ≡ (if by && needs_segment_view style parts loaded then overlap_checks file else [])
unfolding view_checks
checks_by file style parts loaded store true by belongs none =
    let same = needed file style parts loaded store belongs (none refl) in
    ap (λ (b : Bool). if b && needs_segments file style parts then overlap_checks file else []) by
    ∙ ap (λ (b : Bool). if b then overlap_checks file else []) same
checks_by file style parts loaded store false by belongs none =
    ap (λ (b : Bool). if b && needs_segments file style parts then overlap_checks file else []) by

module _ (file : List ℕ) (style : ListingStyle) (parts : ℕ) (loaded : LoadedFile) (store : StoreState) (belongs : HoldsSectionHeaders file loaded store)
    (none : style.by_segments ≡ true → e_shnum file ≡ 0) where
  -- which checks are made
  pub unchecked : style.by_segments && needs_segment_view style parts loaded ≡ false → first_refusal (view_checks file style parts) ≡ None
  unchecked other =
      ap first_refusal (checks_by file style parts loaded store style.by_segments refl belongs none
      ∙ ap (λ (b : Bool). if b then overlap_checks file else []) other)

  pub checked : style.by_segments && needs_segment_view style parts loaded ≡ true → view_checks file style parts ≡ overlap_checks file
  checked asked =
      checks_by file style parts loaded store style.by_segments refl belongs none
      ∙ ap (λ (b : Bool). if b then overlap_checks file else []) asked

-- and all of them are loaded
pub all_viewed : (by : Bool) (style : ListingStyle) (parts : ℕ) (loaded : LoadedFile) → by && needs_segment_view style parts loaded ≡ true → viewed_headers style parts loaded ≡ loaded.header.e_phnum
all_viewed true style parts loaded h = ap (λ (b : Bool). if b then loaded.header.e_phnum else 0) h
all_viewed false style parts loaded h = cc
