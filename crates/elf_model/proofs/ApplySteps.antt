-- Applying stage by stage: the result, the section's bytes, the order of the offsets and the cost.
use Rattle.std.proofs.Common.{◌≡◌, ℕ, ◌+◌, ◌*◌, ◌==◌, inl, inr, true, false, List, [], ◌∷◌, ◌++◌, None, Some, Ok, Err, refl, ap}
use Rattle.std.proofs.lemmas.Bool.{cases_Bool}
use Rattle.elf_model.specs.Prelude.{Layout, R_X86_64_NONE, StoredBytes, applied, apply_cost, apply_cost_by_order, apply_cost_in_order, before_entries, changes_of, cost_of_passes, cost_with, e_shnum, early_checks, first_refusal, header_checks, held_bytes, offsets_at, offsets_never_fall, patched, patches_of, r_offset, r_type, section_at, target_of}
use Rattle.elf_model.specs.declared.causes.Refusal.{Refusal}

-- the stages of the result
module _ (file : List ℕ) (headers section : ℕ) (layout : Layout) where
  pub applied-refused :
      (refusal : Refusal) → first_refusal (before_entries file headers section) ≡ Some refusal
      → applied file headers section layout ≡ Err refusal
  unfolding applied
  applied-refused refusal e = rw (e, applied) refl

  pub applied-fault :
      (refusal : Refusal) → first_refusal (before_entries file headers section) ≡ None
      → patches_of (changes_of (target_of file section layout)) ≡ Err refusal
      → applied file headers section layout ≡ Err refusal
  unfolding applied
  applied-fault refusal e f = rw (e, applied) (rw (f, applied) refl)

  pub applied-patched :
      (patches : List StoredBytes) → first_refusal (before_entries file headers section) ≡ None
      → patches_of (changes_of (target_of file section layout)) ≡ Ok patches
      → applied file headers section layout ≡ Ok (patched patches (held_bytes file (section_at file section)))
  unfolding applied
  applied-patched patches e f = rw (e, applied) (rw (f, applied) refl)

  pub cost_with-early :
      (passes : ℕ) (refusal : Refusal) → first_refusal (header_checks file ++ early_checks file headers) ≡ Some refusal
      → cost_with file headers section layout passes ≡ 64
  unfolding cost_with
  cost_with-early passes refusal e = rw (e, cost_with) refl

  pub cost_with-refused :
      (passes : ℕ) (refusal : Refusal) → first_refusal (header_checks file ++ early_checks file headers) ≡ None
      → first_refusal (before_entries file headers section) ≡ Some refusal
      → cost_with file headers section layout passes ≡ 64 + 64 * e_shnum file
  unfolding cost_with
  cost_with-refused passes refusal e f = rw (e, cost_with) (rw (f, cost_with) refl)

  pub cost_with-passed :
      (passes : ℕ) → first_refusal (header_checks file ++ early_checks file headers) ≡ None
      → first_refusal (before_entries file headers section) ≡ None
      → cost_with file headers section layout passes ≡ 64 + 64 * e_shnum file + cost_of_passes file section layout passes
  unfolding cost_with
  cost_with-passed passes e f = rw (e, cost_with) (rw (f, cost_with) refl)

  pub cost_by_order-falls :
      offsets_never_fall file section ≡ false
      → apply_cost_by_order file headers section layout ≡ apply_cost file headers section layout
  unfolding apply_cost_by_order
  cost_by_order-falls e = rw (e, apply_cost_by_order) refl

  pub cost_by_order-never_falls :
      offsets_never_fall file section ≡ true
      → apply_cost_by_order file headers section layout ≡ apply_cost_in_order file headers section layout
  unfolding apply_cost_by_order
  cost_by_order-never_falls e = rw (e, apply_cost_by_order) refl

-- the offsets of entries in two parts
pub offsets_at-append :
    (file first second : List ℕ) → offsets_at file (first ++ second) ≡ offsets_at file first ++ offsets_at file second
unfolding offsets_at
offsets_at-append file [] second = refl
offsets_at-append file (entry ∷ first) second =
    elim (cases_Bool (r_type file entry == R_X86_64_NONE)) [
      | inl none ↦ rw (none, offsets_at) (offsets_at-append file first second)
      | inr some ↦ rw (some, offsets_at) (ap (λ rest. r_offset file entry ∷ rest) (offsets_at-append file first second))
    ]
