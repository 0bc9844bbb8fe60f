-- What relocation entries store is their value, and lies in the section.
use Rattle.std.proofs.Common.{◌≡◌, ℕ, zero, suc, ◌+◌, ◌/◌, ◌≤◌, ◌==◌, inl, inr, true, false, nat_lt, List, [], ◌∷◌, ◌++◌, length, flat_map, All, Option, None, Some, Result, Ok, Err, refl, sym, ap, ◌∙◌, arith}
use Rattle.std.proofs.lemmas.Bool.{cases_Bool, ltb-false}
use Rattle.std.proofs.lemmas.List.Elements.{All-nil, All-cons, All-append, All-head, All-tail}
use Rattle.elf_model.specs.Prelude.{AllInside, ApplyTarget, ChangesInside, EntryStoresValue, Fails, FormulaTerms, IsInside, Put, R_X86_64_NONE, SectionChange, StoredBytes, and_patches, applies_to, change_of, changes_of, entry_changes, entry_checks, first_refusal, has_base, kind_of, little, low_bytes, named_value, overflows, patch_of, patches_of, place_value, r_offset, r_type, refuse, relocation_entries, relocation_table_checks, section_changes, section_headers, symbol_checks, takes_place, terms_of, value_checks, value_of, where_based}
use Rattle.elf_model.specs.declared.causes.Cause.TheVariants.{Overflow, PlaceOutside}
use Rattle.elf_model.specs.declared.causes.Refusal.{Refusal}
use Rattle.elf_model.specs.declared.relocation_types.RelocationType.{RelocationType}
use Rattle.elf_model.proofs.CheckSteps.{first_refusal-back}

pub length-little : (width n : ℕ) → length (little width n) ≡ width
unfolding little
length-little zero n = refl
length-little (suc width) n = ap suc (length-little width (n / 256))

-- a value has as many bytes as its type's width
pub length-patch_of : (type : RelocationType) (terms : FormulaTerms) (bytes : List ℕ) → patch_of type terms ≡ Ok bytes → length bytes ≡ type.width
unfolding patch_of
length-patch_of type terms bytes e =
    elim (cases_Bool (overflows type terms)) [
      | inl over ↦ let here : patch_of type terms ≡ Err Overflow = rw (over, patch_of) refl in absurd (cc)
      | inr fits ↦
          let here : patch_of type terms ≡ Ok (low_bytes type terms) = rw (fits, patch_of) refl in
          let same : low_bytes type terms ≡ bytes = cc in
          ap length (sym same) ∙ length-little type.width (value_of type terms)
    ]

-- a change that stores bytes stores them within the section
IsInsideChange : ℕ → SectionChange → Type 0
IsInsideChange size (Put patch) = IsInside size patch
IsInsideChange size (Fails refusal) = Unit {0}

fails_inside : (size : ℕ) (refusal : Refusal) → IsInsideChange size (Fails refusal)
unfolding IsInsideChange
fails_inside size refusal = tt

-- a property of everything that each item gives is a property of all
all_given : {A : Type 0} (P : A → Type 0) (f : ℕ → List A) (xs : List ℕ) → ((x : ℕ) → All P (f x)) → All P (flat_map f xs)
all_given P f [] each = All-nil P
all_given P f (x ∷ xs) each = All-append P (f x) (flat_map f xs) (each x) (all_given P f xs each)

module _ (target : ApplyTarget) where
  -- the first check of an entry
  room :
      (at rela : ℕ) (type : RelocationType) → first_refusal (entry_checks target at rela type) ≡ None
      → r_offset target.file rela + type.width ≤ target.size
  unfolding entry_checks
  room at rela type e =
      elim (cases_Bool (nat_lt target.size (r_offset target.file rela + type.width))) [
        | inl out ↦ let f = rw out at e in absurd (cc)
        | inr fits ↦ ltb-false target.size (r_offset target.file rela + type.width) fits
      ]

  checked_inside :
      (at rela : ℕ) (type : RelocationType) (refusal : Option Refusal) → first_refusal (entry_checks target at rela type) ≡ refusal
      → IsInsideChange target.size (change_of target at rela (Some type))
  unfolding IsInsideChange change_of
  checked_inside at rela type (Some refusal) e = rw (e, change_of) tt
  checked_inside at rela type None e =
      let fits = room at rela type e in
      let long = length-little type.width (value_of type (terms_of target at rela type)) in
      rw (e, change_of) (omega arith)

  change_inside : (at rela : ℕ) (type : Option RelocationType) → IsInsideChange target.size (change_of target at rela type)
  unfolding IsInsideChange change_of
  change_inside at rela None = tt
  change_inside at rela (Some type) = checked_inside at rela type _ refl

  entry_inside : (at rela : ℕ) → All (IsInsideChange target.size) (entry_changes target at rela)
  unfolding entry_changes
  entry_inside at rela =
      elim (cases_Bool (r_type target.file rela == R_X86_64_NONE)) [
        | inl none ↦ rw (none, entry_changes) (All-nil _)
        | inr some ↦ rw (some, entry_changes) (All-cons (IsInsideChange target.size) _ [] (change_inside at rela _) (All-nil _))
      ]

  table_inside :
      (at : ℕ) (refusal : Option Refusal) → first_refusal (relocation_table_checks target.file at) ≡ refusal
      → applies_to target.file target.section at ≡ true → All (IsInsideChange target.size) (section_changes target at)
  unfolding section_changes
  table_inside at None e on =
      rw (on, section_changes) (rw (e, section_changes)
      (all_given (IsInsideChange target.size) (entry_changes target at) (relocation_entries target.file at) (entry_inside at)))
  table_inside at (Some refusal) e on =
      rw (on, section_changes) (rw (e, section_changes) (All-cons (IsInsideChange target.size) _ [] (fails_inside _ _) (All-nil _)))

  section_inside : (at : ℕ) → All (IsInsideChange target.size) (section_changes target at)
  unfolding section_changes
  section_inside at =
      elim (cases_Bool (applies_to target.file target.section at)) [
        | inl on ↦ table_inside at _ refl on
        | inr off ↦ rw (off, section_changes) (All-nil _)
      ]

-- What an entry stores.
module _ (target : ApplyTarget) (at rela : ℕ) where
  -- the last check of an entry
  in_range : (type : RelocationType) → first_refusal (entry_checks target at rela type) ≡ None → overflows type (terms_of target at rela type) ≡ false
  unfolding entry_checks
  in_range type e =
      let before = refuse (nat_lt target.size (r_offset target.file rela + type.width)) rela PlaceOutside
      ∷ symbol_checks target.file at rela
      ++ value_checks true (named_value type.base target at rela)
      ++ value_checks (takes_place type.formula) (place_value target.file target.layout target.section rela) in
      let last = first_refusal-back before (refuse (overflows type (terms_of target at rela type)) rela Overflow ∷ []) e in
      elim (cases_Bool (overflows type (terms_of target at rela type))) [
        | inl over ↦ let f = rw over at last in absurd (cc)
        | inr fits ↦ fits
      ]

  stored :
      (type : RelocationType) (patch : StoredBytes) (refusal : Option Refusal) → first_refusal (entry_checks target at rela type) ≡ refusal
      → change_of target at rela (Some type) ≡ Put patch
      → (patch.at ≡ r_offset target.file rela) × (patch_of type (terms_of target at rela type) ≡ Ok patch.bytes)
  unfolding change_of patch_of
  stored type patch (Some refusal) e is =
      let here : change_of target at rela (Some type) ≡ Fails refusal = rw (e, change_of) refl in absurd (cc)
  stored type patch None e is =
      let put : StoredBytes = record { at = r_offset target.file rela; bytes = low_bytes type (terms_of target at rela type) } in
      let here : change_of target at rela (Some type) ≡ Put put = rw (e, change_of) refl in
      let same : put ≡ patch = cc in
      let fits = in_range type e in
      let value_is : patch_of type (terms_of target at rela type) ≡ Ok (low_bytes type (terms_of target at rela type)) = rw (fits, patch_of) refl in
      (ap (λ (p : StoredBytes). p.at) (sym same), value_is ∙ ap (λ (p : StoredBytes). Ok p.bytes) same)

  where_based-some : (type : RelocationType) → has_base target.layout type.base ≡ true → where_based target.layout (Some type) ≡ Some type
  unfolding where_based
  where_based-some type based = rw (based, where_based) refl

  where_based-none : (type : RelocationType) → has_base target.layout type.base ≡ false → where_based target.layout (Some type) ≡ None
  unfolding where_based
  where_based-none type none = rw (none, where_based) refl

  value_stored :
      (type : Option RelocationType) (patch : StoredBytes) → kind_of (r_type target.file rela) ≡ type
      → change_of target at rela (where_based target.layout type) ≡ Put patch
      → (type : RelocationType)
      × (kind_of (r_type target.file rela) ≡ Some type)
      × (patch.at ≡ r_offset target.file rela)
      × (patch_of type (terms_of target at rela type) ≡ Ok patch.bytes)
  unfolding change_of where_based
  value_stored None patch k is = absurd (cc)
  value_stored (Some type) patch k is =
      elim (cases_Bool (has_base target.layout type.base)) [
        | inl based ↦
            let here : change_of target at rela (Some type) ≡ Put patch = ap (change_of target at rela) (sym (where_based-some type based)) ∙ is in
            let s = stored type patch _ refl here in
            (type, k, s.0, s.1)
        | inr none ↦
            let here : change_of target at rela None ≡ Put patch = ap (change_of target at rela) (sym (where_based-none type none)) ∙ is in absurd (cc)
      ]

pub entry_stores_value : EntryStoresValue
unfolding entry_changes
entry_stores_value target at rela patch e =
    elim (cases_Bool (r_type target.file rela == R_X86_64_NONE)) [
      | inl none ↦ let f = rw (none, entry_changes) at e in absurd (cc)
      | inr some ↦
          let f : change_of target at rela (where_based target.layout (kind_of (r_type target.file rela))) ∷ [] ≡ Put patch ∷ [] = rw (some, entry_changes) at e in
          value_stored target at rela _ patch refl (cc)
    ]

-- if no change is a fault, the patches are what the changes store
stored_inside :
    (size : ℕ) (patch : StoredBytes) (patches : List StoredBytes) (rest : Result (List StoredBytes) Refusal)
    → IsInside size patch → ((ps : List StoredBytes) → rest ≡ Ok ps → AllInside size ps)
    → and_patches patch rest ≡ Ok patches → AllInside size patches
unfolding and_patches
stored_inside size patch patches (Err refusal) first others e = absurd (cc)
stored_inside size patch patches (Ok ps) first others e =
    let same : patch ∷ ps ≡ patches = cc in
    rw (← same) (All-cons (IsInside size) patch ps first (others ps refl))

patches_inside :
    (size : ℕ) (changes : List SectionChange) (patches : List StoredBytes) → All (IsInsideChange size) changes
    → patches_of changes ≡ Ok patches → AllInside size patches
unfolding patches_of IsInsideChange
patches_inside size [] patches inside e = let same : [] ≡ patches = cc in rw (← same) (All-nil (IsInside size))
patches_inside size (Fails refusal ∷ changes) patches inside e = absurd (cc)
patches_inside size (Put patch ∷ changes) patches inside e =
    stored_inside size patch patches (patches_of changes) (All-head (IsInsideChange size) (Put patch) changes inside)
    (λ ps e. patches_inside size changes ps (All-tail (IsInsideChange size) (Put patch) changes inside) e) e

pub changes_inside : ChangesInside
unfolding changes_of
changes_inside target patches e =
    patches_inside target.size (changes_of target) patches
    (all_given (IsInsideChange target.size) (section_changes target) (section_headers target.file) (section_inside target)) e
