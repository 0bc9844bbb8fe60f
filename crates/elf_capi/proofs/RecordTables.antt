-- The records of a section, all of which are left at its first.
use Rattle.std.proofs.Common.{◌≡◌, inl, inr, ℕ, ◌+◌, ◌≤◌, ◌==◌, false, List, length, None, Some, refl, sym, ap, ◌∙◌, arith}
use Rattle.std.proofs.lemmas.Bool.{cases_Bool}
use Rattle.std.proofs.lemmas.Bool.Decides.{nat_tests}
use Rattle.elf_model.specs.Prelude.{SHT_GNU_VERDEF, SHT_GNU_VERNEED, all_checks, first_position, first_refusal, is_outside, max_records, refuse, section_versions, sh_offset, sh_size, sh_type, strings_checks, version_table, versions_in, visited_from}
use Rattle.elf_model.specs.declared.versions.VersionKind.TheVariants.{Need}
use Rattle.elf_model.specs.declared.causes.Cause.TheVariants.{TableOutside}
use Rattle.elf_model.specs.declared.versions.VersionKind.{VersionKind}
use Rattle.elf_model.proofs.VersionSteps.{first-passes, met-ended}
use Rattle.elf_table.specs.Tables.{StringTableRange}
use Rattle.elf_capi.specs.Prelude.{AreRecords, bytes_within, first_kind, record_names, records_left, stand_as, standing_in, starting}
use Rattle.elf_capi.specs.declared.records.VersionRecordPosition.{VersionRecordPosition}
use Rattle.elf_capi.proofs.RecordLaws.{stands_as}

-- no section begins with a needed version
pub never_need : (file : List ℕ) (at : ℕ) (kind : VersionKind) → first_kind file at ≡ Some kind → kind ≡ Need → ⊥
never_need file at kind is need = elim (cases_Bool (sh_type file at == SHT_GNU_VERDEF)) [
  | inl defines ↦ let found = rw defines at is in absurd (cc)
  | inr other ↦ elim (cases_Bool (sh_type file at == SHT_GNU_VERNEED)) [
    | inl needs ↦ let found = rw (other, needs) at is in absurd (cc)
    | inr none ↦ let found = rw (other, none) at is in absurd (cc)
  ]
]

-- WHAT IS LEFT at the first record of a section whose checks pass
pub all_left : (file : List ℕ) (kind : VersionKind) (at : ℕ) (names : StringTableRange) → first_refusal (all_checks version_table file at) ≡ None → (kind ≡ Need → ⊥)
    → records_left file (starting file kind at names) ≡ section_versions kind file at
unfolding versions_in
all_left file kind at names passes first =
    let records : VersionRecordPosition = starting file kind at names in
    let size : ℕ = sh_size file at in
    elim (cases_Bool (size == 0)) [
      | inl none ↦ rw none (met-ended file (sh_offset file at) (bytes_within (length file) records) records.left ∙ sym (met-ended file (sh_offset file at) size (max_records kind size)))
      | inr some ↦
          let inside : is_outside (length file) (sh_offset file at) size ≡ false =
          first-passes (refuse (is_outside (length file) (sh_offset file at) size) at TableOutside) (strings_checks file at) (rw some at passes) in
          let ends : sh_offset file at + size ≤ length file = grind (arith, nat_tests) in
          let within : bytes_within (length file) records ≡ size = omega (arith, ends) in
          let stood : standing_in size records ≡ Some (stand_as kind records) = stands_as size kind records (rw some refl) (omega arith) (λ need. absurd (first need)) in
          let is_at : first_position kind at size ≡ Some (stand_as kind records) = rw some refl in
          ap (λ n. visited_from file (sh_offset file at) n (standing_in n records) records.left) within
          ∙ ap (λ o. visited_from file (sh_offset file at) size o records.left) (stood ∙ sym is_at)
    ]

-- they are the section's
pub are_records : (file : List ℕ) (kind : VersionKind) (at : ℕ) (names : StringTableRange) (records : VersionRecordPosition) → first_refusal (all_checks version_table file at) ≡ None → names ≡ record_names file at
    → first_kind file at ≡ Some kind → records ≡ starting file kind at names → AreRecords file kind at records
are_records file kind at names records passes named first is = record {
  pass = passes;
  left = ap (records_left file) is ∙ all_left file kind at names passes (never_need file at kind first);
  names = ap (λ (r : VersionRecordPosition). record { at = r.strings_at; size = r.strings_len }) is ∙ named;
}
