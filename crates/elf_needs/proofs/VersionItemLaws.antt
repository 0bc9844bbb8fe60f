-- The needed versions of objects that are not there, by what is left of their records.
use Rattle.std.proofs.Common.{◌≡◌, ℕ, suc, ◌+◌, ◌<◌, ◌≤◌, drop, length, get_or, arith, Bool, true, false, List, [], ◌∷◌, ◌++◌, Option, None, Some, Result, Ok, Err, refl, sym, ap, subst, ◌∙◌}
use Rattle.std.proofs.lemmas.List.{drop_all, drop_more}
use Rattle.elf_model.specs.Prelude.{DT_VERNEED, IsBudgetRefusal, NeedRefused, NeededVersion, NeededVersionRead, Needs, RecordsRefused, VersionRecordTable as IsTableOf, VersionedObjects, d_un, dynamic_segment_index, first_refusal, is_outside, mapped_at, needed_versions, p_filesz, p_offset, readings_of, rest_checks, segment_at, tagged_row, version_item, version_items_from, version_items_of, version_records_at, versions_needed, versions_needed_at, versions_needed_by_segments, without_sections}
use Rattle.elf_model.specs.declared.causes.Cause.TheVariants.{Budget, TableOutside, Unmapped}
use Rattle.elf_model.specs.declared.causes.Refusal.{Refusal}
use Rattle.elf_model.specs.declared.formats.Format.{Format}
use Rattle.elf_model.specs.declared.versions.VersionKind.TheVariants.{File}
use Rattle.elf_source.specs.Prelude.{OutState}
use Rattle.elf_table.specs.declared.fault.Fault.{Fault}
use Rattle.elf_table.specs.declared.fault.Fault.TheVariants.{Refused}
use Rattle.elf_hash.specs.Prelude.{IsVersionRecordTable}
use Rattle.elf_hash.specs.declared.symbols.VersionRecordTable.{VersionRecordTable}
use Rattle.elf_needs.specs.ItemLines.{ReturnsFault, WritesLines}
use Rattle.elf_library.specs.Prelude.{AreNeedsOf, AreRecordsAt, ReturnsNeed}
use Rattle.elf_needs.specs.VersionLines.{needed_version_lines}
use Rattle.elf_library.specs.declared.needed_versions.NeedsWalk.{NeedsWalk}
use Rattle.elf_needs.specs.declared.search_scope.WriteEnd.{WriteEnd}
use Rattle.elf_library.specs.declared.needs_fault.NeedsFault.{NeedsFault}
use Rattle.elf_needs.proofs.VersionWriteLaws.{faulted_versions}

-- an object's items, by the records that are left
module _ (objects : VersionedObjects) (object : ℕ) where
  pub items_none : (all : List NeededVersionRead) → all ≡ [] → version_items_of objects object all ≡ []
  unfolding version_items_of
  items_none all is = rw is refl

  pub items_needs : (all left : List NeededVersionRead) (needed : NeededVersion) → all ≡ Needs needed ∷ left
      → version_items_of objects object all ≡ version_item objects object (Needs needed) ++ version_items_of objects object left
  unfolding version_items_of
  items_needs all left needed is = rw is refl

  pub items_refused : (all : List NeededVersionRead) (refusal : Refusal) → all ≡ NeedRefused refusal ∷ [] → version_items_of objects object all ≡ RecordsRefused refusal ∷ []
  unfolding version_items_of version_item
  items_refused all refusal is = rw is refl

  pub items_fault : (all left : List NeededVersionRead) (walk : NeedsWalk) (fault : Fault) → ReturnsNeed all left walk (Err fault) → (refusal : Refusal) → fault ≡ Refused refusal → (IsBudgetRefusal refusal → ⊥)
      → version_items_of objects object all ≡ RecordsRefused refusal ∷ []
  items_fault all left walk fault returns refusal is unless = items_refused all refusal ((rw is at returns) unless)

-- WHAT AN OBJECT NEEDS, by its tables
module _ (file : List ℕ) (bare : without_sections file ≡ file) where
  bare_is : versions_needed file ≡ versions_needed_by_segments file
  bare_is = ap versions_needed_by_segments bare

  no_segment : dynamic_segment_index file ≡ None → versions_needed file ≡ []
  unfolding versions_needed_by_segments
  no_segment none = bare_is ∙ rw (none, versions_needed_by_segments) refl

  module _ (i : ℕ) (some : dynamic_segment_index file ≡ Some i) where
    at_segment : versions_needed file ≡ versions_needed_at file (segment_at file i)
    unfolding versions_needed_by_segments
    at_segment = bare_is ∙ rw (some, versions_needed_by_segments) refl

    at_none : version_records_at file (segment_at file i) DT_VERNEED File ≡ Ok None → versions_needed file ≡ []
    unfolding versions_needed_at
    at_none e = at_segment ∙ rw (e, versions_needed_at) refl

    at_some : (told : IsTableOf) → version_records_at file (segment_at file i) DT_VERNEED File ≡ Ok (Some told) → versions_needed file ≡ needed_versions file [] (readings_of file told [])
    unfolding versions_needed_at
    at_some told e = at_segment ∙ rw (e, versions_needed_at) refl

    at_refused : (refusal : Refusal) → version_records_at file (segment_at file i) DT_VERNEED File ≡ Err refusal → versions_needed file ≡ NeedRefused refusal ∷ []
    unfolding versions_needed_at
    at_refused refusal e = at_segment ∙ rw (e, versions_needed_at) refl

  pub needs_none : AreNeedsOf file (Ok None) → versions_needed file ≡ []
  needs_none are = go (dynamic_segment_index file) refl
    where
      by : (i : ℕ) → dynamic_segment_index file ≡ Some i → (r : Result (Option IsTableOf) Refusal) → version_records_at file (segment_at file i) DT_VERNEED File ≡ r → AreRecordsAt file r (Ok None) → versions_needed file ≡ []
      by i some (Ok None) e here = at_none i some e
      by i some (Ok (Some told)) e here = absurd here
      by i some (Err refusal) e here = absurd here

      go : (o : Option ℕ) → dynamic_segment_index file ≡ o → versions_needed file ≡ []
      go None none = no_segment none
      go (Some i) some =
          let here : AreRecordsAt file (version_records_at file (segment_at file i) DT_VERNEED File) (Ok None) = rw (some, AreNeedsOf) at are in
          by i some (version_records_at file (segment_at file i) DT_VERNEED File) refl here

  -- the records are those of a table
  pub needs_some : (records : VersionRecordTable) → AreNeedsOf file (Ok (Some records))
      → (told : IsTableOf) × (IsVersionRecordTable file told records) × (versions_needed file ≡ needed_versions file [] (readings_of file told []))
  needs_some records are = go (dynamic_segment_index file) refl
    where
      apart : ◌≡◌ {A = Result (Option VersionRecordTable) Fault} (Ok (Some records)) (Ok None) → ⊥
      apart e = cc

      by : (i : ℕ) → dynamic_segment_index file ≡ Some i → (r : Result (Option IsTableOf) Refusal) → version_records_at file (segment_at file i) DT_VERNEED File ≡ r → AreRecordsAt file r (Ok (Some records))
          → (told : IsTableOf) × (IsVersionRecordTable file told records) × (versions_needed file ≡ needed_versions file [] (readings_of file told []))
      by i some (Ok None) e here = absurd here
      by i some (Ok (Some told)) e here = (told, here, at_some i some told e)
      by i some (Err refusal) e here = absurd here

      go : (o : Option ℕ) → dynamic_segment_index file ≡ o → (told : IsTableOf) × (IsVersionRecordTable file told records) × (versions_needed file ≡ needed_versions file [] (readings_of file told []))
      go None none = absurd (apart (rw (none, AreNeedsOf) at are))
      go (Some i) some =
          let here : AreRecordsAt file (version_records_at file (segment_at file i) DT_VERNEED File) (Ok (Some records)) = rw (some, AreNeedsOf) at are in
          by i some (version_records_at file (segment_at file i) DT_VERNEED File) refl here

  -- the entry that locates them is refused, not for lack of budget
  rest_unbudgeted : (row : ℕ) (refusal : Refusal) → first_refusal (rest_checks file row) ≡ Some refusal → IsBudgetRefusal refusal → ⊥
  unfolding rest_checks
  rest_unbudgeted row refusal fails budget = go (mapped_at file (d_un file row) 1) refl
    where
      outside : (at : ℕ) → (b : Bool) → is_outside (length file) (p_offset file at) (p_filesz file at) ≡ b → mapped_at file (d_un file row) 1 ≡ Some at → ⊥
      outside at true t e =
          let is : Some (record { at = at; cause = TableOutside }) ≡ Some refusal = sym (rw (e, t, rest_checks) refl) ∙ fails in
          let cause : TableOutside ≡ Budget = cc in
          absurd (cc)
      outside at false f e =
          let is : None ≡ Some refusal = sym (rw (e, f, rest_checks) refl) ∙ fails in
          absurd (cc)

      go : (o : Option ℕ) → mapped_at file (d_un file row) 1 ≡ o → ⊥
      go None e =
          let is : Some (record { at = row; cause = Unmapped }) ≡ Some refusal = sym (rw (e, rest_checks) refl) ∙ fails in
          let cause : Unmapped ≡ Budget = cc in
          absurd (cc)
      go (Some at) e = outside at (is_outside (length file) (p_offset file at) (p_filesz file at)) refl e

  records_unbudgeted : (at : ℕ) (refusal : Refusal) → version_records_at file at DT_VERNEED File ≡ Err refusal → IsBudgetRefusal refusal → ⊥
  unfolding version_records_at
  records_unbudgeted at refusal e = go (tagged_row file at DT_VERNEED) refl
    where
      by : (row : ℕ) (o : Option Refusal) → tagged_row file at DT_VERNEED ≡ Some row → first_refusal (rest_checks file row) ≡ o → IsBudgetRefusal refusal → ⊥
      by row None some passes =
          let f : ◌≡◌ {A = Result (Option IsTableOf) Refusal} (Ok _) (Err refusal) = rw (some, passes, version_records_at) at e in
          absurd (cc)
      by row (Some other) some fails =
          let f : ◌≡◌ {A = Result (Option IsTableOf) Refusal} (Err other) (Err refusal) = rw (some, fails, version_records_at) at e in
          let same : other ≡ refusal = cc in
          rest_unbudgeted row refusal (fails ∙ ap Some same)

      go : (row : Option ℕ) → tagged_row file at DT_VERNEED ≡ row → IsBudgetRefusal refusal → ⊥
      go None none =
          let f : ◌≡◌ {A = Result (Option IsTableOf) Refusal} (Ok None) (Err refusal) = rw (none, version_records_at) at e in
          absurd (cc)
      go (Some row) some = by row (first_refusal (rest_checks file row)) some refl

  pub needs_fault : (fault : Fault) → AreNeedsOf file (Err fault) → (refusal : Refusal) × (fault ≡ Refused refusal) × (versions_needed file ≡ NeedRefused refusal ∷ []) × (IsBudgetRefusal refusal → ⊥)
  needs_fault fault are = go (dynamic_segment_index file) refl
    where
      apart : ◌≡◌ {A = Result (Option VersionRecordTable) Fault} (Err fault) (Ok None) → ⊥
      apart e = cc

      by : (i : ℕ) → dynamic_segment_index file ≡ Some i → (r : Result (Option IsTableOf) Refusal) → version_records_at file (segment_at file i) DT_VERNEED File ≡ r → AreRecordsAt file r (Err fault)
          → (refusal : Refusal) × (fault ≡ Refused refusal) × (versions_needed file ≡ NeedRefused refusal ∷ []) × (IsBudgetRefusal refusal → ⊥)
      by i some (Ok None) e here = absurd here
      by i some (Ok (Some told)) e here = absurd here
      by i some (Err refusal) e here = (refusal, here, at_refused i some refusal e, records_unbudgeted (segment_at file i) refusal e)

      go : (o : Option ℕ) → dynamic_segment_index file ≡ o → (refusal : Refusal) × (fault ≡ Refused refusal) × (versions_needed file ≡ NeedRefused refusal ∷ []) × (IsBudgetRefusal refusal → ⊥)
      go None none = absurd (apart (rw (none, AreNeedsOf) at are))
      go (Some i) some =
          let here : AreRecordsAt file (version_records_at file (segment_at file i) DT_VERNEED File) (Err fault) = rw (some, AreNeedsOf) at are in
          by i some (version_records_at file (segment_at file i) DT_VERNEED File) refl here

-- the line of that refusal is all of an object
pub object_refused : (objects : VersionedObjects) (object : ℕ) (file : List ℕ) → without_sections file ≡ file → (fault : Fault) → AreNeedsOf file (Err fault)
    → (format : Format) (short : Refusal → Type 0) (a b : OutState) (result : Result WriteEnd NeedsFault) → ReturnsFault format fault a b result
    → WritesLines (needed_version_lines format) (version_items_of objects object (versions_needed file)) short a b result
object_refused objects object file bare fault are format short a b result told =
    faulted_versions format (version_items_of objects object (versions_needed file)) short fault a b result
    (λ refusal is unless. items_refused objects object (versions_needed file) refusal (why.2 ∙ ap (λ (r : Refusal). NeedRefused r ∷ []) (same refusal is)))
    (λ refusal is budget. absurd (why.3 (subst IsBudgetRefusal (sym (same refusal is)) budget))) told
  where
    why : (refusal : Refusal) × (fault ≡ Refused refusal) × (versions_needed file ≡ NeedRefused refusal ∷ []) × (IsBudgetRefusal refusal → ⊥)
    why = needs_fault file bare fault are

    same : (refusal : Refusal) → fault ≡ Refused refusal → why.0 ≡ refusal
    same refusal is = let e : Refused why.0 ≡ Refused refusal = sym why.1 ∙ is in cc

-- ALL OBJECTS'
first_items : (objects : VersionedObjects) (place : ℕ) (file : List ℕ) (files : List (List ℕ))
    → version_items_from objects place (file ∷ files) ≡ version_items_of objects (get_or objects.indexes place 0) (versions_needed file) ++ version_items_from objects (suc place) files
unfolding version_items_from
first_items objects place file files = refl

pub versions_next : (objects : VersionedObjects) (place : ℕ) (files : List (List ℕ)) → place < length files
    → version_items_from objects place (drop place files)
    ≡ version_items_of objects (get_or objects.indexes place 0) (versions_needed (get_or files place [])) ++ version_items_from objects (place + 1) (drop (place + 1) files)
versions_next objects place files less =
    let next : place + 1 ≡ suc place = omega arith in
    ap (version_items_from objects place) (drop_more files place [] less) ∙ first_items objects place (get_or files place []) (drop (place + 1) files)
    ∙ ap (λ (p : ℕ). version_items_of objects (get_or objects.indexes place 0) (versions_needed (get_or files place [])) ++ version_items_from objects p (drop (place + 1) files)) (sym next)

pub versions_none : (objects : VersionedObjects) (place : ℕ) (files : List (List ℕ)) → length files ≤ place → version_items_from objects place (drop place files) ≡ []
unfolding version_items_from
versions_none objects place files past = let none = drop_all place files past in rw (none, version_items_from) refl
