-- The lines of one needed version after another.
use Rattle.std.proofs.Common.{◌≡◌, ℕ, ◌||◌, Bool, true, false, List, [], ◌∷◌, ◌++◌, inl, Option, None, Some, Result, Ok, Err, refl, sym, ap, subst, ◌∙◌, append_assoc, append-nil}
use Rattle.elf_model.specs.Prelude.{IsBudgetRefusal, RecordsRefused, VersionAbsent, VersionItem, any_lacking, needed_version_line, refusal_line, version_items_text}
use Rattle.elf_model.specs.declared.causes.Refusal.{Refusal}
use Rattle.elf_model.specs.declared.formats.Format.{Format}
use Rattle.elf_model.specs.declared.states.VersionState.{VersionState}
use Rattle.elf_source.specs.Prelude.{IsOutFault, OutState, SinkTakes, SinkTakesPrefix}
use Rattle.elf_source.specs.declared.faults.OutFault.{OutFault}
use Rattle.elf_source.proofs.PutsLaws.{SinkTakes-nothing}
use Rattle.elf_table.specs.declared.fault.Fault.{Fault}
use Rattle.elf_table.specs.declared.fault.Fault.TheVariants.{Refused, Source}
use Rattle.elf_needs.specs.ItemLines.{ReturnsFault, WritesLines, WritesSoFar}
use Rattle.elf_hash.specs.Prelude.{RefusesAs}
use Rattle.elf_needs.specs.VersionLines.{WritesNeed, WritesVersion, needed_version_lines}
use Rattle.elf_needs.specs.declared.search_scope.WriteEnd.{WriteEnd}
use Rattle.elf_needs.specs.declared.search_scope.WriteEnd.TheVariants.{Cut, Ended, Whole}
use Rattle.elf_library.specs.declared.needs_fault.NeedsFault.{NeedsFault}
use Rattle.elf_library.specs.declared.needs_fault.NeedsFault.TheVariants.{Out, Read}
use Rattle.elf_needs.proofs.ItemLineLaws.{AreItemLines, ends_cut, ends_fault, faulted, so_far_all, so_far_none}

-- the text of items after others, and whether there is one
text_then : (format : Format) (a b : List VersionItem) → version_items_text format (a ++ b) ≡ version_items_text format a ++ version_items_text format b
text_then format [] b = refl
text_then format (VersionAbsent object provider found name ∷ a) b =
    let line = needed_version_line format object provider found name in
    ap (λ (text : List ℕ). line ++ text) (text_then format a b) ∙ sym (append_assoc line (version_items_text format a) (version_items_text format b))
text_then format (RecordsRefused refusal ∷ a) b =
    let line = refusal_line format refusal in
    ap (λ (text : List ℕ). line ++ text) (text_then format a b) ∙ sym (append_assoc line (version_items_text format a) (version_items_text format b))

lacking_then : (a b : List VersionItem) → any_lacking (a ++ b) ≡ (any_lacking a || any_lacking b)
lacking_then [] b = refl
lacking_then (item ∷ a) b = refl

pub versions_are : (format : Format) → AreItemLines (needed_version_lines format)
versions_are format = record { no_text = refl; none_fails = refl; text_then = text_then format; fails_then = lacking_then }

-- the same by one record, after which none is written
module _ {format : Format} {all : List VersionItem} (left rest : List VersionItem) {a b : OutState} (c : OutState) {fails : Bool} (short : Refusal → Type 0) (before : WritesSoFar (needed_version_lines format) all left a b fails) where
  pub walk_cut : WritesNeed format left rest short b c (Ok (Some Cut)) → WritesLines (needed_version_lines format) all short a c (Ok Cut)
  walk_cut writes = ends_cut (versions_are format) left left [] c short before (sym (append-nil left)) writes

  pub walk_stops : (fault : NeedsFault) → WritesNeed format left rest short b c (Err fault) → WritesLines (needed_version_lines format) all short a c (Err fault)
  walk_stops fault writes = ends_fault (versions_are format) left left [] c short before (sym (append-nil left)) fault writes

  pub walk_ends : WritesNeed format left rest short b c (Ok None) → WritesLines (needed_version_lines format) all short a c (Ok (Whole fails))
  walk_ends none = rw (none.1) (so_far_all (versions_are format) short (rw (none.0) at before))

pub faulted_versions : (format : Format) (all : List VersionItem) (short : Refusal → Type 0) (fault : Fault) (a b : OutState) (result : Result WriteEnd NeedsFault)
    → ((refusal : Refusal) → fault ≡ Refused refusal → (IsBudgetRefusal refusal → ⊥) → all ≡ RecordsRefused refusal ∷ [])
    → ((refusal : Refusal) → fault ≡ Refused refusal → IsBudgetRefusal refusal → short refusal) → ReturnsFault format fault a b result → WritesLines (needed_version_lines format) all short a b result
faulted_versions format = faulted (versions_are format) RecordsRefused (λ refusal. (append-nil (refusal_line format refusal), refl))

-- THE LINE OF A FAULT
module _ (format : Format) (all : List VersionItem) (short : Refusal → Type 0) where
  -- of a version whose state is not known, for lack of budget or a fault of a read
  of_version : (fault : Fault) (a b : OutState) (result : Result WriteEnd NeedsFault) → ((refusal : Refusal) → fault ≡ Refused refusal → (IsBudgetRefusal refusal → ⊥) → ⊥)
      → ReturnsFault format fault a b result → WritesLines (needed_version_lines format) all short a b result → WritesVersion format all short a b result
  of_version fault a b (Ok (Whole fails)) never told writes = writes
  of_version (Refused refusal) a b (Ok Ended) never told writes = absurd (never refusal refl told.0)
  of_version (Source fault at) a b (Ok Ended) never told writes = absurd (apart told.0)
    where
      apart : ◌≡◌ {A = Result WriteEnd NeedsFault} (Ok Ended) (Err Read) → ⊥
      apart e = cc
  of_version fault a b (Ok Cut) never told writes = writes
  of_version fault a b (Err which) never told writes = writes

  pub version_fault : {X : Type 0} (known : X) (fault : Fault) (a b : OutState) (result : Result WriteEnd NeedsFault) → RefusesAs (Ok known) fault
      → ((refusal : Refusal) → fault ≡ Refused refusal → IsBudgetRefusal refusal → short refusal) → ReturnsFault format fault a b result → WritesVersion format all short a b result
  version_fault {X} known fault a b result refuses only told =
      of_version fault a b result (never fault refuses) told (faulted_versions format all short fault a b result (λ refusal is unless. absurd (never fault refuses refusal is unless)) only told)
    where
      apart : (refusal : Refusal) → ◌≡◌ {A = Result X Refusal} (Ok known) (Err refusal) → ⊥
      apart refusal e = cc

      no_source : (at : ℕ) (refusal : Refusal) (fault : Fault) → fault ≡ Refused refusal → RefusesAs (Ok known) fault → (IsBudgetRefusal refusal → ⊥) → ⊥
      no_source at refusal fault is refuses unless = apart refusal ((rw is at refuses) unless)

      never : (fault : Fault) → RefusesAs (Ok known) fault → (refusal : Refusal) → fault ≡ Refused refusal → (IsBudgetRefusal refusal → ⊥) → ⊥
      never fault refuses refusal is unless = no_source 0 refusal fault is refuses unless

-- THE LINE OF A VERSION
module _ (format : Format) (items : List VersionItem) (short : Refusal → Type 0) where
  pub version_listed : items ≡ [] → (a : OutState) → WritesVersion format items short a a (Ok (Whole false))
  version_listed none a = rw none (SinkTakes-nothing a, refl)

  module _ (object : ℕ) (provider : Option ℕ) (found : VersionState) (name : List ℕ) (is : items ≡ VersionAbsent object provider found name ∷ []) where
    one_line : version_items_text format items ≡ needed_version_line format object provider found name
    one_line = rw is (append-nil (needed_version_line format object provider found name))

    pub version_told : (a b : OutState) → SinkTakes a b (needed_version_line format object provider found name) → WritesVersion format items short a b (Ok (Whole true))
    version_told a b takes = (subst (λ (t : List ℕ). SinkTakes a b t) (sym one_line) takes, rw is refl)

    pub version_out : (a b : OutState) (fault : OutFault) → SinkTakesPrefix a b (needed_version_line format object provider found name) → IsOutFault b fault
        → WritesVersion format items short a b (Err (Out fault))
    version_out a b fault takes fails = (needed_version_line format object provider found name, inl (sym one_line), takes, fails)

-- OF ONE RECORD
module _ (format : Format) (short : Refusal → Type 0) where
  pub need_faults : (all left : List VersionItem) (fault : Fault) (a b : OutState) (end : WriteEnd) → ReturnsFault format fault a b (Ok end) → WritesLines (needed_version_lines format) all short a b (Ok end)
      → WritesNeed format all left short a b (Ok (Some end))
  need_faults all left (Refused refusal) a b (Whole fails) told writes = absurd told
  need_faults all left (Source fault at) a b (Whole fails) told writes = absurd (apart told.0)
    where
      apart : ◌≡◌ {A = Result WriteEnd NeedsFault} (Ok (Whole fails)) (Err Read) → ⊥
      apart e = cc
  need_faults all left fault a b Ended told writes = writes
  need_faults all left fault a b Cut told writes = writes

  pub need_passes : (all left : List VersionItem) (a : OutState) → all ≡ left → WritesNeed format all left short a a (Ok (Some (Whole false)))
  need_passes all left a is = so_far_none (versions_are format) all left a is

  module _ (all items left : List VersionItem) (parts : all ≡ items ++ left) (a b : OutState) where
    pub need_told : (end : WriteEnd) → WritesVersion format items short a b (Ok end) → WritesNeed format all left short a b (Ok (Some end))
    need_told (Whole fails) writes = record { front = items; split = parts; takes = writes.0; fails_is = writes.1 }
    need_told Ended writes = absurd writes
    need_told Cut writes = ends_cut (versions_are format) all items left b short (so_far_none (versions_are format) all all a refl) parts writes

    pub need_stops : (fault : NeedsFault) → WritesVersion format items short a b (Err fault) → WritesNeed format all left short a b (Err fault)
    need_stops fault writes = ends_fault (versions_are format) all items left b short (so_far_none (versions_are format) all all a refl) parts fault writes
