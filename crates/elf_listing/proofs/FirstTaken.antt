-- What is added from the first section that holds records of a kind.
use Rattle.std.proofs.Common.{◌≡◌, ℕ, ◌+◌, ◌≤◌, List, [], ◌++◌, Option, None, Some, Err, refl, sym, ap, ◌∙◌, subst, arith, append-nil}
use Rattle.elf_model.specs.Prelude.{VisitedRecord, all_checks, first_of_type, first_refusal, first_versions, or_refusal, section_at, section_versions, sh_offset, sh_size, strings_of, version_table, versions_in, visited_from, walk_refusal}
use Rattle.elf_model.specs.declared.versions.VersionKind.TheVariants.{Definition, File}
use Rattle.elf_model.specs.declared.causes.Refusal.{Refusal}
use Rattle.elf_model.specs.declared.versions.VersionKind.{VersionKind}
use Rattle.elf_table.specs.Prelude.{IsOfRead, RefusedBy, StringTableRange, TableRange, rows, strings_in}
use Rattle.elf_table.specs.declared.fault.Fault.{Fault}
use Rattle.elf_table.specs.declared.fault.Fault.TheVariants.{Refused, Source}
use Rattle.elf_note.specs.Prelude.{NamesNumbers, ReadsNumberNames, StartsVersions, VersionCursorState, versions_left}
use Rattle.elf_note.specs.declared.version_names.VersionNameRef.{VersionNameRef}
use Rattle.elf_listing.specs.Prelude.{AreRecordsWhole, NumberedOr, NumbersTaken, TakenIn, TakenOr, kind_type}
use Rattle.elf_listing.proofs.VersionSections.{left_all}

-- what a section that was found refuses
abbrev refusal_of : VersionKind → List ℕ → Option ℕ → Option Refusal
refusal_of kind file found = elim found [
  | None ↦ None
  | Some i ↦ or_refusal (first_refusal (all_checks version_table file (section_at file i))) (section_versions kind file (section_at file i)).cut
]

walk-none : (kind : VersionKind) (type : ℕ) (file : List ℕ) → first_of_type file type ≡ None → walk_refusal kind type file ≡ None
unfolding walk_refusal
walk-none kind type file none = ap (refusal_of kind file) none

walk-some : (kind : VersionKind) (type : ℕ) (file : List ℕ) (i : ℕ) → first_of_type file type ≡ Some i
    → walk_refusal kind type file ≡ or_refusal (first_refusal (all_checks version_table file (section_at file i))) (section_versions kind file (section_at file i)).cut
unfolding walk_refusal
walk-some kind type file i first = ap (refusal_of kind file) first

or-some : (a b : Option Refusal) (refusal : Refusal) → a ≡ Some refusal → or_refusal a b ≡ Some refusal
or-some a b refusal is = rw is refl

pub or-none : (a b c : Option Refusal) → a ≡ None → b ≡ c → or_refusal a b ≡ c
or-none a b c none is = rw (none, is) refl

-- of the first section of a type: no record of it is refused
pub walk-whole : (kind : VersionKind) (type : ℕ) (file : List ℕ)
    → ((i : ℕ) → first_of_type file type ≡ Some i → (first_refusal (all_checks version_table file (section_at file i)) ≡ None) × ((section_versions kind file (section_at file i)).cut ≡ None))
    → walk_refusal kind type file ≡ None
walk-whole kind type file whole = by_found (first_of_type file type) refl
  where
    by_found : (found : Option ℕ) → first_of_type file type ≡ found → walk_refusal kind type file ≡ None
    by_found None first = walk-none kind type file first
    by_found (Some i) first = let both = whole i first in walk-some kind type file i first ∙ or-none _ _ None both.0 both.1

-- if there is no record, nothing is added
pub taken-none : (file : List ℕ) (kind : VersionKind) (records : List VisitedRecord) (names : List VersionNameRef) (places : List ℕ) (strings : StringTableRange)
    → (first_versions kind (kind_type kind) file ≡ []) × AreRecordsWhole file kind → NamesNumbers file records names places
    → TakenIn file kind records (NumbersTaken names places) strings
taken-none file kind records names places strings none is = record {
  whole = none.1;
  names = subst (λ (all : List VisitedRecord). NamesNumbers file all names places) (sym (ap (λ (x : List VisitedRecord). records ++ x) none.0 ∙ append-nil records)) is;
  named = λ some. absurd (some none.0);
}

-- what a section that was found gives
abbrev records_of : VersionKind → List ℕ → Option ℕ → List VisitedRecord
records_of kind file found = elim found [ None ↦ [] | Some i ↦ (section_versions kind file (section_at file i)).met ]

abbrev strings_found : List ℕ → Option ℕ → List ℕ
strings_found file found = elim found [ None ↦ [] | Some i ↦ strings_of file (section_at file i) ]

pub no-section : (file : List ℕ) (kind : VersionKind) → first_of_type file (kind_type kind) ≡ None
    → (first_versions kind (kind_type kind) file ≡ []) × AreRecordsWhole file kind
no-section file kind none = (ap (records_of kind file) none, walk-none kind (kind_type kind) file none)

pub empty-section : (file : List ℕ) (kind : VersionKind) (i : ℕ) → first_of_type file (kind_type kind) ≡ Some i → sh_size file (section_at file i) ≡ 0
    → (first_versions kind (kind_type kind) file ≡ []) × AreRecordsWhole file kind
unfolding versions_in visited_from
empty-section file kind i first none =
    let at = section_at file i in
    let checks : first_refusal (all_checks version_table file at) ≡ None = rw none refl in
    let cut = subst (λ (n : ℕ). (versions_in kind file at (sh_offset file at) n).cut ≡ None) (sym none) refl in (
      ap (records_of kind file) first ∙ subst (λ (n : ℕ). (versions_in kind file at (sh_offset file at) n).met ≡ []) (sym none) refl,
      walk-some kind (kind_type kind) file i first ∙ or-none _ _ None checks cut,
    )

-- all of its records are
pub taken-all : (file : List ℕ) (kind : VersionKind) (i : ℕ) (records : List VisitedRecord) (after : List VersionNameRef) (places : List ℕ) (table : TableRange) (c : VersionCursorState) (strings : StringTableRange)
    → first_of_type file (kind_type kind) ≡ Some i → first_refusal (all_checks version_table file (section_at file i)) ≡ None
    → table ≡ rows (sh_offset file (section_at file i)) (sh_size file (section_at file i)) 1
    → StartsVersions kind (section_at file i) table c → ((versions_left file c).cut ≡ None) × NamesNumbers file (records ++ (versions_left file c).met) after places
    → strings_of file (section_at file i) ≡ strings_in file strings → TakenIn file kind records (NumbersTaken after places) strings
taken-all file kind i records after places table c strings first passes same starts read is =
    let at = section_at file i in
    let left : versions_left file c ≡ versions_in kind file at (sh_offset file at) (sh_size file at) =
    left_all kind file at table c starts ∙ ap (λ (t : TableRange). versions_in kind file at t.at t.count) same in
    let all = rw left at read.1 in
    let cut = rw left at read.0 in
    record {
      whole = walk-some kind (kind_type kind) file i first ∙ or-none _ _ None passes cut;
      names = subst (λ (rs : List VisitedRecord). NamesNumbers file (records ++ rs) after places) (sym (ap (records_of kind file) first)) all;
      named = λ some. sym is ∙ sym (ap (strings_found file) first);
    }

-- a walk that is truncated
pub taken-cut : (file : List ℕ) (kind : VersionKind) (i : ℕ) (records : List VisitedRecord) (after : List VersionNameRef) (places : List ℕ) (table : TableRange) (c : VersionCursorState) (fault : Fault)
    → first_of_type file (kind_type kind) ≡ Some i → first_refusal (all_checks version_table file (section_at file i)) ≡ None
    → table ≡ rows (sh_offset file (section_at file i)) (sh_size file (section_at file i)) 1
    → StartsVersions kind (section_at file i) table c → ReadsNumberNames file records (versions_left file c) after places (Err fault)
    → TakenOr file kind records (NumbersTaken after places) (Err fault)
taken-cut file kind i records after places table c (Refused refusal) first passes same starts reads = λ other.
    let at = section_at file i in
    let left : versions_left file c ≡ versions_in kind file at (sh_offset file at) (sh_size file at) =
    left_all kind file at table c starts ∙ ap (λ (t : TableRange). versions_in kind file at t.at t.count) same in
    let cut = rw left at (reads other) in
    walk-some kind (kind_type kind) file i first ∙ or-none _ _ (Some refusal) passes cut
taken-cut file kind i records after places table c (Source fault offset) first passes same starts reads = tt

-- checks that refuse
pub taken-refused : (file : List ℕ) (kind : VersionKind) (i : ℕ) (records : List VisitedRecord) (after : List ℕ → List VisitedRecord → Type 0) (fault : Fault)
    → first_of_type file (kind_type kind) ≡ Some i → RefusedBy (all_checks version_table file (section_at file i)) fault
    → TakenOr file kind records after (Err fault)
taken-refused file kind i records after (Refused refusal) first by = λ other. walk-some kind (kind_type kind) file i first ∙ or-some _ _ refusal by
taken-refused file kind i records after (Source fault offset) first by = absurd by

pub of-read : (file : List ℕ) (kind : VersionKind) (records : List VisitedRecord) (after : List ℕ → List VisitedRecord → Type 0) (fault : Fault) → IsOfRead fault
    → TakenOr file kind records after (Err fault)
of-read file kind records after (Refused refusal) is = λ other. absurd (other is)
of-read file kind records after (Source fault offset) is = tt

-- the definitions are refused, or the needs after definitions that are not
pub numbered-cut : (file : List ℕ) (records : List VisitedRecord) (after : List ℕ → List VisitedRecord → Type 0) (places : List ℕ) (fault : Fault)
    → TakenOr file Definition records after (Err fault) → NumberedOr file places (Err fault)
numbered-cut file records after places (Refused refusal) taken = λ other. or-some _ _ refusal (taken other)
numbered-cut file records after places (Source fault offset) taken = tt

pub numbered-later : (file : List ℕ) (records : List VisitedRecord) (after : List ℕ → List VisitedRecord → Type 0) (places : List ℕ) (fault : Fault)
    → AreRecordsWhole file Definition → TakenOr file File records after (Err fault) → NumberedOr file places (Err fault)
numbered-later file records after places (Refused refusal) whole taken = λ other. or-none _ _ (Some refusal) whole (taken other)
numbered-later file records after places (Source fault offset) whole taken = tt

-- what a new cursor reads and what it may still read is a walk's cost
pub walk-asks : (before between after unread cost : ℕ) → between + unread ≤ before + cost → after ≤ between + unread → after ≤ before + cost
walk-asks before between after unread cost made taken = omega arith
