-- What is read of the versions that a file needs or defines.
use Rattle.std.proofs.Common.{◌≡◌, ℕ, ◌-◌, Bool, List, [], ◌∷◌, None, Result, Ok, Err, refl, sym, subst, ◌∙◌}
use Rattle.std.specs.Prelude.{◌==◌, not}
use Rattle.std.specs.Int.RustNames.{bit_and}
use Rattle.elf_model.specs.Prelude.{NeedRefused, Meets, NeededVersionRead, Needs, VersionRecordRead, VersionRecordTable as IsTableOf, VisitedRecord, hash_word, flags_word, name_index, named_at, needed_versions, whole_name}
use Rattle.elf_model.specs.Records.{vna_flags, vna_hash}
use Rattle.elf_model.specs.declared.causes.Refusal.{Refusal}
use Rattle.elf_model.specs.declared.states.VersionState.TheVariants as state
use Rattle.elf_model.specs.declared.versions.VersionKind.TheVariants.{Definition, File, Need}
use Rattle.elf_table.specs.declared.fault.Fault.{Fault}
use Rattle.elf_table.specs.declared.fault.Fault.TheVariants.{Refused, Source}
use Rattle.elf_hash.specs.Prelude.{IsVersionRecordTable}
use Rattle.elf_hash.specs.declared.symbols.VersionRecordTable.{VersionRecordTable}
use Rattle.elf_note.specs.Reading.{IsCursorOf, IsVersion, ReturnsVersion, VersionCursorState, versions_left}
use Rattle.elf_note.specs.declared.record.VersionRecord.{VersionRecord}
use Rattle.elf_loader.proofs.LeftReadings.{ended-left, left_of, refused-left}
use Rattle.elf_library.specs.NeedWalks.{IsNeedsOf, ReturnsNeed, ReturnsNeedIf, needs_left}
use Rattle.elf_library.specs.Sought.{ReturnsWhole}
use Rattle.elf_library.specs.declared.needed_versions.NeedsWalk.{NeedsWalk}

-- THE NAME OF A RECORD
pub name_of_met : (file strings : List ℕ) (met : VisitedRecord) (given : VersionRecord) → IsVersion file met given → (name : List ℕ) (result : Result (Unit {0}) Fault)
    → ReturnsWhole (whole_name strings given.name given.named_at) name result → ReturnsWhole (whole_name strings (name_index file met) (named_at file met)) name result
name_of_met file strings met given is name result told = let n = is.name in let p = is.named_at in rw (n, p) at told

module _ (file library strings : List ℕ) (met : VisitedRecord) (others : List VersionRecordRead) where
  fails_met : (refusal : Refusal) → whole_name strings (name_index file met) (named_at file met) ≡ Err refusal → needed_versions file library (Meets strings met ∷ others) ≡ NeedRefused refusal ∷ []
  unfolding needed_versions
  fails_met refusal e = rw (e, needed_versions) refl

  pub need_fails : (left : List NeededVersionRead) (walk : NeedsWalk) (name : List ℕ) (fault : Fault) → ReturnsWhole (whole_name strings (name_index file met) (named_at file met)) name (Err fault)
      → ReturnsNeed (needed_versions file library (Meets strings met ∷ others)) left walk (Err fault)
  need_fails left walk name (Refused refusal) told = λ other. fails_met refusal (told other)
  need_fails left walk name (Source fault at) told = tt

  module _ (name : List ℕ) (told : whole_name strings (name_index file met) (named_at file met) ≡ Ok name) where
    pub file_met : met.kind ≡ File → needed_versions file library (Meets strings met ∷ others) ≡ needed_versions file name others
    unfolding needed_versions
    file_met kind = rw (told, kind, needed_versions) refl

    pub definition_met : met.kind ≡ Definition → needed_versions file library (Meets strings met ∷ others) ≡ needed_versions file library others
    unfolding needed_versions
    definition_met kind = rw (told, kind, needed_versions) refl

    hash_is : (given : VersionRecord) → IsVersion file met given → met.kind ≡ Need → vna_hash file met.at ≡ given.hash
    unfolding hash_word
    hash_is given is kind = let e : hash_word file met ≡ vna_hash file met.at = rw (kind, hash_word) refl in sym (is.hash ∙ e)

    flags_is : (given : VersionRecord) → IsVersion file met given → met.kind ≡ Need → vna_flags file met.at ≡ given.flags
    unfolding flags_word
    flags_is given is kind = let e : flags_word file met ≡ vna_flags file met.at = rw (kind, flags_word) refl in sym (is.flags ∙ e)

    pub need_met : (given : VersionRecord) → IsVersion file met given → met.kind ≡ Need
        → needed_versions file library (Meets strings met ∷ others)
        ≡ Needs (record { library = library; name = name; hash = given.hash; weak = not (bit_and given.flags 2 == 0) }) ∷ needed_versions file library others
    unfolding needed_versions
    need_met given is kind = let h = hash_is given is kind in let f = flags_is given is kind in rw (told, kind, needed_versions) (rw (h, f) refl)

-- A STEP OF THE WALK
module _ (file : List ℕ) (told : IsTableOf) where
  pub left_fails : (old : NeedsWalk) (new : VersionCursorState) (left : List NeededVersionRead) (walk : NeedsWalk) (fault : Fault)
      → ReturnsVersion file (versions_left file old.cursor) (versions_left file new) (Err fault) → ReturnsNeedIf (needs_left file told old) left walk (Err fault)
  unfolding needed_versions
  left_fails old new left walk (Refused refusal) tells = λ other.
      let c = old.cursor in
      refused-left file told.strings c.held.table.at c.held.table.count c.standing c.left [] refusal
      (λ (all : List VersionRecordRead). needed_versions file old.library all ≡ NeedRefused refusal ∷ []) (tells other) refl refl
  left_fails old new left walk (Source fault at) tells = tt

  pub left_ends : (old : NeedsWalk) (new : VersionCursorState) → ReturnsVersion file (versions_left file old.cursor) (versions_left file new) (Ok None) → needs_left file told old ≡ []
  unfolding needed_versions
  left_ends old new tells =
      let c = old.cursor in
      let e = ended-left file told.strings c.held.table.at c.held.table.count c.standing c.left [] tells in
      rw e refl

-- one step after another: what was left begins with the record
pub taken :
    (file : List ℕ) (told : IsTableOf) (old new : NeedsWalk) (cursor : VersionCursorState) → IsVersionRecordTable file told old.records → IsCursorOf file cursor → new.cursor ≡ cursor → new.records ≡ old.records
    → (first : List NeededVersionRead) → needs_left file told old ≡ first → (result : Result Bool Fault)
    → ReturnsNeed first (needed_versions file new.library (left_of file told.strings [] cursor)) new result
    → IsNeedsOf file told new × ReturnsNeed (needs_left file told old) (needs_left file told new) new result
taken file told old new cursor is agrees same_cursor same_records first begins result returns = (
  record {
    is = subst (λ (r : VersionRecordTable). IsVersionRecordTable file told r) (sym same_records) is;
    agrees = subst (λ (c : VersionCursorState). IsCursorOf file c) (sym same_cursor) agrees;
  },
  subst (λ (c : VersionCursorState). ReturnsNeed (needs_left file told old) (needed_versions file new.library (left_of file told.strings [] c)) new result) (sym same_cursor)
      (subst (λ (a : List NeededVersionRead). ReturnsNeed a (needed_versions file new.library (left_of file told.strings [] cursor)) new result) (sym begins) returns),
)
