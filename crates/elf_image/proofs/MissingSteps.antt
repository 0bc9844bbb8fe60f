-- What a step of a walk leaves of the entries that lack an item.
use Rattle.std.proofs.Common.{◌≡◌, ◌∙◌, ℕ, ◌<◌, ◌⊎◌, Bool, true, List, [], ◌∷◌, ◌++◌, Option, None, Ok, Err, inl, inr, ap, sym, refl}
use Rattle.std.specs.Prelude.{All, is_none, unwrap_or}
use Rattle.std.proofs.lemmas.List.Elements.{All-head, All-tail}
use Rattle.elf_model.specs.Checks.{Check, first_refusal, pass}
use Rattle.elf_model.specs.Image.{ImageChange, ImageSource, Keeps, Lacks, Refuses, SegmentWrite, Stores, image_changes, relocation_changes}
use Rattle.elf_model.specs.ImageChecks.{kind_checks, segments_load_checks}
use Rattle.elf_model.specs.ImageItems.{ItemValues}
use Rattle.elf_model.specs.ImageMissing.{and_lacks, lacks_of}
use Rattle.elf_model.specs.Overlaps.{overlap_checks}
use Rattle.elf_model.specs.declared.causes.Cause.{Cause}
use Rattle.elf_model.specs.declared.causes.Refusal.{Refusal}
use Rattle.elf_model.proofs.CheckSteps.{first_refusal-none, first_refusal-some, passes_front}
use Rattle.elf_table.specs.Prelude.{HoldsProgramHeaders, RefusedBy}
use Rattle.elf_table.specs.declared.fault.Fault.{Fault}
use Rattle.elf_table.specs.declared.fault.Fault.TheVariants.{Refused, Source}
use Rattle.elf_image.specs.Changes.{AreChangesOf, TakesChange, image_changes_left}
use Rattle.elf_image.specs.EntryOrder.{IsFarChange}
use Rattle.elf_image.specs.Items.{given, number_of, said_by}
use Rattle.elf_image.specs.Chunks.{HoldsChunks}
use Rattle.elf_image.specs.Missing.{FindsLack, IsMissingOf, lacks_left, missing_source, opening_checks}
use Rattle.elf_image.specs.Relocated.{IsImageOf, ReadsAfter, RefusesImage, SaysRelocations, entries_header, relocation_checks}
use Rattle.elf_image.specs.Values.{IsBased, known_items}
use Rattle.elf_image.specs.declared.changes.ImageFile.{ImageFile}
use Rattle.elf_image.specs.declared.changes.PlacedBytes.{PlacedBytes}
use Rattle.elf_image.specs.declared.entries.OrderedEntry.{OrderedEntry}
use Rattle.elf_image.specs.declared.image_items.ItemKind.TheVariants.{LoadAddress}
use Rattle.elf_image.specs.declared.missing.MissingEntries.{MissingEntries}
use Rattle.elf_image.specs.declared.rela_rows.WindowReach.{WindowReach}
use Rattle.elf_image.specs.Within.{StepsImageWalk, walk_steps}
use Rattle.elf_image.specs.declared.walk.ImageWalk.{ImageWalk}
use Rattle.elf_image.specs.declared.walk.WalkStep.{WalkStep}
use Rattle.elf_image.specs.declared.walk.WalkStep.TheVariants as step
use Rattle.elf_image.proofs.ToldSteps.{changes_are}

passed_lacks : (file : List ℕ) (passed after : List ImageChange) → All (IsFarChange file None) passed → lacks_of (passed ++ after) ≡ lacks_of after
unfolding lacks_of
passed_lacks file [] after all = refl
passed_lacks file (change ∷ passed) after all =
    let first : change ≡ Keeps = All-head (IsFarChange file None) change passed all in
    ap (λ (c : ImageChange). lacks_of (c ∷ (passed ++ after))) first ∙ passed_lacks file passed after (All-tail (IsFarChange file None) change passed all)

stored_lacks : (write : SegmentWrite) (after : List ImageChange) → lacks_of (Stores write ∷ after) ≡ lacks_of after
unfolding lacks_of
stored_lacks write after = refl

first_lack : (lack : Refusal) (after : List ImageChange) → lacks_of (Lacks lack ∷ after) ≡ and_lacks lack (lacks_of after)
unfolding lacks_of
first_lack lack after = refl

refused_lacks : (refusal : Refusal) (after : List ImageChange) → lacks_of (Refuses refusal ∷ after) ≡ Err refusal
unfolding lacks_of
refused_lacks refusal after = refl

no_lacks : lacks_of [] ≡ Ok []
unfolding lacks_of
no_lacks = refl

-- a step over other changes
abbrev IsPassed : WalkStep → Type 0
IsPassed found = ((placed : PlacedBytes) × (found ≡ step.Stores placed)) ⊎ (found ≡ step.Nothing)

pub passed_steps : (old new : ImageWalk) (found : WalkStep) → IsPassed found → StepsImageWalk old new found → walk_steps new < walk_steps old
passed_steps old new found (inl stores) steps = rw stores.1 at steps
passed_steps old new found (inr nothing) steps = rw nothing at steps

module _ (source : ImageSource) (partial : Bool) (wanted : Option WindowReach) (all : wanted ≡ None) (before after : List ImageChange) where
  lacks_after_store : (placed : PlacedBytes) → TakesChange source partial wanted before after (Ok (step.Stores placed)) → lacks_of before ≡ lacks_of after
  lacks_after_store placed takes = ap lacks_of takes.3 ∙ stored_lacks takes.0 after

  lacks_after_none : TakesChange source partial wanted before after (Ok step.Nothing) → lacks_of before ≡ lacks_of after
  lacks_after_none takes =
      elim (rw all at takes) [
        | inl passed ↦ ap lacks_of passed.1 ∙ passed_lacks source.file passed.0 after passed.2
        | inr refused ↦ absurd refused
      ]

  pub lacks_passed : (found : WalkStep) → IsPassed found → TakesChange source partial wanted before after (Ok found) → lacks_of before ≡ lacks_of after
  lacks_passed found (inl stores) takes = lacks_after_store stores.0 (rw stores.1 at takes)
  lacks_passed found (inr nothing) takes = lacks_after_none (rw nothing at takes)

  pub lacks_first : (ordered : OrderedEntry) (cause : Cause) → TakesChange source partial wanted before after (Ok (step.Lacks ordered cause))
      → lacks_of before ≡ and_lacks (record { at = ordered.at; cause = cause }) (lacks_of after)
  lacks_first ordered cause takes = ap lacks_of takes.1 ∙ first_lack (record { at = ordered.at; cause = cause }) after

  pub lacks_end : TakesChange source partial wanted before after (Ok step.End) → lacks_of before ≡ Ok []
  lacks_end takes = ap lacks_of takes ∙ no_lacks

  refusal_of : (refusal : Refusal) (change : ImageChange) (rest : List ImageChange) → partial ≡ true → before ≡ change ∷ rest → RefusesImage partial refusal change
      → lacks_of before ≡ Err refusal
  refusal_of refusal change rest some is (inl refuses) = ap lacks_of (is ∙ ap (λ (c : ImageChange). c ∷ rest) refuses) ∙ refused_lacks refusal rest
  refusal_of refusal change rest some is (inr lacks) = absurd (let none = lacks.0 in cc)

  -- a refusal, after steps over other changes
  pub lacks_refused : (old new : MissingEntries) (fault : Fault) → partial ≡ true → lacks_left source old ≡ lacks_of before
      → TakesChange source partial wanted before after (Err fault) → FindsLack source old new (Err fault)
  lacks_refused old new (Refused refusal) some way takes = λ fits.
      let t = takes fits in
      way ∙ refusal_of refusal t.0 t.1 some t.2 t.3
  lacks_refused old new (Source fault at) some way takes = tt

-- the load address of an image is that of its items
based_as : (image : ImageFile) → image.base ≡ unwrap_or (number_of (given image.items.now.numbers.now image.items.now.copies.now) LoadAddress 0) 0 → IsBased image
unfolding said_by
based_as image base = base

-- THE START, check by check
pub opens_refused : {X : Type 0} (Is : X → Type 0) (front back : List Check) (fault : Fault) → RefusedBy front fault → ReadsAfter (front ++ back) Is (Err fault)
opens_refused Is front back (Refused refusal) refused = λ other. first_refusal-some front back refusal refused
opens_refused Is front back (Source fault at) refused = absurd refused

pub opens_failed : {X Y : Type 0} (Was : X → Type 0) (Is : Y → Type 0) (front back : List Check) (fault : Fault) → first_refusal front ≡ None
    → ReadsAfter back Was (Err fault) → ReadsAfter (front ++ back) Is (Err fault)
opens_failed Was Is front back (Refused refusal) passes reads = λ other. first_refusal-none front back passes ∙ reads other
opens_failed Was Is front back (Source fault at) passes reads = tt

module _ (file : List ℕ) (passes : first_refusal (overlap_checks file ++ kind_checks file ++ segments_load_checks file) ≡ None) where
  pub opens_passed : first_refusal (relocation_checks file) ≡ None → first_refusal (opening_checks file) ≡ None
  opens_passed told = first_refusal-none (overlap_checks file ++ kind_checks file ++ segments_load_checks file) (relocation_checks file) passes ∙ told

  apart : pass (overlap_checks file) ≡ true
  apart =
      let front = passes_front (overlap_checks file ++ kind_checks file) (segments_load_checks file) passes in
      ap is_none (passes_front (overlap_checks file) (kind_checks file) front)

  pub image_of : (whole : List ℕ) (items : ItemValues) (image : ImageFile) → HoldsProgramHeaders file image.view.loaded image.view.store.now → known_items image ≡ items
      → image.base ≡ unwrap_or (number_of (given image.items.now.numbers.now image.items.now.copies.now) LoadAddress 0) 0
      → SaysRelocations file (entries_header file) image.told → HoldsChunks file image.told.ranges.first.at image.chunks → IsImageOf (missing_source whole file items) image
  image_of whole items image held same based told chunks = record { held = held; apart = apart; items = same; based = based_as image based; told = told; chunks = chunks }

module _ (whole file : List ℕ) (items : ItemValues) (missing : MissingEntries) where
  abbrev begun : ImageSource
  begun = missing_source whole file items

  pub begins_missing : missing.image.leaves ≡ true → IsImageOf begun missing.image → (IsImageOf begun missing.image → AreChangesOf file missing.image missing.walk)
      → missing.walk.wanted ≡ None → (IsImageOf begun missing.image → image_changes_left begun missing.walk ≡ relocation_changes begun)
      → IsMissingOf begun missing × (lacks_left begun missing ≡ lacks_of (image_changes whole file items))
  begins_missing leaves of changes wanted begins = (
    record { image = of; leaves = leaves; changes = changes of; whole = wanted },
    ap lacks_of (begins of ∙ sym (changes_are whole file items)),
  )
