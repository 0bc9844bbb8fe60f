-- A pass over what relocations change: what was seen of it, and what is left.
use Rattle.std.proofs.Common.{◌≡◌, ℕ, ◌<◌, ◌==◌, ◌&&◌, ◌||◌, Bool, true, false, List, [], ◌∷◌, ◌++◌, All, Option, None, Result, Ok, Err, inl, inr, refl, sym, ap, ◌∙◌}
use Rattle.std.specs.List.{list_any}
use Rattle.std.proofs.lemmas.Bool.{cases_eq, eq-eqb, ne_eqb}
use Rattle.std.proofs.lemmas.List.Elements.{All-head, All-tail, filter-append}
use Rattle.std.proofs.lemmas.List.Folds.{list_any-append}
use Rattle.elf_model.specs.Image.{ImageChange, ImageSource, Lacks, SegmentWrite, Stores as StoresSome, and_writes, relocation_changes, writes_in, writes_of}
use Rattle.elf_model.specs.ImageCost.{MARKED_WINDOWS, meets_window}
use Rattle.elf_model.specs.Prelude.{IsBudgetRefusal}
use Rattle.elf_model.specs.declared.causes.Refusal.{Refusal}
use Rattle.elf_table.specs.declared.fault.Fault.{Fault}
use Rattle.elf_table.specs.declared.fault.Fault.TheVariants.{Refused, Source}
use Rattle.elf_image.specs.Changes.{StoresAs, TakesChange}
use Rattle.elf_image.specs.EntryOrder.{IsFarChange}
use Rattle.elf_image.specs.Marks.{is_window_marked, meets_range}
use Rattle.elf_image.specs.Relocated.{RefusesImage}
use Rattle.elf_image.specs.Written.{ChecksAll, MarksWrites, after_writes, is_marked_by}
use Rattle.elf_image.specs.declared.changes.PlacedBytes.{PlacedBytes}
use Rattle.elf_image.specs.declared.changes.RelocatedBytes.{RelocatedBytes}
use Rattle.elf_image.specs.declared.changes.RelocatedBytes.TheVariants as stored
use Rattle.elf_image.specs.declared.marks.WindowMarks.{WindowMarks}
use Rattle.elf_image.specs.declared.rela_rows.WindowReach.{WindowReach}
use Rattle.elf_image.specs.declared.segment_windows.ImageTarget.{ImageTarget}
use Rattle.elf_image.specs.declared.walk.WalkStep.{WalkStep}
use Rattle.elf_image.specs.declared.walk.WalkStep.TheVariants as step

-- RESULTS after writes
after-more : (seen : List SegmentWrite) (write : SegmentWrite) (result : Result (List SegmentWrite) Refusal)
    → after_writes (seen ++ (write ∷ [])) result ≡ after_writes seen (and_writes write result)
unfolding after_writes
after-more [] write result = refl
after-more (first ∷ seen) write result = ap (and_writes first) (after-more seen write result)

pub after-ok : (seen writes : List SegmentWrite) → after_writes seen (Ok writes) ≡ Ok (seen ++ writes)
unfolding after_writes and_writes
after-ok [] writes = refl
after-ok (first ∷ seen) writes = ap (and_writes first) (after-ok seen writes)

after-err : (seen : List SegmentWrite) (refusal : Refusal) → after_writes seen (Err refusal) ≡ Err refusal
unfolding after_writes and_writes
after-err [] refusal = refl
after-err (first ∷ seen) refusal = ap (and_writes first) (after-err seen refusal)

no-more : (seen : List SegmentWrite) → seen ++ [] ≡ seen
no-more [] = refl
no-more (first ∷ seen) = ap (λ xs. first ∷ xs) (no-more seen)

-- CHANGES: those that store nothing
lack-passed : (partial : Bool) (refusal : Refusal) (changes : List ImageChange) → partial ≡ true → writes_of partial (Lacks refusal ∷ changes) ≡ writes_of partial changes
unfolding writes_of
lack-passed true refusal changes e = refl
lack-passed false refusal changes e = absurd (cc)

kept-passed : (file : List ℕ) (partial : Bool) (passed after : List ImageChange) → All (IsFarChange file None) passed → writes_of partial (passed ++ after) ≡ writes_of partial after
unfolding writes_of
kept-passed file partial [] after all = refl
kept-passed file partial (change ∷ passed) after all =
    ap (λ (first : ImageChange). writes_of partial (first ∷ (passed ++ after))) (All-head (IsFarChange file None) change passed all)
    ∙ kept-passed file partial passed after (All-tail (IsFarChange file None) change passed all)

refused-first : (partial : Bool) (refusal : Refusal) (change : ImageChange) (rest : List ImageChange) → RefusesImage partial refusal change → writes_of partial (change ∷ rest) ≡ Err refusal
unfolding writes_of
refused-first partial refusal change rest (inl is) = ap (λ (first : ImageChange). writes_of partial (first ∷ rest)) is
refused-first partial refusal change rest (inr is) =
    ap (λ (first : ImageChange). writes_of partial (first ∷ rest)) is.1 ∙ ap (λ (b : Bool). writes_of b (Lacks refusal ∷ rest)) is.0 ∙ refl

-- a step that neither stores something nor is the last, if no window is wanted
pub other_step : (source : ImageSource) (partial : Bool) (wanted : Option WindowReach) (before after : List ImageChange) (taken : WalkStep) → wanted ≡ None
    → ((placed : PlacedBytes) → taken ≡ step.Stores placed → ⊥) → (taken ≡ step.End → ⊥) → TakesChange source partial wanted before after (Ok taken)
    → writes_of partial before ≡ writes_of partial after
other_step source partial wanted before after (step.Stores placed) none stores ends takes = absurd (stores placed refl)
other_step source partial wanted before after (step.Lacks ordered cause) none stores ends takes =
    ap (writes_of partial) takes.1 ∙ lack-passed partial (record { at = ordered.at; cause = cause }) after takes.0
other_step source partial wanted before after step.Nothing none stores ends takes =
    let t = rw none at takes in
    elim t [
      | inl passes ↦ ap (writes_of partial) passes.1 ∙ kept-passed source.file partial passes.0 after passes.2
      | inr refused ↦ absurd refused
    ]
other_step source partial wanted before after step.End none stores ends takes = absurd (ends refl)

-- a refusal of the first change that is left
pub refused_step : (source : ImageSource) (partial : Bool) (wanted : Option WindowReach) (before after : List ImageChange) (refusal : Refusal)
    → TakesChange source partial wanted before after (Err (Refused refusal)) → (IsBudgetRefusal refusal → ⊥) → writes_of partial before ≡ Err refusal
refused_step source partial wanted before after refusal takes other =
    let t = takes other in
    ap (writes_of partial) t.2 ∙ refused-first partial refusal t.0 t.1 t.3

-- MARKS. Writes to a segment, one by one
one-here : (segment : ℕ) (write : SegmentWrite) → write.segment ≡ segment → writes_in segment (write ∷ []) ≡ write ∷ []
one-here segment write same = rw (eq-eqb write.segment segment same) refl

none-here : (segment : ℕ) (write : SegmentWrite) → (write.segment ≡ segment → ⊥) → writes_in segment (write ∷ []) ≡ []
none-here segment write other = rw (ne_eqb write.segment segment other) refl

-- the place of a change is that of what it stores
pub segment-as : (source : ImageSource) (placed : PlacedBytes) (write : SegmentWrite) → StoresAs source placed write → (write.segment ≡ placed.place.segment) × (write.stored.at ≡ placed.place.offset)
segment-as source placed write form = go placed.bytes refl
  where
    go : (bytes : RelocatedBytes) → placed.bytes ≡ bytes → (write.segment ≡ placed.place.segment) × (write.stored.at ≡ placed.place.offset)
    go stored.Based is = let f = rw is at form in (ap (λ (w : SegmentWrite). w.segment) f, ap (λ (w : SegmentWrite). w.stored.at) f)
    go (stored.Value patch) is = let f = rw is at form in (ap (λ (w : SegmentWrite). w.segment) f, ap (λ (w : SegmentWrite). w.stored.at) f)
    go (stored.Pair first second) is = let f = rw is at form in (ap (λ (w : SegmentWrite). w.segment) f, ap (λ (w : SegmentWrite). w.stored.at) f)
    go (stored.Copied bytes) is = let f = rw is at form in (ap (λ (w : SegmentWrite). w.segment) f, ap (λ (w : SegmentWrite). w.stored.at) f)

marked-one : (source : ImageSource) (target : ImageTarget) (placed : PlacedBytes) (write : SegmentWrite) (k : ℕ) → StoresAs source placed write → write.size ≡ placed.width
    → is_marked_by target placed.place placed.width k ≡ list_any (meets_window target.window k) (writes_in target.index (write ∷ []))
marked-one source target placed write k form wide = elim (cases_eq write.segment target.index) [
  | inl same ↦
      let place = segment-as source placed write form in
      let here : (placed.place.segment == target.index) ≡ true = eq-eqb placed.place.segment target.index (sym place.0 ∙ same) in
      let meets : meets_range target.window k placed.place.offset placed.width ≡ meets_window target.window k write =
      ap (λ (offset : ℕ). meets_range target.window k offset placed.width) (sym place.1) ∙ ap (λ (width : ℕ). meets_range target.window k write.stored.at width) (sym wide) in
      ap (λ (b : Bool). b && meets_range target.window k placed.place.offset placed.width) here
      ∙ (meets ∙ (or-false (meets_window target.window k write) ∙ ap (list_any (meets_window target.window k)) (sym (one-here target.index write same))))
  | inr other ↦
      let place = segment-as source placed write form in
      let away : (placed.place.segment == target.index) ≡ false = ne_eqb placed.place.segment target.index (λ same. other (place.0 ∙ same)) in
      ap (λ (b : Bool). b && meets_range target.window k placed.place.offset placed.width) away
      ∙ ap (list_any (meets_window target.window k)) (sym (none-here target.index write other))
]
  where
    or-false : (b : Bool) → b ≡ (b || false)
    or-false true = refl
    or-false false = refl

-- WHAT WAS SEEN by a pass that checks, of changes of which some are left
pub record SeenSo (all : Result (List SegmentWrite) Refusal) (partial : Bool) (window segment : ℕ) (left : List ImageChange) (marks : WindowMarks) : Type 0 where
  pub seen : List SegmentWrite
  pub are : all ≡ after_writes seen (writes_of partial left)
  pub marked : MarksWrites window segment seen marks

module _ (all : Result (List SegmentWrite) Refusal) (source : ImageSource) (partial : Bool) (target : ImageTarget) where
  abbrev SeenBy : List ImageChange → WindowMarks → Type 0
  SeenBy left marks = SeenSo all partial target.window target.index left marks

  pub seen_none : (left : List ImageChange) (marks : WindowMarks) → all ≡ writes_of partial left → ((k : ℕ) → k < MARKED_WINDOWS → is_window_marked marks.met k ≡ false) → SeenBy left marks
  unfolding after_writes
  seen_none left marks are none = record { seen = []; are = are; marked = none }

  pub seen_stored : (before after : List ImageChange) (old new : WindowMarks) (placed : PlacedBytes) (write : SegmentWrite) → SeenBy before old
      → StoresAs source placed write → write.size ≡ placed.width → before ≡ StoresSome write ∷ after
      → ((k : ℕ) → k < MARKED_WINDOWS → is_window_marked new.met k ≡ (is_window_marked old.met k || is_marked_by target placed.place placed.width k))
      → SeenBy after new
  unfolding writes_of
  seen_stored before after old new placed write known form wide is marks = record {
    seen = known.seen ++ (write ∷ []);
    are = known.are ∙ (ap (λ (changes : List ImageChange). after_writes known.seen (writes_of partial changes)) is ∙ sym (after-more known.seen write (writes_of partial after)));
    marked = λ k few.
        let meets = meets_window target.window k in
        marks k few ∙ (ap (λ (b : Bool). b || is_marked_by target placed.place placed.width k) (known.marked k few)
        ∙ (ap (λ (b : Bool). list_any meets (writes_in target.index known.seen) || b) (marked-one source target placed write k form wide)
        ∙ (sym (list_any-append meets (writes_in target.index known.seen) (writes_in target.index (write ∷ [])))
        ∙ ap (list_any meets) (sym (filter-append (λ (w : SegmentWrite). w.segment == target.index) known.seen (write ∷ []))))));
  }

  pub seen_other : (before after : List ImageChange) (marks : WindowMarks) → SeenBy before marks → writes_of partial before ≡ writes_of partial after → SeenBy after marks
  seen_other before after marks known same = record {
    seen = known.seen;
    are = known.are ∙ ap (after_writes known.seen) same;
    marked = known.marked;
  }

  pub seen_all : (left : List ImageChange) (marks : WindowMarks) → SeenBy left marks → left ≡ [] → (writes : List SegmentWrite) × (all ≡ Ok writes) × MarksWrites target.window target.index writes marks
  unfolding writes_of
  seen_all left marks known none =
      (known.seen, known.are ∙ (ap (λ (changes : List ImageChange). after_writes known.seen (writes_of partial changes)) none ∙ (after-ok known.seen [] ∙ ap (λ (ws : List SegmentWrite). Ok ws) (no-more known.seen))), known.marked)

  pub seen_refused : (left : List ImageChange) (marks : WindowMarks) (refusal : Refusal) → SeenBy left marks → writes_of partial left ≡ Err refusal → all ≡ Err refusal
  seen_refused left marks refusal known refused = known.are ∙ (ap (after_writes known.seen) refused ∙ after-err known.seen refusal)

-- the fault of a step as that of the check
pub check_stopped : (source : ImageSource) (partial : Bool) (target : ImageTarget) (wanted : Option WindowReach) (before after : List ImageChange) (marks : WindowMarks) (fault : Fault)
    → SeenSo (writes_of partial (relocation_changes source)) partial target.window target.index before marks → TakesChange source partial wanted before after (Err fault)
    → ChecksAll source partial target.window target.index (Err fault)
check_stopped source partial target wanted before after marks (Refused refusal) known takes =
    λ other. seen_refused (writes_of partial (relocation_changes source)) source partial target before marks refusal known (refused_step source partial wanted before after refusal takes other)
check_stopped source partial target wanted before after marks (Source reason at) known takes = tt
