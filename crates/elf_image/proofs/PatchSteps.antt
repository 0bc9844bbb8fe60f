-- A pass that patches a window: what was seen of the changes, and what is left.
use Rattle.std.proofs.Common.{◌≡◌, ℕ, ◌+◌, ◌-◌, ◌^◌, ◌≤◌, ◌==◌, min, Bool, true, false, List, [], ◌∷◌, ◌++◌, All, length, map, filter, Option, Some, Result, Ok, Err, inl, inr, refl, sym, ap, ◌∙◌}
use Rattle.std.proofs.lemmas.Bool.{cases_eq, eq-eqb, ne_eqb}
use Rattle.std.proofs.lemmas.List.{map-append}
use Rattle.std.proofs.lemmas.List.Elements.{All-nil, All-cons, All-head, All-tail, filter-append}
use Rattle.elf_model.specs.Apply.{StoredBytes, patched, put}
use Rattle.elf_model.specs.ApplyLaws.{clipped}
use Rattle.elf_model.specs.Image.{ImageChange, ImageSource, Keeps, Lacks, Refuses, SegmentWrite, Stores as StoresSome, and_writes, stored_in, writes_of}
use Rattle.elf_model.specs.Prelude.{p_vaddr, segment_at}
use Rattle.elf_model.specs.declared.causes.Refusal.{Refusal}
use Rattle.elf_model.proofs.BudgetLaws.{is_budget_fault}
use Rattle.elf_table.specs.Prelude.{IsOfRead}
use Rattle.elf_table.specs.declared.fault.Fault.{Fault}
use Rattle.elf_table.specs.declared.fault.Fault.TheVariants.{Refused, Source}
use Rattle.elf_image.specs.Changes.{TakesChange}
use Rattle.elf_image.specs.EntryOrder.{IsFarChange, IsFarWrite}
use Rattle.elf_image.specs.RelaRows.{is_in_reach}
use Rattle.elf_image.specs.Written.{PatchesWindow}
use Rattle.elf_image.specs.declared.changes.PlacedBytes.{PlacedBytes}
use Rattle.elf_image.specs.declared.rela_rows.WindowReach.{WindowReach}
use Rattle.elf_image.specs.declared.segment_windows.ImageTarget.{ImageTarget}
use Rattle.elf_image.specs.declared.walk.WalkStep.{WalkStep}
use Rattle.elf_image.specs.declared.walk.WalkStep.TheVariants as step
use Rattle.elf_image.specs.declared.window.ImageWindow.{ImageWindow}
use Rattle.elf_image.proofs.PassSteps.{refused_step}
use Rattle.elf_image.proofs.WindowSteps.{far_is_apart}

-- CHANGES that are left store some writes
stores_rest : (partial : Bool) (write : SegmentWrite) (after : List ImageChange) (rest : List SegmentWrite) → writes_of partial (StoresSome write ∷ after) ≡ Ok rest
    → (left : List SegmentWrite) × (rest ≡ write ∷ left) × (writes_of partial after ≡ Ok left)
unfolding writes_of and_writes
stores_rest partial write after rest is = go (writes_of partial after) refl is
  where
    go : (result : Result (List SegmentWrite) Refusal) → writes_of partial after ≡ result → and_writes write result ≡ Ok rest
        → (left : List SegmentWrite) × (rest ≡ write ∷ left) × (writes_of partial after ≡ Ok left)
    go (Err refusal) e f = absurd (cc)
    go (Ok left) e f = (left, cc, e)

-- after a step that stores one
pub rest_stored : (partial : Bool) (write : SegmentWrite) (before after : List ImageChange) (rest : List SegmentWrite) → before ≡ StoresSome write ∷ after
    → writes_of partial before ≡ Ok rest → (left : List SegmentWrite) × (rest ≡ write ∷ left) × (writes_of partial after ≡ Ok left)
rest_stored partial write before after rest is are = stores_rest partial write after rest (sym (ap (writes_of partial) is) ∙ are)

-- writes that are passed by, and those that are left
pub record PassesWrites (file : List ℕ) (partial : Bool) (reach : WindowReach) (after : List ImageChange) (rest : List SegmentWrite) : Type 0 where
  pub passed : List SegmentWrite
  pub left : List SegmentWrite
  pub split : rest ≡ passed ++ left
  pub are : writes_of partial after ≡ Ok left
  pub far : All (IsFarWrite file reach) passed

none_passed : (file : List ℕ) (partial : Bool) (reach : WindowReach) (after : List ImageChange) (rest : List SegmentWrite) → writes_of partial after ≡ Ok rest → PassesWrites file partial reach after rest
none_passed file partial reach after rest are = record { passed = []; left = rest; split = refl; are = are; far = All-nil (IsFarWrite file reach) }

lack_rest : (partial : Bool) (refusal : Refusal) (changes : List ImageChange) (rest : List SegmentWrite) → writes_of partial (Lacks refusal ∷ changes) ≡ Ok rest → writes_of partial changes ≡ Ok rest
unfolding writes_of
lack_rest true refusal changes rest e = e
lack_rest false refusal changes rest e = absurd (cc)

far_passed : (file : List ℕ) (partial : Bool) (reach : WindowReach) (changes after : List ImageChange) (rest : List SegmentWrite) → All (IsFarChange file (Some reach)) changes
    → writes_of partial (changes ++ after) ≡ Ok rest → PassesWrites file partial reach after rest
unfolding writes_of
far_passed file partial reach [] after rest all are = none_passed file partial reach after rest are
far_passed file partial reach (Keeps ∷ changes) after rest all are = far_passed file partial reach changes after rest (All-tail (IsFarChange file (Some reach)) Keeps changes all) are
far_passed file partial reach (Refuses refusal ∷ changes) after rest all are = absurd (cc)
far_passed file partial reach (Lacks refusal ∷ changes) after rest all are =
    far_passed file partial reach changes after rest (All-tail (IsFarChange file (Some reach)) (Lacks refusal) changes all) (lack_rest partial refusal (changes ++ after) rest are)
far_passed file partial reach (StoresSome write ∷ changes) after rest all are =
    let t = stores_rest partial write (changes ++ after) rest are in
    let p = far_passed file partial reach changes after t.0 (All-tail (IsFarChange file (Some reach)) (StoresSome write) changes all) t.2 in
    record {
      passed = write ∷ p.passed;
      left = p.left;
      split = t.1 ∙ ap (λ (ws : List SegmentWrite). write ∷ ws) p.split;
      are = p.are;
      far = All-cons (IsFarWrite file reach) write p.passed (All-head (IsFarChange file (Some reach)) (StoresSome write) changes all write refl) p.far;
    }

-- after a step that neither stores something nor is the last
pub rest_other : (source : ImageSource) (partial : Bool) (wanted : Option WindowReach) (reach : WindowReach) (before after : List ImageChange) (rest : List SegmentWrite) (taken : WalkStep) → wanted ≡ Some reach
    → ((placed : PlacedBytes) → taken ≡ step.Stores placed → ⊥) → (taken ≡ step.End → ⊥) → TakesChange source partial wanted before after (Ok taken)
    → writes_of partial before ≡ Ok rest → PassesWrites source.file partial reach after rest
unfolding writes_of
rest_other source partial wanted reach before after rest (step.Stores placed) is stores ends takes are = absurd (stores placed refl)
rest_other source partial wanted reach before after rest (step.Lacks ordered cause) is stores ends takes are =
    none_passed source.file partial reach after rest (lack_rest partial (record { at = ordered.at; cause = cause }) after rest (sym (ap (writes_of partial) takes.1) ∙ are))
rest_other source partial wanted reach before after rest step.Nothing is stores ends takes are =
    let t = rw is at takes in
    elim t [
      | inl passes ↦ far_passed source.file partial reach passes.0 after rest passes.2 (sym (ap (writes_of partial) passes.1) ∙ are)
      | inr refused ↦ let f : Err refused.0 ≡ Ok rest = sym (ap (writes_of partial) refused.2) ∙ are in absurd (cc)
    ]
rest_other source partial wanted reach before after rest step.End is stores ends takes are = absurd (ends refl)

-- the fault of a step is one of a read if nothing is refused
pub unrefused_step : (source : ImageSource) (partial : Bool) (wanted : Option WindowReach) (before after : List ImageChange) (rest : List SegmentWrite) (fault : Fault)
    → TakesChange source partial wanted before after (Err fault) → writes_of partial before ≡ Ok rest → IsOfRead fault
unrefused_step source partial wanted before after rest (Refused refusal) takes are = elim (is_budget_fault refusal.cause) [
  | inl budget ↦ budget
  | inr other ↦ let f : Err refusal ≡ Ok rest = sym (refused_step source partial wanted before after refusal takes other) ∙ are in absurd (cc)
]
unrefused_step source partial wanted before after rest (Source reason at) takes are = tt

-- STORED BYTES of several writes
stored-append : (segment : ℕ) (first others : List SegmentWrite) → stored_in segment (first ++ others) ≡ stored_in segment first ++ stored_in segment others
unfolding stored_in
stored-append segment first others =
    ap (map (λ (write : SegmentWrite). write.stored)) (filter-append (λ (write : SegmentWrite). write.segment == segment) first others)
    ∙ map-append (λ (write : SegmentWrite). write.stored) (filter (λ (write : SegmentWrite). write.segment == segment) first) (filter (λ (write : SegmentWrite). write.segment == segment) others)

one-stored : (segment : ℕ) (write : SegmentWrite) → write.segment ≡ segment → stored_in segment (write ∷ []) ≡ write.stored ∷ []
unfolding stored_in
one-stored segment write same = rw (eq-eqb write.segment segment same) refl

none-stored : (segment : ℕ) (write : SegmentWrite) → (write.segment ≡ segment → ⊥) → stored_in segment (write ∷ []) ≡ []
unfolding stored_in
none-stored segment write other = rw (ne_eqb write.segment segment other) refl

patched-append : (first others : List StoredBytes) (base : List ℕ) → patched (first ++ others) base ≡ patched others (patched first base)
unfolding patched
patched-append [] others base = refl
patched-append (patch ∷ first) others base = patched-append first others (put patch base)

patched-one : (patch : StoredBytes) (base : List ℕ) → patched (patch ∷ []) base ≡ put patch base
unfolding patched
patched-one patch base = refl

patched-none : (base : List ℕ) → patched [] base ≡ base
unfolding patched
patched-none base = refl

stored-nil : (segment : ℕ) → stored_in segment [] ≡ []
unfolding stored_in
stored-nil segment = refl

-- some writes, and then others
pub patches_then : (target : ImageTarget) (seen more : List SegmentWrite) (a b c : ImageWindow) → b.low ≡ a.low → length b.bytes.now ≡ length a.bytes.now
    → PatchesWindow target seen a b → PatchesWindow target more b c → PatchesWindow target (seen ++ more) a c
patches_then target seen more a b c low long first then =
    let part : ℕ → ℕ → StoredBytes → StoredBytes = λ l n. clipped l n in
    let n = length a.bytes.now in
    then
    ∙ (ap (λ (l : ℕ). patched (map (part l (length b.bytes.now)) (stored_in target.index more)) b.bytes.now) low
    ∙ (ap (λ (k : ℕ). patched (map (part a.low k) (stored_in target.index more)) b.bytes.now) long
    ∙ (ap (patched (map (part a.low n) (stored_in target.index more))) first
    ∙ (sym (patched-append (map (part a.low n) (stored_in target.index seen)) (map (part a.low n) (stored_in target.index more)) a.bytes.now)
    ∙ (ap (λ (xs : List StoredBytes). patched xs a.bytes.now) (sym (map-append (part a.low n) (stored_in target.index seen) (stored_in target.index more)))
    ∙ ap (λ (xs : List StoredBytes). patched (map (part a.low n) xs) a.bytes.now) (sym (stored-append target.index seen more)))))))

pub patches_none : (target : ImageTarget) (a : ImageWindow) → PatchesWindow target [] a a
patches_none target a = sym (patched-none a.bytes.now) ∙ ap (λ (xs : List StoredBytes). patched (map (clipped a.low (length a.bytes.now)) xs) a.bytes.now) (sym (stored-nil target.index))

-- a write to another segment
pub patches_elsewhere : (target : ImageTarget) (write : SegmentWrite) (a b : ImageWindow) → (write.segment ≡ target.index → ⊥) → b.bytes.now ≡ a.bytes.now → PatchesWindow target (write ∷ []) a b
patches_elsewhere target write a b other same =
    same ∙ (sym (patched-none a.bytes.now) ∙ ap (λ (xs : List StoredBytes). patched (map (clipped a.low (length a.bytes.now)) xs) a.bytes.now) (sym (none-stored target.index write other)))

-- a write to the segment
pub patches_here : (target : ImageTarget) (write : SegmentWrite) (a b : ImageWindow) → write.segment ≡ target.index → b.bytes.now ≡ put (clipped a.low (length a.bytes.now) write.stored) a.bytes.now
    → PatchesWindow target (write ∷ []) a b
patches_here target write a b same puts =
    puts ∙ (sym (patched-one (clipped a.low (length a.bytes.now) write.stored) a.bytes.now)
    ∙ ap (λ (xs : List StoredBytes). patched (map (clipped a.low (length a.bytes.now)) xs) a.bytes.now) (sym (one-stored target.index write same)))

-- and back
pub put_here : (target : ImageTarget) (write : SegmentWrite) (a b : ImageWindow) → write.segment ≡ target.index → PatchesWindow target (write ∷ []) a b
    → b.bytes.now ≡ put (clipped a.low (length a.bytes.now) write.stored) a.bytes.now
put_here target write a b same patches =
    patches ∙ (ap (λ (xs : List StoredBytes). patched (map (clipped a.low (length a.bytes.now)) xs) a.bytes.now) (one-stored target.index write same)
    ∙ patched-one (clipped a.low (length a.bytes.now) write.stored) a.bytes.now)

pub put_elsewhere : (target : ImageTarget) (write : SegmentWrite) (a b : ImageWindow) → (write.segment ≡ target.index → ⊥) → PatchesWindow target (write ∷ []) a b → b.bytes.now ≡ a.bytes.now
put_elsewhere target write a b other patches =
    patches ∙ (ap (λ (xs : List StoredBytes). patched (map (clipped a.low (length a.bytes.now)) xs) a.bytes.now) (none-stored target.index write other) ∙ patched-none a.bytes.now)

-- writes that are far from a window change nothing in it
pub far_kept : (file : List ℕ) (reach : WindowReach) (target : ImageTarget) (low n : ℕ) (writes : List SegmentWrite) (bytes : List ℕ) → length bytes ≡ n
    → reach.first ≡ min (target.first + low) (2 ^ 64 - 1) - 15 → reach.last ≡ min (min (target.first + low) (2 ^ 64 - 1) + n) (2 ^ 64 - 1)
    → target.first ≡ p_vaddr file (segment_at file target.index) → target.first + target.size ≤ 2 ^ 64 → low + n ≤ target.size
    → All (IsFarWrite file reach) writes → bytes ≡ patched (map (clipped low n) (stored_in target.index writes)) bytes
far_kept file reach target low n [] bytes long first last place end fits all =
    sym (patched-none bytes) ∙ ap (λ (xs : List StoredBytes). patched (map (clipped low n) xs) bytes) (sym (stored-nil target.index))
far_kept file reach target low n (write ∷ writes) bytes long first last place end fits all =
    let part = clipped low n in
    let rest = far_kept file reach target low n writes bytes long first last place end fits (All-tail (IsFarWrite file reach) write writes all) in
    let far = All-head (IsFarWrite file reach) write writes all in
    let one : bytes ≡ patched (map part (stored_in target.index (write ∷ []))) bytes = elim (cases_eq write.segment target.index) [
      | inl same ↦
          let address : p_vaddr file (segment_at file write.segment) + write.stored.at ≡ target.first + write.stored.at =
          ap (λ (i : ℕ). p_vaddr file (segment_at file i) + write.stored.at) same ∙ ap (λ (v : ℕ). v + write.stored.at) (sym place) in
          let out : is_in_reach reach (target.first + write.stored.at) ≡ false = ap (is_in_reach reach) (sym address) ∙ far.far in
          sym (far_is_apart reach target.first target.size low n write.stored bytes long first last out far.few end fits)
          ∙ (sym (patched-one (part write.stored) bytes) ∙ ap (λ (xs : List StoredBytes). patched (map part xs) bytes) (sym (one-stored target.index write same)))
      | inr other ↦ sym (patched-none bytes) ∙ ap (λ (xs : List StoredBytes). patched (map part xs) bytes) (sym (none-stored target.index write other))
    ] in
    rest
    ∙ (ap (patched (map part (stored_in target.index writes))) one
    ∙ (sym (patched-append (map part (stored_in target.index (write ∷ []))) (map part (stored_in target.index writes)) bytes)
    ∙ (ap (λ (xs : List StoredBytes). patched xs bytes) (sym (map-append part (stored_in target.index (write ∷ [])) (stored_in target.index writes)))
    ∙ ap (λ (xs : List StoredBytes). patched (map part xs) bytes) (sym (stored-append target.index (write ∷ []) writes)))))
