-- Applying to a section of a loaded file, stage by stage.
use Rattle.std.proofs.Common.{◌≡◌, ℕ, true, List, [], ◌∷◌, ◌++◌, length, flat_map, None, Some, Result, Ok, Err, refl, sym, ap, ◌∙◌, subst, arith}
use Rattle.elf_model.specs.Prelude.{AllInside, Fails, IsBudgetRefusal, Layout, Put, SectionChange, StoredBytes, and_patches, applied, apply_checks, before_entries, changes_of, e_shnum, first_refusal, header_checks, held_bytes, load_checks, patched, patches_of, places_from, section_at, section_changes, slice, target_of}
use Rattle.elf_model.specs.declared.causes.Refusal.{Refusal}
use Rattle.elf_model.proofs.CheckSteps.{first_refusal-none, first_refusal-some}
use Rattle.elf_model.proofs.ApplySteps.{applied-refused, applied-fault, applied-patched}
use Rattle.elf_model.proofs.ChangeLaws.{changes_inside}
use Rattle.elf_source.specs.Output.{OutState}
use Rattle.elf_table.specs.Prelude.{HeaderRead, HoldsSectionHeaders, LoadedAs, StoreState, stop_of}
use Rattle.elf_table.specs.declared.fault.Fault.{Fault}
use Rattle.elf_table.specs.declared.run_fault.RunFault.{RunFault}
use Rattle.elf_table.specs.declared.fault.Fault.TheVariants.{Refused as Refuses}
use Rattle.elf_reloc.specs.Prelude.{Applies, ChecksEntries, HeldIs, IsApplyTarget, WritesOrWants, changes_all, changes_from, folded, rising, section_count_of, target_as}
use Rattle.elf_reloc.specs.declared.apply_section.Applied.{Applied}
use Rattle.elf_reloc.specs.declared.entry.ApplyTarget.{ApplyTarget as TargetCode}
use Rattle.elf_reloc.proofs.WindowSteps.{front_none}

-- what a pass implies for the patches
pub and_ok : (patch : StoredBytes) (rest : Result (List StoredBytes) Refusal) (patches : List StoredBytes) → rest ≡ Ok patches → and_patches patch rest ≡ Ok (patch ∷ patches)
unfolding and_patches
and_ok patch rest patches h = rw h refl

and_err : (patch : StoredBytes) (rest : Result (List StoredBytes) Refusal) (refusal : Refusal) → rest ≡ Err refusal → and_patches patch rest ≡ Err refusal
unfolding and_patches
and_err patch rest refusal h = rw h refl

pub folded_ok : {A : Type 0} (step : A → StoredBytes → A) (value last : A) (changes : List SectionChange) → folded step value changes ≡ Ok last → (patches : List StoredBytes) × (patches_of changes ≡ Ok patches)
unfolding folded patches_of
folded_ok step value last [] h = ([], refl)
folded_ok step value last (Put patch ∷ changes) h = let p = folded_ok step (step value patch) last changes h in (patch ∷ p.0, and_ok patch (patches_of changes) p.0 p.1)
folded_ok step value last (Fails refusal ∷ changes) h = cc

pub folded_err : {A : Type 0} (step : A → StoredBytes → A) (value : A) (refusal : Refusal) (changes : List SectionChange) → folded step value changes ≡ Err refusal → patches_of changes ≡ Err refusal
unfolding folded patches_of
folded_err step value refusal [] h = cc
folded_err step value refusal (Put patch ∷ changes) h = and_err patch (patches_of changes) refusal (folded_err step (step value patch) refusal changes h)
folded_err step value refusal (Fails other ∷ changes) h = let e : other ≡ refusal = cc in ap (λ r. Err r) e

-- the changes are those of the definition
pub changes_same :
    (file : List ℕ) (headers : ℕ) (target : TargetCode) (at : ℕ) → HoldsSectionHeaders file target.file.loaded target.file.store.now
    → length (slice file at target.size) ≡ target.size → IsApplyTarget file headers target at
    → changes_all file target ≡ changes_of (target_of file target.section target.layout.now)
unfolding changes_of changes_from
changes_same file headers target at belongs long is_at =
    let count : section_count_of target ≡ e_shnum file = belongs.count ∙ belongs.header.e_shnum in
    let same : target.size ≡ length (held_bytes file (section_at file target.section)) = sym long ∙ ap length is_at.bytes in
    ap (λ n. flat_map (section_changes (target_as file target)) (places_from (section_at file) 0 n)) count
    ∙ ap (λ k. flat_map (section_changes (record { file = file; section = target.section; size = k; layout = target.layout.now })) (places_from (section_at file) 0 (e_shnum file))) same

-- nothing was written
failed :
    (a : OutState) (fault : Fault) (result : Result Applied RunFault) (entries : ℕ) (answer : Result (List ℕ) Refusal) → result ≡ Err (stop_of fault)
    → ((refusal : Refusal) → fault ≡ Refuses refusal → (IsBudgetRefusal refusal → ⊥) → answer ≡ Err refusal) → Applies a a result entries answer
failed a fault result entries answer is refused = grind (arith, front_none)

module _ (file : List ℕ) (headers : ℕ) (target : TargetCode) (at : ℕ) (belongs : HoldsSectionHeaders file target.file.loaded target.file.store.now) (long : length (slice file at target.size) ≡ target.size) (is_at : IsApplyTarget file headers target at) (entries : ℕ) where
  abbrev the_answer : Result (List ℕ) Refusal
  the_answer = applied file headers target.section target.layout.now

  of_definition : {X : Type 0} (f : List SectionChange → X) → f (changes_all file target) ≡ f (changes_of (target_of file target.section target.layout.now))
  of_definition f = ap f (changes_same file headers target at belongs long is_at)

  pub check_failed :
      (a : OutState) (fault : Fault) (result : Result Applied RunFault) → result ≡ Err (stop_of fault)
      → ChecksEntries (Err fault) (folded rising (true, 0) (changes_all file target)) → Applies a a result entries the_answer
  check_failed a fault result is h = failed a fault result entries the_answer is (λ refusal same other.
      let read = rw same at h in
      applied-fault file headers target.section target.layout.now refusal is_at.passed (sym (of_definition patches_of) ∙ folded_err rising (true, 0) refusal (changes_all file target) (read other)))

  pub text_is : (patches : List StoredBytes) → patches_of (changes_all file target) ≡ Ok patches → the_answer ≡ Ok (patched patches (slice file at target.size))
  text_is patches h =
      applied-patched file headers target.section target.layout.now patches is_at.passed (sym (of_definition patches_of) ∙ h) ∙ ap (λ b. Ok (patched patches b)) (sym is_at.bytes)

  pub all_inside : (patches : List StoredBytes) → patches_of (changes_all file target) ≡ Ok patches → AllInside target.size patches
  all_inside patches h =
      let within = changes_inside (target_of file target.section target.layout.now) patches (sym (of_definition patches_of) ∙ h) in
      let P : ℕ → Type 0 = λ n. AllInside n patches in subst P (sym (sym long ∙ ap length is_at.bytes)) within

pub writes_failed : (X : Type 0) (a b : OutState) (fault : RunFault) (text : List ℕ) (entries : ℕ) (answer : Result (List ℕ) Refusal) → answer ≡ Ok text → WritesOrWants {X = X} a b (Err fault) text → Applies a b (Err fault) entries answer
writes_failed X a b fault text entries answer e h = grind arith

-- the whole request
module _ (file : List ℕ) (headers section : ℕ) (layout : Layout) (entries : ℕ) where
  failed_before :
      (a : OutState) (fault : Fault) (result : Result Applied RunFault) → result ≡ Err (stop_of fault)
      → ((refusal : Refusal) → fault ≡ Refuses refusal → (IsBudgetRefusal refusal → ⊥) → first_refusal (before_entries file headers section) ≡ Some refusal) → Applies a a result entries (applied file headers section layout)
  failed_before a fault result is first = failed a fault result entries _ is (λ refusal same other. applied-refused file headers section layout refusal (first refusal same other))

  pub before_request : first_refusal (header_checks file) ≡ None → first_refusal (load_checks file headers) ≡ None → first_refusal (before_entries file headers section) ≡ first_refusal (apply_checks file section)
  before_request passed loads =
      first_refusal-none (header_checks file ++ load_checks file headers) (apply_checks file section) (first_refusal-none (header_checks file) (load_checks file headers) passed ∙ loads)

  pub header_failed :
      (a : OutState) (fault : Fault) (result : Result Applied RunFault) → result ≡ Err (stop_of fault) → HeaderRead file (Err fault) → Applies a a result entries (applied file headers section layout)
  header_failed a fault result is read = failed_before a fault result is (grind (arith, first_refusal-some))

  pub load_failed :
      (a : OutState) (fault : Fault) (result : Result Applied RunFault) (store : StoreState) → result ≡ Err (stop_of fault) → first_refusal (header_checks file) ≡ None → store.slots ≡ headers → LoadedAs file (Err fault) store
      → Applies a a result entries (applied file headers section layout)
  load_failed a fault result store is passed slots read = failed_before a fault result is (grind (arith, first_refusal-some, first_refusal-none))

  pub request_failed :
      (a : OutState) (fault : Fault) (result : Result Applied RunFault) → result ≡ Err (stop_of fault) → first_refusal (header_checks file) ≡ None → first_refusal (load_checks file headers) ≡ None → HeldIs file section (Err fault)
      → Applies a a result entries (applied file headers section layout)
  request_failed a fault result is passed loads held = failed_before a fault result is (grind (arith, before_request))
