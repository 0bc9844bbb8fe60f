-- The image that is asked for, by its checks one after another, by its relocations, and as it is
-- written.
use Rattle.std.proofs.Common.{◌≡◌, ℕ, ◌+◌, ◌^◌, ◌<◌, ◌≤◌, ◌==◌, ◌||◌, nat_lt, Bool, true, false, List, [], ◌∷◌, ◌++◌, length, None, Some, Result, Ok, Err, refl, inl, sym, ap, subst, ◌∙◌, arith, append_assoc}
use Rattle.std.specs.Prelude.{is_none, unwrap_or}
use Rattle.std.proofs.lemmas.Bool.{eq-eqb, eqb-true, ltb-false, ltb-true}
use Rattle.elf_model.specs.Checks.{Check, first_refusal, header_checks, is_outside, load_checks, pass}
use Rattle.elf_model.specs.Image.{ImageSource, SegmentWrite, image_by_segments, image_changes, relocated_segment, relocation_changes, writes_of}
use Rattle.elf_model.specs.ImageChecks.{image_checks, kind_checks, requested_checks, segment_load_checks, segments_load_checks}
use Rattle.elf_model.specs.Numbers.{PT_LOAD}
use Rattle.elf_model.specs.Overlaps.{overlap_checks}
use Rattle.elf_model.specs.Prelude.{IsBudgetRefusal, e_phnum, p_filesz, p_memsz, p_offset, p_type, p_vaddr, segment_at}
use Rattle.elf_model.specs.declared.causes.Refusal.{Refusal}
use Rattle.elf_model.proofs.CheckSteps.{first_refusal-back, first_refusal-none, first_refusal-some, passes_front}
use Rattle.elf_record.specs.Phdr.{IsPhdr}
use Rattle.elf_record.specs.declared.phdr.Phdr.{Phdr}
use Rattle.elf_source.specs.Prelude.{CountedState, ExceedsBudget, OutState, ReadsUpTo, file_by}
use Rattle.elf_table.specs.Prelude.{HoldsProgramHeaders, RefusedBy}
use Rattle.elf_table.specs.Stops.{stop_of}
use Rattle.elf_table.specs.declared.fault.Fault.{Fault}
use Rattle.elf_table.specs.declared.fault.Fault.TheVariants as fault
use Rattle.elf_table.specs.declared.run_fault.RunFault.{RunFault}
use Rattle.elf_table.specs.declared.run_fault.RunFault.TheVariants.{Out, Refused, Source}
use Rattle.elf_reloc.proofs.WindowSteps.{front_none}
use Rattle.elf_image.specs.Chunks.{HoldsChunks}
use Rattle.elf_image.specs.Items.{GivenItems, number_of, said_by}
use Rattle.elf_image.specs.declared.image_items.ItemKind.TheVariants.{LoadAddress}
use Rattle.elf_image.specs.Relocated.{ReadsAfter, SaysRelocations, entries_header, relocation_checks}
use Rattle.elf_image.specs.Values.{IsBased, known_items}
use Rattle.elf_image.specs.declared.changes.ImageFile.{ImageFile}
use Rattle.elf_reloc.specs.Applied.{text_of}
use Rattle.elf_image.specs.ImageWrites.{HasSource, IsMaskedFile, IsTooLarge, RefusesOverLimit, WritesImage, asked_image, request_items, relocated_bytes}
use Rattle.elf_image.specs.Written.{AllowsBytes, BudgetDecides, ChecksAll, IsTargetOf, WritesWithinLimit, bytes_after}
use Rattle.elf_image.specs.declared.segment_image.ImageRequest.{ImageRequest}
use Rattle.elf_image.specs.declared.segment_windows.ImageTarget.{ImageTarget}
use Rattle.elf_image.proofs.HeaderSteps.{each_passes, load_within, loads_all, only_too_large}
use Rattle.elf_image.proofs.ToldSteps.{changes_are}

-- a fault is one of an answer, unless a read failed
abbrev pub FaultOf : Result (List ℕ) Refusal → Fault → Type 0
FaultOf answer (fault.Refused refusal) = (IsBudgetRefusal refusal → ⊥) → answer ≡ Err refusal
FaultOf answer (fault.Source reason at) = Unit {0}

-- nothing is written before a fault
pub stops_before : (X : Type 0) (out : OutState) (fault : Fault) (result : Result X RunFault) (answer : Result (List ℕ) Refusal) → result ≡ Err (stop_of fault) → FaultOf answer fault → WritesImage out out result answer
stops_before X out (fault.Refused refusal) result answer is of = rw is (of, refl)
stops_before X out (fault.Source reason at) result answer is of = rw is (front_none out (text_of answer))

-- RELOCATIONS that are refused, and those that pass
module _ (source : ImageSource) (partial : Bool) (target : ImageTarget) where
  relocated_refused : (refusal : Refusal) → writes_of partial (relocation_changes source) ≡ Err refusal → relocated_bytes source partial target ≡ Err refusal
  relocated_refused refusal e = rw (e, relocated_bytes) refl

  pub relocated_made : (writes : List SegmentWrite) → writes_of partial (relocation_changes source) ≡ Ok writes → relocated_bytes source partial target ≡ Ok (bytes_after source target writes)
  relocated_made writes e = rw (e, relocated_bytes) refl

  pub check_stops : (window segment : ℕ) (fault : Fault) → ChecksAll source partial window segment (Err fault) → FaultOf (relocated_bytes source partial target) fault
  check_stops window segment (fault.Refused refusal) checks = λ other. relocated_refused refusal (checks other)
  check_stops window segment (fault.Source reason at) checks = tt

pub budget_stops : (X : Type 0) (src : CountedState) (at cost : ℕ) (fault : Fault) (answer : Result (List ℕ) Refusal) → BudgetDecides {X = X} src at cost (Err fault) → FaultOf answer fault
budget_stops X src at cost (fault.Refused refusal) answer decides = λ other. absurd (other (ap (λ (r : Refusal). r.cause) decides.0))
budget_stops X src at cost (fault.Source reason offset) answer decides = tt

-- CHECKS before the relocations
module _ (whole file : List ℕ) (headers : ℕ) (request : ImageRequest) where
  abbrev loaded : List Check
  loaded = header_checks file ++ load_checks file headers

  abbrev kinds : List Check
  kinds = overlap_checks file ++ kind_checks file ++ segments_load_checks file

  abbrev requested : List Check
  requested = requested_checks file request.segment request.most

  abbrev answer : Result (List ℕ) Refusal
  answer = asked_image whole file headers request

  checks_are : image_checks file headers requested ≡ loaded ++ (kinds ++ (requested ++ relocation_checks file))
  unfolding image_checks
  checks_are = simp append_assoc

  refused_as : (refusal : Refusal) → first_refusal (image_checks file headers requested) ≡ Some refusal → answer ≡ Err refusal
  unfolding image_by_segments
  refused_as refusal e = rw (e, image_by_segments) refl

  pub load_refused : (refusal : Refusal) → first_refusal loaded ≡ Some refusal → answer ≡ Err refusal
  load_refused refusal e = refused_as refusal (ap first_refusal checks_are ∙ first_refusal-some loaded (kinds ++ (requested ++ relocation_checks file)) refusal e)

  module _ (opened : first_refusal loaded ≡ None) where
    after_load : first_refusal (image_checks file headers requested) ≡ first_refusal (kinds ++ (requested ++ relocation_checks file))
    after_load = ap first_refusal checks_are ∙ first_refusal-none loaded (kinds ++ (requested ++ relocation_checks file)) opened

    pub kinds_refuse : (fault : Fault) → RefusedBy kinds fault → FaultOf answer fault
    kinds_refuse (fault.Refused refusal) e = λ other. refused_as refusal (after_load ∙ first_refusal-some kinds (requested ++ relocation_checks file) refusal e)
    kinds_refuse (fault.Source reason at) e = tt

    module _ (kind : first_refusal kinds ≡ None) where
      after_kinds : first_refusal (image_checks file headers requested) ≡ first_refusal (requested ++ relocation_checks file)
      after_kinds = after_load ∙ first_refusal-none kinds (requested ++ relocation_checks file) kind

      pub no_overlap : pass (overlap_checks file) ≡ true
      no_overlap = ap is_none (passes_front (overlap_checks file) (kind_checks file) (passes_front (overlap_checks file ++ kind_checks file) (segments_load_checks file) kind))

      pub loads_pass : first_refusal (segments_load_checks file) ≡ None
      loads_pass = first_refusal-back (overlap_checks file ++ kind_checks file) (segments_load_checks file) kind

      request_answer : (refusal : Refusal) → first_refusal requested ≡ Some refusal → answer ≡ Err refusal
      request_answer refusal e = refused_as refusal (after_kinds ∙ first_refusal-some requested (relocation_checks file) refusal e)

      pub request_refused : (fault : Fault) → RefusedBy requested fault → FaultOf answer fault
      request_refused (fault.Refused refusal) e = λ other. request_answer refusal e
      request_refused (fault.Source reason at) e = tt

      -- a segment with more bytes than are allowed
      pub request_limits : (src : CountedState) (n : ℕ) (fault : Fault) → RefusedBy requested fault → RefusesOverLimit src n (IsTooLarge file request.segment request.most) answer (stop_of fault)
      request_limits src n (fault.Refused refusal) e = λ budget. inl (only_too_large file request.segment request.most refusal e budget, request_answer refusal e)
      request_limits src n (fault.Source reason at) e = tt

      module _ (asked : first_refusal requested ≡ None) where
        after_request : first_refusal (image_checks file headers requested) ≡ first_refusal (relocation_checks file)
        after_request = after_kinds ∙ first_refusal-none requested (relocation_checks file) asked

        pub told_refused : {X : Type 0} (Is : X → Type 0) (fault : Fault) → ReadsAfter (relocation_checks file) Is (Err fault) → FaultOf answer fault
        told_refused Is (fault.Refused refusal) e = λ other. refused_as refusal (after_request ∙ e other)
        told_refused Is (fault.Source reason at) e = tt

        module _ (told : first_refusal (relocation_checks file) ≡ None) where
          -- the file whose relocations are applied
          abbrev pub relocated : ImageSource
          relocated = record { whole = whole; file = file; at = entries_header file; items = request_items request }

          changes : writes_of request.leaves (image_changes whole file (request_items request)) ≡ writes_of request.leaves (relocation_changes relocated)
          changes = ap (writes_of request.leaves) (changes_are whole file (request_items request))

          passed : first_refusal (image_checks file headers requested) ≡ None
          passed = after_request ∙ told

          pub entries_refused : (refusal : Refusal) → writes_of request.leaves (relocation_changes relocated) ≡ Err refusal → answer ≡ Err refusal
          unfolding image_by_segments said_by
          entries_refused refusal e = let f = changes ∙ e in rw (passed, image_by_segments) (rw (f, image_by_segments) refl)

          pub image_made : (writes : List SegmentWrite) → writes_of request.leaves (relocation_changes relocated) ≡ Ok writes → answer ≡ Ok (relocated_segment whole file request.segment writes)
          unfolding image_by_segments said_by
          image_made writes e = let f = changes ∙ e in rw (passed, image_by_segments) (rw (f, image_by_segments) refl)

          pub relocated_answer : (target : ImageTarget) → target.index ≡ request.segment → relocated_bytes relocated request.leaves target ≡ answer
          relocated_answer target same = go (writes_of request.leaves (relocation_changes relocated)) refl
            where
              go : (result : Result (List SegmentWrite) Refusal) → writes_of request.leaves (relocation_changes relocated) ≡ result → relocated_bytes relocated request.leaves target ≡ answer
              go (Err refusal) e = relocated_refused relocated request.leaves target refusal e ∙ sym (entries_refused refusal e)
              go (Ok writes) e =
                  relocated_made relocated request.leaves target writes e
                  ∙ (ap (λ (i : ℕ). Ok (relocated_segment whole file i writes)) same ∙ sym (image_made writes e))

-- the load address of items
pub said_base : (items : GivenItems) (partial : Bool) → (said_by items partial).base ≡ unwrap_or (number_of items LoadAddress 0) 0
unfolding said_by
said_base items partial = refl

-- THE SEGMENT that is asked for
module _ (file : List ℕ) (index most : ℕ) (loads : first_refusal (segments_load_checks file) ≡ None) where
  requested_load : first_refusal (requested_checks file index most) ≡ None → (index < e_phnum file) × (p_type file (segment_at file index) ≡ PT_LOAD)
  unfolding requested_checks
  requested_load asked = go (nat_lt index (e_phnum file)) (p_type file (segment_at file index) == PT_LOAD) refl refl asked
    where
      go : (a b : Bool) → nat_lt index (e_phnum file) ≡ a → (p_type file (segment_at file index) == PT_LOAD) ≡ b → first_refusal (requested_checks file index most) ≡ None
          → (index < e_phnum file) × (p_type file (segment_at file index) ≡ PT_LOAD)
      go true true e f h = (ltb-true index (e_phnum file) e, eqb-true (p_type file (segment_at file index)) PT_LOAD f)
      go true false e f h = let g = rw (e, f, requested_checks) at h in absurd (cc)
      go false b e f h = let g = rw (e, requested_checks) at h in absurd (cc)

  load_fits : (at : ℕ) → p_type file at ≡ PT_LOAD → first_refusal (segment_load_checks file at) ≡ None → (p_filesz file at ≤ p_memsz file at) × (p_vaddr file at + p_memsz file at ≤ 2 ^ 64)
  load_fits at load passes =
      let checks = rw (eq-eqb (p_type file at) PT_LOAD load) at passes in
      let parts = none_fails _ (nat_lt (p_memsz file at) (p_filesz file at)) (is_outside (length file) (p_offset file at) (p_filesz file at)) (nat_lt (2 ^ 64) (p_vaddr file at + p_memsz file at)) _ _ checks in
      (ltb-false (p_memsz file at) (p_filesz file at) parts.0, ltb-false (2 ^ 64) (p_vaddr file at + p_memsz file at) parts.1)
    where
      none_fails : (a b c d : Bool) (one two : Refusal) → first_refusal (record { fails = a; refusal = one } ∷ record { fails = b || (c || d); refusal = two } ∷ []) ≡ None → (b ≡ false) × (d ≡ false)
      none_fails true b c d one two p = cc
      none_fails false true c d one two p = cc
      none_fails false false true d one two p = cc
      none_fails false false false true one two p = cc
      none_fails false false false false one two p = (refl, refl)

  pub target_is : (source : ImageSource) (header : Phdr) (target : ImageTarget) → source.file ≡ file → length source.whole ≡ length file → first_refusal (requested_checks file index most) ≡ None
      → IsPhdr file (segment_at file index) header → target.index ≡ index → target.first ≡ header.p_vaddr → target.bytes.at ≡ header.p_offset → target.bytes.size ≡ header.p_filesz → target.size ≡ header.p_memsz
      → target.size < 2 ^ 64 → IsTargetOf source target
  target_is source header target same long asked is place first at held size small =
      let at_index : segment_at source.file target.index ≡ segment_at file index = ap (λ (f : List ℕ). segment_at f target.index) same ∙ ap (segment_at file) place in
      let here = segment_at file index in
      let load = requested_load asked in
      let zero : 0 + index ≡ index = omega arith in
      let one = subst (λ (i : ℕ). first_refusal (segment_load_checks file (segment_at file i)) ≡ None) zero (each_passes file 0 (e_phnum file) index load.0 (loads_all file ∙ loads)) in
      let fits = load_fits here load.1 one in
      let within = load_within file here load.1 one in
      let vaddr : target.first ≡ p_vaddr file here = first ∙ is.p_vaddr in
      let offset : target.bytes.at ≡ p_offset file here = at ∙ is.p_offset in
      let bytes : target.bytes.size ≡ p_filesz file here = held ∙ is.p_filesz in
      let memory : target.size ≡ p_memsz file here = size ∙ is.p_memsz in
      rw (same, place)
      (record {
        first = vaddr;
        place = offset;
        held = bytes;
        size = memory;
        fits = omega (arith, fits.0, bytes, memory);
        small = small;
        end = omega (arith, fits.1, vaddr, memory);
        whole = omega (arith, within, offset, bytes, long);
      })

-- WHAT IS WRITTEN for a request, after reads that find the relocations of the file
module _ (whole file : List ℕ) (request : ImageRequest) where
  abbrev pub source_for : ImageSource
  source_for = record { whole = whole; file = file; at = entries_header file; items = request_items request }

  pub has_source : {a b : CountedState} {n : ℕ} {image : ImageFile} (hides : Bool) (header : Phdr) (target : ImageTarget) → IsMaskedFile a hides whole file → ReadsUpTo a b n → a.seen.size < 2 ^ 64
      → HoldsProgramHeaders file image.view.loaded image.view.store.now → pass (overlap_checks file) ≡ true → known_items image ≡ request_items request → IsBased image
      → SaysRelocations file (entries_header file) image.told → HoldsChunks file image.told.ranges.first.at image.chunks → first_refusal (segments_load_checks file) ≡ None
      → first_refusal (requested_checks file request.segment request.most) ≡ None → IsPhdr file (segment_at file request.segment) header → (target.index ≡ request.segment) × (target.first ≡ header.p_vaddr) × (target.size ≡ header.p_memsz)
      → (target.bytes.at ≡ header.p_offset) × (target.bytes.size ≡ header.p_filesz) → target.hides ≡ hides → target.size < 2 ^ 64 → HasSource b image source_for target
  has_source {a} {b} hides header target mask reads few views apart items based told chunks loads asked is place held shows small = record {
    file = reads.keeps.same_file ∙ mask.seen;
    whole = ap (λ h. file_by h b.source.file) shows ∙ (ap (file_by hides) reads.view.keeps.same_file ∙ mask.whole_is);
    small = omega (arith, reads.keeps.same_size, few);
    image_is = record { held = views; apart = apart; items = items; based = based; told = told; chunks = chunks };
    target_is = target_is file request.segment request.most loads source_for header target refl mask.long asked is place.0 place.1 held.0 held.1 place.2 small;
  }

-- ALL IS CHECKED: within the limit no refusal comes after that
pub written_image : (X : Type 0) (before after : CountedState) (old new : OutState) (result : Result X RunFault) (bytes : List ℕ) (cost : ℕ) (answer : Result (List ℕ) Refusal) → answer ≡ Ok bytes
    → AllowsBytes before cost → ((fault : RunFault) → result ≡ Err fault → (refusal : Refusal) → fault ≡ Refused refusal → IsBudgetRefusal refusal → ExceedsBudget before after cost)
    → WritesWithinLimit old new result bytes → WritesImage old new result answer
written_image X before after old new (Ok x) bytes cost answer is allows refuses writes = (bytes, is, writes)
written_image X before after old new (Err (Refused refusal)) bytes cost answer is allows refuses writes =
    let over = refuses (Refused refusal) refl refusal refl writes.0 in
    let within = allows over.most over.is_set in
    absurd (omega (arith, within, over.above))
written_image X before after old new (Err (Source reason at)) bytes cost answer is allows refuses writes = rw is writes
written_image X before after old new (Err (Out reason)) bytes cost answer is allows refuses writes = rw is writes
