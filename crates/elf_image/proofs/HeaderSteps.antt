-- The checks of the LOAD program headers, one by one, and of the one that is wanted.
use Rattle.std.proofs.Common.{◌≡◌, ℕ, zero, suc, ◌+◌, ◌^◌, ◌<◌, ◌≤◌, ◌||◌, nat_lt, Bool, true, false, List, [], ◌∷◌, ◌++◌, length, flat_map, None, Some, Result, Ok, Err, refl, sym, ap, subst, ◌∙◌, arith}
use Rattle.std.proofs.lemmas.Bool.{eq-eqb, le-ltb, lt-ltb, ltb-false, ltb-true, ne_eqb}
use Rattle.elf_model.specs.Apply.{places_from}
use Rattle.elf_model.specs.Checks.{Check, first_refusal, is_outside}
use Rattle.elf_model.specs.ImageChecks.{kind_checks, requested_checks, segment_load_checks, segments_load_checks}
use Rattle.elf_model.specs.Numbers.{EM_X86_64, PT_LOAD}
use Rattle.elf_model.specs.Prelude.{IsBudgetRefusal, e_machine, e_phnum, e_type, p_filesz, p_memsz, p_offset, p_type, p_vaddr, segment_at}
use Rattle.elf_model.specs.TraitNumbers.{is_linked_type}
use Rattle.elf_model.specs.declared.causes.Cause.TheVariants.{BadLink, Budget, NotImage}
use Rattle.elf_model.specs.declared.causes.Refusal.{Refusal}
use Rattle.elf_model.proofs.CheckSteps.{first_refusal-back, first_refusal-none, first_refusal-some, passes_front}
use Rattle.elf_table.specs.Prelude.{ChecksDecide}
use Rattle.elf_table.specs.declared.fault.Fault.{Fault}
use Rattle.elf_hash.proofs.SettleLaws.{refused_back}

-- the checks of some program headers, from one on
abbrev pub loads_left : List ℕ → (index left : ℕ) → List Check
loads_left file index left = flat_map (segment_load_checks file) (places_from (segment_at file) index left)

pub loads_all : (file : List ℕ) → first_refusal (loads_left file 0 (e_phnum file)) ≡ first_refusal (segments_load_checks file)
unfolding segments_load_checks
loads_all file = refl

pub loads_end : (file : List ℕ) (index : ℕ) → first_refusal (loads_left file index 0) ≡ None
unfolding places_from
loads_end file index = refl

loads_next : (file : List ℕ) (index left : ℕ) → loads_left file index (suc left) ≡ segment_load_checks file (segment_at file index) ++ loads_left file (suc index) left
unfolding places_from
loads_next file index left = refl

pub loads_step : (file : List ℕ) (index left : ℕ) → first_refusal (segment_load_checks file (segment_at file index)) ≡ None
    → first_refusal (loads_left file index (suc left)) ≡ first_refusal (loads_left file (suc index) left)
loads_step file index left passes =
    ap first_refusal (loads_next file index left) ∙ first_refusal-none (segment_load_checks file (segment_at file index)) (loads_left file (suc index) left) passes

pub loads_stop : (file : List ℕ) (index left : ℕ) (refusal : Refusal) → first_refusal (segment_load_checks file (segment_at file index)) ≡ Some refusal
    → first_refusal (loads_left file index (suc left)) ≡ Some refusal
loads_stop file index left refusal fails =
    ap first_refusal (loads_next file index left) ∙ first_refusal-some (segment_load_checks file (segment_at file index)) (loads_left file (suc index) left) refusal fails

-- if all pass, each does
pub each_passes : (file : List ℕ) (index left more : ℕ) → more < left → first_refusal (loads_left file index left) ≡ None → first_refusal (segment_load_checks file (segment_at file (index + more))) ≡ None
each_passes file index zero more low passes = absurd (omega (arith, low))
each_passes file index (suc left) zero low passes =
    let front = passes_front (segment_load_checks file (segment_at file index)) (loads_left file (suc index) left) (sym (ap first_refusal (loads_next file index left)) ∙ passes) in
    subst (λ (i : ℕ). first_refusal (segment_load_checks file (segment_at file i)) ≡ None) (omega arith) front
each_passes file index (suc left) (suc more) low passes =
    let rest = first_refusal-back (segment_load_checks file (segment_at file index)) (loads_left file (suc index) left) (sym (ap first_refusal (loads_next file index left)) ∙ passes) in
    subst (λ (i : ℕ). first_refusal (segment_load_checks file (segment_at file i)) ≡ None) (omega arith) (each_passes file (suc index) left more (omega (arith, low)) rest)

-- the bytes of a LOAD segment are within the file then
module _ (file : List ℕ) (at : ℕ) (load : p_type file at ≡ PT_LOAD) (passes : first_refusal (segment_load_checks file at) ≡ None) where
  within_by : (a b c d : Bool) (one two : Refusal)
      → first_refusal (record { fails = a; refusal = one } ∷ record { fails = b || (c || d); refusal = two } ∷ []) ≡ None → c ≡ false
  within_by true b c d one two p = cc
  within_by false true c d one two p = cc
  within_by false false true d one two p = cc
  within_by false false false d one two p = refl

  pub load_within : p_offset file at + p_filesz file at ≤ length file
  load_within =
      let checks = rw (eq-eqb (p_type file at) PT_LOAD load) at passes in
      ltb-false (length file) (p_offset file at + p_filesz file at) (within_by _ (nat_lt (p_memsz file at) (p_filesz file at)) (is_outside (length file) (p_offset file at) (p_filesz file at)) (nat_lt (2 ^ 64) (p_vaddr file at + p_memsz file at)) _ _ checks)

pub loads_within : (file : List ℕ) (index : ℕ) → first_refusal (segments_load_checks file) ≡ None → index < e_phnum file → p_type file (segment_at file index) ≡ PT_LOAD
    → p_offset file (segment_at file index) + p_filesz file (segment_at file index) ≤ length file
loads_within file index passes low load =
    let same : 0 + index ≡ index = omega arith in
    let one = subst (λ (i : ℕ). first_refusal (segment_load_checks file (segment_at file i)) ≡ None) same (each_passes file 0 (e_phnum file) index low (loads_all file ∙ passes)) in
    load_within file (segment_at file index) load one

-- THE PROGRAM HEADER that is wanted
module _ (file : List ℕ) (segment most : ℕ) where
  pub no_header : e_phnum file ≤ segment → first_refusal (requested_checks file segment most) ≡ Some (record { at = 0x38; cause = BadLink })
  unfolding requested_checks
  no_header past = rw (le-ltb segment (e_phnum file) past, requested_checks) refl

  module _ (low : segment < e_phnum file) where
    pub other_type : (p_type file (segment_at file segment) ≡ PT_LOAD → ⊥) → first_refusal (requested_checks file segment most) ≡ Some (record { at = 0x38; cause = BadLink })
    unfolding requested_checks
    other_type other = rw (lt-ltb segment (e_phnum file) low, ne_eqb (p_type file (segment_at file segment)) PT_LOAD other, requested_checks) refl

    module _ (load : p_type file (segment_at file segment) ≡ PT_LOAD) where
      pub too_large : most < p_memsz file (segment_at file segment) → first_refusal (requested_checks file segment most) ≡ Some (record { at = segment_at file segment; cause = Budget })
      unfolding requested_checks
      too_large above = rw (lt-ltb segment (e_phnum file) low, eq-eqb (p_type file (segment_at file segment)) PT_LOAD load, lt-ltb most (p_memsz file (segment_at file segment)) above, requested_checks) refl

      pub small : p_memsz file (segment_at file segment) ≤ most → first_refusal (requested_checks file segment most) ≡ None
      unfolding requested_checks
      small fits = rw (lt-ltb segment (e_phnum file) low, eq-eqb (p_type file (segment_at file segment)) PT_LOAD load, le-ltb most (p_memsz file (segment_at file segment)) fits, requested_checks) refl

  -- only a header of a segment with more bytes than are allowed is refused with `Budget`
  pub only_too_large : (refusal : Refusal) → first_refusal (requested_checks file segment most) ≡ Some refusal → IsBudgetRefusal refusal → most < p_memsz file (segment_at file segment)
  unfolding requested_checks
  only_too_large refusal e budget = go _ (nat_lt most (p_memsz file (segment_at file segment))) refl e
    where
      go : (a b : Bool) → nat_lt most (p_memsz file (segment_at file segment)) ≡ b
          → first_refusal (record { fails = a; refusal = record { at = 0x38; cause = BadLink } } ∷ record { fails = b; refusal = record { at = segment_at file segment; cause = Budget } } ∷ []) ≡ Some refusal
          → most < p_memsz file (segment_at file segment)
      go true b is e = let other : BadLink ≡ Budget = cc in absurd (cc)
      go false true is e = ltb-true most (p_memsz file (segment_at file segment)) is
      go false false is e = absurd (cc)

-- checks after others that pass
pub decide_back : (front back : List Check) (result : Result (Unit {0}) Fault) → first_refusal front ≡ None → ChecksDecide back result → ChecksDecide (front ++ back) result
decide_back front back (Ok done) passes rest = first_refusal-none front back passes ∙ rest
decide_back front back (Err fault) passes rest = refused_back front back fault passes rest

-- THE KIND of the file
module _ (file : List ℕ) where
  pub not_linked : is_linked_type (e_type file) ≡ false → first_refusal (kind_checks file) ≡ Some (record { at = 0x10; cause = NotImage })
  unfolding kind_checks
  not_linked other = rw (other, kind_checks) refl

  module _ (linked : is_linked_type (e_type file) ≡ true) where
    pub other_machine : (e_machine file ≡ EM_X86_64 → ⊥) → first_refusal (kind_checks file) ≡ Some (record { at = 0x12; cause = NotImage })
    unfolding kind_checks
    other_machine other = rw (linked, ne_eqb (e_machine file) EM_X86_64 other, kind_checks) refl

    pub kind_passes : e_machine file ≡ EM_X86_64 → first_refusal (kind_checks file) ≡ None
    unfolding kind_checks
    kind_passes is = rw (linked, eq-eqb (e_machine file) EM_X86_64 is, kind_checks) refl
