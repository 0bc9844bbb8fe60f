-- The range of the bytes that are requested, stage by stage.
use Rattle.std.proofs.Common.{◌≡◌, ℕ, ◌+◌, ◌*◌, ◌≤◌, ◌==◌, ◌||◌, nat_lt, not, true, false, List, ◌++◌, length, Option, None, Some, Result, Ok, Err, refl, sym, ap, subst, ◌∙◌, arith}
use Rattle.std.specs.Prelude.{IfErr, IfSome}
use Rattle.elf_model.specs.Archive.{FileRange}
use Rattle.elf_model.specs.BytesQuery.{range_of_section, range_of_segment}
use Rattle.elf_model.specs.Prelude.{before_headers, e_phnum, e_shnum, early_checks, first_refusal, has_no_bytes, header_checks, is_outside, is_section_outside, load_checks, p_filesz, p_offset, section_at, segment_at, sh_offset, sh_size}
use Rattle.elf_model.specs.declared.causes.Cause.TheVariants.{BadLink, TableOutside}
use Rattle.elf_model.specs.declared.causes.Refusal.{Refusal}
use Rattle.elf_model.proofs.CheckSteps.{first_refusal-none, first_refusal-some}
use Rattle.elf_record.specs.Prelude.{IsEhdr}
use Rattle.elf_record.specs.declared.ehdr.Ehdr.{Ehdr}
use Rattle.elf_table.specs.Prelude.{HeaderRead, LoadedAs, LoadedFile, StoreState, fault_of_result, load_cost}
use Rattle.elf_table.specs.declared.fault.Fault.{Fault}
use Rattle.elf_table.specs.declared.fault.Fault.TheVariants.{Refused, Source}
use Rattle.elf_table.proofs.LoadLaws.{load-within}
use Rattle.elf_reloc.specs.Queried.{FindsAs, LoadsSections, held_range_of, one_range, sections_load_cost}

-- a refusal that is the definition's
pub refuses_as : {X Y : Type 0} (as_found : X → Y) (refusal : Refusal) (answer : Result Y Refusal) → answer ≡ Err refusal → FindsAs as_found (Err (Refused refusal)) answer
refuses_as as_found refusal answer is = λ other. is

-- the range of a section, by its header
module _ (file : List ℕ) (at : ℕ) where
  pub none_held : has_no_bytes file at ≡ true → held_range_of file at ≡ Ok (one_range (0, 0))
  none_held none = rw none refl

  pub range_held : has_no_bytes file at ≡ false → is_section_outside file at ≡ false → held_range_of file at ≡ Ok (one_range (sh_offset file at, sh_size file at))
  range_held some inside = rw (some, inside) refl

  range_outside : has_no_bytes file at ≡ false → is_section_outside file at ≡ true → held_range_of file at ≡ Err (record { at = at; cause = TableOutside })
  range_outside some outside = rw (some, outside) refl

  pub outside_at : (place : ℕ) → at ≡ place → has_no_bytes file at ≡ false → is_section_outside file at ≡ true → held_range_of file at ≡ Err (record { at = place; cause = TableOutside })
  outside_at place here some outside = subst (λ (p : ℕ). held_range_of file at ≡ Err (record { at = p; cause = TableOutside })) here (range_outside some outside)

-- and by its index
module _ (file : List ℕ) (section : ℕ) where
  pub no_section : (section == 0 || not (nat_lt section (e_shnum file))) ≡ true → range_of_section file section ≡ Err (record { at = 0x3c; cause = BadLink })
  unfolding range_of_section
  no_section other = rw other refl

  one_section : (section == 0 || not (nat_lt section (e_shnum file))) ≡ false → range_of_section file section ≡ held_range_of file (section_at file section)
  unfolding range_of_section
  one_section below = rw below refl

  pub section_found : (result : Result (ℕ × ℕ) Fault) → (section == 0 || not (nat_lt section (e_shnum file))) ≡ false
      → FindsAs one_range result (held_range_of file (section_at file section)) → FindsAs one_range result (range_of_section file section)
  section_found result below found = subst (λ answer. FindsAs one_range result answer) (sym (one_section below)) found

-- the range of a program header
module _ (file : List ℕ) (segment : ℕ) where
  pub no_segment : not (nat_lt segment (e_phnum file)) ≡ true → range_of_segment file segment ≡ Err (record { at = 0x38; cause = BadLink })
  unfolding range_of_segment
  no_segment other = rw other refl

  pub segment_outside : not (nat_lt segment (e_phnum file)) ≡ false
      → is_outside (length file) (p_offset file (segment_at file segment)) (p_filesz file (segment_at file segment)) ≡ true
      → range_of_segment file segment ≡ Err (record { at = segment_at file segment; cause = TableOutside })
  unfolding range_of_segment
  segment_outside below outside = rw (below, outside) refl

  pub segment_found : not (nat_lt segment (e_phnum file)) ≡ false
      → is_outside (length file) (p_offset file (segment_at file segment)) (p_filesz file (segment_at file segment)) ≡ false
      → range_of_segment file segment ≡ Ok (one_range (p_offset file (segment_at file segment), p_filesz file (segment_at file segment)))
  unfolding range_of_segment
  segment_found below inside = rw (below, inside) refl

-- the load of the section headers
module _ (file : List ℕ) (headers : ℕ) where
  pub loads_header : (fault : Fault) (store : StoreState) → HeaderRead file (Err fault) → LoadsSections file headers store (Err fault)
  loads_header (Refused refusal) store read = λ other. first_refusal-some (header_checks file) (load_checks file headers) refusal (read other)
  loads_header (Source fault at) store read = tt

  loads_more : {refusal : Option Refusal} (slots : ℕ) → slots ≡ headers → first_refusal (header_checks file) ≡ None → first_refusal (load_checks file slots) ≡ refusal
      → first_refusal (header_checks file ++ load_checks file headers) ≡ refusal
  loads_more slots same passed loads =
      first_refusal-none (header_checks file) (load_checks file headers) passed ∙ ap (λ (n : ℕ). first_refusal (load_checks file n)) (sym same) ∙ loads

  pub loads_as : (result : Result LoadedFile Fault) (store : StoreState) → first_refusal (header_checks file) ≡ None → store.slots ≡ headers → LoadedAs file result store
      → LoadsSections file headers store result
  loads_as (Ok loaded) store passed slots loads = (loads_more store.slots slots passed loads.passes, loads)
  loads_as (Err (Refused refusal)) store passed slots loads = λ other. loads_more store.slots slots passed (loads other)
  loads_as (Err (Source fault at)) store passed slots loads = tt

  pub load_least : 64 ≤ sections_load_cost file headers
  load_least = omega arith

  pub load_within : (header : Ehdr) (size : ℕ) → IsEhdr file 0 header → size ≡ length file → first_refusal (header_checks file) ≡ None
      → 64 + load_cost header size headers ≤ sections_load_cost file headers
  load_within header size is same passed =
      load-within file header size headers (sections_load_cost file headers) is same load_least
      (λ early.
      let before : first_refusal (before_headers file headers) ≡ None = first_refusal-none (header_checks file) (early_checks file headers) passed ∙ early in
      let all : sections_load_cost file headers ≡ 64 + 64 * e_shnum file = rw before refl in
      omega (arith, all, is.e_shnum))

-- what a fault implies, for a result that may be one
pub says_of : {X : Type 0} (P : Fault → Type 0) (result : Result X Fault) → IfErr result P → IfSome (fault_of_result result) P
says_of P (Ok x) says = tt
says_of P (Err fault) says = says
