-- An image has as many bytes as its segment in memory.
use Rattle.std.proofs.Common.{◌≡◌, ℕ, zero, suc, ◌+◌, ◌-◌, ◌%◌, ◌^◌, ◌≤◌, ◌<◌, ◌==◌, ◌||◌, not, nat_lt, inl, inr, true, List, [], ◌∷◌, ◌++◌, length, length-append, replicate, flat_map, Option, None, Some, sym, ap, subst, ◌∙◌, arith}
use Rattle.std.proofs.lemmas.Bool.{cases_eq, ltb-false, ltb-true, or_parts}
use Rattle.std.proofs.lemmas.List.{length-replicate}
use Rattle.elf_model.specs.Prelude.{AllInside, dynamic_segment_index, e_phnum, header_checks, is_outside, load_checks, overlap_checks, p_filesz, p_offset, places_from, slice, without_sections, first_refusal, p_memsz, p_type, p_vaddr, segment_at}
use Rattle.elf_model.specs.Numbers.{PT_LOAD}
use Rattle.elf_model.specs.Checks.{Check, refuse}
use Rattle.elf_model.specs.ImageChecks.{dynamic_image_checks, kind_checks, image_checks, requested_checks, segment_load_checks, segments_load_checks}
use Rattle.elf_model.specs.Image.{image, relocated_segment, stored_in, unrelocated}
use Rattle.elf_model.specs.ImageLaws.{ImageIsWhole}
use Rattle.elf_model.specs.declared.causes.Cause.TheVariants.{BadLink, Budget, LoadAlign, TableOutside}
use Rattle.elf_model.specs.Overlaps.{PAGE_SIZE}
use Rattle.elf_model.proofs.CheckSteps.{first_refusal-back, passes_front}
use Rattle.elf_model.proofs.Slices.{slice-size}
use Rattle.elf_model.proofs.StyleLemmas.{view_is_as_long}
use Rattle.elf_model.proofs.PatchLaws.{length_kept}
use Rattle.elf_model.proofs.ImageLaws.{made, passes_first, true_if_not_false, writes_are_inside}

-- the checks of the program header of an index, of those of all
flat_passes : (f : ℕ → List Check) (place : ℕ → ℕ) (first count i : ℕ) → first_refusal (flat_map f (places_from place first count)) ≡ None
    → first ≤ i → i < first + count → first_refusal (f (place i)) ≡ None
unfolding places_from
flat_passes f place first zero i e low high = absurd (omega (arith, low, high))
flat_passes f place first (suc count) i e low high = elim (cases_eq first i) [
  | inl same ↦ subst (λ k. first_refusal (f (place k)) ≡ None) same (passes_front (f (place first)) (flat_map f (places_from place (suc first) count)) e)
  | inr other ↦
      flat_passes f place (suc first) count i (first_refusal-back (f (place first)) (flat_map f (places_from place (suc first) count)) e) (omega (arith, low, other)) (omega (arith, high))
]

module _ (whole : List ℕ) (headers segment most : ℕ) where
  abbrev file : List ℕ
  file = without_sections whole

  abbrev at : ℕ
  at = segment_at file segment

  record Fits : Type 0 where
    held : p_filesz file at ≤ p_memsz file at
    inside : p_offset file at + p_filesz file at ≤ length file

  header_fits : p_type file at == PT_LOAD ≡ true → first_refusal (segment_load_checks file at) ≡ None → Fits
  header_fits load e =
      let f = rw (load, segment_load_checks) at e in
      let outside = nat_lt (p_memsz file at) (p_filesz file at)
      || (is_outside (length file) (p_offset file at) (p_filesz file at) || nat_lt (2 ^ 64) (p_vaddr file at + p_memsz file at)) in
      let aligned = passes_first (refuse (not (p_vaddr file at % PAGE_SIZE == p_offset file at % PAGE_SIZE)) at LoadAlign) (refuse outside at TableOutside ∷ []) f in
      let within = passes_first (refuse outside at TableOutside) [] aligned.1 in
      let parts = or_parts (nat_lt (p_memsz file at) (p_filesz file at)) _ within.0 in
      let others = or_parts (is_outside (length file) (p_offset file at) (p_filesz file at)) (nat_lt (2 ^ 64) (p_vaddr file at + p_memsz file at)) parts.1 in
      record {
        held = ltb-false (p_memsz file at) (p_filesz file at) parts.0;
        inside = ltb-false (length file) (p_offset file at + p_filesz file at) others.0;
      }

  abbrev linked_checks : Option ℕ → List Check
  linked_checks None = []
  linked_checks (Some index) = dynamic_image_checks file (segment_at file index)

  segment_fits : first_refusal (image_checks file headers (requested_checks file segment most)) ≡ None → Fits
  unfolding image_checks requested_checks segments_load_checks
  segment_fits e =
      let requested = requested_checks file segment most in
      let loads = segments_load_checks file in
      let front = ((header_checks file ++ load_checks file headers) ++ overlap_checks file) ++ kind_checks file in
      let all = passes_front ((front ++ loads) ++ requested) (linked_checks (dynamic_segment_index file)) e in
      let third = passes_front (front ++ loads) requested all in
      let here = first_refusal-back (front ++ loads) requested all in
      let asked = passes_first (refuse (not (nat_lt segment (e_phnum file)) || not (p_type file at == PT_LOAD)) 0x38 BadLink) (refuse (nat_lt most (p_memsz file at)) at Budget ∷ []) here in
      let parts = or_parts (not (nat_lt segment (e_phnum file))) (not (p_type file at == PT_LOAD)) asked.0 in
      let below = ltb-true segment (e_phnum file) (true_if_not_false (nat_lt segment (e_phnum file)) parts.0) in
      let load = true_if_not_false (p_type file at == PT_LOAD) parts.1 in
      header_fits load (flat_passes (segment_load_checks file) (segment_at file) 0 (e_phnum file) segment (first_refusal-back front loads third) (omega arith) (omega (arith, below)))

  unrelocated_length : Fits → length (unrelocated whole file at) ≡ p_memsz file at
  unfolding unrelocated
  unrelocated_length fits =
      let long = view_is_as_long whole in
      let front = slice-size whole (p_offset file at) (p_filesz file at) (omega (arith, long, fits.inside)) in
      let rest = length-replicate {A = ℕ} (p_memsz file at - p_filesz file at) 0 in
      let both = length-append (slice whole (p_offset file at) (p_filesz file at)) (replicate (p_memsz file at - p_filesz file at) 0) in
      omega (arith, front, rest, both, fits.held)

pub image_is_whole : ImageIsWhole
unfolding image relocated_segment
image_is_whole whole headers segment most items bytes e =
    let file = without_sections whole in
    let at = segment_at file segment in
    let base = unrelocated whole file at in
    let m = made whole file headers segment most items bytes e in
    let long = unrelocated_length whole headers segment most (segment_fits whole headers segment most m.0) in
    let inside = writes_are_inside whole file items items.partial m.1.writes segment m.1.are in
    let kept = length_kept (stored_in segment m.1.writes) base (subst (λ n. AllInside n (stored_in segment m.1.writes)) (sym long) inside) in
    ap length m.1.bytes_are ∙ kept ∙ long
