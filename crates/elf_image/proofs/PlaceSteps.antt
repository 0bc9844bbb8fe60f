-- The place of a relocation: its segment, and its checks.
use Rattle.std.proofs.Common.{◌≡◌, ℕ, ◌+◌, ◌<◌, ◌≤◌, ◌==◌, ◌&&◌, ◌||◌, not, nat_lt, Bool, true, false, List, None, Some, refl, sym, ap, ◌∙◌, arith}
use Rattle.std.proofs.lemmas.Bool.{and_from, and_parts, eq-eqb, eqb-true, le-ltb, not_from_false}
use Rattle.std.specs.List.{list_any}
use Rattle.elf_model.specs.Checks.{first_refusal}
use Rattle.elf_model.specs.Image.{ImageSource, has_table, holder_of, holds_in_memory, meets_rows, place_checks, read_addresses}
use Rattle.elf_model.specs.Numbers.{PT_LOAD}
use Rattle.elf_model.specs.Prelude.{e_phnum, p_memsz, p_type, p_vaddr, segment_at}
use Rattle.elf_model.specs.TraitNumbers.{PF_W}
use Rattle.elf_model.specs.Traits.{has_text_relocations, permits}
use Rattle.elf_model.specs.declared.causes.Cause.TheVariants.{PlaceOutside}
use Rattle.elf_model.proofs.ImageHolders.{holder_is_one}
use Rattle.elf_model.proofs.LookupSteps.{first_that-holds}
use Rattle.elf_image.specs.Relocated.{IsHeldRange, IsImageOf, IsRangeIn, held_range_checks}
use Rattle.elf_image.specs.declared.changes.ImageFile.{ImageFile}
use Rattle.elf_image.specs.declared.place.HeldRange.{HeldRange}

-- a segment that holds bytes is one of LOAD
pub load_of : (file : List ℕ) (address size i : ℕ) → holder_of file address size ≡ Some i → p_type file (segment_at file i) ≡ PT_LOAD
unfolding holder_of
load_of file address size i h =
    let at = segment_at file i in
    let found = first_that-holds (λ k. holds_in_memory file (segment_at file k) address size) 0 (e_phnum file) i h in
    let last = p_vaddr file at + p_memsz file at in
    let parts = and_parts ((p_type file at == PT_LOAD) && not (nat_lt address (p_vaddr file at))) (not (nat_lt last (address + size))) found.0 in
    eqb-true (p_type file at) PT_LOAD (and_parts (p_type file at == PT_LOAD) (not (nat_lt address (p_vaddr file at))) parts.0).0

-- the segment of the place before holds bytes that are in it: no other one does
pub same_holder : (source : ImageSource) (image : ImageFile) (range : HeldRange) (address width : ℕ) → IsImageOf source image → IsHeldRange image range
    → 0 < width → range.first ≤ address → address + width ≤ range.end → holder_of source.file address width ≡ Some range.segment
same_holder source image range address width of held some low high =
    let file = source.file in
    let at = segment_at file range.segment in
    let is = held.held file of.held in
    let count : image.view.store.now.segments ≡ e_phnum file = of.held.count ∙ of.held.belongs.header.e_phnum in
    let above : p_vaddr file at ≤ address = omega (arith, low, is.first) in
    let inside : address + width ≤ p_vaddr file at + p_memsz file at = omega (arith, high, is.end) in
    let load = eq-eqb (p_type file at) PT_LOAD is.load in
    let front = and_from (p_type file at == PT_LOAD) (not (nat_lt address (p_vaddr file at))) load (not_from_false (nat_lt address (p_vaddr file at)) (le-ltb address (p_vaddr file at) above)) in
    let back = not_from_false (nat_lt (p_vaddr file at + p_memsz file at) (address + width)) (le-ltb (p_vaddr file at + p_memsz file at) (address + width) inside) in
    holder_is_one file address width range.segment of.apart some (omega (arith, held.below, count))
    (and_from ((p_type file at == PT_LOAD) && not (nat_lt address (p_vaddr file at))) (not (nat_lt (p_vaddr file at + p_memsz file at) (address + width))) front back)

or_swap : (a b : Bool) → (a || b) ≡ (b || a)
or_swap true true = refl
or_swap true false = refl
or_swap false true = refl
or_swap false false = refl

-- the checks of a place that a segment holds
pub checks_of_range : (source : ImageSource) (image : ImageFile) (range : HeldRange) (refused_at address width : ℕ) → IsImageOf source image
    → IsRangeIn source.file image.told range → holder_of source.file address width ≡ Some range.segment
    → first_refusal (place_checks source.file source.at refused_at address width)
    ≡ first_refusal (held_range_checks image.told range refused_at address width)
unfolding place_checks
checks_of_range source image range refused_at address width of is h =
    let file = source.file in
    let flags : (permits file PF_W range.segment || has_text_relocations file) ≡ range.permits =
    or_swap (permits file PF_W range.segment) (has_text_relocations file) ∙ (ap (λ (b : Bool). b || permits file PF_W range.segment) (sym of.told.text) ∙ sym is.permits) in
    let tables : list_any (has_table file range.segment) (read_addresses file source.at) ≡ range.has_table = sym (is.table ∙ of.told.tables range.segment) in
    let rows : meets_rows file source.at address width ≡ (nat_lt address (image.told.dynamic.0 + image.told.dynamic.1) && nat_lt image.told.dynamic.0 (address + width)) =
    ap (λ (d : ℕ × ℕ). nat_lt address (d.0 + d.1) && nat_lt d.0 (address + width)) (sym of.told.rows) in
    rw (h, place_checks, flags, tables, rows) refl

-- no segment holds the bytes
pub none_holds : (source : ImageSource) (refused_at address width : ℕ) → holder_of source.file address width ≡ None
    → first_refusal (place_checks source.file source.at refused_at address width) ≡ Some (record { at = refused_at; cause = PlaceOutside })
unfolding place_checks
none_holds source refused_at address width h = rw (h, place_checks) refl
