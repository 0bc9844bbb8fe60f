-- The checks of a request to apply, after those of the file and of the section's index and flags,
-- and the range of a section's bytes.
use Rattle.std.proofs.Common.{◌≡◌, ℕ, ◌==◌, ◌||◌, nat_lt, not, Bool, true, false, List, [], None, Some, Result, Ok, Err, refl, arith}
use Rattle.std.specs.Prelude.{IfErr}
use Rattle.elf_model.specs.Prelude.{EM_X86_64, ET_REL, apply_checks, e_machine, e_shnum, e_type, first_refusal, has_no_bytes, held_bytes, is_compressed, is_section_outside, section_at, sh_offset, sh_size, slice}
use Rattle.elf_model.specs.declared.causes.Cause.TheVariants.{TableOutside}
use Rattle.elf_table.specs.Prelude.{IsOfCheck}
use Rattle.elf_table.specs.declared.fault.Fault.{Fault}
use Rattle.elf_table.specs.declared.fault.Fault.TheVariants.{Refused as Refuses, Source as Unread}
use Rattle.elf_reloc.specs.Applied.{HeldIs}
use Rattle.elf_reloc.specs.Queried.{FindsAs, held_range_of, one_range}

module _
    (file : List ℕ) (section : ℕ) (relocatable : not (e_type file == ET_REL) ≡ false) (machine : not (e_machine file == EM_X86_64) ≡ false)
    (index : (section == 0 || not (nat_lt section (e_shnum file))) ≡ false) (plain : is_compressed file (section_at file section) ≡ false) where
  -- it holds no bytes
  pub holds_none : has_no_bytes file (section_at file section) ≡ true → (first_refusal (apply_checks file section) ≡ None) × ([] ≡ held_bytes file (section_at file section))
  unfolding apply_checks held_bytes
  holds_none none = (rw (relocatable, machine, index, plain, none) refl, rw (none, held_bytes) refl)

  -- its bytes lie in the file, or not
  pub holds_bytes :
      has_no_bytes file (section_at file section) ≡ false → is_section_outside file (section_at file section) ≡ false
      → (first_refusal (apply_checks file section) ≡ None)
      × (slice file (sh_offset file (section_at file section)) (sh_size file (section_at file section)) ≡ held_bytes file (section_at file section))
  unfolding apply_checks held_bytes
  holds_bytes some inside = (rw (relocatable, machine, index, plain, some, inside) refl, rw (some, held_bytes) refl)

  pub lies_outside :
      has_no_bytes file (section_at file section) ≡ false → is_section_outside file (section_at file section) ≡ true
      → first_refusal (apply_checks file section) ≡ Some (record { at = section_at file section; cause = TableOutside })
  unfolding apply_checks
  lies_outside some outside = rw (relocatable, machine, index, plain, some, outside) refl

  -- the same by the range that is found, or by its refusal
  pub held_by : (result : Result (ℕ × ℕ) Fault) → IfErr result IsOfCheck → FindsAs one_range result (held_range_of file (section_at file section)) → HeldIs file section result
  held_by (Ok found) check found_as = by_tests (has_no_bytes file (section_at file section)) (is_section_outside file (section_at file section)) refl refl found_as
    where
      by_tests : (none outside : Bool) → has_no_bytes file (section_at file section) ≡ none → is_section_outside file (section_at file section) ≡ outside
          → FindsAs one_range (Ok found) (held_range_of file (section_at file section)) → HeldIs file section (Ok found)
      by_tests true outside none is h =
          let same : found ≡ (0, 0) = grind arith in
          rw same (holds_none none)
      by_tests false true some is h = grind arith
      by_tests false false some is h = let same : found ≡ (sh_offset file (section_at file section), sh_size file (section_at file section)) = grind arith in rw same (holds_bytes some is)
  held_by (Err (Refuses refusal)) check found_as = by_tests (has_no_bytes file (section_at file section)) (is_section_outside file (section_at file section)) refl refl (found_as check)
    where
      by_tests : (none outside : Bool) → has_no_bytes file (section_at file section) ≡ none → is_section_outside file (section_at file section) ≡ outside
          → held_range_of file (section_at file section) ≡ Err refusal → HeldIs file section (Err (Refuses refusal))
      by_tests true outside none is h = grind arith
      by_tests false true some is h =
          let same : refusal ≡ record { at = section_at file section; cause = TableOutside } = grind arith in rw same (lies_outside some is)
      by_tests false false some is h = grind arith
  held_by (Err (Unread fault at)) check found_as = tt
