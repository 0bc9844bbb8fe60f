-- The first section of a name, section by section.
use Rattle.std.proofs.Common.{◌≡◌, ℕ, zero, suc, ◌+◌, ◌-◌, ◌*◌, ◌<◌, ◌≤◌, Bool, true, false, List, length, Option, None, Some, Result, Ok, Err, inl, inr, refl, sym, ap, ap₂, ◌∙◌, arith}
use Rattle.std.proofs.Math.Nat.{mul-le-mul_right}
use Rattle.std.proofs.lemmas.Bool.{cases_Bool}
use Rattle.elf_model.specs.BytesQuery.{first_section_named, section_named_from}
use Rattle.elf_model.specs.Prelude.{e_shnum, e_shstrndx, has_section_names, same, section_at, sh_name}
use Rattle.elf_model.specs.Tables.{section_bytes}
use Rattle.elf_model.specs.declared.causes.Cause.{Cause}
use Rattle.elf_model.specs.declared.causes.Refusal.{Refusal}
use Rattle.elf_table.specs.Prelude.{Refuses, StringTableRange, names_at, section_names, strings_in}
use Rattle.elf_table.specs.declared.fault.Fault.{Fault}
use Rattle.elf_table.specs.declared.fault.Fault.TheVariants.{Refused, Source}
use Rattle.elf_reloc.specs.Queried.{FindsAs}

-- one name more is within the names of all sections
pub within_all : (i n k : ℕ) → i < n → i * k + k ≤ n * k
within_all i n k below =
    let more : suc i * k ≤ n * k = mul-le-mul_right k (omega arith) in
    let one : suc i * k ≡ k + i * k = omega arith in omega (arith, more, one)

-- a file with section names has a section
pub one_at_least : (loaded shnum : ℕ) → loaded ≡ shnum → (shnum ≡ 0 → ⊥) → 1 ≤ loaded
one_at_least loaded zero same some = absurd (some refl)
one_at_least loaded (suc n) same some = omega (arith, same)

module _ (file wanted : List ℕ) where
  pub no_names : section_names file ≡ None → first_section_named file wanted ≡ Ok None
  unfolding first_section_named
  no_names none =
      elim (cases_Bool (has_section_names file)) [
        | inl has ↦ let never = rw (has, section_names) at none in absurd (cc)
        | inr lacks ↦ rw (lacks, first_section_named) refl
      ]

  pub names_first : (names : StringTableRange) → section_names file ≡ Some names
      → (first_section_named file wanted ≡ section_named_from file wanted 1 (e_shnum file - 1)) × (strings_in file names ≡ section_bytes file (section_at file (e_shstrndx file)))
  unfolding first_section_named
  names_first names some =
      elim (cases_Bool (has_section_names file)) [
        | inl has ↦
            let are : Some (names_at file (section_at file (e_shstrndx file))) ≡ Some names = rw (has, section_names) at some in
            let same_names : names ≡ names_at file (section_at file (e_shstrndx file)) = cc in
            (rw (has, first_section_named) refl, ap (λ (t : StringTableRange). strings_in file t) same_names)
        | inr lacks ↦ let never : None ≡ Some names = rw (lacks, section_names) at some in absurd (cc)
      ]

  -- what one step finds
  step_has : (i n : ℕ) → same (section_bytes file (section_at file (e_shstrndx file))) (sh_name file (section_at file i)) wanted ≡ Ok true
      → section_named_from file wanted i (suc n) ≡ Ok (Some i)
  unfolding section_named_from
  step_has i n h = rw (h, section_named_from) refl

  step_next : (i n : ℕ) → same (section_bytes file (section_at file (e_shstrndx file))) (sh_name file (section_at file i)) wanted ≡ Ok false
      → section_named_from file wanted i (suc n) ≡ section_named_from file wanted (suc i) n
  unfolding section_named_from
  step_next i n h = rw (h, section_named_from) refl

  step_fails : (i n : ℕ) (cause : Cause) → same (section_bytes file (section_at file (e_shstrndx file))) (sh_name file (section_at file i)) wanted ≡ Err cause
      → section_named_from file wanted i (suc n) ≡ Err (record { at = section_at file i; cause = cause })
  unfolding section_named_from
  step_fails i n cause h = rw (h, section_named_from) refl

  pub none_left : (i : ℕ) → e_shnum file ≤ i → section_named_from file wanted i (e_shnum file - i) ≡ Ok None
  unfolding section_named_from
  none_left i past = let none : e_shnum file - i ≡ 0 = omega (arith, past) in ap (section_named_from file wanted i) none

  module _ (names : StringTableRange) (i : ℕ) (are : strings_in file names ≡ section_bytes file (section_at file (e_shstrndx file))) (below : i < e_shnum file)
      (so_far : first_section_named file wanted ≡ section_named_from file wanted i (e_shnum file - i)) where
    abbrev here : Result Bool Cause
    here = same (strings_in file names) (sh_name file (section_at file i)) wanted

    of_names : (r : Result Bool Cause) → here ≡ r → same (section_bytes file (section_at file (e_shstrndx file))) (sh_name file (section_at file i)) wanted ≡ r
    of_names r h = ap (λ table. same table (sh_name file (section_at file i)) wanted) (sym are) ∙ h

    one_left : first_section_named file wanted ≡ section_named_from file wanted i (suc (e_shnum file - suc i))
    one_left = so_far ∙ ap (section_named_from file wanted i) (omega (arith, below))

    pub found_here : here ≡ Ok true → first_section_named file wanted ≡ Ok (Some i)
    found_here h = one_left ∙ step_has i (e_shnum file - suc i) (of_names (Ok true) h)

    pub not_here : here ≡ Ok false → first_section_named file wanted ≡ section_named_from file wanted (i + 1) (e_shnum file - (i + 1))
    not_here h =
        let next : suc i ≡ i + 1 = omega arith in
        one_left ∙ step_next i (e_shnum file - suc i) (of_names (Ok false) h) ∙ ap (λ (k : ℕ). section_named_from file wanted k (e_shnum file - k)) next

    pub fails_here : (fault : Fault) → Refuses (section_at file i) fault here → FindsAs (λ (found : Option ℕ). found) (Err fault) (first_section_named file wanted)
    fails_here (Refused refusal) refuses = λ other.
        let said = refuses other in
        one_left ∙ step_fails i (e_shnum file - suc i) refusal.cause (of_names (Err refusal.cause) said.1)
        ∙ ap (λ (at : ℕ). Err (record { at = at; cause = refusal.cause })) (sym said.0)
    fails_here (Source fault at) refuses = tt
