-- The value of a relocation, step by step: its type, its number, its bytes.
use Rattle.std.proofs.Common.{SFits, ◌≡◌, ◌≢◌, ◌==◌, not, ℕ, ℤ, Bool, true, false, List, [], Option, None, Some, Result, Ok, Err, refl, ap, ◌∙◌}
use Rattle.std.proofs.Math.Facts.{to_z-of_z}
use Rattle.std.proofs.lemmas.Bool.{ne_eqb}
use Rattle.std.specs.Int.{cast_signed, cast_unsigned, w64}
use Rattle.elf_model.specs.Prelude.{FormulaTerms, R_X86_64_NONE, base_address, fits_in_range, kind_of, little, patch_of, value, value_of}
use Rattle.elf_model.specs.declared.causes.Cause.{Cause}
use Rattle.elf_model.specs.declared.causes.Cause.TheVariants.{Overflow, Unsupported}
use Rattle.elf_model.specs.declared.relocation_types.RelocationType.{RelocationType}
use Rattle.elf_reloc.specs.Types.{terms}

abbrev stored_of : ℕ → ℕ → ℤ → ℕ → Option RelocationType → Result (List ℕ) Cause
stored_of s l a p type = elim type [ None ↦ Err Unsupported | Some type ↦ patch_of type (terms (base_address type.base s l) a p) ]

value_is :
    (n s l : ℕ) (a : ℤ) (p : ℕ) → n ≢ R_X86_64_NONE → stored_of s l a p (kind_of n) ≡ value n s l a p
unfolding value
value_is n s l a p other = let f : (n == R_X86_64_NONE) ≡ false = ne_eqb n R_X86_64_NONE other in rw (f, value) refl

-- the low bytes of a number, if it is in the range
abbrev pub patch_in : RelocationType → ℕ → Bool → Result (List ℕ) Cause
patch_in type number in_range = elim (not in_range) [ true ↦ Err Overflow | false ↦ Ok (little type.width number) ]

patch_is : (type : RelocationType) (given : FormulaTerms) → patch_in type (value_of type given) (fits_in_range type.range type.width (value_of type given)) ≡ patch_of type given
unfolding patch_of
patch_is type given = refl

-- R_X86_64_NONE stores nothing
pub nothing : (n s l : ℕ) (a : ℤ) (p : ℕ) → n ≡ R_X86_64_NONE → Ok [] ≡ value n s l a p
unfolding value
nothing n s l a p none = rw (none, value) refl

pub unsupported :
    (n s l : ℕ) (a : ℤ) (p : ℕ) → n ≢ R_X86_64_NONE → None ≡ kind_of n → Err Unsupported ≡ value n s l a p
unsupported n s l a p other is = ap (stored_of s l a p) is ∙ value_is n s l a p other

pub patch_by :
    (b : ℕ) (a : ℤ) (p : ℕ) (type : RelocationType) (number : ℕ) (in_range : Bool) → SFits w64 a
    → number ≡ value_of type (terms b (cast_signed w64 (cast_unsigned w64 a)) p) → in_range ≡ fits_in_range type.range type.width number
    → patch_in type number in_range ≡ patch_of type (terms b a p)
patch_by b a p type number in_range small same ranged =
    ap (patch_in type number) ranged ∙ ap (λ m. patch_in type m (fits_in_range type.range type.width m)) (same ∙ ap (λ z. value_of type (terms b z p)) (to_z-of_z small))
    ∙ patch_is type (terms b a p)

pub found :
    (n s l : ℕ) (a : ℤ) (p : ℕ) (type : RelocationType) (b : ℕ) → n ≢ R_X86_64_NONE → SFits w64 a → Some type ≡ kind_of n
    → b ≡ base_address type.base s l → patch_of type (terms b (cast_signed w64 (cast_unsigned w64 a)) p) ≡ value n s l a p
found n s l a p type b other small is based =
    ap (λ z. patch_of type (terms b z p)) (to_z-of_z small)
    ∙ ap (λ c. patch_of type (terms c a p)) based
    ∙ (ap (stored_of s l a p) is ∙ value_is n s l a p other)
