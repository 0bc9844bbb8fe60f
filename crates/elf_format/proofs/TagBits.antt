-- The bits of a number that is read as a signed one.
use Rattle.std.proofs.Common.{◌≡◌, ℕ, ℤ, ◌^◌, ◌<◌, ◌∙◌, arith}
use Rattle.std.proofs.lemmas.Int.{of_z-to_z}
use Rattle.std.specs.Int.{cast_signed, cast_unsigned, w64}

-- a tag's bits as the code computes them
pub tag_bits : (z : ℤ) (tag bits : ℕ) → cast_unsigned w64 z ≡ bits → bits < 2 ^ 64 → tag ≡ cast_unsigned w64 (cast_signed w64 (cast_unsigned w64 z)) → tag ≡ bits
tag_bits z tag bits same low is = is ∙ (of_z-to_z w64 (cast_unsigned w64 z) (omega (arith, same, low)) ∙ same)
