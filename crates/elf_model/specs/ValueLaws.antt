-- Laws of relocation values: a formula modulo 2^64 is a sum of 64-bit words that wraps, and a value
-- fits in two's complement exactly if its low bits, with their sign, are the value.
use Rattle.std.specs.Prelude.{ℕ, ◌+◌, ◌-◌, ◌%◌, ◌^◌, ◌<◌, ◌≤◌, ◌≡◌, ◌↔◌, nat_lt, true, if◌then◌else◌, ℤ, pos, ◌+ℤ◌, ◌-ℤ◌, List, length, Ok}
use Rattle.elf_model.specs.Records.{twos_complement}
use Rattle.elf_model.specs.Values.{FormulaTerms, patch_of, modulo_2_64, is_signed}
use Rattle.elf_model.specs.declared.relocation_types.RelocationType.{RelocationType}

-- a sum, modulo 2^64
abbrev pub SumWraps : Type 0
SumWraps = (s : ℕ) (a : ℤ) → modulo_2_64 (pos s +ℤ a) ≡ (s + modulo_2_64 a) % 2 ^ 64

-- a difference, modulo 2^64
abbrev pub DifferenceWraps : Type 0
DifferenceWraps = (a : ℤ) (p : ℕ) → p < 2 ^ 64 → modulo_2_64 (a -ℤ pos p) ≡ (modulo_2_64 a + (2 ^ 64 - p)) % 2 ^ 64

-- an addend in two's complement is its 64 bits, modulo 2^64
abbrev pub AddendIsItsBits : Type 0
AddendIsItsBits = (bits : ℕ) → bits < 2 ^ 64 → modulo_2_64 (twos_complement bits) ≡ bits

-- a number of this many bits in two's complement as a number of 64 bits: the numbers from the half
-- on are negative
abbrev pub sign_extended : ℕ → ℕ → ℕ
sign_extended bits number =
    if nat_lt number (2 ^ (bits - 1)) then number else number + (2 ^ 64 - 2 ^ bits)

-- a value fits in two's complement exactly if it is its low bits with their sign
abbrev pub SignedFits : Type 0
SignedFits =
    (bits value : ℕ) → 0 < bits → bits ≤ 64 → value < 2 ^ 64
    → (is_signed bits value ≡ true) ↔ (sign_extended bits (value % 2 ^ bits) ≡ value)

-- a value has as many bytes as its type's width
abbrev pub PatchHasWidth : Type 0
PatchHasWidth =
    (type : RelocationType) (terms : FormulaTerms) (bytes : List ℕ) → patch_of type terms ≡ Ok bytes → length bytes ≡ type.width
