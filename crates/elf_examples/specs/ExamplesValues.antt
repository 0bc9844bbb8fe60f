-- Worked examples of relocation values.
use Rattle.std.specs.Prelude.{◌≡◌, ℕ, ◌^◌, ◌-◌, ℤ, pos, negsuc, List, [], ◌∷◌, ◌++◌, replicate, Ok, Err}
use Rattle.elf_model.specs.Prelude.{value}
use Rattle.elf_model.specs.declared.causes.Cause.TheVariants.{Overflow, Unsupported}

-- the bytes of a value that takes no procedure linkage table entry
abbrev pub Stores : ℕ → ℕ → ℤ → ℕ → List ℕ → Type 0
Stores type s a p bytes = value type s 0 a p ≡ Ok bytes

-- a value that does not fit
abbrev pub Overflows : ℕ → ℕ → ℤ → ℕ → Type 0
Overflows type s a p = value type s 0 a p ≡ Err Overflow

-- R_X86_64_PC32 is a number in two's complement
abbrev pub RelativeIsSigned : Type 0
RelativeIsSigned =
    Stores 2 0x402000 (negsuc 3) 0x401005 (0xf7 ∷ 0x0f ∷ 0 ∷ 0 ∷ []) × Overflows 2 0x80000000 (pos 0) 0

-- R_X86_64_PLT32 takes the procedure linkage table entry and not the symbol
abbrev pub CallTakesEntry : Type 0
CallTakesEntry =
    (value 4 7 0x2000 (negsuc 3) 0x1001 ≡ Ok (0xfb ∷ 0x0f ∷ 0 ∷ 0 ∷ []))
    × (value 4 7 0x80000000 (pos 0) 0 ≡ Err Overflow)

-- R_X86_64_32 is an unsigned number, R_X86_64_32S one in two's complement; both of the value modulo
-- 2^64
abbrev pub Bits32 : Type 0
Bits32 =
    Overflows 10 0xffffffff (pos 1) 0
    × Overflows 10 0xffffffff80000000 (pos 0) 0
    × Stores 10 0x80000000 (pos 0) 0 (0 ∷ 0 ∷ 0 ∷ 0x80 ∷ [])
    × Stores 10 0xffffffff (pos 0) 0 (replicate 4 0xff)
    × Stores 11 0xffffffff80000000 (pos 0) 0 (0 ∷ 0 ∷ 0 ∷ 0x80 ∷ [])
    × Stores 11 0x7fffffff (pos 0) 0 (0xff ∷ 0xff ∷ 0xff ∷ 0x7f ∷ [])
    × Overflows 11 0x80000000 (pos 0) 0
    × Stores 10 (2 ^ 64 - 1) (pos 1) 0 (0 ∷ 0 ∷ 0 ∷ 0 ∷ [])

-- R_X86_64_64 and R_X86_64_PC64 take any value, modulo 2^64
abbrev pub Bits64 : Type 0
Bits64 =
    Stores 1 (2 ^ 64 - 1) (pos 1) 0 (replicate 8 0) × Stores 24 0 (pos 0) 1 (replicate 8 0xff)
    × Stores 24 0 (negsuc 0) (2 ^ 63) (replicate 7 0xff ++ (0x7f ∷ []))
    × Stores 24 0 (negsuc (2 ^ 63 - 1)) (2 ^ 64 - 1) ((1 ∷ []) ++ replicate 6 0 ++ (0x80 ∷ []))

-- R_X86_64_16 fits as an unsigned number or in two's complement
abbrev pub Bits16 : Type 0
Bits16 =
    Stores 12 0xffff (pos 0) 0 (0xff ∷ 0xff ∷ [])
    × Stores 12 (2 ^ 64 - 0x8000) (pos 0) 0 (0 ∷ 0x80 ∷ [])
    × Overflows 12 0x10000 (pos 0) 0
    × Overflows 12 (2 ^ 64 - 0x8001) (pos 0) 0

-- R_X86_64_8 likewise
abbrev pub Bits8 : Type 0
Bits8 =
    Stores 14 0xff (pos 0) 0 (0xff ∷ [])
    × Stores 14 (2 ^ 64 - 0x80) (pos 0) 0 (0x80 ∷ [])
    × Overflows 14 0x100 (pos 0) 0
    × Overflows 14 (2 ^ 64 - 0x81) (pos 0) 0

-- R_X86_64_NONE stores nothing, and a type outside the table is not applied
abbrev pub OtherTypes : Type 0
OtherTypes = Stores 0 1 (pos 1) 1 [] × (value 3 0 0 (pos 0) 0 ≡ Err Unsupported)
