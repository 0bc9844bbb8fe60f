-- Relocation values for x86-64 (psABI 4.4, Relocation). B is the address of the symbol that its
-- type's base gives: S, its value; L, that of its procedure linkage table entry; that of its global
-- offset table entry. A is the addend, P the place of the bytes that are relocated.
use Rattle.std.specs.Prelude.{ℕ, ◌-◌, ◌*◌, ◌%◌, ◌^◌, ◌==◌, ◌||◌, nat_lt, not, Bool, true, false, ℤ, pos, negsuc, ◌+ℤ◌, ◌-ℤ◌, List, [], ◌∷◌, Option, None, Some, Result, Ok, Err}
use Rattle.elf_model.specs.Bytes.{little}
use Rattle.elf_model.specs.Numbers.{R_X86_64_NONE}
use Rattle.elf_model.specs.declared.causes.Cause.{Cause}
use Rattle.elf_model.specs.declared.causes.Cause.TheVariants.{Unsupported, Overflow}
use Rattle.elf_model.specs.declared.relocation_types.RelocationBase.{RelocationBase}
use Rattle.elf_model.specs.declared.relocation_types.RelocationBase.TheVariants.{Symbol, Linkage, Table, Thread}
use Rattle.elf_model.specs.declared.relocation_types.Formula.{Formula}
use Rattle.elf_model.specs.declared.relocation_types.Formula.TheVariants.{Absolute, Relative}
use Rattle.elf_model.specs.declared.relocation_types.ValueRange.{ValueRange}
use Rattle.elf_model.specs.declared.relocation_types.ValueRange.TheVariants.{Any, Unsigned, Signed, Either}
use Rattle.elf_model.specs.declared.relocation_types.RelocationType.{RelocationType}

-- the formula takes P
abbrev pub takes_place : Formula → Bool
takes_place Absolute = false
takes_place Relative = true

-- the terms of a formula: B, A and P
pub record FormulaTerms : Type 0 where
  pub base : ℕ
  pub addend : ℤ
  pub place : ℕ

-- a formula's value, as an unbounded integer
unfoldable pub whole : Formula → FormulaTerms → ℤ
whole Absolute terms = pos terms.base +ℤ terms.addend
whole Relative terms = (pos terms.base +ℤ terms.addend) -ℤ pos terms.place

-- an integer modulo 2^64
unfoldable pub modulo_2_64 : ℤ → ℕ
modulo_2_64 (pos n) = n % 2 ^ 64
modulo_2_64 (negsuc n) = 2 ^ 64 - 1 - n % 2 ^ 64

-- a value modulo 2^64 is below 2^bits
abbrev pub is_unsigned : ℕ → ℕ → Bool
is_unsigned bits value = nat_lt value (2 ^ bits)

-- a value modulo 2^64 is a number in two's complement of this many bits
abbrev pub is_signed : ℕ → ℕ → Bool
is_signed bits value = nat_lt value (2 ^ (bits - 1)) || not (nat_lt value (2 ^ 64 - 2 ^ (bits - 1)))

-- a value modulo 2^64 is in the range, for this many bytes
unfoldable pub fits_in_range : ValueRange → ℕ → ℕ → Bool
fits_in_range Any width value = true
fits_in_range Unsigned width value = is_unsigned (8 * width) value
fits_in_range Signed width value = is_signed (8 * width) value
fits_in_range Either width value = is_unsigned (8 * width) value || is_signed (8 * width) value

-- a relocation type by its width, base, formula and range
abbrev pub kind : ℕ → RelocationBase → Formula → ValueRange → RelocationType
kind width base formula range = record { width = width; base = base; formula = formula; range = range }

-- the relocation types that store a value: R_X86_64_64, PC32, PLT32, GOTPCREL, 32, 32S, 16, 8,
-- GOTTPOFF, PC64, GOTPCRELX, REX_GOTPCRELX
unfoldable pub kinds : List (ℕ × RelocationType)
kinds =
    (1, kind 8 Symbol Absolute Any)
    ∷ (2, kind 4 Symbol Relative Signed)
    ∷ (4, kind 4 Linkage Relative Signed)
    ∷ (9, kind 4 Table Relative Signed)
    ∷ (10, kind 4 Symbol Absolute Unsigned)
    ∷ (11, kind 4 Symbol Absolute Signed)
    ∷ (12, kind 2 Symbol Absolute Either)
    ∷ (14, kind 1 Symbol Absolute Either)
    ∷ (22, kind 4 Thread Relative Signed)
    ∷ (24, kind 8 Symbol Relative Any)
    ∷ (41, kind 4 Table Relative Signed)
    ∷ (42, kind 4 Table Relative Signed)
    ∷ []

-- the relocation type of a number, in a table
unfoldable pub kind_in : List (ℕ × RelocationType) → ℕ → Option RelocationType
kind_in [] n = None
kind_in (row ∷ rows) n = elim (n == row.0) [ true ↦ Some row.1 | false ↦ kind_in rows n ]

-- the relocation type of a number, if it is one that stores a value
unfoldable pub kind_of : ℕ → Option RelocationType
kind_of n = kind_in kinds n

-- a relocation type's value modulo 2^64
abbrev pub value_of : RelocationType → FormulaTerms → ℕ
value_of type terms = modulo_2_64 (whole type.formula terms)

-- the value is outside the type's range
abbrev pub overflows : RelocationType → FormulaTerms → Bool
overflows type terms = not (fits_in_range type.range type.width (value_of type terms))

-- the bytes of the value: its low ones
abbrev pub low_bytes : RelocationType → FormulaTerms → List ℕ
low_bytes type terms = little type.width (value_of type terms)

-- the bytes that a relocation of a type stores, if its value is in the type's range
unfoldable pub patch_of : RelocationType → FormulaTerms → Result (List ℕ) Cause
patch_of type terms = elim (overflows type terms) [ true ↦ Err Overflow | false ↦ Ok (low_bytes type terms) ]

-- L if the base is L, otherwise the other address of the symbol: S, or that of its entry
abbrev pub base_address : RelocationBase → ℕ → ℕ → ℕ
base_address Symbol s l = s
base_address Linkage s l = l
base_address Table s l = s
base_address Thread s l = s

-- the bytes that a relocation stores: its type's number, S or, if the type's base is that, the
-- address of the symbol's global offset table entry, L, A and P
unfoldable pub value : ℕ → ℕ → ℕ → ℤ → ℕ → Result (List ℕ) Cause
value n s l a p =
    elim (n == R_X86_64_NONE) [
      | true ↦ Ok []
      | false ↦ elim (kind_of n) [
        | None ↦ Err Unsupported
        | Some type ↦ patch_of type (record { base = base_address type.base s l; addend = a; place = p })
      ]
    ]
