-- The symbol as a record of fields.
use Rattle.std.specs.Prelude.{ℕ, ◌≡◌, ◌+◌, ◌<◌, ◌≤◌, ◌≢◌, List, [], ◌∷◌}
use Rattle.elf_model.specs.Prelude.{SHN_ABS, SHN_COMMON, SHN_LORESERVE, SHN_UNDEF, field}
use Rattle.elf_record.specs.Parts.{RecordField, Number}
use Rattle.elf_record.specs.declared.sym.Sym.{Sym}
use Rattle.elf_record.specs.declared.sym.SymbolSection.{SymbolSection}
use Rattle.elf_record.specs.declared.sym.SymbolSection.TheVariants.{Undefined, Section, Absolute, Common, Reserved}

-- at an offset is a symbol with these fields, each at its place (gABI 4, Symbol Table)
pub record IsSym (file : List ℕ) (at : ℕ) (r : Sym) : Type 0 where
  pub st_name : r.st_name ≡ field file at 4
  pub st_info : r.st_info ≡ field file (at + 4) 1
  pub st_other : r.st_other ≡ field file (at + 5) 1
  pub st_shndx : r.st_shndx ≡ field file (at + 6) 2
  pub st_value : r.st_value ≡ field file (at + 8) 8
  pub st_size : r.st_size ≡ field file (at + 16) 8

-- a symbol's parts, in their order
abbrev pub sym_parts : Sym → List RecordField
sym_parts r =
    Number 4 r.st_name ∷ Number 1 r.st_info ∷ Number 1 r.st_other ∷ Number 2 r.st_shndx
    ∷ Number 8 r.st_value ∷ Number 8 r.st_size ∷ []

-- the section of a symbol with this section index (gABI 4, Special Section Indexes)
abbrev pub IsPlace : ℕ → SymbolSection → Type 0
IsPlace index Undefined = index ≡ SHN_UNDEF
IsPlace index (Section section) = (index ≡ section) × (0 < index) × (index < SHN_LORESERVE)
IsPlace index Absolute = index ≡ SHN_ABS
IsPlace index Common = index ≡ SHN_COMMON
IsPlace index (Reserved reserved) = (index ≡ reserved) × (SHN_LORESERVE ≤ index) × (index ≢ SHN_ABS) × (index ≢ SHN_COMMON)
