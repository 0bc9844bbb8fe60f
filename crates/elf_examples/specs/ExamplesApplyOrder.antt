-- Worked examples of which fault of a relocation entry comes first, of the terms that each
-- relocation type takes, and of what longer names cost.
use Rattle.std.specs.Prelude.{◌≡◌, ℕ, ◌+◌, ◌*◌, ◌-◌, ◌^◌, ◌++◌, List, [], ◌∷◌, codes, replicate}
use Rattle.elf_model.specs.Prelude.{ALL, Compared, Layout, RELOCS, apply_cost, cost, empty_layout, entry_layout, find_cost, full_layout, hash_with_cycle, layout_names_cost, little, one_call, one_symbol_table, overlapping_relocations, placed_layout, relocated, relocation, section_header, unplaced_layout, with_bytes, with_symbol, zeros}
use Rattle.elf_model.specs.declared.causes.Cause.TheVariants.{BadLink, NameOutside, Overflow, PlaceOutside, SymbolIndex, Unplaced, Unsupported}
use Rattle.elf_examples.specs.ExamplesApply.{WritesSection, RefusesToApply}

-- the type, the place, the symbol, its name, the section's address, the value: each entry here
-- fails the next check as well; then entries that take S, of a symbol that has no value, if the
-- place, the symbol's index or the link fails before
abbrev pub EntryFaultsInOrder : Type 0
EntryFaultsInOrder =
    RefusesToApply (with_bytes 0x48 (little 8 6 ++ little 4 9) one_call) entry_layout 0x48 Unsupported
    × RefusesToApply (with_bytes 0x48 (little 8 2 ++ little 4 4 ++ little 4 2) one_call) entry_layout 0x48 PlaceOutside
    × RefusesToApply (with_bytes 0x54 (little 4 2) one_call) empty_layout 0x48 SymbolIndex
    × RefusesToApply (with_symbol 0 (little 4 3)) unplaced_layout 0x78 NameOutside
    × RefusesToApply (with_bytes 0x50 (little 4 2) (with_symbol 6 (little 2 0xfff1 ++ little 8 (2 ^ 63)))) empty_layout 0x48 Unplaced
    × RefusesToApply (with_bytes 0x50 (little 4 2) (with_symbol 6 (little 2 0xfff1 ++ little 8 (2 ^ 63)))) placed_layout 0x48 Overflow
    × RefusesToApply (with_bytes 0x48 (little 8 2 ++ little 4 10) one_call) empty_layout 0x48 PlaceOutside
    × RefusesToApply (with_bytes 0x50 (little 4 10 ++ little 4 2) one_call) empty_layout 0x48 SymbolIndex
    × RefusesToApply (with_bytes 0x50 (little 4 10) (with_bytes 0x140 (little 4 1) one_call)) empty_layout 0x48 BadLink

-- the call with other bytes in its symbol, if an entry of a type relocates the eight bytes of its
-- section
abbrev pub eight_relocated : ℕ → ℕ → List ℕ → List ℕ
eight_relocated type place bytes =
    with_bytes 0x48 (little 8 0 ++ little 4 type) (with_bytes 0xf8 (little 8 8) (with_symbol place bytes))

-- R_X86_64_PC32 and R_X86_64_PC64 take the symbol and the place, R_X86_64_32 and R_X86_64_64 the
-- symbol alone; none takes the procedure linkage table entry
abbrev pub TypesTakeTheirTerms : Type 0
TypesTakeTheirTerms =
    WritesSection (with_bytes 0x50 (little 4 2) one_call) full_layout (0xe8 ∷ 0xfb ∷ 0x1f ∷ 0 ∷ 0 ∷ [])
    × WritesSection (with_bytes 0x50 (little 4 10) one_call) full_layout (0xe8 ∷ 0xfc ∷ 0x2f ∷ 0 ∷ 0 ∷ [])
    × WritesSection (eight_relocated 24 0 []) full_layout (0xfc ∷ 0x1f ∷ zeros 6)
    × WritesSection (eight_relocated 1 0 []) full_layout (0xfc ∷ 0x2f ∷ zeros 6)

-- section 1 and a definition of `f`, both at 2^63
abbrev pub high_layout : Layout
high_layout = record { lookup = Compared; sections = (1, 2 ^ 63) ∷ []; definitions = (codes "f", 2 ^ 63) ∷ []; linkage = []; table = []; thread = [] }

-- an address has 64 bits: as the symbol's section, as its definition, as its own value, and as the
-- place; one that would be 2^64 or more is taken modulo 2^64, of a symbol and of a place
abbrev pub AddressesAreWhole : Type 0
AddressesAreWhole =
    WritesSection (eight_relocated 1 6 (little 2 1 ++ little 8 0x10)) high_layout ((0x0c ∷ []) ++ zeros 6 ++ (0x80 ∷ []))
    × WritesSection (eight_relocated 1 6 (little 2 1 ++ little 8 (2 ^ 63 + 0x10))) high_layout ((0x0c ∷ []) ++ zeros 7)
    × WritesSection (relocated (zeros 8) (relocation 4 2 0x5000))
    (record { lookup = Compared; sections = (1, 2 ^ 64 - 2) ∷ []; definitions = []; linkage = []; table = []; thread = [] })
    (zeros 4 ++ (0xfe ∷ 0x4f ∷ 0 ∷ 0 ∷ []))
    × WritesSection (eight_relocated 1 6 (little 2 0)) high_layout ((0xfc ∷ []) ++ replicate 6 0xff ++ (0x7f ∷ []))
    × WritesSection (eight_relocated 1 6 (little 2 0xfff1 ++ little 8 (2 ^ 63))) high_layout ((0xfc ∷ []) ++ replicate 6 0xff ++ (0x7f ∷ []))
    × WritesSection (relocated (zeros 8) (relocation 0 24 0x5000)) high_layout ((0 ∷ 0x50 ∷ []) ++ zeros 5 ++ (0x80 ∷ []))

-- the other types, without a symbol; R_X86_64_PC64 takes the place
abbrev pub TypesWithoutASymbol : Type 0
TypesWithoutASymbol =
    WritesSection (relocated (zeros 8) (relocation 0 24 0x5000)) placed_layout (0 ∷ 0x40 ∷ zeros 6)
    × RefusesToApply (relocated (zeros 8) (relocation 0 24 0x5000)) empty_layout 0x48 Unplaced
    × WritesSection (relocated (zeros 8) (relocation 0 1 (2 ^ 64 - 1))) empty_layout (replicate 8 0xff)
    × WritesSection (relocated (zeros 8) (relocation 0 11 (2 ^ 64 - 2 ^ 31))) empty_layout ((0 ∷ 0 ∷ 0 ∷ 0x80 ∷ []) ++ zeros 4)
    × WritesSection (relocated (zeros 8) (relocation 7 14 0xff)) empty_layout (zeros 7 ++ 0xff ∷ [])

-- two sections with addresses, and two definitions, the second of `f`
unfoldable pub longer_layout : Layout
longer_layout =
    record {
      lookup = Compared;
      sections = (1, 0x1000) ∷ (3, 0x3000) ∷ [];
      definitions = (codes "g", 0x9000) ∷ (codes "f", 0x3000) ∷ [];
      linkage = (codes "ff", 0x9000) ∷ [];
      table = [];
      thread = [];
    }

-- a section that is not the first of the layout, a definition that is not, and an entry of a longer
-- name
abbrev pub LaterItemsAreFound : Type 0
LaterItemsAreFound =
    WritesSection (with_symbol 6 (little 2 3)) longer_layout (0xe8 ∷ 0xfb ∷ 0x1f ∷ 0 ∷ 0 ∷ [])
    × WritesSection one_call longer_layout (0xe8 ∷ 0xfb ∷ 0x1f ∷ 0 ∷ 0 ∷ [])

-- definitions and entries, each with a name of 63 bytes and one of 64
unfoldable pub long_named_layout : Layout
long_named_layout =
    record {
      lookup = Compared;
      sections = [];
      definitions = (replicate 63 97, 0) ∷ (replicate 64 97, 0) ∷ [];
      linkage = (replicate 63 97, 0) ∷ (replicate 64 97, 0) ∷ [];
      table = [];
      thread = [];
    }

-- a name and its NUL cost pieces of 64 bytes
abbrev pub LongNamesCost : Type 0
LongNamesCost =
    (layout_names_cost long_named_layout ≡ (64 + 128) + (64 + 128))
    × (find_cost hash_with_cycle 4 (replicate 63 99) ≡ 76 + 256 + 3 * (28 + 64))
    × (find_cost hash_with_cycle 4 (replicate 64 99) ≡ 76 + 256 + 3 * (28 + 128))

-- if the section headers are read they cost their bytes, also if the section of the section names
-- is refused; a table counts if its own checks pass, also if those of what it links to fail
abbrev pub LaterFaultsCost : Type 0
LaterFaultsCost =
    (cost (with_bytes 0x3e (little 2 1) one_symbol_table) 3 63 ALL ≡ 64 + 192 + 3 * 64 + 2 * 88)
    × (find_cost (with_bytes 0x3e (little 2 1) hash_with_cycle) 4 (codes "a") ≡ 76 + 256)
    × (apply_cost (with_bytes 0x3e (little 2 1) one_call) 5 1 empty_layout ≡ 64 + 320)
    × (apply_cost (with_bytes 0x190 (little 8 16) one_call) 5 1 empty_layout ≡ 64 + 320 + 2 * 48 + 5)
    × (cost (with_bytes 0x190 (little 8 16) one_call) 5 63 RELOCS ≡ 64 + 320 + 112)

-- relocation entries in section 0 are applied like those of any other section: here section 2 has
-- none for section 1
abbrev pub SectionZeroIsApplied : Type 0
SectionZeroIsApplied =
    let file = with_bytes 0x124 (little 4 2) (with_bytes 0x78 (section_header 4 0x40 0x48 0x18 0 1 0 24) overlapping_relocations) in
    WritesSection file empty_layout ((0x44 ∷ 0x33 ∷ 0x22 ∷ 0x11 ∷ []) ++ zeros 4)
    × (apply_cost file 3 1 empty_layout ≡ 64 + 192 + 2 * 1 * 48 + 8)
