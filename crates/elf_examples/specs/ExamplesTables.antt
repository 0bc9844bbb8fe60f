-- Worked examples of entries that take a symbol's entry in the global offset table.
use Rattle.std.specs.Prelude.{◌≡◌, ℕ, ◌^◌, ◌-◌, ◌+◌, ◌*◌, pos, negsuc, List, [], ◌∷◌, ◌++◌, codes, Ok, Err}
use Rattle.elf_model.specs.Prelude.{Compared, Layout, apply_cost, full_layout, layout_names_cost, little, one_call, table_layout, value, with_bytes, with_entries_header, with_symbol}
use Rattle.elf_model.specs.declared.causes.Cause.TheVariants.{BadLink, NameOutside, Overflow, PlaceOutside, SymbolIndex, Undefined, Unplaced, Unsupported}
use Rattle.elf_examples.specs.ExamplesApply.{WritesSection, RefusesToApply}

-- the call with another type in place of R_X86_64_PLT32
abbrev pub of_type : ℕ → List ℕ
of_type type = with_bytes 0x50 (little 4 type) one_call

-- section 1 at 0x1000, with such global offset table entries and such of offsets from the thread
-- pointer
abbrev pub tables : List (List ℕ × ℕ) → List (List ℕ × ℕ) → Layout
tables table thread =
    record { lookup = Compared; sections = (1, 0x1000) ∷ []; definitions = []; linkage = []; table = table; thread = thread }

-- R_X86_64_GOTPCREL, GOTPCRELX and REX_GOTPCRELX take the symbol's entry, R_X86_64_GOTTPOFF that of
-- its offset from the thread pointer; the byte before them is unchanged
abbrev pub EntriesAreTaken : Type 0
EntriesAreTaken =
    WritesSection (of_type 9) table_layout (0xe8 ∷ 0xfb ∷ 0x2f ∷ 0 ∷ 0 ∷ [])
    × WritesSection (of_type 41) table_layout (0xe8 ∷ 0xfb ∷ 0x2f ∷ 0 ∷ 0 ∷ [])
    × WritesSection (of_type 42) table_layout (0xe8 ∷ 0xfb ∷ 0x2f ∷ 0 ∷ 0 ∷ [])
    × WritesSection (of_type 22) table_layout (0xe8 ∷ 0xfb ∷ 0x3f ∷ 0 ∷ 0 ∷ [])

-- the entry is one of the symbol with any section index, any value and any binding, and its section
-- needs no address
abbrev pub EntriesAreOfAnySymbol : Type 0
EntriesAreOfAnySymbol =
    let absolute = with_bytes 0x50 (little 4 9) (with_symbol 6 (little 2 0xfff1 ++ little 8 0x9000)) in
    let elsewhere = with_bytes 0x50 (little 4 42) (with_symbol 6 (little 2 2 ++ little 8 8)) in
    let weak = with_bytes 0x50 (little 4 22) (with_symbol 4 (little 1 0x20)) in
    WritesSection absolute table_layout (0xe8 ∷ 0xfb ∷ 0x2f ∷ 0 ∷ 0 ∷ [])
    × WritesSection elsewhere table_layout (0xe8 ∷ 0xfb ∷ 0x2f ∷ 0 ∷ 0 ∷ [])
    × WritesSection weak table_layout (0xe8 ∷ 0xfb ∷ 0x3f ∷ 0 ∷ 0 ∷ [])

-- the value is a number in two's complement of 32 bits, of the entry's address and of nothing else
-- of the symbol
abbrev pub EntriesAreSigned : Type 0
EntriesAreSigned =
    (value 9 0x7fffffff 7 (pos 0) 0 ≡ Ok (0xff ∷ 0xff ∷ 0xff ∷ 0x7f ∷ []))
    × (value 9 0x80000000 7 (pos 0) 0 ≡ Err Overflow)
    × (value 41 0 7 (pos 0) 0x80000000 ≡ Ok (0 ∷ 0 ∷ 0 ∷ 0x80 ∷ []))
    × (value 41 0 7 (pos 0) 0x80000001 ≡ Err Overflow)
    × (value 42 (2 ^ 64 - 1) 7 (pos 2) 0 ≡ Ok (1 ∷ 0 ∷ 0 ∷ 0 ∷ []))
    × (value 22 0x402000 7 (negsuc 3) 0x401005 ≡ Ok (0xf7 ∷ 0x0f ∷ 0 ∷ 0 ∷ []))
    × (value 22 0 7 (negsuc 0) 0x80000000 ≡ Err Overflow)

-- if a layout has no such entries their types are refused before all else, as those that are not
-- applied: a place outside the section, a symbol that is none
abbrev pub TypesWithoutEntries : Type 0
TypesWithoutEntries =
    RefusesToApply (of_type 9) full_layout 0x48 Unsupported
    × RefusesToApply (of_type 22) (tables ((codes "f", 0x4000) ∷ []) []) 0x48 Unsupported
    × RefusesToApply (of_type 41) (tables [] ((codes "f", 0x5000) ∷ [])) 0x48 Unsupported
    × RefusesToApply (with_bytes 0x48 (little 8 2) (of_type 42)) full_layout 0x48 Unsupported
    × RefusesToApply (with_bytes 0x54 (little 4 2) (of_type 22)) full_layout 0x48 Unsupported
    × RefusesToApply (with_bytes 0x78 (little 4 3) (of_type 9)) full_layout 0x48 Unsupported

-- a symbol that has none among those that there are, and symbol 0, which has no name
abbrev pub SymbolsWithoutEntries : Type 0
SymbolsWithoutEntries =
    RefusesToApply (of_type 9) (tables ((codes "g", 0x4000) ∷ (codes "ff", 0x4000) ∷ []) ((codes "f", 0x5000) ∷ [])) 0x48 Unsupported
    × RefusesToApply (of_type 22) (tables ((codes "f", 0x4000) ∷ []) ((codes "g", 0x5000) ∷ [])) 0x48 Unsupported
    × RefusesToApply (with_bytes 0x54 (little 4 0) (of_type 9)) table_layout 0x48 Unsupported
    × RefusesToApply (with_bytes 0x54 (little 4 0) (of_type 22)) table_layout 0x48 Unsupported
    × WritesSection (of_type 9) (tables ((codes "g", 0x9000) ∷ (codes "f", 0x4000) ∷ (codes "f", 0x9000) ∷ []) []) (0xe8 ∷ 0xfb ∷ 0x2f ∷ 0 ∷ 0 ∷ [])

-- the place, the symbol, its name, its entry, the section's address, the value: each entry here
-- fails the next check as well
abbrev pub EntryChecksInOrder : Type 0
EntryChecksInOrder =
    let unplaced : Layout = record { lookup = Compared; sections = []; definitions = []; linkage = []; table = (codes "f", 2 ^ 63) ∷ []; thread = [] } in
    RefusesToApply (with_bytes 0x48 (little 8 2 ++ little 4 9 ++ little 4 2) one_call) table_layout 0x48 PlaceOutside
    × RefusesToApply (with_bytes 0x54 (little 4 2) (of_type 9)) table_layout 0x48 SymbolIndex
    × RefusesToApply (with_bytes 0x50 (little 4 22) (with_entries_header 40 (little 4 1))) table_layout 0x48 BadLink
    × RefusesToApply (with_bytes 0x78 (little 4 3) (of_type 9)) table_layout 0x78 NameOutside
    × RefusesToApply (of_type 9) (record { lookup = Compared; sections = []; definitions = []; linkage = []; table = (codes "g", 0) ∷ []; thread = [] }) 0x48 Unsupported
    × RefusesToApply (of_type 9) unplaced 0x48 Unplaced
    × RefusesToApply (of_type 9) (tables ((codes "f", 2 ^ 63) ∷ []) []) 0x48 Overflow

-- no other type takes such an entry
abbrev pub OthersTakeNoTable : Type 0
OthersTakeNoTable =
    RefusesToApply (of_type 2) table_layout 0x48 Undefined
    × RefusesToApply (of_type 4) table_layout 0x48 Undefined
    × RefusesToApply (of_type 10) table_layout 0x48 Undefined
    × RefusesToApply (of_type 26) table_layout 0x48 Unsupported

-- a name costs what it does in the other items
abbrev pub TableNamesCost : Type 0
TableNamesCost =
    (layout_names_cost table_layout ≡ 64 + 64)
    × (apply_cost (of_type 9) 5 1 table_layout ≡ 64 + 320 + 2 * (48 + 128) + 5)
