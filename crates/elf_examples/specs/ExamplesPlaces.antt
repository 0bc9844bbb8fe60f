-- Worked examples of entries elsewhere: for another section, of another symbol, at the end of a
-- section, next to other tables of symbols.
use Rattle.std.specs.Prelude.{◌≡◌, ◌+◌, ◌*◌, ℕ, List, ◌++◌, [], ◌∷◌, codes, Ok}
use Rattle.elf_model.specs.Prelude.{Compared, Layout, applied, apply_cost, apply_cost_in_order, entry_layout, full_layout, little, one_call, overlapping_relocations, placed_layout, relocated, relocation, symbol, with_bytes, with_entries_header, zeros}
use Rattle.elf_model.specs.declared.causes.Cause.TheVariants.{NameOutside, PlaceOutside, SymbolIndex, Undefined, Unplaced}
use Rattle.elf_examples.specs.ExamplesApply.{WritesSection, RefusesSection, RefusesToApply}
use Rattle.elf_examples.specs.ExamplesApplyOrder.{eight_relocated}

-- sections 1 and 4 at addresses of their own, and a procedure linkage table entry of `f`
abbrev pub two_sections : Layout
two_sections = record { lookup = Compared; sections = (1, 0x1000) ∷ (4, 0x5000) ∷ []; definitions = []; linkage = (codes "f", 0x2000) ∷ []; table = []; thread = [] }

-- the call's entry for section 4, of eight bytes: the place is in that section, and section 1 has
-- no entries
abbrev pub OtherSectionIsApplied : Type 0
OtherSectionIsApplied =
    let file = with_bytes 0x1b8 (little 8 8) (with_entries_header 44 (little 4 4)) in
    (applied file 5 4 two_sections ≡ Ok (0 ∷ 0xfb ∷ 0xcf ∷ 0xff ∷ 0xff ∷ 0 ∷ 0 ∷ 0 ∷ []))
    × RefusesSection 4 file entry_layout 0x48 Unplaced
    × WritesSection file two_sections (0xe8 ∷ zeros 4)

-- the call with three symbols, which follow its section headers: symbol 0, `f`, which is not
-- defined, and an absolute one
abbrev pub three_symbols : ℕ → List ℕ
three_symbols named =
    with_bytes 0x54 (little 4 named) (with_bytes 0x170 (little 8 0x1d8 ++ little 8 0x48) one_call)
    ++ symbol 0 0x10 0xfff1 0x2000 0 ++ symbol 1 0x10 0 0 0 ++ symbol 0 0x10 0xfff1 0x3000 0

-- an entry names its symbol by the index, and of symbol 0 no field counts
abbrev pub SymbolsByTheirIndex : Type 0
SymbolsByTheirIndex =
    WritesSection (three_symbols 0) placed_layout (0xe8 ∷ 0xfb ∷ 0xef ∷ 0xff ∷ 0xff ∷ [])
    × RefusesToApply (three_symbols 1) placed_layout 0x48 Undefined
    × WritesSection (three_symbols 2) placed_layout (0xe8 ∷ 0xfb ∷ 0x1f ∷ 0 ∷ 0 ∷ [])
    × RefusesToApply (three_symbols 3) placed_layout 0x48 SymbolIndex
    × RefusesToApply (three_symbols 0x10002) placed_layout 0x48 SymbolIndex

-- one entry of a type at an offset of eight bytes
abbrev pub one_entry : ℕ → ℕ → List ℕ
one_entry type offset = relocated (zeros 8) (relocation offset type 0x1000)

-- each type's bytes end with the section, and one byte on they are outside
abbrev pub EntriesEndInside : Type 0
EntriesEndInside =
    RefusesToApply (one_entry 1 1) placed_layout 0x48 PlaceOutside
    × WritesSection (one_entry 2 4) placed_layout (0 ∷ 0 ∷ 0 ∷ 0 ∷ 0xfc ∷ 0xff ∷ 0xff ∷ 0xff ∷ [])
    × RefusesToApply (one_entry 2 5) placed_layout 0x48 PlaceOutside
    × RefusesToApply (one_entry 4 5) placed_layout 0x48 PlaceOutside
    × WritesSection (one_entry 10 4) placed_layout (0 ∷ 0 ∷ 0 ∷ 0 ∷ 0 ∷ 0x10 ∷ 0 ∷ 0 ∷ [])
    × RefusesToApply (one_entry 10 5) placed_layout 0x48 PlaceOutside
    × RefusesToApply (one_entry 11 5) placed_layout 0x48 PlaceOutside
    × WritesSection (one_entry 12 6) placed_layout (zeros 6 ++ 0 ∷ 0x10 ∷ [])
    × RefusesToApply (one_entry 12 7) placed_layout 0x48 PlaceOutside
    × RefusesToApply (one_entry 14 8) placed_layout 0x48 PlaceOutside
    × RefusesToApply (one_entry 24 1) placed_layout 0x48 PlaceOutside

-- the symbols are those of the linked table, also if an earlier section is one
abbrev pub LinkedSymbolsApply : Type 0
LinkedSymbolsApply = WritesSection (with_bytes 0x9c (little 4 2) one_call) entry_layout (0xe8 ∷ 0xfb ∷ 0x0f ∷ 0 ∷ 0 ∷ [])

-- a type that takes no procedure linkage table entry does not search for one: the name of an
-- absolute symbol is not read
abbrev pub CallsAloneTakeEntries : Type 0
CallsAloneTakeEntries =
    let absolute = little 4 0xffffffff ++ little 2 0x10 ++ little 2 0xfff1 ++ little 8 0x2000 in
    WritesSection (eight_relocated 1 0 absolute) entry_layout (0xfc ∷ 0x1f ∷ zeros 6)
    × WritesSection (eight_relocated 2 0 absolute) entry_layout (0xfc ∷ 0x0f ∷ zeros 6)
    × RefusesToApply (eight_relocated 4 0 absolute) entry_layout 0x78 NameOutside

-- the section headers that there are cost their bytes, and not those that are allowed; and for each
-- entry the layout's names may be compared
abbrev pub HeadersAndNamesCost : Type 0
HeadersAndNamesCost =
    (apply_cost one_call 9 1 entry_layout ≡ 613)
    × (apply_cost_in_order one_call 9 1 entry_layout ≡ 613)
    × (apply_cost one_call 9 0 entry_layout ≡ 64 + 320)
    × (apply_cost overlapping_relocations 3 1 entry_layout ≡ 64 + 192 + 2 * 2 * (48 + 64) + 8)
    × (apply_cost_in_order overlapping_relocations 9 1 full_layout ≡ 64 + 192 + 2 * 2 * (48 + 128) + 8)
