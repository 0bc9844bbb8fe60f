-- Worked examples of symbols in a layout, of what comes before relocation entries, and of what that
-- costs.
use Rattle.std.specs.Prelude.{◌≡◌, ℕ, List, codes, ◌+◌, ◌*◌, ◌-◌, ◌^◌, ◌++◌, pos, [], ◌∷◌, map, replicate, take, true, false, Ok, Err}
use Rattle.elf_model.specs.Prelude.{ALL, Compared, Layout, applied, apply_cost, apply_cost_in_order, cost, defined_layout, empty_layout, entry_layout, little, numbers_from, offsets_never_fall, one_call, one_symbol_table, overlapping_relocations, placed_layout, relocated, relocation, section_header, two_relocation_sections, value, with_bytes, with_entries_header, with_symbol, zeros}
use Rattle.elf_model.specs.declared.causes.Cause.TheVariants.{BadClass, BadLink, NameOutside, NameUnended, NotRel, NotStrings, PlaceOutside, Short, TableOutside, TooManyHeaders, Undefined, Unplaced, Unsupported}
use Rattle.elf_examples.specs.ExamplesApply.{WritesSection, RefusesSection, RefusesToApply}

-- an undefined symbol is 0 only if its binding is weak
abbrev pub WeakAloneIsZero : Type 0
WeakAloneIsZero =
    RefusesToApply (with_symbol 4 (little 1 0)) placed_layout 0x48 Undefined
    × RefusesToApply (with_symbol 4 (little 1 2)) placed_layout 0x48 Undefined
    × RefusesToApply (with_symbol 4 (little 1 0x30)) placed_layout 0x48 Undefined
    × RefusesToApply (with_symbol 4 (little 1 0xa2)) placed_layout 0x48 Undefined
    × WritesSection (with_symbol 4 (little 1 0x2a)) placed_layout (0xe8 ∷ 0xfb ∷ 0xef ∷ 0xff ∷ 0xff ∷ [])

-- section 1, the last index of a section, and the first that is reserved, all at 0x1000
abbrev pub last_layout : Layout
last_layout = record { lookup = Compared; sections = (1, 0x1000) ∷ (0xfeff, 0x1000) ∷ (0xff00, 0x1000) ∷ []; definitions = []; linkage = []; table = []; thread = [] }

-- the indices of sections, and those that are reserved
abbrev pub ReservedIndicesAreUnplaced : Type 0
ReservedIndicesAreUnplaced =
    WritesSection (with_symbol 6 (little 2 0xfeff ++ little 8 0x2000)) last_layout (0xe8 ∷ 0xfb ∷ 0x1f ∷ 0 ∷ 0 ∷ [])
    × RefusesToApply (with_symbol 6 (little 2 0xff00 ++ little 8 0x2000)) last_layout 0x48 Unplaced
    × RefusesToApply (with_symbol 6 (little 2 0xffff ++ little 8 0x2000)) last_layout 0x48 Unplaced

-- a definition is for undefined and common symbols: the name of another is not read
abbrev pub DefinitionsAreForUndefined : Type 0
DefinitionsAreForUndefined =
    WritesSection (with_symbol 6 (little 2 0xfff1 ++ little 8 0x2000)) defined_layout (0xe8 ∷ 0xfb ∷ 0x0f ∷ 0 ∷ 0 ∷ [])
    × WritesSection (with_symbol 6 (little 2 1 ++ little 8 0x1000)) defined_layout (0xe8 ∷ 0xfb ∷ 0x0f ∷ 0 ∷ 0 ∷ [])
    × RefusesToApply (with_symbol 6 (little 2 2 ++ little 8 0x1000)) defined_layout 0x48 Unplaced
    × WritesSection (with_symbol 0 (little 4 0xffffffff ++ little 2 0x10 ++ little 2 0xfff1 ++ little 8 0x2000)) defined_layout
    (0xe8 ∷ 0xfb ∷ 0x0f ∷ 0 ∷ 0 ∷ [])

-- a procedure linkage table entry is for symbols of any section index
abbrev pub EntriesAreForAll : Type 0
EntriesAreForAll =
    WritesSection (with_symbol 6 (little 2 0xfff1 ++ little 8 0x3000)) entry_layout (0xe8 ∷ 0xfb ∷ 0x0f ∷ 0 ∷ 0 ∷ [])
    × WritesSection (with_symbol 6 (little 2 0xfff2)) entry_layout (0xe8 ∷ 0xfb ∷ 0x0f ∷ 0 ∷ 0 ∷ [])
    × WritesSection (with_symbol 6 (little 2 2)) entry_layout (0xe8 ∷ 0xfb ∷ 0x0f ∷ 0 ∷ 0 ∷ [])
    × WritesSection (with_symbol 6 (little 2 0xff05)) entry_layout (0xe8 ∷ 0xfb ∷ 0x0f ∷ 0 ∷ 0 ∷ [])
    × RefusesToApply (with_symbol 0 (little 4 0xffffffff ++ little 2 0x10 ++ little 2 0xfff1 ++ little 8 0x2000)) entry_layout 0x78 NameOutside

-- a section without bytes of type NULL may be at any offset; one of another type and of size 0 is
-- within the file
abbrev pub SectionBytesAreChecked : Type 0
SectionBytesAreChecked =
    (applied (with_bytes 0xdc (little 4 0) (with_bytes 0xf0 (little 8 0x1000) (with_entries_header 44 (little 4 2)))) 5 1 empty_layout ≡ Ok [])
    × RefusesToApply (with_bytes 0xf0 (little 8 0x1000 ++ zeros 8) one_call) empty_layout 0xd8 TableOutside
    × (applied (with_bytes 0xf0 (little 8 472 ++ zeros 8) (with_entries_header 44 (little 4 2))) 5 1 empty_layout ≡ Ok [])
    × RefusesToApply (with_bytes 0xf0 (little 8 473 ++ zeros 8) (with_entries_header 44 (little 4 2))) empty_layout 0xd8 TableOutside

-- the file's length, the file header and the load checks come before what is requested
abbrev pub RequestsCheckTheFile : Type 0
RequestsCheckTheFile =
    RefusesSection 0 (take 63 one_call) empty_layout 63 Short
    × RefusesSection 0 (with_bytes 4 (little 1 1) (with_bytes 16 (little 2 3) one_call)) empty_layout 4 BadClass
    × (applied (with_bytes 4 (little 1 1) one_call) 2 1 empty_layout ≡ Err (record { at = 4; cause = BadClass }))
    × (applied (with_bytes 16 (little 2 3) one_call) 4 0 empty_layout ≡ Err (record { at = 0x3c; cause = TooManyHeaders }))
    × RefusesSection 0 (with_bytes 0x3e (little 2 5) (with_bytes 16 (little 2 3) one_call)) empty_layout 0x3e BadLink
    × RefusesSection 0 (with_bytes 0x3e (little 2 1) (with_bytes 16 (little 2 3) one_call)) empty_layout 0xd8 NotStrings

-- the end of an entry's bytes does not wrap
abbrev pub PlacesAreWhole : Type 0
PlacesAreWhole =
    RefusesToApply (with_bytes 0x48 (little 8 (2 ^ 64 - 4)) one_call) entry_layout 0x48 PlaceOutside
    × RefusesToApply (with_bytes 0x48 (little 8 (2 ^ 64 - 1)) one_call) entry_layout 0x48 PlaceOutside

-- if a check of the file header fails, only the file header is read
abbrev pub BadHeadersCost : Type 0
BadHeadersCost =
    (cost (with_bytes 4 (little 1 1) one_symbol_table) 3 63 ALL ≡ 64)
    × (apply_cost (with_bytes 4 (little 1 1) one_call) 5 1 entry_layout ≡ 64)
    × (apply_cost_in_order (with_bytes 4 (little 1 1) one_call) 5 1 entry_layout ≡ 64)

-- the order is that of all sections of entries together
abbrev pub OrderOverSections : Type 0
OrderOverSections =
    (offsets_never_fall (with_bytes 0x48 (little 8 4) (two_relocation_sections 12 24)) 1 ≡ false)
    × (offsets_never_fall (with_bytes 0x60 (little 8 4) (two_relocation_sections 12 24)) 1 ≡ true)

-- a section that has no bytes in the file has no windows, for any size
abbrev pub NoBytesCost : Type 0
NoBytesCost =
    (apply_cost (with_bytes 0x11c (little 4 8) (relocated (zeros 128) (relocation 0 0 0))) 3 1 empty_layout ≡ 64 + 192 + 48)
    × (apply_cost_in_order (with_bytes 0x11c (little 4 8) (relocated (zeros 128) (relocation 0 0 0))) 3 1 empty_layout ≡ 64 + 192 + 2 * 48)

-- a type that is not applied has a part in the order too
abbrev pub OrderHasEachType : Type 0
OrderHasEachType =
    (offsets_never_fall (relocated (zeros 8) (relocation 4 10 0 ++ relocation 0 9 0)) 1 ≡ false)
    × (offsets_never_fall (relocated (zeros 8) (relocation 4 10 0 ++ relocation 4 9 0)) 1 ≡ true)

-- entries without addends are not applied
abbrev pub EntriesWithoutAddends : Type 0
EntriesWithoutAddends =
    WritesSection (with_entries_header 4 (little 4 9)) entry_layout (0xe8 ∷ zeros 4)
    × (apply_cost (with_entries_header 4 (little 4 9)) 5 1 entry_layout ≡ 64 + 320 + 5)

-- the entries for a section are as many as fit in a table's size, no matter what follows it, in
-- tables whose sh_info is the section in all its bits
abbrev pub EntriesOfTheSection : Type 0
EntriesOfTheSection =
    WritesSection (with_bytes 0x118 (little 8 24) overlapping_relocations) empty_layout (0x44 ∷ 0x33 ∷ 0x22 ∷ 0x11 ∷ zeros 4)
    × (apply_cost (with_bytes 0x118 (little 8 24) overlapping_relocations) 3 1 empty_layout ≡ 64 + 192 + 2 * 48 + 8)
    × WritesSection (with_entries_header 44 (little 4 0x10001)) entry_layout (0xe8 ∷ zeros 4)
    × (apply_cost (with_entries_header 44 (little 4 0x10001)) 5 1 entry_layout ≡ 64 + 320 + 5)

-- the numbers between the types that are applied, and after them
abbrev pub OtherTypesAreUnsupported : Type 0
OtherTypesAreUnsupported =
    map (λ type. value type 0 0 (pos 0) 0)
    (3 ∷ 5 ∷ 6 ∷ 7 ∷ 8 ∷ 13 ∷ numbers_from 15 7 ++ 23 ∷ numbers_from 25 16 ++ 43 ∷ 256 ∷ 265 ∷ 65537 ∷ [])
    ≡ replicate 34 (Err Unsupported)

-- a definition is for a weak symbol too, and its name is read
abbrev pub WeakIsDefined : Type 0
WeakIsDefined =
    WritesSection (with_symbol 4 (little 1 0x20)) defined_layout (0xe8 ∷ 0xfb ∷ 0x1f ∷ 0 ∷ 0 ∷ [])
    × RefusesToApply (with_symbol 0 (little 4 0xffffffff ++ little 1 0x20)) defined_layout 0x78 NameOutside

-- after the last section there are no entries
abbrev pub EntriesPastTheLastSection : Type 0
EntriesPastTheLastSection =
    let file = overlapping_relocations ++ section_header 4 0x40 0x48 0x18 0 1 0 24 in
    (applied file 3 1 empty_layout ≡ Ok (0x44 ∷ 0x33 ∷ 0xff ∷ 0xff ∷ zeros 4)) × (apply_cost file 3 1 empty_layout ≡ 456)

-- section 1, a definition of `f` and its procedure linkage table entry at addresses of their own
abbrev pub layout_of : ℕ → List (List ℕ × ℕ) → List (List ℕ × ℕ) → Layout
layout_of address definitions linkage = record { lookup = Compared; sections = (1, address) ∷ []; definitions = definitions; linkage = linkage; table = []; thread = [] }

-- an address may be 0: a definition's, a linkage table entry's, a section's as the place and as the
-- symbol's
abbrev pub AddressesMayBeZero : Type 0
AddressesMayBeZero =
    WritesSection one_call (layout_of 0x1000 ((codes "f", 0) ∷ []) []) (0xe8 ∷ 0xfb ∷ 0xef ∷ 0xff ∷ 0xff ∷ [])
    × WritesSection one_call (layout_of 0x1000 ((codes "f", 0x3000) ∷ []) ((codes "f", 0) ∷ [])) (0xe8 ∷ 0xfb ∷ 0xef ∷ 0xff ∷ 0xff ∷ [])
    × WritesSection one_call (layout_of 0 [] ((codes "f", 0x2000) ∷ [])) (0xe8 ∷ 0xfb ∷ 0x1f ∷ 0 ∷ 0 ∷ [])
    × WritesSection (with_symbol 6 (little 2 1 ++ little 8 0x2000)) (layout_of 0 [] []) (0xe8 ∷ 0xfb ∷ 0x1f ∷ 0 ∷ 0 ∷ [])

-- of two items with one index or one name the first counts; two indices are one only if all their
-- bits are the same
abbrev pub FirstItemStands : Type 0
FirstItemStands =
    WritesSection one_call (layout_of 0x1000 ((codes "f", 0x3000) ∷ (codes "f", 0x9000) ∷ []) []) (0xe8 ∷ 0xfb ∷ 0x1f ∷ 0 ∷ 0 ∷ [])
    × WritesSection one_call (layout_of 0x1000 [] ((codes "f", 0x2000) ∷ (codes "f", 0x9000) ∷ [])) (0xe8 ∷ 0xfb ∷ 0x0f ∷ 0 ∷ 0 ∷ [])
    × WritesSection one_call
    (record { lookup = Compared; sections = (1, 0x1000) ∷ (1, 0x9000) ∷ []; definitions = []; linkage = (codes "f", 0x2000) ∷ []; table = []; thread = [] })
    (0xe8 ∷ 0xfb ∷ 0x0f ∷ 0 ∷ 0 ∷ [])
    × WritesSection one_call
    (record { lookup = Compared; sections = (0x101, 0x9000) ∷ (1, 0x1000) ∷ []; definitions = []; linkage = (codes "f", 0x2000) ∷ []; table = []; thread = [] })
    (0xe8 ∷ 0xfb ∷ 0x0f ∷ 0 ∷ 0 ∷ [])

-- a name that differs from another item's may still be one that cannot be compared: here the table
-- ends after `f`
abbrev pub LaterNamesAreCompared : Type 0
LaterNamesAreCompared =
    let file = with_bytes 0x1b8 (little 8 2) one_call in
    RefusesToApply file (layout_of 0x1000 ((codes "g", 0x9000) ∷ (codes "f", 0x3000) ∷ []) []) 0x78 NameUnended
    × RefusesToApply file (layout_of 0x1000 [] ((codes "g", 0x9000) ∷ (codes "f", 0x3000) ∷ [])) 0x78 NameUnended
    × RefusesToApply file (layout_of 0x1000 ((codes "g", 0x9000) ∷ []) []) 0x48 Undefined

-- the value of a symbol without a section is no part of its address: of a common one it is an
-- alignment
abbrev pub DefinitionsStandAlone : Type 0
DefinitionsStandAlone =
    WritesSection (with_symbol 6 (little 2 0xfff2 ++ little 8 16)) defined_layout (0xe8 ∷ 0xfb ∷ 0x1f ∷ 0 ∷ 0 ∷ [])
    × WritesSection (with_symbol 6 (little 2 0 ++ little 8 16)) defined_layout (0xe8 ∷ 0xfb ∷ 0x1f ∷ 0 ∷ 0 ∷ [])
    × WritesSection (with_symbol 6 (little 2 1 ++ little 8 16)) entry_layout (0xe8 ∷ 0xfb ∷ 0x0f ∷ 0 ∷ 0 ∷ [])
    × WritesSection (with_symbol 4 (little 1 0x20 ++ zeros 1 ++ little 2 0 ++ little 8 16)) placed_layout
    (0xe8 ∷ 0xfb ∷ 0xef ∷ 0xff ∷ 0xff ∷ [])

-- no other file type and no other machine, even if some of the bits are the same
abbrev pub OtherMachinesAreRefused : Type 0
OtherMachinesAreRefused =
    RefusesToApply (with_bytes 16 (little 2 0) one_call) entry_layout 0x10 NotRel
    × RefusesToApply (with_bytes 16 (little 2 0x101) one_call) entry_layout 0x10 NotRel
    × RefusesToApply (with_bytes 18 (little 2 3) one_call) entry_layout 0x12 NotRel
    × RefusesToApply (with_bytes 18 (little 2 63) one_call) entry_layout 0x12 NotRel
    × RefusesToApply (with_bytes 18 (little 2 (256 + 62)) one_call) entry_layout 0x12 NotRel
