-- Worked examples of relocations applied.
use Rattle.std.specs.Prelude.{◌≡◌, ℕ, ◌++◌, List, [], ◌∷◌, codes, Ok, Err}
use Rattle.elf_model.specs.Prelude.{Layout, applied, apply_answer, defined_layout, empty_layout, entry_layout, falling_relocations, full_layout, linked_to_zero, little, one_call, overlapping_in_other_order, overlapping_relocations, placed_layout, relocated, relocation, rising_relocations, section_header, special_layout, third_overflows, two_relocation_sections, unplaced_layout, with_bytes, with_entries_header, with_symbol, zeros}
use Rattle.elf_model.specs.declared.causes.Cause.TheVariants.{BadLink, EntrySize, NameOutside, NotRel, Overflow, PlaceOutside, SymbolIndex, TableOutside, Undefined, Unplaced, Unsupported}
use Rattle.elf_model.specs.declared.causes.Cause.{Cause}

-- the bytes of section 1 with its relocations applied, with five headers allowed
abbrev pub WritesSection : List ℕ → Layout → List ℕ → Type 0
WritesSection file layout bytes = applied file 5 1 layout ≡ Ok bytes

-- a section is refused
abbrev pub RefusesSection : ℕ → List ℕ → Layout → ℕ → Cause → Type 0
RefusesSection section file layout at cause = applied file 5 section layout ≡ Err (record { at = at; cause = cause })

-- section 1 is refused
abbrev pub RefusesToApply : List ℕ → Layout → ℕ → Cause → Type 0
RefusesToApply file layout at cause = RefusesSection 1 file layout at cause

-- of two entries that overlap the later one wins
abbrev pub LaterStands : Type 0
LaterStands =
    WritesSection overlapping_relocations empty_layout (0x44 ∷ 0x33 ∷ 0xff ∷ 0xff ∷ zeros 4)
    × WritesSection overlapping_in_other_order empty_layout (0x44 ∷ 0x33 ∷ 0x22 ∷ 0x11 ∷ zeros 4)

-- one entry that does not fit refuses all
abbrev pub OverflowRefusesAll : Type 0
OverflowRefusesAll =
    RefusesToApply third_overflows empty_layout 0x78 Overflow
    × RefusesToApply (relocated (zeros 128) (relocation 0 12 1 ++ relocation 126 12 0x10000)) empty_layout 0xd8 Overflow

-- the bytes of four entries over the ends of 64 bytes, in both orders
abbrev pub FourEntries : List ℕ
FourEntries = (2 ∷ 1 ∷ []) ++ zeros 60 ++ (4 ∷ 6 ∷ 5 ∷ []) ++ zeros 61 ++ (8 ∷ 7 ∷ [])

-- entries in either order
abbrev pub EitherOrderIsApplied : Type 0
EitherOrderIsApplied =
    WritesSection rising_relocations empty_layout FourEntries × WritesSection falling_relocations empty_layout FourEntries

-- a call goes to the procedure linkage table entry, otherwise to the definition, otherwise to 0 if
-- the symbol is weak
abbrev pub CallIsApplied : Type 0
CallIsApplied =
    WritesSection one_call entry_layout (0xe8 ∷ 0xfb ∷ 0x0f ∷ 0 ∷ 0 ∷ [])
    × WritesSection one_call full_layout (0xe8 ∷ 0xfb ∷ 0x0f ∷ 0 ∷ 0 ∷ [])
    × WritesSection one_call defined_layout (0xe8 ∷ 0xfb ∷ 0x1f ∷ 0 ∷ 0 ∷ [])
    × WritesSection (with_symbol 4 (little 1 0x20)) placed_layout (0xe8 ∷ 0xfb ∷ 0xef ∷ 0xff ∷ 0xff ∷ [])

-- what a call is refused for
abbrev pub CallIsRefused : Type 0
CallIsRefused =
    RefusesToApply one_call placed_layout 0x48 Undefined
    × RefusesToApply one_call unplaced_layout 0x48 Unplaced
    × RefusesToApply (with_bytes 0x48 (little 8 2) one_call) entry_layout 0x48 PlaceOutside
    × RefusesToApply (with_bytes 0x50 (little 4 9) one_call) entry_layout 0x48 Unsupported
    × RefusesToApply (with_bytes 0x54 (little 4 2) one_call) entry_layout 0x48 SymbolIndex
    × RefusesToApply (with_entries_header 40 (little 4 1)) entry_layout 0x48 BadLink
    × RefusesToApply (with_entries_header 40 (little 4 5) ++ section_header 2 0 0x60 0x30 4 1 0 24) entry_layout 0x48 BadLink
    × RefusesToApply (with_symbol 0 (little 4 3)) entry_layout 0x78 NameOutside

-- a symbol's value: its own if it is absolute, the section's address and its own if it has a
-- section
abbrev pub SymbolsAreValued : Type 0
SymbolsAreValued =
    WritesSection (with_symbol 6 (little 2 0xfff1 ++ little 8 0x3000)) placed_layout (0xe8 ∷ 0xfb ∷ 0x1f ∷ 0 ∷ 0 ∷ [])
    × WritesSection (with_symbol 6 (little 2 1 ++ little 8 0x2000)) placed_layout (0xe8 ∷ 0xfb ∷ 0x1f ∷ 0 ∷ 0 ∷ [])
    × RefusesToApply (with_symbol 6 (little 2 2)) placed_layout 0x48 Unplaced
    × RefusesToApply (with_symbol 6 (little 2 0xff05)) special_layout 0x48 Unplaced

-- an entry that changes nothing, by its type alone, is not checked, nor is the symbol 0
abbrev pub NothingIsChecked : Type 0
NothingIsChecked =
    WritesSection (relocated (zeros 2) (relocation 9 0x500000000 0)) empty_layout (zeros 2)
    × WritesSection (relocated (zeros 2) (relocation 9 0x500000000 5)) empty_layout (zeros 2)
    × WritesSection (relocated (1 ∷ zeros 7) (relocation 0 10 0)) empty_layout (zeros 8)
    × WritesSection (with_bytes 0x54 (little 4 0) (with_entries_header 40 (little 4 9))) placed_layout (0xe8 ∷ 0xfb ∷ 0xef ∷ 0xff ∷ 0xff ∷ [])

-- what the request is refused for, in this order; section 0 is refused by itself, and the last
-- section is not
abbrev pub RequestInOrder : Type 0
RequestInOrder =
    RefusesSection 0 (with_bytes 16 (little 2 3 ++ little 2 183) one_call) empty_layout 0x10 NotRel
    × RefusesSection 0 (with_bytes 18 (little 2 183) one_call) empty_layout 0x12 NotRel
    × RefusesSection 0 one_call empty_layout 0x3c BadLink
    × RefusesSection 5 one_call empty_layout 0x3c BadLink
    × (applied one_call 5 4 empty_layout ≡ Ok (0 ∷ 102 ∷ 0 ∷ []))
    × RefusesToApply (with_bytes 0xf0 (little 8 0x1000) one_call) empty_layout 0xd8 TableOutside

-- a section without bytes in the file is empty, at any offset; those of other types have bytes
abbrev pub NoBytesAreApplied : Type 0
NoBytesAreApplied =
    (applied (with_bytes 0xdc (little 4 8) (with_bytes 0xf0 (little 8 0x1000) (with_entries_header 44 (little 4 2)))) 5 1 empty_layout ≡ Ok [])
    × RefusesToApply (with_bytes 0xdc (little 4 0) one_call) entry_layout 0x48 PlaceOutside
    × WritesSection (with_bytes 0xdc (little 4 14) one_call) entry_layout (0xe8 ∷ 0xfb ∷ 0x0f ∷ 0 ∷ 0 ∷ [])
    × WritesSection (with_bytes 0xdc (little 4 7) one_call) entry_layout (0xe8 ∷ 0xfb ∷ 0x0f ∷ 0 ∷ 0 ∷ [])

-- a link of 0 from relocation entries counts, if section 0 is a symbol table
abbrev pub LinkZeroCounts : Type 0
LinkZeroCounts =
    WritesSection linked_to_zero entry_layout (0xe8 ∷ 0xfb ∷ 0x0f ∷ 0 ∷ 0 ∷ [])
    × RefusesToApply (with_entries_header 40 (little 4 0)) entry_layout 0x48 BadLink

-- a symbol table of no bytes is not checked, nor are its strings, and has no symbols
abbrev pub EmptySymbolsApply : Type 0
EmptySymbolsApply =
    RefusesToApply (with_bytes 0x170 (little 8 0x1000 ++ zeros 8 ++ zeros 4) one_call) entry_layout 0x48 SymbolIndex

-- relocation entries of no bytes are not checked; an empty string table is
abbrev pub EmptyTablesApply : Type 0
EmptyTablesApply =
    WritesSection (with_entries_header 32 (zeros 8 ++ little 4 9 ++ little 4 1 ++ zeros 8 ++ little 8 5)) empty_layout (0xe8 ∷ zeros 4)
    × RefusesToApply (with_bytes 0x1b0 (little 8 0x1000 ++ zeros 8) one_call) entry_layout 0x198 TableOutside

-- an entry's fault comes before the fault of a later section
abbrev pub FaultsInterleave : Type 0
FaultsInterleave =
    RefusesToApply (two_relocation_sections 9 23) empty_layout 0x48 Unsupported
    × RefusesToApply (two_relocation_sections 10 23) empty_layout 0x138 EntrySize
    × WritesSection (two_relocation_sections 10 24) empty_layout (2 ∷ zeros 7)

-- a name is read only if the layout has names to compare it with
abbrev pub NamesAreLookedAtLate : Type 0
NamesAreLookedAtLate =
    RefusesToApply (with_symbol 0 (little 4 0xffffffff)) placed_layout 0x48 Undefined
    × RefusesToApply (with_symbol 0 (little 4 0xffffffff)) defined_layout 0x78 NameOutside
    × WritesSection (with_symbol 0 (little 4 0xffffffff ++ little 1 0x20)) placed_layout (0xe8 ∷ 0xfb ∷ 0xef ∷ 0xff ∷ 0xff ∷ [])

-- only an undefined weak symbol is 0, and not a common one; a definition is for both
abbrev pub WeakCommonIsUndefined : Type 0
WeakCommonIsUndefined =
    RefusesToApply (with_symbol 4 (little 1 0x20 ++ zeros 1 ++ little 2 0xfff2)) placed_layout 0x48 Undefined
    × WritesSection (with_symbol 4 (little 1 0x20 ++ zeros 1 ++ little 2 0xfff2)) defined_layout (0xe8 ∷ 0xfb ∷ 0x1f ∷ 0 ∷ 0 ∷ [])

-- a symbol without a definition is refused at the entry, for any type, also in a section without an
-- address
abbrev pub UndefinedBeforeUnplaced : Type 0
UndefinedBeforeUnplaced =
    RefusesToApply one_call empty_layout 0x48 Undefined
    × RefusesToApply (with_bytes 0x50 (little 4 2) one_call) empty_layout 0x48 Undefined
    × RefusesToApply (with_bytes 0x50 (little 4 2) one_call) placed_layout 0x48 Undefined
    × RefusesToApply (with_bytes 0x50 (little 4 10) one_call) placed_layout 0x48 Undefined
    × RefusesToApply (with_bytes 0x50 (little 4 10) (with_symbol 6 (little 2 2))) placed_layout 0x48 Unplaced

-- the text and the status of `apply`: relocations applied, and refused, also a file with more
-- headers than are allowed
abbrev pub AppliedIsWritten : Type 0
AppliedIsWritten =
    (apply_answer overlapping_relocations 3 1 empty_layout
    ≡ record { text = 0x44 ∷ 0x33 ∷ 0xff ∷ 0xff ∷ zeros 4; status = 0 })
    × (apply_answer third_overflows 3 1 empty_layout
    ≡ record { text = codes "! 0000000000000078 overflow\n"; status = 1 })
    × (apply_answer one_call 5 4 empty_layout ≡ record { text = 0 ∷ 102 ∷ 0 ∷ []; status = 0 })
    × (apply_answer overlapping_relocations 2 1 empty_layout
    ≡ record { text = codes "! 000000000000003c too-many-headers\n"; status = 1 })
