-- Worked examples of symbols whose type is specific to the system, indirect functions first, and of
-- compressed sections.
use Rattle.std.specs.Prelude.{◌≡◌, ℕ, ◌++◌, ◌+◌, List, [], ◌∷◌, codes, None}
use Rattle.elf_model.specs.Prelude.{Compared, Layout, Searched, apply_cost, defined_layout, empty_layout, entry_layout, full_layout, little, one_call, placed_layout, table_layout, unplaced_layout, with_bytes, with_entries_header, with_symbol, zeros}
use Rattle.elf_model.specs.declared.causes.Cause.TheVariants.{BadLink, NameOutside, NotRel, Overflow, PlaceOutside, Undefined, Unplaced, Unsupported}
use Rattle.elf_model.specs.declared.missing.LayoutAddress.TheVariants.{Entry, Named}
use Rattle.elf_model.specs.declared.relocation_types.RelocationBase.TheVariants.{Table}
use Rattle.elf_examples.specs.ExamplesApply.{WritesSection, RefusesSection, RefusesToApply}
use Rattle.elf_examples.specs.ExamplesExplain.{MissesInCall, ExplainsAs, lacks}

-- the call's symbol, with a type, a section index and a value
abbrev pub symbol_of : ℕ → ℕ → ℕ → List ℕ
symbol_of type index value = little 1 (0x10 + type) ++ zeros 1 ++ little 2 index ++ little 8 value

-- the call of a symbol of a type, at 0x30 in section 1, by an entry of a relocation type
abbrev pub call_of : ℕ → ℕ → List ℕ
call_of type kind = with_bytes 0x50 (little 4 kind) (with_symbol 4 (symbol_of type 1 0x30))

-- the same if the entry relocates the eight bytes of its section
abbrev pub eight_of : ℕ → ℕ → List ℕ
eight_of type kind = with_bytes 0x48 (little 8 0 ++ little 4 kind) (with_bytes 0xf8 (little 8 8) (with_symbol 4 (symbol_of type 1 0x30)))

-- calls and pointers to an indirect function go to its procedure linkage table entry:
-- R_X86_64_PC32, PLT32, 32, 32S, 16, 64 and PC64; also if its value is absolute, or its section has
-- no address
abbrev pub FunctionsAreEntries : Type 0
FunctionsAreEntries =
    WritesSection (call_of 10 2) entry_layout (0xe8 ∷ 0xfb ∷ 0x0f ∷ 0 ∷ 0 ∷ [])
    × WritesSection (call_of 10 4) entry_layout (0xe8 ∷ 0xfb ∷ 0x0f ∷ 0 ∷ 0 ∷ [])
    × WritesSection (call_of 10 10) entry_layout (0xe8 ∷ 0xfc ∷ 0x1f ∷ 0 ∷ 0 ∷ [])
    × WritesSection (call_of 10 11) full_layout (0xe8 ∷ 0xfc ∷ 0x1f ∷ 0 ∷ 0 ∷ [])
    × WritesSection (call_of 10 12) entry_layout (0xe8 ∷ 0xfc ∷ 0x1f ∷ 0 ∷ 0 ∷ [])
    × WritesSection (eight_of 10 1) entry_layout (0xfc ∷ 0x1f ∷ zeros 6)
    × WritesSection (eight_of 10 24) entry_layout (0xfc ∷ 0x0f ∷ zeros 6)
    × WritesSection (with_bytes 0x50 (little 4 10) (with_symbol 4 (symbol_of 10 0xfff1 0x30))) unplaced_layout (0xe8 ∷ 0xfc ∷ 0x1f ∷ 0 ∷ 0 ∷ [])
    × WritesSection (with_bytes 0x50 (little 4 10) (with_symbol 4 (symbol_of 10 0xfeff 0x30))) unplaced_layout (0xe8 ∷ 0xfc ∷ 0x1f ∷ 0 ∷ 0 ∷ [])

-- without such an entry they are refused, by the types that take it too; no definition and no
-- address of a section helps
abbrev pub FunctionsWithoutEntries : Type 0
FunctionsWithoutEntries =
    let other : Layout = record { lookup = Compared; sections = (1, 0x1000) ∷ []; definitions = (codes "f", 0x3000) ∷ []; linkage = (codes "g", 0x2000) ∷ (codes "ff", 0x2000) ∷ []; table = []; thread = [] } in
    RefusesToApply (call_of 10 2) placed_layout 0x48 Unsupported
    × RefusesToApply (call_of 10 4) placed_layout 0x48 Unsupported
    × RefusesToApply (call_of 10 4) empty_layout 0x48 Unsupported
    × RefusesToApply (call_of 10 2) defined_layout 0x48 Unsupported
    × RefusesToApply (call_of 10 4) defined_layout 0x48 Unsupported
    × RefusesToApply (call_of 10 2) other 0x48 Unsupported
    × RefusesToApply (call_of 10 4) other 0x48 Unsupported
    × RefusesToApply (eight_of 10 1) placed_layout 0x48 Unsupported
    × RefusesToApply (with_symbol 4 (symbol_of 10 0xfff1 0x30)) placed_layout 0x48 Unsupported

-- S of the other types that are specific to the system is not known, so that only a type that takes
-- L is applied, if there is one; the types before them have their own value
abbrev pub OtherTypesAreRefused : Type 0
OtherTypesAreRefused =
    RefusesToApply (call_of 11 2) full_layout 0x48 Unsupported
    × RefusesToApply (call_of 12 10) entry_layout 0x48 Unsupported
    × RefusesToApply (call_of 13 2) placed_layout 0x48 Unsupported
    × RefusesToApply (call_of 15 4) defined_layout 0x48 Unsupported
    × RefusesToApply (eight_of 15 1) entry_layout 0x48 Unsupported
    × WritesSection (call_of 13 4) entry_layout (0xe8 ∷ 0xfb ∷ 0x0f ∷ 0 ∷ 0 ∷ [])
    × WritesSection (call_of 9 2) full_layout (0xe8 ∷ 0x2b ∷ 0 ∷ 0 ∷ 0 ∷ [])
    × WritesSection (call_of 2 2) full_layout (0xe8 ∷ 0x2b ∷ 0 ∷ 0 ∷ 0 ∷ [])

-- the type does not matter for an undefined or a common symbol, for one at another reserved index,
-- or if an entry uses one of the global offset table
abbrev pub OthersAreAsBefore : Type 0
OthersAreAsBefore =
    WritesSection (with_symbol 4 (symbol_of 10 0 0)) defined_layout (0xe8 ∷ 0xfb ∷ 0x1f ∷ 0 ∷ 0 ∷ [])
    × WritesSection (with_bytes 0x50 (little 4 2) (with_symbol 4 (symbol_of 10 0 0))) full_layout (0xe8 ∷ 0xfb ∷ 0x1f ∷ 0 ∷ 0 ∷ [])
    × RefusesToApply (with_bytes 0x50 (little 4 2) (with_symbol 4 (symbol_of 11 0 0))) placed_layout 0x48 Undefined
    × WritesSection (with_bytes 0x50 (little 4 2) (with_symbol 4 (symbol_of 10 0xfff2 8))) full_layout (0xe8 ∷ 0xfb ∷ 0x1f ∷ 0 ∷ 0 ∷ [])
    × RefusesToApply (with_bytes 0x50 (little 4 2) (with_symbol 4 (symbol_of 10 0xff05 8))) full_layout 0x48 Unplaced
    × WritesSection (call_of 10 9) table_layout (0xe8 ∷ 0xfb ∷ 0x2f ∷ 0 ∷ 0 ∷ [])
    × WritesSection (call_of 11 22) table_layout (0xe8 ∷ 0xfb ∷ 0x3f ∷ 0 ∷ 0 ∷ [])
    × RefusesToApply (call_of 10 9) full_layout 0x48 Unsupported

-- the place, the name, the symbol's type, the section's address, the value: each entry here fails
-- the next check as well; the name is read only if there are names of such entries
abbrev pub FunctionsInOrder : Type 0
FunctionsInOrder =
    let high : Layout = record { lookup = Searched; sections = (1, 0) ∷ []; definitions = []; linkage = (codes "f", 0x80000004) ∷ []; table = []; thread = [] } in
    RefusesToApply (with_bytes 0x48 (little 8 2) (call_of 10 2)) placed_layout 0x48 PlaceOutside
    × RefusesToApply (with_bytes 0x78 (little 4 3) (call_of 10 2)) unplaced_layout 0x78 NameOutside
    × RefusesToApply (with_bytes 0x78 (little 4 3) (call_of 10 4)) unplaced_layout 0x78 NameOutside
    × RefusesToApply (with_bytes 0x78 (little 4 3) (call_of 10 2)) defined_layout 0x48 Unsupported
    × RefusesToApply (with_bytes 0x78 (little 4 3) (call_of 11 2)) unplaced_layout 0x48 Unsupported
    × RefusesToApply (call_of 11 2) unplaced_layout 0x48 Unsupported
    × RefusesToApply (call_of 10 2) unplaced_layout 0x48 Unplaced
    × RefusesToApply (call_of 10 11) high 0x48 Overflow
    × WritesSection (call_of 10 10) high (0xe8 ∷ 0 ∷ 0 ∷ 0 ∷ 0x80 ∷ [])

-- what helps with an indirect function is only the item of its procedure linkage table entry, with
-- the other types if the entry takes L
abbrev pub EntriesWouldHelp : Type 0
EntriesWouldHelp =
    MissesInCall (call_of 10 2) placed_layout Unsupported (lacks 2 1 Entry)
    × MissesInCall (call_of 10 4) placed_layout Unsupported (lacks 4 1 Entry)
    × MissesInCall (call_of 11 2) placed_layout Unsupported None
    × MissesInCall (call_of 15 4) placed_layout Unsupported (lacks 4 1 Entry)
    × MissesInCall (call_of 10 9) placed_layout Unsupported (lacks 9 1 (Named Table))
    × ExplainsAs (call_of 10 2) placed_layout Unsupported (codes "elfsee: PC32 to f: plt:f=ADDR would help\n")
    × ExplainsAs (call_of 10 4) placed_layout Unsupported (codes "elfsee: PLT32 to f: plt:f=ADDR would help\n")
    × ExplainsAs (with_bytes 0x78 (little 4 0) (call_of 10 2)) placed_layout Unsupported (codes "elfsee: PC32: no item can name it\n")
    × ExplainsAs (call_of 12 2) placed_layout Unsupported []

-- the call if section 1 has these flags
abbrev pub flagged : ℕ → List ℕ
flagged flags = with_bytes 0xe0 (little 8 flags) one_call

-- a compressed section is refused at its header, with any other flags; after the index and before
-- its range, with bytes in the file or without; no entry is read, and the section that the entries
-- are in may have the flag
abbrev pub CompressedIsRefused : Type 0
CompressedIsRefused =
    RefusesToApply (flagged 0x800) entry_layout 0xd8 Unsupported
    × RefusesToApply (flagged 0xffffffffffffffff) entry_layout 0xd8 Unsupported
    × WritesSection (flagged 0xfffffffffffff7ff) entry_layout (0xe8 ∷ 0xfb ∷ 0x0f ∷ 0 ∷ 0 ∷ [])
    × RefusesToApply (with_bytes 0xf0 (little 8 0x1000) (flagged 0x800)) entry_layout 0xd8 Unsupported
    × RefusesToApply (with_bytes 0xdc (little 4 8) (flagged 0x800)) entry_layout 0xd8 Unsupported
    × RefusesSection 5 (flagged 0x800) entry_layout 0x3c BadLink
    × RefusesToApply (with_bytes 0x12 (little 2 183) (flagged 0x800)) entry_layout 0x12 NotRel
    × RefusesToApply (with_bytes 0x50 (little 4 5) (flagged 0x800)) entry_layout 0xd8 Unsupported
    × WritesSection (with_entries_header 8 (little 8 0x800)) entry_layout (0xe8 ∷ 0xfb ∷ 0x0f ∷ 0 ∷ 0 ∷ [])
    × (apply_cost (flagged 0x800) 5 1 entry_layout ≡ 64 + 320)

-- an indirect function costs what any name does
abbrev pub FunctionsCost : Type 0
FunctionsCost =
    (apply_cost (call_of 10 2) 5 1 entry_layout ≡ 613) × (apply_cost (call_of 10 2) 5 1 full_layout ≡ 741)
