-- Worked examples of what a layout lacks if the entry of a call, at 0x48, is refused.
use Rattle.std.specs.Prelude.{◌≡◌, ℕ, List, [], ◌∷◌, ◌++◌, Option, None, Some, Ok, codes, replicate}
use Rattle.elf_model.specs.Prelude.{Compared, Cut, Layout, empty_layout, explained, explanation, little, missing, missing_line, one_call, overflow_line, placed_layout, refused_in, resolved_symbol_name, two_relocation_sections, why_refused, with_bytes, with_symbol}
use Rattle.elf_model.specs.declared.causes.Cause.{Cause}
use Rattle.elf_model.specs.declared.missing.LayoutAddress.{LayoutAddress}
use Rattle.elf_model.specs.declared.relocation_types.RelocationBase.TheVariants.{Linkage, Table, Thread}
use Rattle.elf_model.specs.declared.missing.MissingAddress.{MissingAddress}
use Rattle.elf_model.specs.declared.missing.LayoutAddress.TheVariants.{Named, Place}
use Rattle.elf_model.specs.declared.causes.Cause.TheVariants.{Overflow, Undefined, Unplaced, Unsupported}
use Rattle.elf_model.specs.Names.DisplayedName.{Whole}

-- what is missing at the entry of the call in a layout, whose section of entries has its header at
-- 0x118
abbrev pub MissesInCall : List ℕ → Layout → Cause → Option MissingAddress → Type 0
MissesInCall file layout cause answer = missing file 0x118 layout 1 (record { at = 0x48; cause = cause }) ≡ answer

-- a type, a symbol's name and what is missing
abbrev pub lacks : ℕ → ℕ → LayoutAddress → Option MissingAddress
lacks kind name wanted = Some (record { kind = kind; name = name; wanted = wanted })

-- the entry of the call with another type
abbrev pub typed_call : ℕ → List ℕ
typed_call kind = with_bytes 0x50 (little 4 kind) one_call

-- the name if a definition, or an entry of a table, is missing; nothing if symbol 0 lacks one
abbrev pub NamesAreMissing : Type 0
NamesAreMissing =
    MissesInCall one_call placed_layout Undefined (lacks 4 1 (Named Linkage))
    × MissesInCall (typed_call 9) placed_layout Unsupported (lacks 9 1 (Named Table))
    × MissesInCall (with_bytes 0x54 (little 4 0) (typed_call 9)) placed_layout Unsupported None

-- the section that is relocated, then that of the symbol, if it is one
abbrev pub SectionsAreMissing : Type 0
SectionsAreMissing =
    MissesInCall one_call empty_layout Unplaced (lacks 4 1 (Place 1))
    × MissesInCall (with_symbol 6 (little 2 2)) placed_layout Unplaced (lacks 4 1 (Place 2))
    × MissesInCall (with_symbol 6 (little 2 0xff00)) placed_layout Unplaced None

-- nothing would help if the type is not applied, or the value is out of range
abbrev pub NothingIsMissing : Type 0
NothingIsMissing =
    MissesInCall (typed_call 5) placed_layout Unsupported None
    × MissesInCall one_call placed_layout Overflow None
    × MissesInCall (with_bytes 0x54 (little 4 2) one_call) placed_layout Undefined None

-- the first section of entries for a section that has one at an offset: none if the offset is
-- inside an entry, if it is for another section, or if its checks fail
abbrev pub SectionsOfEntries : Type 0
SectionsOfEntries =
    (refused_in (two_relocation_sections 10 24) 1 0x48 ≡ Some 2)
    × (refused_in (two_relocation_sections 10 24) 1 0x60 ≡ Some 3)
    × (refused_in (two_relocation_sections 10 24) 1 0x61 ≡ None)
    × (refused_in (two_relocation_sections 10 24) 2 0x60 ≡ None)
    × (refused_in (two_relocation_sections 10 16) 1 0x60 ≡ None)

-- the explanation of the entry of the call
abbrev pub ExplainsAs : List ℕ → Layout → Cause → List ℕ → Type 0
ExplainsAs file layout cause line = explanation (explained file 1 layout (record { at = 0x48; cause = cause })) ≡ line

-- a definition or an entry of a name, an entry alone, a section; a name that has a fault; nothing
-- is missing
abbrev pub TellsOfCall : Type 0
TellsOfCall =
    ExplainsAs one_call placed_layout Undefined (codes "elfsee: PLT32 to f: plt:f=ADDR or def:f=ADDR would help\n")
    × ExplainsAs (typed_call 9) placed_layout Unsupported (codes "elfsee: GOTPCREL to f: got:f=ADDR would help\n")
    × ExplainsAs (with_symbol 6 (little 2 2)) placed_layout Unplaced (codes "elfsee: PLT32 to f: at:2=ADDR would help\n")
    × ExplainsAs (with_symbol 0 (little 4 0)) empty_layout Unplaced (codes "elfsee: PLT32: at:1=ADDR would help\n")
    × ExplainsAs (with_symbol 0 (little 4 9)) placed_layout Undefined []
    × ExplainsAs one_call placed_layout Overflow []

-- what is printed if the entry of the call was refused since its value does not fit
abbrev TellsOverflow : List ℕ → Layout → List ℕ → Type 0
TellsOverflow file layout line = why_refused file 1 layout (record { at = 0x48; cause = Overflow }) ≡ line

-- the section at 0x1000
abbrev far_layout : ℕ → Layout
far_layout linkage = record {
  lookup = Compared;
  sections = (1, 0x1000) ∷ [];
  definitions = [];
  linkage = (codes "f", linkage) ∷ [];
  table = [];
  thread = [];
}

-- a value above the range, and one below; one that fits, or that is not there; other causes are
-- explained as before
abbrev pub TellsOfOverflow : Type 0
TellsOfOverflow =
    TellsOverflow one_call (far_layout 0x80001005) (codes "elfsee: section 1, offset 0x1: relocation truncated to fit: R_X86_64_PLT32 against symbol `f': value 0x80000000\n")
    × TellsOverflow one_call (far_layout 0xffffffff00000000) (codes "elfsee: section 1, offset 0x1: relocation truncated to fit: R_X86_64_PLT32 against symbol `f': value 0xfffffffeffffeffb\n")
    × TellsOverflow one_call (far_layout 0x2000) []
    × TellsOverflow one_call placed_layout []
    × (why_refused one_call 1 placed_layout (record { at = 0x48; cause = Undefined }) ≡ codes "elfsee: PLT32 to f: plt:f=ADDR or def:f=ADDR would help\n")

-- a symbol without a name is told by its index, and symbol 0 is not
abbrev pub TellsOfUnnamedOverflow : Type 0
TellsOfUnnamedOverflow =
    (overflow_line (record { overflowed = record { kind = 10; symbol = 3; section = 2; offset = 0x20; value = 0x100000000 }; name = Whole [] })
    ≡ codes "elfsee: section 2, offset 0x20: relocation truncated to fit: R_X86_64_32 against symbol 3: value 0x100000000\n")
    × (overflow_line (record { overflowed = record { kind = 14; symbol = 0; section = 2; offset = 0; value = 0x100 }; name = Whole [] })
    ≡ codes "elfsee: section 2, offset 0x0: relocation truncated to fit: R_X86_64_8: value 0x100\n")
    × (overflow_line (record { overflowed = record { kind = 12; symbol = 1; section = 2; offset = 0; value = 0x10000 }; name = Cut (codes "f") })
    ≡ codes "elfsee: section 2, offset 0x0: relocation truncated to fit: R_X86_64_16 against symbol `f\\+': value 0x10000\n")

-- an entry of the offset from the thread pointer has an item of its own
abbrev pub ThreadItemHelps : Type 0
ThreadItemHelps =
    missing_line (record { missing = record { kind = 22; name = 1; wanted = Named Thread }; name = Whole (codes "f") })
    ≡ codes "elfsee: GOTTPOFF to f: tpgot:f=ADDR would help\n"

-- a name of 255 bytes is shown whole, as an item may have it, and one more is cut
abbrev pub NamesAreToldAsItemsHaveThem : Type 0
NamesAreToldAsItemsHaveThem =
    (resolved_symbol_name (0 ∷ replicate 255 97 ++ 0 ∷ []) 1 ≡ Ok (Whole (replicate 255 97)))
    × (resolved_symbol_name (0 ∷ replicate 256 97 ++ 0 ∷ []) 1 ≡ Ok (Cut (replicate 255 97)))

-- no item has a name that is cut, or is empty
abbrev pub NoItemNames : Type 0
NoItemNames =
    (missing_line (record { missing = record { kind = 41; name = 1; wanted = Named Table }; name = Cut (codes "f g") })
    ≡ codes "elfsee: GOTPCRELX to f g\\+: no item can name it\n")
    × (missing_line (record { missing = record { kind = 22; name = 0; wanted = Named Thread }; name = Whole [] })
    ≡ codes "elfsee: GOTTPOFF: no item can name it\n")
