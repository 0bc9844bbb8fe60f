-- Laws of patches: what an entry stores, which bytes a part of a patched section has, and which
-- parts later patches leave unchanged.
use Rattle.std.specs.Prelude.{ℕ, ◌+◌, ◌-◌, ◌≤◌, ◌≡◌, ◌&&◌, nat_lt, nat_le, if◌then◌else◌, min, List, [], ◌∷◌, length, get_or, take, drop, map, All, Some, Ok}
use Rattle.elf_model.specs.Apply.{StoredBytes, Put, ApplyTarget, terms_of, entry_changes, changes_of, patches_of, patched, held_size, applied}
use Rattle.elf_model.specs.Bytes.{slice}
use Rattle.elf_model.specs.Placing.{Layout}
use Rattle.elf_model.specs.Records.{r_offset, r_type}
use Rattle.elf_model.specs.Values.{kind_of, patch_of}
use Rattle.elf_model.specs.declared.relocation_types.RelocationType.{RelocationType}

-- a patch lies within this many bytes
abbrev pub IsInside : ℕ → StoredBytes → Type 0
IsInside size patch = patch.at + length patch.bytes ≤ size

-- all patches lie within this many bytes
abbrev pub AllInside : ℕ → List StoredBytes → Type 0
AllInside size patches = All (IsInside size) patches

-- the byte at an offset once a patch is stored
unfoldable pub byte_with : StoredBytes → ℕ → ℕ → ℕ
byte_with patch i byte =
    if nat_le patch.at i && nat_lt i (patch.at + length patch.bytes) then get_or patch.bytes (i - patch.at) 0 else byte

-- the byte at an offset once all patches are stored
unfoldable pub byte_after : List StoredBytes → ℕ → ℕ → ℕ
byte_after [] i byte = byte
byte_after (patch ∷ patches) i byte = byte_after patches i (byte_with patch i byte)

-- the part of a patch that falls into a window of n bytes, as a patch of the window
unfoldable pub clipped : ℕ → ℕ → StoredBytes → StoredBytes
clipped low n patch =
    record {
      at = min (patch.at - low) n;
      bytes = take (n - (patch.at - low)) (drop (low - patch.at) patch.bytes);
    }

-- patches within a section keep its length
abbrev pub LengthKept : Type 0
LengthKept =
    (patches : List StoredBytes) (base : List ℕ) → AllInside (length base) patches → length (patched patches base) ≡ length base

-- each byte of a patched section is the byte after all patches
abbrev pub BytePatched : Type 0
BytePatched =
    (patches : List StoredBytes) (base : List ℕ) (i : ℕ)
    → AllInside (length base) patches → get_or (patched patches base) i 0 ≡ byte_after patches i (get_or base i 0)

-- a window of a patched section is the window with the parts of the patches that fall into it
abbrev pub WindowPatched : Type 0
WindowPatched =
    (patches : List StoredBytes) (base : List ℕ) (low n : ℕ)
    → AllInside (length base) patches → low + n ≤ length base
    → slice (patched patches base) low n ≡ patched (map (clipped low n) patches) (slice base low n)

-- the bytes before all patches are unchanged
abbrev pub FinalBelow : Type 0
FinalBelow =
    (patches : List StoredBytes) (base : List ℕ) (low : ℕ)
    → AllInside (length base) patches → All (λ patch. low ≤ patch.at) patches
    → take low (patched patches base) ≡ take low base

-- the bytes after all patches are unchanged
abbrev pub KeptAbove : Type 0
KeptAbove =
    (patches : List StoredBytes) (base : List ℕ) (high : ℕ)
    → AllInside (length base) patches → All (λ patch. patch.at + length patch.bytes ≤ high) patches
    → drop high (patched patches base) ≡ drop high base

-- an entry that stores bytes stores the value of its type's B, A and P at its offset
abbrev pub EntryStoresValue : Type 0
EntryStoresValue =
    (target : ApplyTarget) (at rela : ℕ) (patch : StoredBytes)
    → entry_changes target at rela ≡ Put patch ∷ []
    → (type : RelocationType)
    × (kind_of (r_type target.file rela) ≡ Some type)
    × (patch.at ≡ r_offset target.file rela)
    × (patch_of type (terms_of target at rela type) ≡ Ok patch.bytes)

-- what the relocation entries store lies in the section
abbrev pub ChangesInside : Type 0
ChangesInside =
    (target : ApplyTarget) (patches : List StoredBytes) → patches_of (changes_of target) ≡ Ok patches → AllInside target.size patches

-- a section with its relocations applied has as many bytes as it has in the file
abbrev pub AppliedKeepsLength : Type 0
AppliedKeepsLength =
    (file : List ℕ) (headers section : ℕ) (layout : Layout) (text : List ℕ)
    → applied file headers section layout ≡ Ok text → length text ≡ held_size file section
