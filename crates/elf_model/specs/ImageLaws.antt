-- Laws of images: what lies where, what is left as it is in the file, and that a segment may be made
-- in windows of any size.
use Rattle.std.specs.Prelude.{ℕ, ◌+◌, ◌≤◌, ◌<◌, ◌≡◌, ◌||◌, Bool, true, false, List, length, get_or, map, All, None, Some, Ok}
use Rattle.std.specs.List.{list_any}
use Rattle.elf_model.specs.Apply.{StoredBytes, patched}
use Rattle.elf_model.specs.ApplyLaws.{AllInside, clipped}
use Rattle.elf_model.specs.Bytes.{slice}
use Rattle.elf_model.specs.Checks.{pass}
use Rattle.elf_model.specs.Image.{SegmentWrite, has_table, holder_of, holds_in_memory, image, image_changes, read_addresses, relocated_segment, stored_in, unrelocated, writes_of}
use Rattle.elf_model.specs.ImageItems.{ItemValues}
use Rattle.elf_model.specs.LoaderScope.{dynamic_segment_index}
use Rattle.elf_model.specs.Overlaps.{overlap_checks}
use Rattle.elf_model.specs.Records.{e_phnum, p_memsz, segment_at}
use Rattle.elf_model.specs.Style.{without_sections}
use Rattle.elf_model.specs.TraitNumbers.{PF_W}
use Rattle.elf_model.specs.Traits.{has_text_relocations, permits}

-- what is stored in a segment lies in its bytes in memory
abbrev pub WritesAreInside : Type 0
WritesAreInside =
    (whole file : List ℕ) (items : ItemValues) (partial : Bool) (writes : List SegmentWrite) (segment : ℕ)
    → writes_of partial (image_changes whole file items) ≡ Ok writes
    → AllInside (p_memsz file (segment_at file segment)) (stored_in segment writes)

-- no write changes a segment that has the first byte of a table that a loader reads: of relocations,
-- or of symbols
abbrev pub TablesAreKept : Type 0
TablesAreKept =
    (whole file : List ℕ) (items : ItemValues) (partial : Bool) (writes : List SegmentWrite) (index : ℕ)
    → dynamic_segment_index file ≡ Some index
    → writes_of partial (image_changes whole file items) ≡ Ok writes
    → All (λ write. list_any (has_table file write.segment) (read_addresses file (segment_at file index)) ≡ false) writes

-- an image has as many bytes as its segment has in memory
abbrev pub ImageIsWhole : Type 0
ImageIsWhole =
    (file : List ℕ) (headers segment most : ℕ) (items : ItemValues) (bytes : List ℕ)
    → image file headers segment most items ≡ Ok bytes
    → length bytes ≡ p_memsz (without_sections file) (segment_at (without_sections file) segment)

-- a segment that may not be written is as it is in the file, with zeros after it
abbrev pub UnwrittenIsKept : Type 0
UnwrittenIsKept =
    (file : List ℕ) (headers segment most : ℕ) (items : ItemValues) (bytes : List ℕ)
    → image file headers segment most items ≡ Ok bytes
    → permits (without_sections file) PF_W segment || has_text_relocations (without_sections file) ≡ false
    → bytes ≡ unrelocated file (without_sections file) (segment_at (without_sections file) segment)

-- so is one of a file without dynamic entries
abbrev pub UnlinkedIsKept : Type 0
UnlinkedIsKept =
    (file : List ℕ) (headers segment most : ℕ) (items : ItemValues) (bytes : List ℕ)
    → image file headers segment most items ≡ Ok bytes
    → dynamic_segment_index (without_sections file) ≡ None
    → bytes ≡ unrelocated file (without_sections file) (segment_at (without_sections file) segment)

-- bytes that are stored do not have the byte at an offset
abbrev pub IsElsewhere : ℕ → StoredBytes → Type 0
IsElsewhere i stored = stored.at ≤ i → i < stored.at + length stored.bytes → ⊥

-- a byte that no write has is that of the file, or zero
abbrev pub OthersAreKept : Type 0
OthersAreKept =
    (base : List ℕ) (stored : List StoredBytes) (i : ℕ)
    → AllInside (length base) stored → All (IsElsewhere i) stored → get_or (patched stored base) i 0 ≡ get_or base i 0

-- a window of a relocated segment, of any size, is that of the segment before relocations with the
-- parts of what is stored that fall into it
abbrev pub WindowsAreParts : Type 0
WindowsAreParts =
    (whole file : List ℕ) (segment low n : ℕ) (writes : List SegmentWrite)
    → AllInside (length (unrelocated whole file (segment_at file segment))) (stored_in segment writes)
    → low + n ≤ length (unrelocated whole file (segment_at file segment))
    → slice (relocated_segment whole file segment writes) low n
    ≡ patched (map (clipped low n) (stored_in segment writes)) (slice (unrelocated whole file (segment_at file segment)) low n)

-- if LOAD segments do not overlap, the one that has bytes at an address in memory is the only one
abbrev pub HolderIsOne : Type 0
HolderIsOne =
    (file : List ℕ) (address size i : ℕ) → pass (overlap_checks file) ≡ true → 0 < size → i < e_phnum file
    → holds_in_memory file (segment_at file i) address size ≡ true → holder_of file address size ≡ Some i
