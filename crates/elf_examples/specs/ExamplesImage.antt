-- Worked examples of the image of a segment: the first eight words, or the refusal.
use Rattle.std.specs.Prelude.{ℕ, ◌≡◌, ◌^◌, List, [], ◌∷◌, ◌++◌, length, take, None, Result, Ok, Err, false}
use Rattle.elf_model.specs.Bytes.{little}
use Rattle.elf_model.specs.Fixtures.{with_bytes}
use Rattle.elf_model.specs.FixturesImage.{items_at_base, loaded_library, long_words}
use Rattle.elf_model.specs.FixturesTables.{tagged}
use Rattle.elf_model.specs.Image.{image}
use Rattle.elf_model.specs.ImageItems.{ItemValues}
use Rattle.elf_model.specs.declared.causes.Cause.TheVariants.{BadLink, EntrySize, LoadAlign, NotImage, PlaceOutside, Relr, Repeat, SizeNotWhole, SymbolIndex, TableOutside, TableWritten, Undefined, Unmapped, Unplaced, Unsupported}
use Rattle.elf_model.specs.declared.causes.Cause.{Cause}
use Rattle.elf_model.specs.declared.causes.Refusal.{Refusal}

-- the image of a segment of at most 2^32 bytes
unfoldable pub image_of : (segment : ℕ) → List ℕ → ItemValues → Result (List ℕ) Refusal
image_of segment file items = image file 8 segment (2 ^ 32) items

-- the first eight words of an image
unfoldable pub first_words : Result (List ℕ) Refusal → Result (List ℕ) Refusal
first_words (Ok bytes) = Ok (take 64 bytes)
first_words (Err refusal) = Err refusal

abbrev pub Begins : List ℕ → ItemValues → List ℕ → Type 0
Begins file items numbers = first_words (image_of 1 file items) ≡ Ok (long_words numbers)

abbrev pub SegmentRefused : (segment : ℕ) → List ℕ → ItemValues → (at : ℕ) → Cause → Type 0
SegmentRefused segment file items at cause = image_of segment file items ≡ Err (record { at = at; cause = cause })

abbrev pub ImageIsRefused : List ℕ → (at : ℕ) → Cause → Type 0
ImageIsRefused file at cause = SegmentRefused 1 file items_at_base at cause

-- the words with these in the second and the fifth to the eighth place
abbrev pub eight_words : (third sixth seventh eighth : ℕ) → List ℕ
eight_words third sixth seventh eighth =
    0x7f0000000010 ∷ 0x11 ∷ third ∷ 0x7f0000001200 ∷ 0x5555 ∷ sixth ∷ seventh ∷ eighth ∷ []

abbrev pub usual_words : List ℕ
usual_words = eight_words 0x7f0000000012 0x7f00 0x4010 0

-- the items with other symbols, calls and resolvers
unfoldable pub items_with : (symbols calls resolved : List (ℕ × ℕ)) → ItemValues
items_with symbols calls resolved = record {
  base = 0x7f0000000000;
  symbols = symbols;
  calls = calls;
  modules = [];
  blocks = [];
  threads = [];
  resolved = resolved;
  copies = [];
  descriptor = None;
  partial = false;
}

-- the library with other bytes at an offset
abbrev pub changed_image : (at : ℕ) → List ℕ → List ℕ
changed_image at bytes = with_bytes at bytes loaded_library

-- its relative relocations
abbrev pub relative : List ℕ → List ℕ
relative numbers = changed_image 0x150 (long_words numbers)

-- its entry of the type R_X86_64_64 at another address
abbrev pub image_placed_at : ℕ → List ℕ
image_placed_at address = changed_image 0x190 (little 8 address)

-- ITEMS: those of the example, and their lack
abbrev pub ItemsSay : Type 0
ItemsSay =
    let resolved = (0x100, 0x5555) ∷ [] in
    let symbols = (1, 0x4010) ∷ [] in
    Begins loaded_library items_at_base usual_words
    × SegmentRefused 1 loaded_library (items_with [] [] resolved) 0x1a8 Undefined
    × SegmentRefused 1 loaded_library (items_with symbols [] []) 0x178 Unplaced
    × Begins loaded_library (items_with ((1, 0x4010) ∷ (2, 9) ∷ []) [] resolved) (eight_words 0x7f0000000012 0x7f00 0x4010 9)
    × Begins loaded_library (items_with ((1, 0x4010) ∷ (3, 9) ∷ []) [] resolved) (eight_words 0x7f0000000012 0 0x4010 0)
    × Begins loaded_library (items_with symbols ((1, 8) ∷ []) resolved) (eight_words 0x7f0000000012 0x7f00 8 0)

-- SEGMENTS: that of the first program header is as it is in the file; the others are no LOAD segment
abbrev pub SegmentsAre : Type 0
SegmentsAre =
    (first_words (image_of 0 loaded_library items_at_base)
    ≡ Ok (long_words (0x10102464c457f ∷ 0 ∷ 0x1003e0003 ∷ 0 ∷ 0x40 ∷ 0 ∷ 0x38004000000000 ∷ 3 ∷ [])))
    × SegmentRefused 2 loaded_library items_at_base 0x38 BadLink
    × SegmentRefused 3 loaded_library items_at_base 0x38 BadLink

-- HEADERS
abbrev pub ImageHeadersAreChecked : Type 0
ImageHeadersAreChecked =
    ImageIsRefused (changed_image 0x10 (little 2 1)) 0x10 NotImage
    × ImageIsRefused (changed_image 0x12 (little 2 183)) 0x12 NotImage
    × ImageIsRefused (changed_image 0x80 (little 8 0x201)) 0x78 LoadAlign
    × ImageIsRefused (changed_image 0x98 (little 8 0x191)) 0x78 TableOutside

-- RELATIVE RELOCATIONS: a bitmap that no address precedes; an address that is too near to the one
-- before it; an odd place; a word over the end of the bytes in the file; a bitmap; a place past the
-- segment; the dynamic entries
abbrev pub RelativeIsApplied : Type 0
RelativeIsApplied =
    ImageIsRefused (relative (5 ∷ 0x1200 ∷ [])) 0x150 Relr
    × ImageIsRefused (relative (0x1200 ∷ 0x1204 ∷ [])) 0x158 Relr
    × Begins (relative (0x1202 ∷ 1 ∷ [])) items_at_base
    (0x7f00000000000010 ∷ 0x11 ∷ 0x12 ∷ 0x7f0000001200 ∷ 0x5555 ∷ 0x7f00 ∷ 0x4010 ∷ 0 ∷ [])
    × Begins (relative (0x1200 ∷ 0x1388 ∷ [])) items_at_base (eight_words 0x12 0x7f00 0x4010 0)
    × Begins (relative (0x1200 ∷ 0x1389 ∷ [])) items_at_base (eight_words 0x12 0x7f00 0x4010 0)
    × ImageIsRefused (relative (0x1200 ∷ 0x138a ∷ [])) 0x158 PlaceOutside
    × ImageIsRefused (relative (0x1200 ∷ 0x1280 ∷ [])) 0x158 TableWritten

-- DYNAMIC ENTRIES
abbrev pub DynamicIsChecked : Type 0
DynamicIsChecked =
    ImageIsRefused (changed_image 0x2e8 (little 8 16)) 0x2e0 EntrySize
    × ImageIsRefused (changed_image 0x2d8 (little 8 15)) 0x2d0 SizeNotWhole
    × ImageIsRefused (changed_image 0x2d0 (little 8 99)) 0x2c0 Unmapped
    × ImageIsRefused (changed_image 0x358 (little 8 17)) 0x350 Unsupported
    × ImageIsRefused (changed_image 0x2b0 (little 8 7)) 0x2f0 Repeat

-- RANGES: the first two entries would be relative; those of the procedure linkage table are the last
-- of the others too; without the entry before them
abbrev pub RangesAre : Type 0
RangesAre =
    ImageIsRefused (changed_image 0x328 (little 8 2)) 0x178 Unsupported
    × Begins (changed_image 0x308 (little 8 120)) items_at_base usual_words
    × Begins (changed_image 0x308 (little 8 48)) items_at_base (eight_words 0x7f0000000012 0x15 0x4010 0)

-- PLACES: the last that the segment has, one past it, one in a segment that is only read, and one
-- in the segment of the tables, which is written
abbrev pub PlacesAreChecked : Type 0
PlacesAreChecked =
    Begins (image_placed_at 0x1388) items_at_base (eight_words 0x7f0000000012 0x15 0x4010 0)
    × ImageIsRefused (image_placed_at 0x1389) 0x190 PlaceOutside
    × ImageIsRefused (image_placed_at 0x100) 0x190 PlaceOutside
    × ImageIsRefused (with_bytes 0x44 (little 4 6) (image_placed_at 0x100)) 0x190 TableWritten

-- SYMBOLS: a type that is not applied; one that does not look at its symbol; symbol 0; one past the
-- table; an indirect function; an absolute symbol; a local and a hidden one
abbrev pub SymbolsAreBound : Type 0
SymbolsAreBound =
    ImageIsRefused (changed_image 0x198 (little 4 24)) 0x190 Unsupported
    × Begins (changed_image 0x198 (little 8 0x900000008)) items_at_base usual_words
    × ImageIsRefused (changed_image 0x19c (little 4 0)) 0x190 Unsupported
    × ImageIsRefused (changed_image 0x19c (little 4 12)) 0x190 SymbolIndex
    × ImageIsRefused (changed_image 0x134 (little 1 0x1a)) 0x190 Unplaced
    × Begins (changed_image 0x136 (little 2 0xfff1)) items_at_base (eight_words 0x7f0000000012 0 0x4010 0)
    × ImageIsRefused (changed_image 0x104 (little 1 2)) 0x1a8 Undefined
    × ImageIsRefused (changed_image 0x105 (little 1 2)) 0x1a8 Undefined
