-- Listings by the program headers of files whose LOAD segments overlap.
use Rattle.std.specs.Prelude.{◌≡◌, ℕ, ◌+◌, ◌-◌, ◌^◌, true, false, List, [], ◌++◌, None, codes}
use Rattle.elf_model.specs.Prelude.{ALL, DYNAMIC, EveryRow, ListingStyle, NOTES, SECTIONS, SEGMENTS, SYMBOLS, every_place, every_symbol, fault_of, listing, listing_cost, little, object, object_with, program_header, report, report_of, section_header, with_bytes}
use Rattle.elf_model.specs.declared.formats.Format.TheVariants.{Columns}

abbrev by_segments : ListingStyle
by_segments = record { cap = 63; gnu = false; by_segments = true; format = Columns; choice = EveryRow; symbols = every_symbol; place = every_place; versions = false }

-- a segment that is loaded at an address, of this many bytes in memory, with none of them in the
-- file
abbrev load : (address size : ℕ) → List ℕ
load address size = with_bytes 0x20 (little 8 0) (program_header 1 6 0 address size 0x1000)

-- the listing of the program headers ends at once, at one of them; or it has no fault
abbrev Refused : ℕ → List ℕ → List ℕ → Type 0
Refused count headers line = report_of Columns (listing (object count headers) 8 by_segments SEGMENTS) ≡ line

abbrev Listed : ℕ → List ℕ → Type 0
Listed count headers = fault_of (listing (object count headers) 8 by_segments SEGMENTS) ≡ None

-- two over one page, the second on the last byte of it, on its first, and where the first begins;
-- one that ends with a page, and one that ends a byte after it, with another on the next page, and
-- on the one after that
abbrev pub PagesAreShared : Type 0
PagesAreShared =
    Refused 2 (load 0x400000 1 ++ load 0x400fff 1) (codes "! 0000000000000078 load-overlap\n")
    × Refused 2 (load 0x400000 0x1001 ++ load 0x401fff 1) (codes "! 0000000000000078 load-overlap\n")
    × Refused 2 (load 0x400000 0x1001 ++ load 0x401000 1) (codes "! 0000000000000078 load-overlap\n")
    × Refused 2 (load 0x400010 0x10 ++ load 0x400000 0x10) (codes "! 0000000000000078 load-overlap\n")
    × Listed 2 (load 0x400000 0x1000 ++ load 0x401000 1)
    × Listed 2 (load 0x400fff 1 ++ load 0x401000 1)
    × Listed 2 (load 0x400000 0x1001 ++ load 0x402000 1)

-- none that takes up no memory, and none of another type, is checked, nor ends what the one before
-- it takes up
abbrev pub OthersTakeNoPages : Type 0
OthersTakeNoPages =
    Listed 3 (load 0x400000 0x1000 ++ load 0x400800 0 ++ load 0x401000 1)
    × Listed 2 (load 0x400000 0x1001 ++ with_bytes 0x28 (little 8 0) (program_header 1 6 0 0x401000 1 0x1000))
    × Refused 3 (load 0x400000 0x1001 ++ load 0x402000 0 ++ load 0x401000 1) (codes "! 00000000000000b0 load-overlap\n")
    × Listed 3 (load 0x400000 0x1000 ++ with_bytes 0 (little 4 6) (load 0x400000 0x4000) ++ load 0x401000 1)
    × Refused 3 (load 0x400000 0x1001 ++ with_bytes 0 (little 4 6) (load 0x402000 1) ++ load 0x401000 1)
    (codes "! 00000000000000b0 load-overlap\n")

-- the order is that of the program headers: one that is at a lower address than the one before it
-- is refused, and the first of several is
abbrev pub AddressesRise : Type 0
AddressesRise =
    Refused 2 (load 0x402000 1 ++ load 0x400000 1) (codes "! 0000000000000078 load-overlap\n")
    × Refused 3 (load 0x400000 1 ++ load 0x402000 1 ++ load 0x401000 1) (codes "! 00000000000000b0 load-overlap\n")
    × Refused 3 (load 0x402000 1 ++ load 0x401000 1 ++ load 0x400000 1) (codes "! 0000000000000078 load-overlap\n")
    × Refused 2 (load 0 1 ++ load 0 1) (codes "! 0000000000000078 load-overlap\n")

-- page numbers do not wrap, also if a segment ends at 2^64 or after
abbrev pub PagesDoNotWrap : Type 0
PagesDoNotWrap =
    Refused 2 (load (2 ^ 64 - 0x1000) 0x2000 ++ load 0x1000 1) (codes "! 0000000000000078 load-overlap\n")
    × Refused 2 (load (2 ^ 64 - 0x1000) 0x1000 ++ load 0 1) (codes "! 0000000000000078 load-overlap\n")
    × Refused 2 (load (2 ^ 64 - 1) (2 ^ 64 - 1) ++ load (2 ^ 64 - 1) 1) (codes "! 0000000000000078 load-overlap\n")
    × Listed 2 (load (2 ^ 64 - 0x2000) 0x1000 ++ load (2 ^ 64 - 0x1000) (2 ^ 64 - 1))

-- two over one page
abbrev covered : List ℕ
covered = object 2 (load 0x400000 0x1000 ++ load 0x400800 0x10)

abbrev covered_lines : List ℕ
covered_lines =
    codes "P     0 LOAD     RW- 0000000000000000 0000000000400000 0000000000400000 0000000000000000 0000000000001000 0000000000001000\n"
    ++ codes "P     1 LOAD     RW- 0000000000000000 0000000000400800 0000000000400800 0000000000000000 0000000000000010 0000000000001000\n"

-- the refusal follows the file header, in each part that needs the program headers and in no other,
-- also of a file with sections; and a listing that is not by the program headers has none
abbrev pub OverlapsBySegmentsAlone : Type 0
OverlapsBySegmentsAlone =
    (report_of Columns (listing covered 8 by_segments ALL)
    ≡ codes "H DYN     62 0000000000000000 0000000000000040 0000000000000000 00000000     2     0     0\n"
    ++ codes "! 0000000000000078 load-overlap\n")
    × (report_of Columns (listing covered 8 by_segments NOTES) ≡ codes "! 0000000000000078 load-overlap\n")
    × (report_of Columns (listing covered 8 by_segments DYNAMIC) ≡ codes "! 0000000000000078 load-overlap\n")
    × (report_of Columns (listing covered 8 by_segments SYMBOLS) ≡ codes "! 0000000000000078 load-overlap\n")
    × (report_of Columns (listing covered 8 by_segments SECTIONS) ≡ [])
    × (report_of Columns (listing (object_with 0xb0 1 2 (load 0x400000 0x1000 ++ load 0x400800 0x10 ++ section_header 0 0 0 0 0 0 0 0)) 8 by_segments SEGMENTS)
    ≡ codes "! 0000000000000078 load-overlap\n")
    × (report covered 8 63 SEGMENTS ≡ covered_lines)
    × (report covered 8 63 NOTES ≡ [])

-- the file's own checks come before it, and it reads nothing more
abbrev pub OverlapsAfterTheLoad : Type 0
OverlapsAfterTheLoad =
    (report_of Columns (listing covered 1 by_segments SEGMENTS) ≡ codes "! 0000000000000038 too-many-headers\n")
    × (listing_cost covered 8 by_segments SEGMENTS ≡ 64 + 112)
    × (listing_cost covered 8 by_segments SECTIONS ≡ 64)
