-- What a listing is: lines up to the first fault, and the fault's line.
use Rattle.std.specs.Prelude.{ℕ, suc, zero, ◌==◌, not, Bool, true, false, List, [], ◌∷◌, ◌++◌, Option, None, Some, if◌then◌else◌}
use Rattle.std.specs.Int.RustNames.{bit_and}
use Rattle.elf_model.specs.Checks.{Check, first_refusal, header_checks}
use Rattle.elf_model.specs.Lines.{header_line, refusal_line}
use Rattle.elf_model.specs.PlaceFilters.{shows_place}
use Rattle.elf_model.specs.RowPlaces.{place_of_header}
use Rattle.elf_model.specs.Style.{ListingStyle}
use Rattle.elf_model.specs.declared.causes.Refusal.{Refusal}
use Rattle.elf_model.specs.declared.formats.Format.{Format}
use Rattle.elf_model.specs.declared.place_filters.RowPlace.{RowPlace}

-- a member of a listing: a line, or a fault
pub data ListingItem : Type 0 where
  Line : List ℕ → ListingItem
  Fault : Refusal → ListingItem

-- the lines before the first fault
abbrev pub lines_of : List ListingItem → List ℕ
lines_of [] = []
lines_of (Line text ∷ items) = text ++ lines_of items
lines_of (Fault refusal ∷ items) = []

-- the first fault
abbrev pub fault_of : List ListingItem → Option Refusal
fault_of [] = None
fault_of (Line text ∷ items) = fault_of items
fault_of (Fault refusal ∷ items) = Some refusal

-- the line of a fault, if there is one
abbrev pub end_by : (Refusal → List ℕ) → Option Refusal → List ℕ
end_by line None = []
end_by line (Some refusal) = line refusal

-- the text of a listing: the lines before the first fault, and the fault's line
abbrev pub report_by : (Refusal → List ℕ) → List ListingItem → List ℕ
report_by line items = lines_of items ++ end_by line (fault_of items)

-- the same if no row is known that a fault is in
abbrev pub end_text : Format → Option Refusal → List ℕ
end_text format fault = end_by (refusal_line format) fault

abbrev pub report_of : Format → List ListingItem → List ℕ
report_of format items = report_by (refusal_line format) items

-- the first check that fails is a fault in place of the items, which then mean nothing
abbrev pub guarded : List Check → List ListingItem → List ListingItem
guarded checks items = elim (first_refusal checks) [ None ↦ items | Some refusal ↦ Fault refusal ∷ [] ]

-- the items of this many rows, or tables, starting at a first one
unfoldable pub each : (ℕ → List ListingItem) → ℕ → ℕ → List ListingItem
each row first zero = []
each row first (suc count) = row first ++ each row (suc first) count

-- the parts of a listing are numbers of one bit
abbrev pub HEADER : ℕ
HEADER = 1

abbrev pub SECTIONS : ℕ
SECTIONS = 2

abbrev pub SEGMENTS : ℕ
SEGMENTS = 4

abbrev pub SYMBOLS : ℕ
SYMBOLS = 8

abbrev pub RELOCS : ℕ
RELOCS = 16

abbrev pub NOTES : ℕ
NOTES = 32

abbrev pub DYNAMIC : ℕ
DYNAMIC = 64

-- symbol versions, of GNU listings only
abbrev pub VERSIONS : ℕ
VERSIONS = 128

-- all parts except the file header's
abbrev pub TABLES : ℕ
TABLES = 254

-- all parts of the standards' listings, and all of GNU listings
abbrev pub ALL : ℕ
ALL = 127

abbrev pub GNU_ALL : ℕ
GNU_ALL = 255

-- all parts of GNU listings, or of the standards' only
abbrev pub all_parts : Bool → ℕ
all_parts gnu = if gnu then GNU_ALL else ALL

-- the parts that listings of a style know: other bits mean nothing
abbrev pub known_parts : ListingStyle → ℕ → ℕ
known_parts style parts = bit_and parts (all_parts style.gnu)

-- a set of parts has one
abbrev pub has : ℕ → ℕ → Bool
has parts part = bit_and parts part == part

-- a set of parts has more than the file header's
abbrev pub has_tables : ℕ → Bool
has_tables parts = not (bit_and parts TABLES == 0)

-- the items of a part, if the parts have it
abbrev pub where_asked : ℕ → ℕ → List ListingItem → List ListingItem
where_asked parts part items = elim (has parts part) [ true ↦ items | false ↦ [] ]

-- a row without a fault: its line, if a style shows the rows at its place
abbrev pub placed_line : ListingStyle → RowPlace → List ℕ → List ListingItem
placed_line style place text = if shows_place style.place place then Line text ∷ [] else []

-- the row of the file header
abbrev pub header_row : ListingStyle → List ℕ → List ListingItem
header_row style file = placed_line style place_of_header (header_line style.format file)

-- the file header's part: the first of its checks that fails, otherwise its row if the parts have
-- it
unfoldable pub file_header_items : ListingStyle → List ℕ → ℕ → List ListingItem
file_header_items style file parts = guarded (header_checks file) (where_asked parts HEADER (header_row style file))
