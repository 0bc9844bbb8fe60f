-- Facts about LOAD segments that do not overlap, and about a listing by the program headers.
use Rattle.std.specs.Prelude.{◌≡◌, ℕ, ◌<◌, ◌≤◌, true, false, List, ◌++◌, None, Some}
use Rattle.elf_model.specs.Checks.{pass, first_refusal, header_checks, load_checks}
use Rattle.elf_model.specs.Cost.{needs_segments}
use Rattle.elf_model.specs.Listing.{has, has_tables, header_row, known_parts, lines_of, HEADER}
use Rattle.elf_model.specs.Overlaps.{overlap_checks, takes_memory, first_page, page_behind}
use Rattle.elf_model.specs.Records.{e_phnum, segment_at}
use Rattle.elf_model.specs.Report.{listing_refusal_line, listing_report, loaded_items, table_items}
use Rattle.elf_model.specs.Style.{ListingStyle, viewed}
use Rattle.elf_model.specs.declared.causes.Refusal.{Refusal}

-- if the checks pass, of any two LOAD segments that take up memory the later begins after the pages
-- of the earlier
abbrev pub NoPageIsShared : Type 0
NoPageIsShared =
    (file : List ℕ) → pass (overlap_checks file) ≡ true
    → (earlier later : ℕ) → earlier < later → later < e_phnum file
    → takes_memory file (segment_at file earlier) ≡ true → takes_memory file (segment_at file later) ≡ true
    → page_behind file (segment_at file earlier) ≤ first_page file (segment_at file later)

-- if a style finds tables by the program headers and the parts need these, a file that passes the
-- other checks with overlapping LOAD segments has a listing of the file header's row and the fault's
-- line
abbrev pub OverlapIsListedSecond : Type 0
OverlapIsListedSecond =
    (file : List ℕ) → (headers : ℕ) → (style : ListingStyle) → (parts : ℕ) → (refusal : Refusal)
    → first_refusal (header_checks file) ≡ None → first_refusal (load_checks (viewed style file) headers) ≡ None
    → style.by_segments ≡ true → needs_segments (viewed style file) style (known_parts style parts) ≡ true
    → first_refusal (overlap_checks (viewed style file)) ≡ Some refusal
    → has parts HEADER ≡ true → has_tables (known_parts style parts) ≡ true
    → listing_report file headers style parts ≡ lines_of (header_row style file) ++ listing_refusal_line file style parts refusal

-- any other style lists such a file as it lists others
abbrev pub OverlapIsListedElsewhere : Type 0
OverlapIsListedElsewhere =
    (file : List ℕ) → (style : ListingStyle) → (parts : ℕ) → style.by_segments ≡ false
    → loaded_items file style parts ≡ table_items file style parts
