-- Facts about listings.
use Rattle.std.specs.Prelude.{◌≡◌, ℕ, ◌+◌, ◌≤◌, true, false, List, ◌++◌, Option, None, Some}
use Rattle.elf_model.specs.Budget.{IsReport, IsBudgeted}
use Rattle.elf_model.specs.Checks.{first_refusal, header_checks, load_checks}
use Rattle.elf_model.specs.Lines.{refusal_line}
use Rattle.elf_model.specs.Listing.{ListingItem, each, lines_of, fault_of, has, header_row, has_tables, file_header_items, known_parts, HEADER}
use Rattle.elf_model.specs.Cost.{listing_cost}
use Rattle.elf_model.specs.Report.{listing, listing_refusal_line, listing_report}
use Rattle.elf_model.specs.Style.{ListingStyle, viewed}
use Rattle.elf_model.specs.declared.causes.Refusal.{Refusal}

-- the last row of this many follows the others
abbrev pub LastRowIsLast : Type 0
LastRowIsLast =
    (row : ℕ → List ListingItem) → (first count : ℕ) → each row first (count + 1) ≡ each row first count ++ row (first + count)

-- this many rows are some of them, and the others after these
abbrev pub RowsSplit : Type 0
RowsSplit =
    (row : ℕ → List ListingItem) → (first count more : ℕ)
    → each row first (count + more) ≡ each row first count ++ each row (first + count) more

-- with no part that the style knows except the file header's the listing is the file header's
abbrev pub HeaderAloneIsListed : Type 0
HeaderAloneIsListed =
    (file : List ℕ) → (headers : ℕ) → (style : ListingStyle) → (parts : ℕ)
    → has_tables (known_parts style parts) ≡ false
    → listing file headers style parts ≡ file_header_items style file parts

-- if a check of the file header fails, the listing is that fault's line alone, under any parts
abbrev pub HeaderFaultIsListedAlone : Type 0
HeaderFaultIsListedAlone =
    (file : List ℕ) → (headers : ℕ) → (style : ListingStyle) → (parts : ℕ) → (refusal : Refusal)
    → first_refusal (header_checks file) ≡ Some refusal
    → (listing_report file headers style parts ≡ refusal_line style.format refusal)
    × (fault_of (listing file headers style parts) ≡ Some refusal)

-- if a load check of the file that the style lists fails, the listing is the file header's row and
-- that fault's line, under any parts with the file header's and another that the style knows
abbrev pub LoadFaultIsListedSecond : Type 0
LoadFaultIsListedSecond =
    (file : List ℕ) → (headers : ℕ) → (style : ListingStyle) → (parts : ℕ) → (refusal : Refusal)
    → first_refusal (header_checks file) ≡ None → first_refusal (load_checks (viewed style file) headers) ≡ Some refusal
    → has parts HEADER ≡ true → has_tables (known_parts style parts) ≡ true
    → listing_report file headers style parts ≡ lines_of (header_row style file) ++ listing_refusal_line file style parts refusal

-- what follows the first fault of a listing is not shown
abbrev pub NothingAfterTheFault : Type 0
NothingAfterTheFault =
    (front back : List ListingItem) → (refusal : Refusal) → fault_of front ≡ Some refusal
    → (lines_of (front ++ back) ≡ lines_of front) × (fault_of (front ++ back) ≡ Some refusal)

-- two listings one after another, the first without a fault
abbrev pub ListingsAppend : Type 0
ListingsAppend =
    (front back : List ListingItem) → fault_of front ≡ None
    → (lines_of (front ++ back) ≡ lines_of front ++ lines_of back) × (fault_of (front ++ back) ≡ fault_of back)

-- bits outside the parts that a style knows mean nothing
abbrev pub OtherBitsMeanNothing : Type 0
OtherBitsMeanNothing =
    (file : List ℕ) → (headers : ℕ) → (style : ListingStyle) → (parts : ℕ)
    → (listing file headers style (known_parts style parts) ≡ listing file headers style parts)
    × (listing_cost file headers style (known_parts style parts) ≡ listing_cost file headers style parts)

-- within a budget of at least its cost a listing is its report
abbrev pub AmpleBudgetIsReport : Type 0
AmpleBudgetIsReport =
    (budget : ℕ) → (file : List ℕ) → (headers : ℕ) → (style : ListingStyle) → (parts : ℕ) → (text : List ℕ) → (fault : Option Refusal)
    → listing_cost file headers style parts ≤ budget → IsBudgeted (Some budget) file headers style parts text fault
    → IsReport (listing_refusal_line file style parts) (listing file headers style parts) text fault
