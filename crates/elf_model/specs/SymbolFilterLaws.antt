-- Facts about which rows are shown.
use Rattle.std.specs.Prelude.{ℕ, ◌≡◌, ◌&&◌, Bool, true, false, List}
use Rattle.elf_model.specs.Choice.{RowFilter, Suffix, chooses}
use Rattle.elf_model.specs.Cost.{listing_cost}
use Rattle.elf_model.specs.Listing.{fault_of}
use Rattle.elf_model.specs.Names.{DisplayedName}
use Rattle.elf_model.specs.PlaceFilters.{is_placed, shows_place}
use Rattle.elf_model.specs.Report.{listing}
use Rattle.elf_model.specs.Style.{ListingStyle}
use Rattle.elf_model.specs.SymbolFilters.{is_narrow, narrowed, shows_symbol}
use Rattle.elf_model.specs.declared.place_filters.PlaceFilter.{PlaceFilter}
use Rattle.elf_model.specs.declared.place_filters.RowPlace.{RowPlace}
use Rattle.elf_model.specs.declared.symbol_filters.SymbolFilter.{SymbolFilter}

-- of the same rows, or none, those are shown that are among them
abbrev pub NarrowedChooses : Type 0
NarrowedChooses =
    (shown : Bool) (choice : RowFilter) (name : DisplayedName) (suffix : Suffix)
    → chooses (narrowed shown choice) name suffix ≡ shown && chooses choice name suffix

-- if no condition is set, every symbol is shown
abbrev pub EverySymbolIsShown : Type 0
EverySymbolIsShown =
    (filter : SymbolFilter) (is_defined is_dynamic : Bool) → is_narrow filter ≡ false → shows_symbol filter is_defined is_dynamic ≡ true

-- if no place is given, every row is shown
abbrev pub EveryPlaceIsShown : Type 0
EveryPlaceIsShown = (filter : PlaceFilter) (row : RowPlace) → is_placed filter ≡ false → shows_place filter row ≡ true

-- A SELECTION OF ROWS HIDES NO FAULT: whatever rows and symbols are shown, by their names or their
-- places, the first fault of a listing is the same, and so is its cost
abbrev pub SelectionsHideNoFault : Type 0
SelectionsHideNoFault =
    (file : List ℕ) (headers : ℕ) (style : ListingStyle) (parts : ℕ) (rows : RowFilter) (filter : SymbolFilter) (place : PlaceFilter)
    → let selected : ListingStyle = record (style) { choice = rows; symbols = filter; place = place } in
    (fault_of (listing file headers selected parts) ≡ fault_of (listing file headers style parts))
    × (listing_cost file headers selected parts ≡ listing_cost file headers style parts)
