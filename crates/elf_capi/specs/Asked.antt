-- A caller's request for a listing, by the bytes of a struct that a later version may extend, and
-- by names.
use Rattle.std.specs.Prelude.{ℕ, ◌≡◌, ◌+◌, ◌≤◌, ◌⊎◌, ⊤, if◌then◌else◌, Bool, true, false, All, List, drop, length, slice_index_or, Option, None, Some}
use Rattle.std.specs.Borrow.{Bor}
use Rattle.std.specs.Cmp.Lexicographic.{slice_cmp}
use Rattle.std.specs.Int.RustNames.{bit_and}
use Rattle.std.specs.Ordering.{is_lt, nat_cmp}
use Rattle.elf_model.specs.Prelude.{EveryRow, ListingStyle, RELOCS, SYMBOLS, VERSIONS, all_parts, are_all, every_place, every_symbol, field, has}
use Rattle.elf_model.specs.declared.formats.Format.TheVariants.{Columns, Object}
use Rattle.elf_model.specs.declared.formats.Format.{Format}
use Rattle.elf_options.specs.Prelude.{IsRowName, NeverDescend, named_style, texts_of}
use Rattle.elf_capi.specs.declared.caller_listing.CallerListing.{CallerListing}

-- borrowed names
abbrev pub BorrowedTexts : Type 0
BorrowedTexts = List (Bor (List ℕ))

-- which parts are requested, and the sum of the flags
abbrev pub parts_in : List ℕ → ℕ
parts_in asked = field asked 0 2

abbrev flags_in : List ℕ → ℕ
flags_in asked = field asked 2 2

-- GNU numbers have names, by a flag of 4; the version of a symbol follows its name, by one of 16
abbrev is_gnu_in : List ℕ → Bool
is_gnu_in asked = has (flags_in asked) 4

abbrev pub has_versions_in : List ℕ → Bool
has_versions_in asked = has (flags_in asked) 16

-- how a line is written: a flag of 8 requests JSON objects
abbrev pub format_in : ℕ → Format
format_in flags = if has flags 8 then Object else Columns

-- HOW ROWS ARE SHOWN, with a limit on the bytes of a name: by the flags, of which 1 requests tables
-- by the program headers; every row is shown
abbrev pub style_of_flags : List ℕ → ℕ → ListingStyle
style_of_flags asked cap = record {
  cap = cap;
  gnu = is_gnu_in asked;
  by_segments = has (flags_in asked) 1;
  format = format_in (flags_in asked);
  choice = EveryRow;
  symbols = every_symbol;
  place = every_place;
  versions = has_versions_in asked;
}

-- the same, or if there are names only those rows whose name is one of them
abbrev pub style_in : List ℕ → Option BorrowedTexts → ℕ → ListingStyle
style_in asked None cap = style_of_flags asked cap
style_in asked (Some names) cap = named_style (texts_of names) (style_of_flags asked cap)

-- THE BYTES REQUEST A LISTING: parts and flags are there, and after them only zeros, which request
-- nothing that this version does not know; no other flag is set, versions follow names in GNU
-- listings alone, and all parts are ones that the listing has
pub record AsksStyled (asked : List ℕ) : Type 0 where
  pub long : 4 ≤ length asked
  pub zeros : are_all 0 (drop 4 asked) ≡ true
  pub flags : bit_and (flags_in asked) 65506 ≡ 0
  pub versions : has_versions_in asked ≡ true → is_gnu_in asked ≡ true
  pub parts : parts_in asked ≤ all_parts (is_gnu_in asked)

-- the parts whose rows are selected by name, one alone
abbrev pub IsChosenPart : ℕ → Type 0
IsChosenPart parts = (parts ≡ SYMBOLS) ⊎ (parts ≡ RELOCS) ⊎ (parts ≡ VERSIONS)

-- names that may be provided: each can be looked up, and none is below the one before it
abbrev pub AreLendableNames : (versions : Bool) → BorrowedTexts → Type 0
AreLendableNames versions names = NeverDescend names × All (λ name. IsRowName versions name.now) names

-- the same for the name at an index
abbrev pub IsLendableNameAt : (versions : Bool) → BorrowedTexts → ℕ → Type 0
IsLendableNameAt versions names i =
    ((d : Bor (List ℕ)) → IsRowName versions (slice_index_or names i d).now)
    × ((j : ℕ) (d : Bor (List ℕ)) → j + 1 ≡ i → is_lt (slice_cmp nat_cmp (slice_index_or names i d).now (slice_index_or names j d).now) ≡ false)

-- rows may be selected by these names, if there are any
abbrev ChoosesBy : List ℕ → Option BorrowedTexts → Type 0
ChoosesBy asked None = ⊤
ChoosesBy asked (Some names) = IsChosenPart (parts_in asked) × AreLendableNames (has_versions_in asked) names

-- A LISTING IS REQUESTED, of every row or of those of some names
abbrev pub AsksListing : List ℕ → Option BorrowedTexts → Type 0
AsksListing asked names = AsksStyled asked × ChoosesBy asked names

-- how rows of a listing are shown, with a limit on the bytes of a name
abbrev pub every_row_of : CallerListing → ℕ → ListingStyle
every_row_of listing cap = record {
  cap = cap;
  gnu = listing.gnu;
  by_segments = listing.by_segments;
  format = listing.format;
  choice = EveryRow;
  symbols = every_symbol;
  place = every_place;
  versions = listing.versions;
}

abbrev pub caller_style : CallerListing → ℕ → ListingStyle
caller_style listing cap =
    if listing.by_name then named_style (texts_of listing.names.now) (every_row_of listing cap) else every_row_of listing cap

-- the requested listing is returned, and none if none is requested
abbrev pub GivesListing : List ℕ → Option BorrowedTexts → Option CallerListing → Type 0
GivesListing asked names None = AsksListing asked names → ⊥
GivesListing asked names (Some listing) =
    AsksListing asked names × (listing.parts.0 ≡ parts_in asked) × ((cap : ℕ) → caller_style listing cap ≡ style_in asked names cap)
