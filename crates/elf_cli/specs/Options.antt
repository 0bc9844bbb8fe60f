-- The values of a command's arguments, each alone.
use Rattle.std.specs.Prelude.{Bool, true, false, ◌||◌, ◌&&◌, if◌then◌else◌, bytes_eq, find, is_some, ℕ, ◌≡◌, ◌≢◌, ◌<◌, ◌≤◌, ◌^◌, ◌⊎◌, List, [], ◌∷◌, ◌++◌, codes, Option, None, Some, option_and_then, unwrap_or}
use Rattle.std.specs.Str.Parse.{IsNumeral, digits_value, without_leading_plus}
use Rattle.std.specs.Int.RustNames.{bit_or}
use Rattle.std.specs.List.{fold, list_all, list_any}
use Rattle.clap.specs.Walk.{Row, Text, all_of, first_of}
use Rattle.clap.specs.declared.parser.matches.ValueSource.{ValueSource}
use Rattle.clap.specs.declared.parser.matches.ValueSource.TheVariants.{CommandLine, DefaultValue}
use Rattle.elf_model.specs.Prelude.{DYNAMIC, HEADER, NOTES, RELOCS, SECTIONS, SEGMENTS, SYMBOLS, VERSIONS, all_parts, is_narrow}
use Rattle.elf_cli.specs.Pieces.{pieces}
use Rattle.elf_model.specs.declared.formats.Format.TheVariants.{Columns, Object, Table}
use Rattle.elf_model.specs.declared.formats.Format.{Format}
use Rattle.elf_model.specs.declared.symbol_filters.SymbolFilter.{SymbolFilter}

-- the value of digits of a radix, with an optional plus before them
abbrev value_in : (radix : ℕ) → Text → ℕ
value_in radix text = digits_value radix (without_leading_plus text)

-- a text is a number of a radix, below 2^64
abbrev SpellsNumber : (radix : ℕ) → Text → Type 0
SpellsNumber radix text = IsNumeral radix (without_leading_plus text) × (value_in radix text < 2 ^ 64)

-- the number that is the value of an argument, if there is one
abbrev pub HasNumber : Option Text → Option ℕ → Type 0
HasNumber None value = value ≡ None
HasNumber (Some text) value = SpellsNumber 10 text × (value ≡ Some (value_in 10 text))

-- a text is this number of a radix
abbrev pub IsNumberIn : (radix : ℕ) → Text → ℕ → Type 0
IsNumberIn radix text value = SpellsNumber radix text × (value ≡ value_in radix text)

-- a text is the number of a byte or an address: in hexadecimal digits after 0x, otherwise in decimal
-- ones
abbrev pub SpellsPlace : Text → ℕ → Type 0
SpellsPlace text place =
    ((digits : Text) × (text ≡ codes "0x" ++ digits) × IsNumberIn 16 digits place)
    ⊎ (((digits : Text) → text ≢ codes "0x" ++ digits) × IsNumberIn 10 text place)

-- the number that the value of an argument is, if it is one
abbrev pub HasPlace : Option Text → Option ℕ → Type 0
HasPlace None place = place ≡ None
HasPlace (Some text) (Some place) = SpellsPlace text place
HasPlace (Some text) None = (place : ℕ) → SpellsPlace text place → ⊥

-- a number within a range: the one that is the value of an argument, if that is within the range
pub record IsCount (least most : ℕ) (text : Option Text) (number : ℕ) : Type 0 where
  pub low : least ≤ number
  pub high : number ≤ most
  pub spelled : (value : ℕ) → HasNumber text (Some value) → least ≤ value → value ≤ most → number ≡ value

-- whether an option without a value is set, by its text among the rows
abbrev pub is_option_set : Option Text → Bool
is_option_set None = false
is_option_set (Some text) = bytes_eq text (codes "true")

-- a value comes from the command line, and is not a default
abbrev pub is_of_words : Option ValueSource → Bool
is_of_words None = false
is_of_words (Some CommandLine) = true
is_of_words (Some DefaultValue) = false

-- an option is given on the command line
abbrev pub is_given : Text → List Row → Bool
is_given id rows = is_of_words (option_and_then (λ row. row.source) (find (λ row. bytes_eq row.id id) rows))

-- the values of an argument
abbrev pub values_of : Text → List Row → List Text
values_of id rows = unwrap_or (all_of id rows) []

-- how a line is written, by whether JSON objects or a table are requested
abbrev pub asked_format : List Row → Format
asked_format rows =
    if is_option_set (first_of (codes "json") rows) then Object
    else if is_option_set (first_of (codes "table") rows) then Table
    else Columns

-- whether both are requested
abbrev pub has_two_formats : List Row → Bool
has_two_formats rows = is_option_set (first_of (codes "json") rows) && is_option_set (first_of (codes "table") rows)

-- whether an option without a value is set, or implied by a table, as it is if the command has it
abbrev pub is_set_or_implied : Text → List Row → Bool
is_set_or_implied option rows =
    is_option_set (first_of option rows) || (is_option_set (first_of (codes "table") rows) && is_some (first_of option rows))

-- which symbols are shown: each option is a condition
abbrev pub asked_symbols : List Row → SymbolFilter
asked_symbols rows = record {
  defined = is_option_set (first_of (codes "defined") rows);
  undefined = is_option_set (first_of (codes "undefined") rows);
  dynamic = is_option_set (first_of (codes "dynamic") rows);
}

-- the parts of a listing, by their names
abbrev pub part_names : List (ℕ × List ℕ)
part_names =
    (HEADER, codes "header") ∷ (SECTIONS, codes "sections") ∷ (SEGMENTS, codes "segments") ∷ (SYMBOLS, codes "symbols")
    ∷ (RELOCS, codes "relocs") ∷ (NOTES, codes "notes") ∷ (DYNAMIC, codes "dynamic") ∷ (VERSIONS, codes "versions") ∷ []

-- those of an archive: its members alone, or a part of their listings
abbrev pub member_part_names : List (ℕ × List ℕ)
member_part_names = (0, codes "members") ∷ part_names

-- the part with this name in a table; no other name is accepted
abbrev pub part_among : List (ℕ × List ℕ) → Text → ℕ
part_among [] name = VERSIONS
part_among (part ∷ rest) name = if bytes_eq name part.1 then part.0 else part_among rest name

abbrev pub part_number : Text → ℕ
part_number name = part_among member_part_names name

-- whether only the rows of some names are requested: there is a name, or a file of names
abbrev pub has_name_option : List Row → Bool
has_name_option rows = is_some (first_of (codes "name") rows) || is_some (first_of (codes "name-list") rows)

-- those of a listing, or of an archive's listing
abbrev pub part_rows : (archived : Bool) → List (ℕ × List ℕ)
part_rows archived = if archived then member_part_names else part_names

-- whether it is the name of one of them
abbrev pub is_part_name : (archived : Bool) → Text → Bool
is_part_name archived name = list_any (λ part. bytes_eq name part.1) (part_rows archived)

abbrev pub are_part_names : (archived : Bool) → Text → Bool
are_part_names archived names = list_all (is_part_name archived) (pieces names)

-- the parts that names give together
abbrev pub with_part : ℕ → Text → ℕ
with_part parts name = bit_or parts (part_number name)

abbrev pub parts_number : Text → ℕ
parts_number names = fold with_part 0 (pieces names)

abbrev parts_by : (selected gnu : Bool) → Option Text → ℕ
parts_by selected gnu (Some names) = parts_number names
parts_by selected gnu None = if selected then SYMBOLS else all_parts gnu

-- the parts that are named; without a name the symbols if rows are selected by name or not every
-- symbol is shown, otherwise all parts, of GNU listings or of the standards' alone
abbrev pub asked_parts : List Row → ℕ
asked_parts rows =
    parts_by (has_name_option rows || is_narrow (asked_symbols rows)) (is_set_or_implied (codes "gnu") rows) (first_of (codes "only") rows)
