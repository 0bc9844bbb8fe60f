-- How a listing is made, besides how many headers are allowed and which parts it has.
use Rattle.std.specs.Prelude.{ℕ, suc, ◌&&◌, ◌||◌, nat_le, nat_lt, if◌then◌else◌, Bool, true, false, List, [], ◌∷◌}
use Rattle.elf_model.specs.Choice.{RowFilter, EveryRow}
use Rattle.elf_model.specs.PlaceFilters.{every_place}
use Rattle.elf_model.specs.SymbolFilters.{every_symbol}
use Rattle.elf_model.specs.declared.formats.Format.{Format}
use Rattle.elf_model.specs.declared.formats.Format.TheVariants.{Columns}
use Rattle.elf_model.specs.declared.place_filters.PlaceFilter.{PlaceFilter}
use Rattle.elf_model.specs.declared.symbol_filters.SymbolFilter.{SymbolFilter}

-- HOW ROWS ARE SHOWN: how many bytes of a name, whether GNU numbers have names too, whether tables
-- are found by the program headers even if there are section headers, how a line is written, which
-- rows that end in the name of a symbol or of a version are shown, which symbols are, which rows
-- are by where they are, and whether the version of a symbol follows its name
pub record ListingStyle : Type 0 where
  pub cap : ℕ
  pub gnu : Bool
  pub by_segments : Bool
  pub format : Format
  pub choice : RowFilter
  pub symbols : SymbolFilter
  pub place : PlaceFilter
  pub versions : Bool

-- this limit on bytes of a name, with the standards' names alone, by the section headers if there
-- are any, in columns, and every row
abbrev pub standard : ℕ → ListingStyle
standard cap = record { cap = cap; gnu = false; by_segments = false; format = Columns; choice = EveryRow; symbols = every_symbol; place = every_place; versions = false }

-- the positions of a file header that locate section headers: e_shoff, and e_shnum followed by
-- e_shstrndx
unfoldable pub tells_of_sections : ℕ → Bool
tells_of_sections place = (nat_le 40 place && nat_lt place 48) || (nat_le 60 place && nat_lt place 64)

-- bytes of a file from a position on, with zeros where its header locates section headers
unfoldable pub without_sections_from : ℕ → List ℕ → List ℕ
without_sections_from place [] = []
without_sections_from place (byte ∷ bytes) =
    (if tells_of_sections place then 0 else byte) ∷ without_sections_from (suc place) bytes

-- a file whose header locates no section headers
abbrev pub without_sections : List ℕ → List ℕ
without_sections file = without_sections_from 0 file

-- a file, or if tables are found only by the program headers the same with a header that locates no
-- section headers
abbrev pub looked_at : Bool → List ℕ → List ℕ
looked_at by_segments file = elim by_segments [ true ↦ without_sections file | false ↦ file ]

-- the file whose tables a style lists
abbrev pub viewed : ListingStyle → List ℕ → List ℕ
viewed style file = looked_at style.by_segments file

-- a style lists what dynamic entries locate, in a file whose header locates no section headers
abbrev pub follows_dynamic : ListingStyle → Bool
follows_dynamic style = style.gnu || style.by_segments
