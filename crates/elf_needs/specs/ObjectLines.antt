-- The lines of the objects that are known.
use Rattle.std.specs.Prelude.{ℕ, suc, List, [], ◌∷◌, ◌++◌, None, Some, slice_get}
use Rattle.elf_model.specs.declared.formats.Format.{Format}
use Rattle.elf_model.specs.declared.formats.Format.TheVariants.{Columns, Object, Table}
use Rattle.elf_format.specs.declared.needed_objects.ObjectRow.{ObjectRow}
use Rattle.elf_needs.specs.Called.{text_told}
use Rattle.elf_needs.specs.ListedLines.{listed_object}
use Rattle.elf_needs.specs.Trees.{tree_places}
use Rattle.elf_needs.specs.declared.known_object.KnownObject.{KnownObject}
use Rattle.elf_needs.specs.declared.known_object.ObjectList.{ObjectList}
use Rattle.elf_needs.specs.declared.line_options.LineOptions.{LineOptions}
use Rattle.elf_needs.specs.declared.object_lines.ListedPlace.{ListedPlace}

-- what the line of an object at a place says of it
abbrev pub placed_row : ListedPlace → KnownObject → ObjectRow
placed_row place known = record { index = place.index; needer = known.needer; state = known.state; found_by = known.found_by; depth = place.depth }

-- the line of an object: with the name by which it was first needed, and its path if it has one;
-- the program was needed by none, and its name is its path as it is shown
abbrev pub known_text : LineOptions → ObjectList → (program : List ℕ) → ListedPlace → KnownObject → List ℕ
known_text lines objects program place known = elim (text_told objects.links.held.texts known.name) [
  | None ↦ listed_object lines (placed_row place known) program None
  | Some name ↦ listed_object lines (placed_row place known) name (text_told objects.paths.texts known.path)
]

-- that of the object at a place, and those of some
abbrev pub line_of_place : LineOptions → ObjectList → (program : List ℕ) → ListedPlace → List ℕ
line_of_place lines objects program place = elim (slice_get objects.known.items place.index) [
  | None ↦ []
  | Some known ↦ known_text lines objects program place known
]

unfoldable pub lines_of_places : LineOptions → ObjectList → (program : List ℕ) → List ListedPlace → List ℕ
lines_of_places lines objects program [] = []
lines_of_places lines objects program (place ∷ places) = line_of_place lines objects program place ++ lines_of_places lines objects program places

-- the places of objects in their order, from an index on
unfoldable pub places_in_order : (index : ℕ) → List KnownObject → List ListedPlace
places_in_order index [] = []
places_in_order index (known ∷ rest) = record { index = index; depth = 0 } ∷ places_in_order (suc index) rest

-- the order of objects: in a table that of a tree
abbrev pub listed_places : Format → List KnownObject → List ListedPlace
listed_places Columns known = places_in_order 0 known
listed_places Object known = places_in_order 0 known
listed_places Table known = tree_places known

-- THE LINES OF ALL OBJECTS
abbrev pub objects_text : LineOptions → ObjectList → (program : List ℕ) → List ℕ
objects_text lines objects program = lines_of_places lines objects program (listed_places lines.format objects.known.items)
