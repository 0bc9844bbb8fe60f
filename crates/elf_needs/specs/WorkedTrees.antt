-- Worked examples of the tree of a table.
use Rattle.std.specs.Prelude.{ℕ, ◌≡◌, [], ◌∷◌, codes, Option, None, Some}
use Rattle.elf_format.specs.NeededObjects.{object_tree_line}
use Rattle.elf_format.specs.declared.needed_objects.FoundBy.TheVariants as by
use Rattle.elf_format.specs.declared.needed_objects.ObjectState.TheVariants as state
use Rattle.elf_library.specs.Prelude.{no_info}
use Rattle.elf_model.specs.declared.causes.Cause.TheVariants.{BadVersion}
use Rattle.elf_needs.specs.Trees.{tree_places}
use Rattle.elf_needs.specs.declared.known_object.KnownObject.{KnownObject}
use Rattle.elf_needs.specs.declared.object_lines.ListedPlace.{ListedPlace}

-- an object, by the one that first needed it
abbrev object : Option ℕ → KnownObject
object needer = record { needer = needer; name = None; path = None; file = None; state = state.Missing; found_by = None; links = no_info; needs = 0; needs_end = 0 }

abbrev place : (index depth : ℕ) → ListedPlace
place index depth = record { index = index; depth = depth }

-- a program that needs 1 and 2; 1 needs 3, and 2 needs 4, which needs 5: each follows the object
-- that first needed it, one level below
abbrev pub TreesAreOrdered : Type 0
TreesAreOrdered =
    tree_places (object None ∷ object (Some 0) ∷ object (Some 0) ∷ object (Some 1) ∷ object (Some 2) ∷ object (Some 4) ∷ [])
    ≡ place 0 0 ∷ place 1 1 ∷ place 3 2 ∷ place 2 1 ∷ place 4 2 ∷ place 5 3 ∷ []

-- the rows of a program, of a library two levels below, of one that is refused, and of one that is
-- missing
abbrev pub RowsAreIndented : Type 0
RowsAreIndented =
    (object_tree_line (record { index = 0; needer = None; state = state.Found; found_by = None; depth = 0 }) (codes "/bin/a") None
    ≡ codes "L     0 /bin/a\n")
    × (object_tree_line (record { index = 12; needer = Some 3; state = state.Found; found_by = Some by.Cache; depth = 2 }) (codes "libz.so.1") (Some (codes "/lib/libz.so.1"))
    ≡ codes "L    12     libz.so.1 [cache] /lib/libz.so.1\n")
    × (object_tree_line (record { index = 2; needer = Some 0; state = state.Refused (record { at = 0x14; cause = BadVersion }); found_by = Some by.Runpath; depth = 1 }) (codes "libbad.so") (Some (codes "./libbad.so"))
    ≡ codes "L     2   libbad.so [runpath] [refused at 0x14: version] ./libbad.so\n")
    × (object_tree_line (record { index = 3; needer = Some 1; state = state.Missing; found_by = None; depth = 2 }) (codes "libnone.so.2") None
    ≡ codes "L     3     libnone.so.2 [missing]\n")
