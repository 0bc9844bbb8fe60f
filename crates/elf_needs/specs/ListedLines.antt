-- Which lines are written: all, or only those of problems, which make the exit status 1.
use Rattle.std.specs.Prelude.{ℕ, ◌&&◌, not, Bool, true, false, if◌then◌else◌, List, [], ◌∷◌, ◌++◌, Option}
use Rattle.elf_model.specs.Prelude.{BoundItem, Faulty, Told, binding_line, is_unbound, refusal_line}
use Rattle.elf_model.specs.declared.states.BindingState.{BindingState}
use Rattle.elf_format.specs.NeededObjects.{object_line}
use Rattle.elf_needs.specs.declared.line_options.LineOptions.{LineOptions}
use Rattle.elf_format.specs.declared.needed_objects.ObjectRow.{ObjectRow}
use Rattle.elf_format.specs.declared.needed_objects.ObjectState.{ObjectState}
use Rattle.elf_format.specs.declared.needed_objects.ObjectState.TheVariants as state

-- the line of a symbol: only if it is missing or its state is not known, where only problems are
-- written
abbrev pub listed_binding : LineOptions → (object symbol : ℕ) → BindingState → (name : List ℕ) → (version : Option (List ℕ)) → List ℕ
listed_binding lines object symbol found name version =
    if lines.problems && not (is_unbound found) then [] else binding_line lines.format object symbol found name version

-- that of an item, and those of some
abbrev pub listed_line : LineOptions → BoundItem → List ℕ
listed_line lines (Told object symbol found name version) = listed_binding lines object symbol found name version
listed_line lines (Faulty refusal) = refusal_line lines.format refusal

abbrev pub listed_text : LineOptions → List BoundItem → List ℕ
listed_text lines [] = []
listed_text lines (item ∷ items) = listed_line lines item ++ listed_text lines items

-- a state that does not make the exit status 1
abbrev pub is_no_problem : ObjectState → Bool
is_no_problem state.Found = true
is_no_problem state.Unused = true
is_no_problem state.Missing = false
is_no_problem (state.Refused refusal) = false

-- the line of an object: where only problems are written, only if it is missing or refused
abbrev pub listed_object : LineOptions → ObjectRow → (name : List ℕ) → (path : Option (List ℕ)) → List ℕ
listed_object lines row name path = if lines.problems && is_no_problem row.state then [] else object_line lines.format row name path
