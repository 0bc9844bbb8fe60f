-- The lines of the objects that a program needs.
use Rattle.std.specs.Prelude.{ℕ, suc, zero, [], ◌∷◌, ◌++◌, List, codes, Option, None, Some, unwrap_or}
use Rattle.elf_model.specs.Prelude.{ArgSpec, Decimal, Field, Fields, LinePrefix, NameOrDecimal, cause_word, escaped, fault_fields, front, named_line, newline, right_decimal, short_hex, space, with_fields}
use Rattle.elf_model.specs.declared.states.FileStatus.{FileStatus}
use Rattle.elf_model.specs.declared.formats.Format.{Format}
use Rattle.elf_model.specs.declared.causes.Refusal.{Refusal}
use Rattle.elf_model.specs.declared.formats.Format.TheVariants.{Columns, Object, Table}
use Rattle.elf_model.specs.Lines.{fault_line, told_line}
use Rattle.elf_model.specs.Names.DisplayedName.{Whole}
use Rattle.elf_model.specs.declared.states.FileStatus.TheVariants as file
use Rattle.elf_format.specs.declared.needed_objects.FoundBy.{FoundBy}
use Rattle.elf_format.specs.declared.needed_objects.FoundBy.TheVariants as by
use Rattle.elf_format.specs.declared.needed_objects.ObjectRow.{ObjectRow}
use Rattle.elf_format.specs.declared.needed_objects.ObjectState.{ObjectState}
use Rattle.elf_format.specs.declared.needed_objects.ObjectState.TheVariants as state

-- the word of a state
unfoldable pub object_state_name : ObjectState → List ℕ
object_state_name state.Found = codes "found"
object_state_name state.Missing = codes "missing"
object_state_name (state.Refused refusal) = codes "refused"
object_state_name state.Unused = codes "unused"

-- a malformed file, if an object is refused
abbrev pub file_state : ObjectState → FileStatus
file_state (state.Refused refusal) = file.Refused refusal
file_state state.Found = file.Ok
file_state state.Missing = file.Ok
file_state state.Unused = file.Ok

-- the index of the object that first needed one; a hyphen for the file itself
abbrev pub needer_field : Option ℕ → Field
needer_field None = NameOrDecimal (codes "needed_by") 5 (Some (codes "-")) 0
needer_field (Some index) = NameOrDecimal (codes "needed_by") 5 None index

-- the word of how an object was found
unfoldable pub found_by_name : FoundBy → List ℕ
found_by_name by.Path = codes "path"
found_by_name by.Listed = codes "known"
found_by_name by.Rpath = codes "rpath"
found_by_name by.LibraryPath = codes "library-path"
found_by_name by.Runpath = codes "runpath"
found_by_name by.Cache = codes "cache"
found_by_name by.Default = codes "default"

-- how an object was found: only an object of JSON has it
abbrev pub found_by_fields : Format → Option FoundBy → List Field
found_by_fields Columns found_by = []
found_by_fields Table found_by = []
found_by_fields Object None = []
found_by_fields Object (Some found_by) = ArgSpec (codes "by") 0 (found_by_name found_by) ∷ []

-- an object: its index, the one that first needed it, its state, and its refusal
abbrev pub object_fields : Format → ObjectRow → Fields
object_fields format row = record {
  letter = codes "L";
  fields = Decimal (codes "index") 5 row.index ∷ needer_field row.needer ∷ ArgSpec (codes "state") 8 (object_state_name row.state) ∷ fault_fields format (file_state row.state);
}

-- an object's line up to its path
unfoldable pub object_front : Format → ObjectRow → LinePrefix
object_front format row = record {
  format = format;
  key = codes "path";
  text = with_fields format (front format (codes "path") (object_fields format row)).text (found_by_fields format row.found_by);
}

-- in the tree of a table: two spaces for each level
unfoldable pub indentation : ℕ → List ℕ
indentation zero = []
indentation (suc depth) = indentation depth ++ codes "  "

-- how an object was found, and the state of one that is not found or not used, in brackets
unfoldable pub found_by_note : Option FoundBy → List ℕ
found_by_note None = []
found_by_note (Some found_by) = codes " [" ++ found_by_name found_by ++ codes "]"

unfoldable pub refusal_note : Refusal → List ℕ
refusal_note refusal = codes " [refused at 0x" ++ short_hex refusal.at ++ codes ": " ++ cause_word refusal.cause ++ codes "]"

unfoldable pub state_note : ObjectState → List ℕ
state_note state.Found = []
state_note state.Missing = codes " [missing]"
state_note (state.Refused refusal) = refusal_note refusal
state_note state.Unused = codes " [unused]"

abbrev pub notes_text : ObjectRow → List ℕ
notes_text row = found_by_note row.found_by ++ state_note row.state

-- what follows these: the path of an object that has one, and the line's end
unfoldable pub path_end : Option (List ℕ) → List ℕ
path_end None = newline
path_end (Some path) = space ++ (escaped path ++ newline)

-- the letter and the index, before the tree
unfoldable pub index_text : ℕ → List ℕ
index_text index = codes "L " ++ right_decimal 5 index ++ space

-- an object's line in a table
abbrev pub object_tree_line : ObjectRow → (name : List ℕ) → (path : Option (List ℕ)) → List ℕ
object_tree_line row name path = index_text row.index ++ (indentation row.depth ++ ((escaped name ++ notes_text row) ++ path_end path))

-- THE LINE OF AN OBJECT, with its path, or its name if it has no path: that of a missing one, and
-- the path of the program. In a table it is part of a tree, with its name and its path
abbrev pub object_line : Format → ObjectRow → (name : List ℕ) → (path : Option (List ℕ)) → List ℕ
object_line Columns row name path = named_line (object_front Columns row) (Whole (unwrap_or path name))
object_line Object row name path = named_line (object_front Object row) (Whole (unwrap_or path name))
object_line Table row name path = object_tree_line row name path

-- the line that ends the objects: the offset of the dynamic entry that leads to it, and why, in a
-- table in plain words
unfoldable pub objects_end_line : Format → ℕ → (cause meaning : List ℕ) → List ℕ
objects_end_line Table place cause meaning = told_line place meaning
objects_end_line format place cause meaning = fault_line format place cause

-- one more is needed than are listed
abbrev pub too_many_line : Format → ℕ → List ℕ
too_many_line format place = objects_end_line format place (codes "too-many-objects") (codes "more objects are needed than are listed")

-- one more path is to be tried than may be
abbrev pub too_many_paths_line : Format → ℕ → List ℕ
too_many_paths_line format place =
    objects_end_line format place (codes "too-many-paths") (codes "more paths would be tried than --max-tries allows")
