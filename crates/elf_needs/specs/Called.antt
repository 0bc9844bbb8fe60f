-- The names of the objects of a program.
use Rattle.std.specs.Prelude.{ℕ, ◌≡◌, ◌^◌, ◌&&◌, ◌||◌, if◌then◌else◌, nat_lt, Bool, false, List, [], codes, option_map, position, slice_get, slice_index_or, Option, None, Some}
use Rattle.std.specs.Str.{bytes_eq}
use Rattle.elf_needs.specs.Searching.{IsDirOf}
use Rattle.elf_library.specs.Prelude.{is_file}
use Rattle.elf_library.specs.declared.file_identity.FileIdentity.{FileIdentity}
use Rattle.elf_needs.specs.declared.known_object.KnownObject.{KnownObject}
use Rattle.elf_needs.specs.declared.known_object.ObjectAlias.{ObjectAlias}
use Rattle.elf_needs.specs.declared.known_object.ObjectList.{ObjectList}

-- no object is known, and no text is stored
pub record HoldsNothing (objects : ObjectList) : Type 0 where
  pub known : objects.known.items ≡ []
  pub paths : objects.paths.texts ≡ []
  pub texts : objects.links.held.texts ≡ []
  pub needs : objects.links.needs ≡ []
  pub aliases : objects.aliases.items ≡ []
  pub interpreter : objects.interpreter ≡ None

-- the text at an index, if one is given; and a text that is given equals a name
abbrev pub text_told : List (List ℕ) → Option ℕ → Option (List ℕ)
text_told texts index = option_map (λ i. slice_index_or texts i []) index

abbrev pub is_text : Option (List ℕ) → List ℕ → Bool
is_text None name = false
is_text (Some text) name = bytes_eq text name

-- an object has a name: it was needed by it, or it is its DT_SONAME (gABI 5, DT_SONAME)
abbrev pub is_called : List (List ℕ) → List ℕ → KnownObject → Bool
is_called texts name known = is_text (text_told texts known.name) name || is_text (text_told texts known.links.soname) name

-- an index of 16 bits, if it is one
abbrev pub index_by_short_name : Option ℕ → Option ℕ
index_by_short_name None = None
index_by_short_name (Some index) = if nat_lt index (2 ^ 16) then Some index else None

-- a name is one more of an object's, under which its file was found again
abbrev pub is_alias : List (List ℕ) → List ℕ → ObjectAlias → Bool
is_alias texts name alias = is_text (text_told texts (Some alias.name)) name

-- the object of one, by its position
abbrev pub aliased : List ObjectAlias → ℕ → Option ℕ
aliased aliases place = option_map (λ (alias : ObjectAlias). alias.object) (slice_get aliases place)

-- the index of the object of the first that is
abbrev pub alias_of : ObjectList → List ℕ → Option ℕ
alias_of objects name = elim (position (is_alias objects.links.held.texts name) objects.aliases.items) [
  | None ↦ None
  | Some place ↦ aliased objects.aliases.items place
]

-- the first object that has a name, one more or its own
abbrev pub first_called : ObjectList → List ℕ → Option ℕ
first_called objects name = elim (alias_of objects name) [
  | Some object ↦ Some object
  | None ↦ position (is_called objects.links.held.texts name) objects.known.items
]

-- its index
abbrev pub called_by : ObjectList → List ℕ → Option ℕ
called_by objects name = index_by_short_name (first_called objects name)

-- an object is one; and the index of the first that is
abbrev pub is_object_file : FileIdentity → KnownObject → Bool
is_object_file file known = is_file known.file file

abbrev pub object_by_file : ObjectList → Option FileIdentity → Option ℕ
object_by_file objects None = None
object_by_file objects (Some file) = index_by_short_name (position (is_object_file file) objects.known.items)

-- a name is the interpreter's, if that is found: its path, as the program has it, or its DT_SONAME
abbrev pub is_interpreter_name : ObjectList → List ℕ → Bool
is_interpreter_name objects name = elim objects.interpreter [
  | None ↦ false
  | Some interpreter ↦
      interpreter.is_found
      && (is_text (Some (slice_index_or objects.paths.texts interpreter.name [])) name
      || is_text (text_told objects.links.held.texts interpreter.report.links.soname) name)
]

-- a file is the interpreter's
abbrev pub is_interpreter_file : ObjectList → Option FileIdentity → Bool
is_interpreter_file objects None = false
is_interpreter_file objects (Some file) = elim objects.interpreter [ None ↦ false | Some interpreter ↦ is_file interpreter.file file ]

-- the index of the object that the interpreter is, if it is one: it was added as that, or it is the
-- file of another
abbrev pub interpreter_object : ObjectList → Option ℕ
interpreter_object objects = elim objects.interpreter [
  | None ↦ None
  | Some interpreter ↦ elim interpreter.object [ Some object ↦ Some object | None ↦ object_by_file objects interpreter.file ]
]

-- the directory of an object: that of its path, and the current one where its path is not kept
abbrev pub IsDirOfObject : (paths : List (List ℕ)) → Option ℕ → List ℕ → Type 0
IsDirOfObject paths None directory = directory ≡ codes "."
IsDirOfObject paths (Some path) directory = IsDirOf (slice_index_or paths path []) directory

-- the object that first needed another, if one did
abbrev pub above_of : ObjectList → KnownObject → Option KnownObject
above_of objects known = elim known.needer [ None ↦ None | Some needer ↦ slice_get objects.known.items needer ]
