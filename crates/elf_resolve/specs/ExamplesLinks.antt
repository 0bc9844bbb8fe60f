-- Worked links of small files.
use Rattle.std.specs.Prelude.{ℕ, ◌≡◌, Bool, true, false, List, [], ◌∷◌, codes, get_or, length, Option, None, Some, bytes_eq}
use Rattle.std.specs.List.{list_any}
use Rattle.elf_model.specs.LinkInputs.{IndexSymbol, InputFile, LinkInputs, linked}
use Rattle.elf_model.specs.LinkInputs.InputFile.{ObjectFile, SearchedFile, WholeFile, MissingFile}
use Rattle.elf_model.specs.LinkInputs.LinkInputs.{NoInputs, Input, Group}
use Rattle.elf_model.specs.LinkLines.{FileNames, LinkOutput, link_fails, link_lines}
use Rattle.elf_model.specs.LinkObjects.{LinkObject, ObjectSymbol}
use Rattle.elf_model.specs.Names.DisplayedName.{Whole}
use Rattle.elf_model.specs.declared.formats.Format.TheVariants.{Columns}
use Rattle.elf_model.specs.declared.link_states.SymbolRole.{SymbolRole}
use Rattle.elf_model.specs.declared.link_states.SymbolRole.TheVariants.{WeakReference, Reference, Common, WeakDefinition, Definition}

-- a symbol of a name, in a section if it is a definition
abbrev in_section : (section : Option ℕ) → SymbolRole → List ℕ → ObjectSymbol
in_section section role name = record {
  symbol = record { name = name; default_name = None; symbol = record { role = role; restricted = false; dropped = false; of_library = false; absolute = None } };
  section = section;
}

abbrev needs : List ℕ → ObjectSymbol
needs name = in_section None Reference name

abbrev needs_weakly : List ℕ → ObjectSymbol
needs_weakly name = in_section None WeakReference name

abbrev defines : List ℕ → ObjectSymbol
defines name = in_section (Some 1) Definition name

abbrev common : (size : ℕ) → List ℕ → ObjectSymbol
common size name = in_section None (Common size) name

abbrev object : List ObjectSymbol → LinkObject
object symbols = record { groups = []; sections = []; symbols = symbols }

-- what starts a program and needs some names
abbrev start : List ObjectSymbol → InputFile
start symbols = ObjectFile (object (defines (codes "_start") ∷ symbols))

-- an archive of objects, whose index has names and their members; the objects have definitions alone
-- of the names in a list
abbrev archive : List LinkObject → List IndexSymbol → (defined : List (List ℕ)) → InputFile
archive objects symbols defined = SearchedFile (length objects) symbols (record {
  objects = λ member. get_or objects member (object []);
  defines = λ member name. list_any (bytes_eq name) defined;
})

abbrev indexed : List ℕ → (member : ℕ) → IndexSymbol
indexed name member = record { name = name; default_name = None; member = member }

abbrev versioned : (name default_name : List ℕ) → ObjectSymbol
versioned name default_name = record {
  symbol = record { name = name; default_name = Some default_name; symbol = record { role = Definition; restricted = false; dropped = false; of_library = false; absolute = None } };
  section = Some 1;
}

abbrev versioned_index : (name default_name : List ℕ) → (member : ℕ) → IndexSymbol
versioned_index name default_name member = record { name = name; default_name = Some default_name; member = member }

-- the names of the inputs and members
abbrev names : FileNames
names = record { path = λ input. Whole (get_or (codes "a" ∷ codes "b" ∷ codes "c" ∷ []) input []); member = λ input member. Whole (get_or (codes "x" ∷ codes "y" ∷ []) member []) }

abbrev program : LinkOutput
program = record { is_shared = false; is_dynamic = false }

-- A LINK HAS THESE LINES, and fails or not
abbrev LinksIn : LinkInputs → List InputFile → List (List ℕ) → (fails : Bool) → Type 0
LinksIn inputs files lines fails =
    let link = linked (λ index. get_or files index MissingFile) (codes "_start" ∷ []) inputs in
    (link_lines Columns program names link ≡ lines) × (link_fails program link ≡ fails)

-- two inputs in their order, and three
abbrev two : LinkInputs
two = Input 0 (Input 1 NoInputs)

abbrev three : LinkInputs
three = Input 0 (Input 1 (Input 2 NoInputs))

-- an object needs `f`; the archive's member y has it and needs `g`, which its member x has, before
-- `f` in the index: a second pass takes x
abbrev pub SecondPassTakes : Type 0
SecondPassTakes =
    LinksIn two
    (start (needs (codes "f") ∷ [])
    ∷ archive (object (defines (codes "g") ∷ []) ∷ object (defines (codes "f") ∷ needs (codes "g") ∷ []) ∷ []) (indexed (codes "g") 0 ∷ indexed (codes "f") 1 ∷ []) []
    ∷ [])
    (codes "I     0 object   -     -     a\n"
    ∷ codes "I     1 archive  -     -     b\n"
    ∷ codes "I     2 member       1     1 y\n"
    ∷ codes "W     2     0 f\n"
    ∷ codes "I     3 member       1     0 x\n"
    ∷ codes "W     3     2 g\n"
    ∷ codes "G defined      0 -     _start\n"
    ∷ codes "G defined      2     0 f\n"
    ∷ codes "G defined      3     2 g\n"
    ∷ [])
    false

-- two objects define `f`, and one of them weakly `g`
abbrev pub FurtherDefinitionsAreListed : Type 0
FurtherDefinitionsAreListed =
    LinksIn two
    (start (defines (codes "f") ∷ in_section (Some 1) WeakDefinition (codes "g") ∷ [])
    ∷ ObjectFile (object (defines (codes "g") ∷ defines (codes "f") ∷ []))
    ∷ [])
    (codes "I     0 object   -     -     a\n"
    ∷ codes "I     1 object   -     -     b\n"
    ∷ codes "G defined      0 -     _start\n"
    ∷ codes "G multiple     0 -     f\n"
    ∷ codes "M     1 f\n"
    ∷ codes "G defined      1 -     g\n"
    ∷ [])
    true

-- an archive that has `f` is before the object that needs it; nothing has `h`; only a weak reference
-- names `g`, and a linker defines `_end`
abbrev pub UndefinedKeysAreListed : Type 0
UndefinedKeysAreListed =
    LinksIn three
    (archive (object (defines (codes "f") ∷ []) ∷ object (defines (codes "g") ∷ []) ∷ []) (indexed (codes "f") 0 ∷ indexed (codes "g") 1 ∷ []) []
    ∷ start (needs (codes "f") ∷ needs_weakly (codes "g") ∷ needs (codes "h") ∷ needs (codes "_end") ∷ [])
    ∷ [])
    (codes "I     0 archive  -     -     a\n"
    ∷ codes "I     1 object   -     -     b\n"
    ∷ codes "I     2 missing  -     -     c\n"
    ∷ codes "G defined      1 -     _start\n"
    ∷ codes "G order    -         1 f\n"
    ∷ codes "O     0     0 f\n"
    ∷ codes "G weak     -         1 g\n"
    ∷ codes "O     0     1 g\n"
    ∷ codes "G undef    -         1 h\n"
    ∷ codes "G linker   -         1 _end\n"
    ∷ [])
    true

-- two archives need each other: in a group the first is searched once more
abbrev first_archive : InputFile
first_archive = archive (object (defines (codes "f") ∷ needs (codes "g") ∷ []) ∷ object (defines (codes "h") ∷ []) ∷ []) (indexed (codes "f") 0 ∷ indexed (codes "h") 1 ∷ []) []

abbrev second_archive : InputFile
second_archive = archive (object (defines (codes "g") ∷ needs (codes "h") ∷ []) ∷ []) (indexed (codes "g") 0 ∷ []) []

abbrev pub GroupsAreSearchedAgain : Type 0
GroupsAreSearchedAgain =
    LinksIn (Input 0 (Group (Input 1 (Input 2 NoInputs)) NoInputs)) (start (needs (codes "f") ∷ []) ∷ first_archive ∷ second_archive ∷ [])
    (codes "I     0 object   -     -     a\n"
    ∷ codes "I     1 archive  -     -     b\n"
    ∷ codes "I     2 member       1     0 x\n"
    ∷ codes "W     2     0 f\n"
    ∷ codes "I     3 archive  -     -     c\n"
    ∷ codes "I     4 member       3     0 x\n"
    ∷ codes "W     4     2 g\n"
    ∷ codes "I     5 member       1     1 y\n"
    ∷ codes "W     5     4 h\n"
    ∷ codes "G defined      0 -     _start\n"
    ∷ codes "G defined      2     0 f\n"
    ∷ codes "G defined      4     2 g\n"
    ∷ codes "G defined      5     4 h\n"
    ∷ [])
    false

-- the same without a group
abbrev pub ArchivesAreSearchedOnce : Type 0
ArchivesAreSearchedOnce =
    LinksIn three (start (needs (codes "f") ∷ []) ∷ first_archive ∷ second_archive ∷ [])
    (codes "I     0 object   -     -     a\n"
    ∷ codes "I     1 archive  -     -     b\n"
    ∷ codes "I     2 member       1     0 x\n"
    ∷ codes "W     2     0 f\n"
    ∷ codes "I     3 archive  -     -     c\n"
    ∷ codes "I     4 member       3     0 x\n"
    ∷ codes "W     4     2 g\n"
    ∷ codes "G defined      0 -     _start\n"
    ∷ codes "G defined      2     0 f\n"
    ∷ codes "G defined      4     2 g\n"
    ∷ codes "G order    -         4 h\n"
    ∷ codes "O     1     1 h\n"
    ∷ [])
    true

-- a common takes a member that defines its name, and not one that has a common of it; it is larger
abbrev pub CommonsTakeDefinitions : Type 0
CommonsTakeDefinitions =
    LinksIn three
    (start (common 4 (codes "f") ∷ common 4 (codes "g") ∷ [])
    ∷ archive (object (defines (codes "f") ∷ []) ∷ object (common 8 (codes "g") ∷ []) ∷ []) (indexed (codes "f") 0 ∷ indexed (codes "g") 1 ∷ []) (codes "f" ∷ [])
    ∷ ObjectFile (object (common 8 (codes "g") ∷ []))
    ∷ [])
    (codes "I     0 object   -     -     a\n"
    ∷ codes "I     1 archive  -     -     b\n"
    ∷ codes "I     2 member       1     0 x\n"
    ∷ codes "W     2     0 f\n"
    ∷ codes "I     3 object   -     -     c\n"
    ∷ codes "G defined      0 -     _start\n"
    ∷ codes "G defined      2 -     f\n"
    ∷ codes "G common       3 -     g\n"
    ∷ [])
    false

-- two objects have a group of one signature: that of the second is dropped, with its `g`, which takes
-- no member; all members of a whole archive are taken
abbrev with_group : (sections : List ℕ) → List ObjectSymbol → InputFile
with_group sections symbols = ObjectFile (record { groups = record { signature = codes "s"; is_link_once = false; sections = sections } ∷ []; sections = []; symbols = symbols })

abbrev pub DroppedGroupsDefineNothing : Type 0
DroppedGroupsDefineNothing =
    LinksIn three
    (with_group (1 ∷ []) (defines (codes "_start") ∷ defines (codes "f") ∷ [])
    ∷ with_group (1 ∷ []) (defines (codes "f") ∷ defines (codes "g") ∷ in_section (Some 2) Definition (codes "h") ∷ [])
    ∷ archive (object (defines (codes "g") ∷ []) ∷ []) (indexed (codes "g") 0 ∷ []) []
    ∷ [])
    (codes "I     0 object   -     -     a\n"
    ∷ codes "I     1 object   -     -     b\n"
    ∷ codes "I     2 archive  -     -     c\n"
    ∷ codes "G defined      0 -     _start\n"
    ∷ codes "G defined      0 -     f\n"
    ∷ codes "G unused   -     -     g\n"
    ∷ codes "G defined      1 -     h\n"
    ∷ [])
    false

abbrev pub WholeArchivesAreTaken : Type 0
WholeArchivesAreTaken =
    LinksIn two (start [] ∷ WholeFile ((1, object (defines (codes "f") ∷ [])) ∷ (0, object (needs (codes "f") ∷ [])) ∷ []) ∷ [])
    (codes "I     0 object   -     -     a\n"
    ∷ codes "I     1 archive  -     -     b\n"
    ∷ codes "I     2 member       1     1 y\n"
    ∷ codes "I     3 member       1     0 x\n"
    ∷ codes "G defined      0 -     _start\n"
    ∷ codes "G defined      2     3 f\n"
    ∷ [])
    false

-- a default version defines the name without it too, and takes a member for it
abbrev pub DefaultVersionsDefineNames : Type 0
DefaultVersionsDefineNames =
    LinksIn two
    (start (needs (codes "f") ∷ needs (codes "g@V") ∷ [])
    ∷ archive (object (versioned (codes "f@V") (codes "f") ∷ []) ∷ object (versioned (codes "g@V") (codes "g") ∷ []) ∷ []) (versioned_index (codes "f@V") (codes "f") 0 ∷ versioned_index (codes "g@V") (codes "g") 1 ∷ []) []
    ∷ [])
    (codes "I     0 object   -     -     a\n"
    ∷ codes "I     1 archive  -     -     b\n"
    ∷ codes "I     2 member       1     0 x\n"
    ∷ codes "W     2     0 f\n"
    ∷ codes "I     3 member       1     1 y\n"
    ∷ codes "W     3     0 g@V\n"
    ∷ codes "G defined      0 -     _start\n"
    ∷ codes "G defined      2     0 f\n"
    ∷ codes "G defined      3     0 g@V\n"
    ∷ codes "G defined      2 -     f@V\n"
    ∷ codes "G defined      3 -     g\n"
    ∷ [])
    false
