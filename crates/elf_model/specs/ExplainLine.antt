-- The line of what a layout lacks, for standard error: the relocation type, the symbol's name, and
-- the item that would help.
use Rattle.std.specs.Prelude.{ℕ, ◌==◌, Bool, true, false, List, [], ◌++◌, length, codes, decimal, Option, None, Some}
use Rattle.elf_model.specs.Explain.{MissingEntry}
use Rattle.elf_model.specs.Lines.{name_text}
use Rattle.elf_model.specs.NameTables.{relocation_type_text}
use Rattle.elf_model.specs.Names.{DisplayedName}
use Rattle.elf_model.specs.Names.DisplayedName.{Whole, Cut}
use Rattle.elf_model.specs.Numbers.{EM_X86_64}
use Rattle.elf_model.specs.declared.missing.LayoutAddress.{LayoutAddress}
use Rattle.elf_model.specs.declared.missing.LayoutAddress.TheVariants.{Place, Named, Entry}
use Rattle.elf_model.specs.declared.relocation_types.RelocationBase.{RelocationBase}
use Rattle.elf_model.specs.declared.relocation_types.RelocationBase.TheVariants.{Symbol, Linkage, Table, Thread}

-- there is no name
abbrev pub is_unnamed : DisplayedName → Bool
is_unnamed (Whole name) = length name == 0
is_unnamed (Cut front) = false

-- no item has this name: it is empty, or longer than the name of an item
abbrev has_no_item : DisplayedName → Bool
has_no_item (Whole name) = length name == 0
has_no_item (Cut front) = true

-- the relocation type, named as in a listing with the GNU names
unfoldable pub type_prefix : ℕ → List ℕ
type_prefix kind = codes "elfsee: " ++ relocation_type_text true EM_X86_64 kind

-- that, and the symbol's name if there is one
unfoldable pub entry_text : ℕ → DisplayedName → List ℕ
entry_text kind name =
    elim (is_unnamed name) [
      | true ↦ type_prefix kind ++ codes ": "
      | false ↦ (type_prefix kind ++ codes " to ") ++ (name_text name ++ codes ": ")
    ]

-- the item of a section
unfoldable pub place_text : ℕ → List ℕ
place_text section = codes "at:" ++ decimal section ++ codes "=ADDR would help\n"

-- the item of a name, by the word of its kind, and what follows it
abbrev pub item_text : List ℕ → List ℕ → List ℕ → List ℕ
item_text word name tail = (word ++ name) ++ tail

-- the item of a definition of a name
abbrev definition_text : List ℕ → List ℕ
definition_text name = item_text (codes "def:") name (codes "=ADDR would help\n")

-- the item of a name that gives the address of a base; L is S without an entry, so that a
-- definition would do too
unfoldable pub items_text : RelocationBase → List ℕ → List ℕ
items_text Symbol name = definition_text name
items_text Linkage name = item_text (codes "plt:") name (codes "=ADDR or ") ++ definition_text name
items_text Table name = item_text (codes "got:") name (codes "=ADDR would help\n")
items_text Thread name = item_text (codes "tpgot:") name (codes "=ADDR would help\n")

-- the item of a name that gives its procedure linkage table entry, if no definition would do
unfoldable pub entry_item_text : List ℕ → List ℕ
entry_item_text name = item_text (codes "plt:") name (codes "=ADDR would help\n")

-- some items of a name, if an item can have it
abbrev pub where_named : DisplayedName → List ℕ → List ℕ
where_named name items = elim (has_no_item name) [ true ↦ codes "no item can name it\n" | false ↦ items ]

-- the item that would help
unfoldable pub help_text : LayoutAddress → DisplayedName → List ℕ
help_text (Place section) name = place_text section
help_text (Named base) name = where_named name (items_text base (name_text name))
help_text Entry name = where_named name (entry_item_text (name_text name))

-- the line
unfoldable pub missing_line : MissingEntry → List ℕ
missing_line lack = entry_text lack.missing.kind lack.name ++ help_text lack.missing.wanted lack.name

-- what is printed of a refusal: that line, or nothing
abbrev pub explanation : Option MissingEntry → List ℕ
explanation None = []
explanation (Some lack) = missing_line lack
