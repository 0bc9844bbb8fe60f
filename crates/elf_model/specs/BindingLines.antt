-- The lines of the symbols that the objects of a program reference.
use Rattle.std.specs.Prelude.{ℕ, [], ◌∷◌, ◌++◌, List, codes, Bool, true, false, Option, None, Some}
use Rattle.elf_model.specs.Fields.{Field, Fields, LinePrefix, closing, front}
use Rattle.elf_model.specs.Fields.Field.{Decimal, NameOrDecimal, ArgSpec}
use Rattle.elf_model.specs.Lines.{escaped, name_member, named_line}
use Rattle.elf_model.specs.Names.DisplayedName.{Whole}
use Rattle.elf_model.specs.Suffixes.{version_member}
use Rattle.elf_model.specs.Text.{newline}
use Rattle.elf_model.specs.declared.formats.Format.{Format}
use Rattle.elf_model.specs.declared.formats.Format.TheVariants.{Object}
use Rattle.elf_model.specs.declared.states.BindingState.{BindingState}
use Rattle.elf_model.specs.declared.states.BindingState.TheVariants as state

-- the word of a state
unfoldable pub binding_state_name : BindingState → List ℕ
binding_state_name (state.Bound object symbol) = codes "bound"
binding_state_name state.Weak = codes "weak"
binding_state_name state.Unbound = codes "unbound"
binding_state_name state.NoVersion = codes "nover"
binding_state_name (state.Refused object) = codes "refused"

-- the state of a symbol that no object defines, if the object of its requested version lacks that
-- one, or not
abbrev pub unbound_state : (weak lacks : Bool) → BindingState
unbound_state true lacks = state.Weak
unbound_state false true = state.NoVersion
unbound_state false false = state.Unbound

-- a symbol is missing, so that the program does not start, or its state is not known
abbrev pub is_unbound : BindingState → Bool
is_unbound (state.Bound object symbol) = false
is_unbound state.Weak = false
is_unbound _ = true

-- an object or a symbol by its index, or a hyphen
abbrev pub object_field : Option ℕ → Field
object_field None = NameOrDecimal (codes "definer") 5 (Some (codes "-")) 0
object_field (Some object) = NameOrDecimal (codes "definer") 5 None object

abbrev pub definition_field : Option ℕ → Field
definition_field None = NameOrDecimal (codes "definition") 10 (Some (codes "-")) 0
definition_field (Some symbol) = NameOrDecimal (codes "definition") 10 None symbol

-- the object that defines it, or in which the lookup is refused, and the symbol there
abbrev pub definer_fields : BindingState → List Field
definer_fields (state.Bound object symbol) = object_field (Some object) ∷ definition_field (Some symbol) ∷ []
definer_fields (state.Refused object) = object_field (Some object) ∷ definition_field None ∷ []
definer_fields _ = object_field None ∷ definition_field None ∷ []

-- a symbol that an object references: both by their indexes, its state, and what defines it
abbrev pub binding_fields : (object symbol : ℕ) → BindingState → Fields
binding_fields object symbol found = record {
  letter = codes "B";
  fields = Decimal (codes "object") 5 object ∷ Decimal (codes "symbol") 10 symbol ∷ ArgSpec (codes "state") 8 (binding_state_name found) ∷ definer_fields found;
}

-- its line up to its name
unfoldable pub binding_front : Format → (object symbol : ℕ) → BindingState → LinePrefix
binding_front format object symbol found = front format (codes "name") (binding_fields object symbol found)

-- a line that ends in a name, followed by `@` and the requested version; in an object that is a
-- member of its own
unfoldable pub line_requested : Format → (key text name version : List ℕ) → List ℕ
line_requested Object key text name version = text ++ (name_member key (Whole name) ++ version_member (Whole version) ++ closing Object)
line_requested _ key text name version = text ++ (escaped name ++ codes "@" ++ escaped version ++ newline)

abbrev pub requested_line : LinePrefix → (name : List ℕ) → (version : Option (List ℕ)) → List ℕ
requested_line front name None = named_line front (Whole name)
requested_line front name (Some version) = line_requested front.format front.key front.text name version

-- THE LINE OF A SYMBOL that an object references, with its name and the requested version
abbrev pub binding_line : Format → (object symbol : ℕ) → BindingState → (name : List ℕ) → (version : Option (List ℕ)) → List ℕ
binding_line format object symbol found name version = requested_line (binding_front format object symbol found) name version
