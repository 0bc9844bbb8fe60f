-- What an object is to a link: its section groups, of which those are dropped whose signature is
-- known (gABI 4, Section Groups), and its symbols.
use Rattle.std.specs.Prelude.{ℕ, ◌==◌, if◌then◌else◌, Bool, true, false, List, [], ◌∷◌, ◌++◌, map, Option, None, Some}
use Rattle.std.specs.List.{list_any}
use Rattle.elf_model.specs.LinkKeys.{LinkKeys, LinkSymbol, entered, entry_named_as, key_index, symbols_taken, with_entry}
use Rattle.elf_model.specs.declared.link_states.KeyEntry.{KeyEntry}
use Rattle.elf_model.specs.declared.link_states.SymbolRole.{SymbolRole}
use Rattle.elf_model.specs.declared.link_states.SymbolRole.TheVariants.{WeakReference, Reference, WeakDefinition, Definition}

-- A SECTION GROUP of which only one is kept: its signature, and its sections; or a link-once section,
-- whose signature is its name
pub record SectionGroup : Type 0 where
  pub signature : List ℕ
  pub is_link_once : Bool
  pub sections : List ℕ

-- a symbol of an object, and the section that it is defined in, if it is
pub record ObjectSymbol : Type 0 where
  pub symbol : LinkSymbol
  pub section : Option ℕ

-- a section whose name is an identifier of C, and its index: a linker makes symbols of its start and
-- its end
pub record NamedSection : Type 0 where
  pub name : List ℕ
  pub index : ℕ

-- AN OBJECT: its groups in the order of its sections, its sections with such names, and its symbols
pub record LinkObject : Type 0 where
  pub groups : List SectionGroup
  pub sections : List NamedSection
  pub symbols : List ObjectSymbol

-- one of that signature is kept; groups and link-once sections do not count for each other
abbrev pub is_kept : (is_link_once : Bool) → KeyEntry → Bool
is_kept is_link_once entry = if is_link_once then entry.is_link_once else entry.is_group

abbrev pub kept : (is_link_once : Bool) → KeyEntry → KeyEntry
kept true entry = record entry { is_link_once = true }
kept false entry = record entry { is_group = true }

unfoldable pub signature_kept : LinkKeys → ℕ → (is_link_once : Bool) → LinkKeys
signature_kept keys index is_link_once = with_entry keys index (kept is_link_once (entry_named_as keys index))

-- THE DROPPED SECTIONS: keys, and the sections of the groups that are dropped
pub record DroppedSections : Type 0 where
  pub keys : LinkKeys
  pub sections : List ℕ

abbrev pub group_taken : DroppedSections → SectionGroup → DroppedSections
group_taken before group =
    let keys = entered before.keys group.signature in
    let index = key_index before.keys group.signature in
    record {
      keys = signature_kept keys index group.is_link_once;
      sections = if is_kept group.is_link_once (entry_named_as keys index) then before.sections ++ group.sections else before.sections;
    }

abbrev pub groups_taken : DroppedSections → List SectionGroup → DroppedSections
groups_taken before [] = before
groups_taken before (group ∷ groups) = groups_taken (group_taken before group) groups

-- a section that is not dropped is noted at the key of its name
abbrev pub is_dropped : List ℕ → Option ℕ → Bool
is_dropped sections None = false
is_dropped sections (Some section) = list_any (λ other. other == section) sections

unfoldable pub name_noted : LinkKeys → List ℕ → LinkKeys
name_noted keys name =
    let now = entered keys name in
    let index = key_index keys name in
    with_entry now index (record (entry_named_as now index) { is_section = true })

abbrev pub section_noted : (dropped : List ℕ) → LinkKeys → NamedSection → LinkKeys
section_noted dropped keys section = if is_dropped dropped (Some section.index) then keys else name_noted keys section.name

abbrev pub sections_noted : (dropped : List ℕ) → LinkKeys → List NamedSection → LinkKeys
sections_noted dropped keys [] = keys
sections_noted dropped keys (section ∷ sections) = sections_noted dropped (section_noted dropped keys section) sections

-- a definition in a dropped section is a reference with its binding
abbrev pub reference_role : SymbolRole → SymbolRole
reference_role WeakDefinition = WeakReference
reference_role Definition = Reference
reference_role other = other

abbrev pub dropped_symbol : LinkSymbol → LinkSymbol
dropped_symbol s = record {
  name = s.name;
  default_name = None;
  symbol = record { role = reference_role s.symbol.role; restricted = s.symbol.restricted; dropped = true; of_library = s.symbol.of_library; absolute = None };
}

unfoldable pub symbol_without : (sections : List ℕ) → ObjectSymbol → LinkSymbol
symbol_without sections s = if is_dropped sections s.section then dropped_symbol s.symbol else s.symbol

-- AN OBJECT TAKEN, of a row: its groups, the names of its sections, and its symbols
unfoldable pub object_taken : (row : Option ℕ) → LinkKeys → LinkObject → LinkKeys
object_taken row keys object =
    let groups = groups_taken (record { keys = keys; sections = [] }) object.groups in
    symbols_taken row (sections_noted groups.sections groups.keys object.sections) (map (symbol_without groups.sections) object.symbols)
