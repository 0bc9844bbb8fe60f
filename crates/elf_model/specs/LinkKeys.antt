-- The keys of a link, which are the names under which it finds symbols, and what the symbols of a
-- file make of them.
use Rattle.std.specs.Prelude.{ℕ, ◌+◌, ◌==◌, ◌&&◌, ◌||◌, not, if◌then◌else◌, Bool, true, false, List, [], ◌∷◌, ◌++◌, length, get_or, position, is_some, Option, None, Some, bytes_eq}
use Rattle.std.proofs.Math.ListN.{set}
use Rattle.elf_model.specs.LinkSteps.{ends_at, state_change}
use Rattle.elf_model.specs.declared.link_states.FurtherDefinition.{FurtherDefinition}
use Rattle.elf_model.specs.declared.link_states.KeyEntry.{KeyEntry}
use Rattle.elf_model.specs.declared.link_states.KeyState.{KeyState}
use Rattle.elf_model.specs.declared.link_states.KeyState.TheVariants.{New, Undefined, Shared}
use Rattle.elf_model.specs.declared.link_states.KeyState.TheVariants as state
use Rattle.elf_model.specs.declared.link_states.StateChange.{StateChange}
use Rattle.elf_model.specs.declared.link_states.StateChange.TheVariants.{Stays, Multiple, Enlarged, BecomesState}
use Rattle.elf_model.specs.declared.link_states.SymbolRole.{SymbolRole}
use Rattle.elf_model.specs.declared.link_states.SymbolRole.TheVariants.{WeakReference, Reference}
use Rattle.elf_model.specs.declared.link_states.SymbolRole.TheVariants as role
use Rattle.elf_model.specs.declared.link_states.SymbolUse.{SymbolUse}

-- a key that no symbol has
abbrev pub new_key : KeyEntry
new_key = record {
  state = New;
  row = None;
  reference = None;
  weak_reference = None;
  absolute = None;
  is_met = false;
  is_own = false;
  is_asked = false;
  is_gone = false;
  is_restricted = false;
  is_group = false;
  is_link_once = false;
  is_section = false;
}

-- THE KEYS OF A LINK: their names, and what is known of each; the indexes of those that a symbol or
-- an argument has named, in the order in which they were first named; how many have been asked for;
-- and further definitions of keys that were defined already
pub record LinkKeys : Type 0 where
  pub names : List (List ℕ)
  pub entries : List KeyEntry
  pub order : List ℕ
  pub asked : ℕ
  pub further : List FurtherDefinition

abbrev pub no_keys : LinkKeys
no_keys = record { names = []; entries = []; order = []; asked = 0; further = [] }

-- the index of a name, if it is a key
abbrev pub key_in : List (List ℕ) → List ℕ → Option ℕ
key_in names name = position (bytes_eq name) names

-- the keys with a name among them, whose index is the next one if it is new
abbrev pub entered_at : Option ℕ → LinkKeys → List ℕ → LinkKeys
entered_at None keys name = record keys { names = keys.names ++ name ∷ []; entries = keys.entries ++ new_key ∷ [] }
entered_at (Some index) keys name = keys

unfoldable pub entered : LinkKeys → List ℕ → LinkKeys
entered keys name = entered_at (key_in keys.names name) keys name

abbrev pub index_or : Option ℕ → ℕ → ℕ
index_or None next = next
index_or (Some index) next = index

unfoldable pub key_index : LinkKeys → List ℕ → ℕ
key_index keys name = index_or (key_in keys.names name) (length keys.names)

-- what is known of the key of an index, and of a name
abbrev pub entry_named_as : LinkKeys → ℕ → KeyEntry
entry_named_as keys index = get_or keys.entries index new_key

abbrev pub key_entry : Option ℕ → LinkKeys → KeyEntry
key_entry None keys = new_key
key_entry (Some index) keys = entry_named_as keys index

unfoldable pub entry_named : LinkKeys → List ℕ → KeyEntry
entry_named keys name = key_entry (key_in keys.names name) keys

-- keys with another entry for the key of an index
abbrev pub with_entry : LinkKeys → ℕ → KeyEntry → LinkKeys
with_entry keys index entry = record keys { entries = set keys.entries index entry }

-- the first of two rows
abbrev pub first_row : Option ℕ → Option ℕ → Option ℕ
first_row None later = later
first_row (Some row) later = Some row

-- BEFORE AN OBJECT'S SYMBOL OF ANOTHER VISIBILITY THAN DEFAULT a shared definition is removed
abbrev pub removed : (is_asked : Bool) → KeyState → KeyState
removed is_asked (Shared symbol) = if is_asked then Undefined else New
removed is_asked before = before

abbrev pub prepared : KeyEntry → SymbolUse → KeyEntry
prepared entry symbol = if symbol.restricted then record entry { state = removed entry.is_asked entry.state; is_restricted = true } else entry

-- a key that has such a symbol takes no shared definition
abbrev pub is_shared : SymbolRole → Bool
is_shared (role.Shared symbol) = true
is_shared _ = false

abbrev pub key_change : KeyEntry → SymbolUse → StateChange
key_change entry symbol = if entry.is_restricted && is_shared symbol.role then Stays else state_change entry.state symbol.role

-- a state that is made asks for a definition: the key becomes undefined, or a common of which no
-- symbol was met before
abbrev pub asks_after : KeyState → (made : KeyState) → Bool
asks_after before Undefined = true
asks_after New (state.Common size) = true
asks_after before _ = false

-- an entry after a change
abbrev pub key_changed : KeyEntry → SymbolUse → (row : Option ℕ) → StateChange → KeyEntry
key_changed entry symbol row Stays = entry
key_changed entry symbol row Multiple = entry
key_changed entry symbol row (Enlarged size) = record entry { state = state.Common size }
key_changed entry symbol row (BecomesState made) =
    record entry { state = made; row = row; absolute = symbol.absolute; is_asked = entry.is_asked || asks_after entry.state made }

-- the row is the first that references the key, weakly or not; neither a dropped definition nor a
-- shared library counts
abbrev pub references_by : SymbolUse → SymbolRole → (row : Option ℕ) → KeyEntry → KeyEntry
references_by symbol Reference row entry = if symbol.dropped || symbol.of_library then entry else record entry { reference = first_row entry.reference row }
references_by symbol WeakReference row entry = if symbol.dropped || symbol.of_library then entry else record entry { weak_reference = first_row entry.weak_reference row }
references_by symbol _ row entry = entry

-- what else is noted of a key: that it is met, and if by a file that is no shared library, that it is
-- its own
abbrev pub noted : SymbolUse → (row : Option ℕ) → KeyEntry → KeyEntry
noted symbol row entry = record entry {
  is_met = true;
  is_own = entry.is_own || (is_some row && not symbol.of_library);
  is_gone = entry.is_gone || symbol.dropped;
}

-- A KEY USED by a symbol of a row
unfoldable pub used : KeyEntry → SymbolUse → (row : Option ℕ) → KeyEntry
used entry symbol row =
    let before = prepared entry symbol in
    noted symbol row (references_by symbol symbol.role row (key_changed before symbol row (key_change before symbol)))

-- two absolute definitions of one value are one
abbrev pub is_same_value : Option ℕ → Option ℕ → Bool
is_same_value (Some value) (Some other) = value == other
is_same_value _ _ = false

-- a symbol defines a key once more
abbrev pub is_multiple : StateChange → Bool
is_multiple Multiple = true
is_multiple _ = false

abbrev pub is_further : KeyEntry → SymbolUse → Bool
is_further entry symbol =
    let before = prepared entry symbol in
    is_multiple (key_change before symbol) && not (is_same_value before.absolute symbol.absolute)

abbrev pub further_after : List FurtherDefinition → (index : ℕ) → (row : Option ℕ) → (is_one : Bool) → List FurtherDefinition
further_after further index row is_one = if is_one then further ++ record { key = index; row = row } ∷ [] else further

abbrev pub order_after : List ℕ → (index : ℕ) → (is_met : Bool) → List ℕ
order_after order index is_met = if is_met then order else order ++ index ∷ []

-- one more key is asked for
abbrev pub references_after : ℕ → (before after : KeyEntry) → ℕ
references_after asked before after = if after.is_asked && not before.is_asked then asked + 1 else asked

unfoldable pub key_used : LinkKeys → ℕ → SymbolUse → (row : Option ℕ) → LinkKeys
key_used keys index symbol row =
    let entry = entry_named_as keys index in
    let after = used entry symbol row in
    record {
      names = keys.names;
      entries = set keys.entries index after;
      order = order_after keys.order index entry.is_met;
      asked = references_after keys.asked entry after;
      further = further_after keys.further index row (is_further entry symbol);
    }

-- a name used
unfoldable pub name_used : (row : Option ℕ) → LinkKeys → List ℕ → SymbolUse → LinkKeys
name_used row keys name symbol = key_used (entered keys name) (key_index keys name) symbol row

-- A SYMBOL OF A FILE: its name, with its version if it has one; the name without the version if that
-- is the default one; and how it uses them
pub record LinkSymbol : Type 0 where
  pub name : List ℕ
  pub default_name : Option (List ℕ)
  pub symbol : SymbolUse

-- the name without the version comes second, unless the symbol ends at the first
abbrev pub default_used : (row : Option ℕ) → LinkKeys → Option (List ℕ) → SymbolUse → (ends : Bool) → LinkKeys
default_used row keys None symbol ends = keys
default_used row keys (Some name) symbol ends = if ends then keys else name_used row keys name symbol

-- A SYMBOL TAKEN, of a row
unfoldable pub symbol_taken : (row : Option ℕ) → LinkKeys → LinkSymbol → LinkKeys
symbol_taken row keys s =
    default_used row (name_used row keys s.name s.symbol) s.default_name s.symbol
    (ends_at (prepared (entry_named keys s.name) s.symbol).state s.symbol.role)

-- the symbols of a file, in order
abbrev pub symbols_taken : (row : Option ℕ) → LinkKeys → List LinkSymbol → LinkKeys
symbols_taken row keys [] = keys
symbols_taken row keys (s ∷ symbols) = symbols_taken row (symbol_taken row keys s) symbols
