-- When the definitions of a shared library make it needed.
use Rattle.std.specs.Prelude.{ℕ, ◌≡◌, ◌-◌, ◌||◌, if◌then◌else◌, Bool, true, false, List, [], ◌∷◌, Option, None, Some, Result, Ok, Err}
use Rattle.elf_model.specs.LinkArchives.{refusal_of}
use Rattle.elf_model.specs.LinkKeys.{LinkKeys, LinkSymbol, entry_named, entry_named_as, key_change, key_in}
use Rattle.elf_model.specs.LinkSymbols.{followed}
use Rattle.elf_model.specs.declared.link_states.KeyEntry.{KeyEntry}
use Rattle.elf_model.specs.declared.link_states.KeyState.{KeyState}
use Rattle.elf_model.specs.declared.link_states.KeyState.TheVariants.{WeakDefined, Defined}
use Rattle.elf_model.specs.declared.link_states.KeyState.TheVariants as state
use Rattle.elf_model.specs.declared.link_states.LinkRefusal.{LinkRefusal}
use Rattle.elf_model.specs.declared.link_states.SharedDefinition.{SharedDefinition}
use Rattle.elf_model.specs.declared.link_states.StateChange.{StateChange}
use Rattle.elf_model.specs.declared.link_states.StateChange.TheVariants.{BecomesState}
use Rattle.elf_model.specs.declared.link_states.SymbolRole.{SymbolRole}
use Rattle.elf_model.specs.declared.link_states.SymbolRole.TheVariants.{Shared}
use Rattle.elf_resolve.specs.KeyMarks.{NotedKeys, mark_of}
use Rattle.elf_resolve.specs.LibraryKeys.{LibraryVersions, library_symbols_from}
use Rattle.elf_resolve.specs.LibrarySymbols.{library_use}
use Rattle.elf_resolve.specs.Taken.{IsLinkFault}
use Rattle.elf_resolve.specs.declared.key_marks.KeyMark.{KeyMark}
use Rattle.elf_resolve.specs.declared.library_needs.LibraryNeed.{LibraryNeed}
use Rattle.elf_resolve.specs.declared.link_faults.LinkFault.{LinkFault}

-- no one needs a library, and who does by one or another definition
abbrev pub no_need : LibraryNeed
no_need = record { by_objects = false; by_libraries = false }

abbrev pub joined_need : LibraryNeed → LibraryNeed → LibraryNeed
joined_need need other = record { by_objects = need.by_objects || other.by_objects; by_libraries = need.by_libraries || other.by_libraries }

-- a definition of a shared library becomes the state of a key
abbrev pub becomes : StateChange → Bool
becomes (BecomesState made) = true
becomes _ = false

abbrev pub takes_definition : KeyEntry → SharedDefinition → Bool
takes_definition entry definition = becomes (key_change entry (library_use (Shared definition)))

-- WHO NEEDS A DEFINITION of a name: who references its key, if the definition becomes its state
abbrev pub need_by : KeyMark → LibraryNeed
need_by mark = record { by_objects = mark.is_strong; by_libraries = mark.is_library_strong }

abbrev pub key_need : Option ℕ → LinkKeys → NotedKeys → SharedDefinition → LibraryNeed
key_need None keys marks definition = no_need
key_need (Some key) keys marks definition =
    if takes_definition (entry_named_as keys key) definition then need_by (mark_of marks key) else no_need

abbrev pub name_need : LinkKeys → NotedKeys → List ℕ → SharedDefinition → LibraryNeed
name_need keys marks name definition = key_need (key_in keys.names name) keys marks definition

-- a name is defined
abbrev pub is_defined_state : KeyState → Bool
is_defined_state WeakDefined = true
is_defined_state Defined = true
is_defined_state (state.Shared definition) = true
is_defined_state _ = false

abbrev pub is_defined_name : LinkKeys → List ℕ → Bool
is_defined_name keys name = is_defined_state (entry_named keys name).state

-- WHO NEEDS A DEFINITION of a default version: no one if its name without the version is defined
abbrev pub default_need : LinkKeys → NotedKeys → (name default : List ℕ) → SharedDefinition → LibraryNeed
default_need keys marks name default definition =
    if is_defined_name keys default then no_need
    else joined_need (name_need keys marks name definition) (name_need keys marks default definition)

-- the key of a name, if there is a name
abbrev pub key_of_default : LinkKeys → Option (List ℕ) → Option ℕ
key_of_default keys None = None
key_of_default keys (Some name) = key_in keys.names name

-- WHO NEEDS A LIBRARY by one of its symbols: only a definition makes it needed
abbrev pub need_of_names : LinkKeys → NotedKeys → (name : List ℕ) → (default_name : Option (List ℕ)) → SharedDefinition → LibraryNeed
need_of_names keys marks name None definition = name_need keys marks name definition
need_of_names keys marks name (Some default) definition = default_need keys marks name default definition

abbrev pub need_of_role : LinkKeys → NotedKeys → (name : List ℕ) → (default_name : Option (List ℕ)) → SymbolRole → LibraryNeed
need_of_role keys marks name default_name (Shared definition) = need_of_names keys marks name default_name definition
need_of_role keys marks name default_name _ = no_need

abbrev pub need_of_symbol : LinkKeys → NotedKeys → LinkSymbol → LibraryNeed
need_of_symbol keys marks s = need_of_role keys marks s.name s.default_name s.symbol.role

-- by these symbols too
abbrev pub needs_joined : LinkKeys → NotedKeys → LibraryNeed → List LinkSymbol → LibraryNeed
needs_joined keys marks need [] = need
needs_joined keys marks need (s ∷ symbols) = needs_joined keys marks (joined_need need (need_of_symbol keys marks s)) symbols

-- WHO NEEDS A LIBRARY is found, or a symbol is refused
abbrev pub FindsNeed : Result (List LinkSymbol) LinkRefusal → LinkKeys → NotedKeys → Result LibraryNeed LinkFault → Type 0
FindsNeed known keys marks (Ok need) = (symbols : List LinkSymbol) × (known ≡ Ok symbols) × (need ≡ needs_joined keys marks no_need symbols)
FindsNeed known keys marks (Err fault) = IsLinkFault (refusal_of known) fault

-- it is found by the symbols up to an index of a table
abbrev pub NeededRows : (file : List ℕ) → LibraryVersions → (table_at first index count : ℕ) → LinkKeys → NotedKeys → LibraryNeed → Type 0
NeededRows file versions table_at first index count keys marks need =
    (done : List LinkSymbol) × (library_symbols_from file versions table_at first (count - first) ≡ followed done (library_symbols_from file versions table_at index (count - index)))
    × (need ≡ needs_joined keys marks no_need done)
