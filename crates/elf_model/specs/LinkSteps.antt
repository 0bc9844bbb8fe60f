-- What a symbol of a file changes in the state of its key, as GNU ld for x86-64 resolves symbols.
use Rattle.std.specs.Prelude.{ℕ, nat_lt, max, not, ◌&&◌, if◌then◌else◌, Bool, true, false}
use Rattle.elf_model.specs.declared.link_states.KeyState.{KeyState}
use Rattle.elf_model.specs.declared.link_states.KeyState.TheVariants.{New, Weak, Undefined, WeakDefined, Defined, Shared}
use Rattle.elf_model.specs.declared.link_states.KeyState.TheVariants as state
use Rattle.elf_model.specs.declared.link_states.SharedDefinition.{SharedDefinition}
use Rattle.elf_model.specs.declared.link_states.SharedKind.{SharedKind}
use Rattle.elf_model.specs.declared.link_states.SharedKind.TheVariants.{Function, NoBits, Absolute}
use Rattle.elf_model.specs.declared.link_states.StateChange.{StateChange}
use Rattle.elf_model.specs.declared.link_states.StateChange.TheVariants.{Stays, Multiple, Enlarged, BecomesState}
use Rattle.elf_model.specs.declared.link_states.SymbolRole.{SymbolRole}
use Rattle.elf_model.specs.declared.link_states.SymbolRole.TheVariants.{WeakReference, Reference, Common, WeakDefinition, Definition}
use Rattle.elf_model.specs.declared.link_states.SymbolRole.TheVariants as role

-- a weak reference, and a reference: of a key that no symbol has, or that is only weakly referenced
abbrev pub weakly_referenced : KeyState → StateChange
weakly_referenced New = BecomesState Weak
weakly_referenced _ = Stays

abbrev pub referenced : KeyState → StateChange
referenced New = BecomesState Undefined
referenced Weak = BecomesState Undefined
referenced _ = Stays

-- a common replaces a shared definition that is weak, a function or without bytes in its file; of
-- these the larger size counts
abbrev pub common_over_shared : SharedKind → (weak : Bool) → (size : ℕ) → StateChange
common_over_shared Function weak size = BecomesState (state.Common size)
common_over_shared (NoBits other) weak size = BecomesState (state.Common (max size other))
common_over_shared _ weak size = if weak then BecomesState (state.Common size) else Stays

-- of two commons the larger counts, and the first of equal ones
abbrev pub common_over : KeyState → (size : ℕ) → StateChange
common_over (state.Common other) size = if nat_lt other size then BecomesState (state.Common size) else Stays
common_over Defined size = Stays
common_over (Shared symbol) size = common_over_shared symbol.kind symbol.weak size
common_over _ size = BecomesState (state.Common size)

-- a definition replaces a shared one; an absolute shared one counts as an object's
abbrev pub weak_over_shared : SharedKind → StateChange
weak_over_shared Absolute = Stays
weak_over_shared _ = BecomesState WeakDefined

abbrev pub weak_over : KeyState → StateChange
weak_over (state.Common size) = Stays
weak_over WeakDefined = Stays
weak_over Defined = Stays
weak_over (Shared symbol) = weak_over_shared symbol.kind
weak_over _ = BecomesState WeakDefined

abbrev pub defined_over_shared : SharedKind → (weak : Bool) → StateChange
defined_over_shared Absolute weak = if weak then BecomesState Defined else Multiple
defined_over_shared _ weak = BecomesState Defined

abbrev pub defined_over : KeyState → StateChange
defined_over Defined = Multiple
defined_over (Shared symbol) = defined_over_shared symbol.kind symbol.weak
defined_over _ = BecomesState Defined

-- a definition of a shared library replaces a common, unless it is weak, a function or without bytes
-- in its file
abbrev pub shared_over_common : SharedDefinition → SharedKind → (size : ℕ) → StateChange
shared_over_common symbol Function size = Stays
shared_over_common symbol (NoBits other) size = if nat_lt size other then Enlarged other else Stays
shared_over_common symbol _ size = BecomesState (Shared symbol)

abbrev pub shared_over : KeyState → SharedDefinition → StateChange
shared_over New symbol = BecomesState (Shared symbol)
shared_over Weak symbol = BecomesState (Shared symbol)
shared_over Undefined symbol = BecomesState (Shared symbol)
shared_over (state.Common size) symbol = if symbol.weak then Stays else shared_over_common symbol symbol.kind size
shared_over _ symbol = Stays

-- WHAT A SYMBOL CHANGES IN A STATE
abbrev pub state_change : KeyState → SymbolRole → StateChange
state_change before WeakReference = weakly_referenced before
state_change before Reference = referenced before
state_change before (Common size) = common_over before size
state_change before WeakDefinition = weak_over before
state_change before Definition = defined_over before
state_change before (role.Shared symbol) = shared_over before symbol

-- the state after a change of a state
abbrev pub key_state_after : KeyState → StateChange → KeyState
key_state_after before Stays = before
key_state_after before Multiple = before
key_state_after before (Enlarged size) = state.Common size
key_state_after before (BecomesState made) = made

-- a definition ends at a key that is defined: the key without the version is not changed either
abbrev pub is_absolute : SharedKind → Bool
is_absolute Absolute = true
is_absolute _ = false

abbrev pub ends_weak_definition : KeyState → Bool
ends_weak_definition WeakDefined = true
ends_weak_definition Defined = true
ends_weak_definition (Shared symbol) = is_absolute symbol.kind
ends_weak_definition _ = false

abbrev pub ends_definition : KeyState → Bool
ends_definition Defined = true
ends_definition (Shared symbol) = is_absolute symbol.kind && not symbol.weak
ends_definition _ = false

abbrev pub ends_at : KeyState → SymbolRole → Bool
ends_at before WeakDefinition = ends_weak_definition before
ends_at before Definition = ends_definition before
ends_at before _ = false
