-- The states of keys in their order, and what the symbols of one name make of them.
use Rattle.std.specs.Prelude.{◌≡◌, ℕ, ◌==◌, ◌||◌, ◌&&◌, nat_lt, if◌then◌else◌, Bool, false, List, [], ◌∷◌, None, bytes_eq}
use Rattle.elf_model.specs.LinkKeys.{LinkSymbol}
use Rattle.elf_model.specs.LinkSteps.{key_state_after, state_change}
use Rattle.elf_model.specs.declared.link_states.KeyState.{KeyState}
use Rattle.elf_model.specs.declared.link_states.KeyState.TheVariants.{New, Weak, Undefined, WeakDefined, Defined, Shared}
use Rattle.elf_model.specs.declared.link_states.KeyState.TheVariants as state
use Rattle.elf_model.specs.declared.link_states.SymbolRole.{SymbolRole}
use Rattle.elf_model.specs.declared.link_states.SymbolRole.TheVariants as role

-- the state of a key after a symbol, and after some
abbrev pub after : KeyState → SymbolRole → KeyState
after before r = key_state_after before (state_change before r)

abbrev pub after_all : KeyState → List SymbolRole → KeyState
after_all before [] = before
after_all before (r ∷ roles) = after_all (after before r) roles

-- what symbols of objects are, and what each makes of a key that no symbol has
abbrev pub IsOwn : SymbolRole → Type 0
IsOwn (role.Shared symbol) = ⊥
IsOwn _ = Unit {0}

abbrev pub AreOwn : List SymbolRole → Type 0
AreOwn [] = Unit {0}
AreOwn (r ∷ roles) = IsOwn r × AreOwn roles

abbrev pub alone : SymbolRole → KeyState
alone r = after New r

-- a state without shared libraries
abbrev pub IsOwnState : KeyState → Type 0
IsOwnState (Shared symbol) = ⊥
IsOwnState _ = Unit {0}

-- THE ORDER OF STATES: a definition, a common, a weak definition, a reference, a weak one; a larger
-- common is above a smaller one
abbrev pub rank : KeyState → ℕ
rank New = 0
rank Weak = 1
rank Undefined = 2
rank WeakDefined = 3
rank (state.Common size) = 4
rank Defined = 5
rank (Shared symbol) = 6

abbrev pub common_size : KeyState → ℕ
common_size (state.Common size) = size
common_size _ = 0

abbrev pub is_above_state : KeyState → KeyState → Bool
is_above_state a b = nat_lt (rank b) (rank a) || ((rank a == rank b) && nat_lt (common_size b) (common_size a))

-- a symbol of an object, of default visibility, without a default version
pub record IsPlainState (s : LinkSymbol) : Type 0 where
  pub one_name : s.default_name ≡ None
  pub unrestricted : s.symbol.restricted ≡ false
  pub own : IsOwn s.symbol.role

abbrev pub ArePlain : List LinkSymbol → Type 0
ArePlain [] = Unit {0}
ArePlain (s ∷ symbols) = IsPlainState s × ArePlain symbols

-- what the symbols of one name are
abbrev pub roles_of : List ℕ → List LinkSymbol → List SymbolRole
roles_of name [] = []
roles_of name (s ∷ symbols) = if bytes_eq name s.name then s.symbol.role ∷ roles_of name symbols else roles_of name symbols
