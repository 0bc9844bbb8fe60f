-- What a link says of a key, by its state.
use Rattle.std.specs.Prelude.{ℕ, Bool, true, false, List, codes, not, if◌then◌else◌}
use Rattle.elf_model.specs.declared.link_states.KeyState.{KeyState}
use Rattle.elf_model.specs.declared.link_states.KeyState.TheVariants.{New, Weak, Undefined, WeakDefined, Defined, Shared}
use Rattle.elf_model.specs.declared.link_states.KeyState.TheVariants as state
use Rattle.elf_resolve.specs.declared.key_states.FoundState.{FoundState}
use Rattle.elf_resolve.specs.declared.key_states.FoundState.TheVariants as found

-- its word, in the line of the key
abbrev pub found_word : FoundState → List ℕ
found_word found.Defined = codes "defined"
found_word found.WeakDefined = codes "weakdef"
found_word found.Common = codes "common"
found_word found.Shared = codes "shared"
found_word found.Multiple = codes "multiple"
found_word found.Order = codes "order"
found_word found.Undefined = codes "undef"
found_word found.Weak = codes "weak"
found_word found.Linker = codes "linker"
found_word found.Unused = codes "unused"

-- a fault of the link
abbrev pub is_fault_state : FoundState → Bool
is_fault_state found.Multiple = true
is_fault_state found.Order = true
is_fault_state found.Undefined = true
is_fault_state _ = false

-- lines follow of the archives that have the key, and of the files that define it once more
abbrev pub has_offer_lines : FoundState → Bool
has_offer_lines found.Order = true
has_offer_lines found.Undefined = true
has_offer_lines found.Weak = true
has_offer_lines _ = false

abbrev pub is_multiple_state : FoundState → Bool
is_multiple_state found.Multiple = true
is_multiple_state _ = false

-- WHAT A LINK SAYS of a key: of one that is not defined, and of any
abbrev pub undefined_state : (is_referenced is_made is_available : Bool) → FoundState
undefined_state is_referenced is_made is_available =
    if is_made then found.Linker
    else if not is_referenced then found.Unused
    else if is_available then found.Order
    else found.Undefined

abbrev pub found_state : KeyState → (is_multiple is_referenced is_made is_available : Bool) → FoundState
found_state Defined is_multiple is_referenced is_made is_available = if is_multiple then found.Multiple else found.Defined
found_state WeakDefined is_multiple is_referenced is_made is_available = found.WeakDefined
found_state (state.Common size) is_multiple is_referenced is_made is_available = found.Common
found_state (Shared symbol) is_multiple is_referenced is_made is_available = found.Shared
found_state Undefined is_multiple is_referenced is_made is_available = undefined_state is_referenced is_made is_available
found_state New is_multiple is_referenced is_made is_available = if is_made then found.Linker else found.Weak
found_state Weak is_multiple is_referenced is_made is_available = if is_made then found.Linker else found.Weak
