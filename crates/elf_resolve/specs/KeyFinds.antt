-- What a resolver finds of its keys.
use Rattle.std.specs.Prelude.{ℕ, ◌||◌, if◌then◌else◌, Bool, [], get_or, is_some}
use Rattle.elf_model.specs.LinkKeys.{entry_named_as}
use Rattle.elf_model.specs.LinkLines.{linker_defines, reference_of}
use Rattle.elf_model.specs.declared.link_states.KeyEntry.{KeyEntry}
use Rattle.elf_resolve.specs.FoundStates.{found_state, undefined_state}
use Rattle.elf_resolve.specs.KeyChains.{first_number}
use Rattle.elf_resolve.specs.LinkerNames.{output_of}
use Rattle.elf_resolve.specs.declared.key_states.FoundState.{FoundState}
use Rattle.elf_resolve.specs.declared.key_states.FoundState.TheVariants as found
use Rattle.elf_resolve.specs.declared.resolver.Resolver.{Resolver}

-- by an entry, what the link says of its key: of one that is not defined, and of any
abbrev pub state_undefined : Resolver → (key : ℕ) → KeyEntry → (is_asked : Bool) → FoundState
state_undefined link key entry is_asked =
    let is_made = linker_defines (output_of link.output) link.link.keys.keys (get_or link.link.keys.keys.names key []) in
    if is_asked then undefined_state (is_some (reference_of entry)) is_made (is_some (first_number link.offers key) || is_some (first_number link.spare.chains key))
    else if is_made then found.Linker else found.Weak

abbrev pub state_found : Resolver → (key : ℕ) → KeyEntry → FoundState
state_found link key entry =
    found_state entry.state (is_some (first_number link.further key)) (is_some (reference_of entry))
    (linker_defines (output_of link.output) link.link.keys.keys (get_or link.link.keys.keys.names key []))
    (is_some (first_number link.offers key) || is_some (first_number link.spare.chains key))

abbrev pub entry_held : Resolver → (key : ℕ) → KeyEntry
entry_held link key = entry_named_as link.link.keys.keys key
