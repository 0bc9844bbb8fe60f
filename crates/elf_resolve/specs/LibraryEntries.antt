-- The library's own name by its dynamic entries, up to the first refusal (gABI 5, Dynamic Section).
use Rattle.std.specs.Prelude.{ℕ, zero, suc, ◌≡◌, ◌<◌, ◌==◌, ◌&&◌, is_none, if◌then◌else◌, List, Option, None, Some, Result, Ok, Err}
use Rattle.elf_model.specs.LinkArchives.{refusal_of}
use Rattle.elf_model.specs.LinkSymbols.{link_name}
use Rattle.elf_model.specs.Numbers.{DT_NEEDED, DT_NULL, DT_SONAME}
use Rattle.elf_model.specs.Records.{d_tag, d_un}
use Rattle.elf_model.specs.Tables.{DYNAMIC_SIZE, entry_at, entry_count, strings_of}
use Rattle.elf_model.specs.declared.link_states.LinkRefusal.{LinkRefusal}
use Rattle.elf_resolve.specs.ObjectSymbols.{HoldsSome}
use Rattle.elf_resolve.specs.VersionWalks.{IsRecordRefusal}
use Rattle.elf_resolve.specs.declared.library.DynamicEntry.{DynamicEntry}
use Rattle.elf_resolve.specs.declared.link_faults.LinkFault.{LinkFault}
use Rattle.elf_resolve.specs.declared.string_buffer.HeldText.{HeldText}

-- the name that an entry at an offset gives, in the strings of the section whose header is at another
abbrev pub entry_name : List ℕ → (at entry : ℕ) → Result (List ℕ) LinkRefusal
entry_name file at entry = link_name (strings_of file at) (d_un file entry) entry

abbrev pub own_named : Result (List ℕ) LinkRefusal → Result (Option (List ℕ)) LinkRefusal
own_named (Ok name) = Ok (Some name)
own_named (Err refusal) = Err refusal

abbrev pub own_kept : (own : Option (List ℕ)) → Result (List ℕ) LinkRefusal → Result (Option (List ℕ)) LinkRefusal
own_kept own (Ok name) = Ok own
own_kept own (Err refusal) = Err refusal

-- THE OWN NAME after an entry is the first one that an entry gives; the names of needed libraries are
-- read too, so that none is refused later
abbrev pub own_step : List ℕ → (at entry : ℕ) → (own : Option (List ℕ)) → Result (Option (List ℕ)) LinkRefusal
own_step file at entry own =
    if d_tag file entry == DT_SONAME && is_none own then own_named (entry_name file at entry)
    else if d_tag file entry == DT_NEEDED then own_kept own (entry_name file at entry)
    else Ok own

-- by this many entries from an index on
unfoldable pub own_name_from : List ℕ → (at index count : ℕ) → (own : Option (List ℕ)) → Result (Option (List ℕ)) LinkRefusal
own_name_from file at index zero own = Ok own
own_name_from file at index (suc count) own =
    if d_tag file (entry_at file at DYNAMIC_SIZE index) == DT_NULL then Ok own
    else elim (own_step file at (entry_at file at DYNAMIC_SIZE index) own) [
      | Ok next ↦ own_name_from file at (suc index) count next
      | Err refusal ↦ Err refusal
    ]

abbrev pub own_name : List ℕ → (at : ℕ) → Result (Option (List ℕ)) LinkRefusal
own_name file at = own_name_from file at 0 (entry_count file at DYNAMIC_SIZE) None

-- AN ENTRY of an index is found, unless it marks the end
pub record IsDynamicEntry (file : List ℕ) (at index : ℕ) (entry : DynamicEntry) : Type 0 where
  pub below : index < entry_count file at DYNAMIC_SIZE
  pub tag_is : entry.tag ≡ d_tag file (entry_at file at DYNAMIC_SIZE index)
  pub value_is : entry.value ≡ d_un file (entry_at file at DYNAMIC_SIZE index)
  pub at_is : entry.at ≡ entry_at file at DYNAMIC_SIZE index
  pub some : d_tag file (entry_at file at DYNAMIC_SIZE index) ≡ DT_NULL → ⊥

abbrev pub FindsDynamicEntry : List ℕ → (at index : ℕ) → Option DynamicEntry → Type 0
FindsDynamicEntry file at index None = index < entry_count file at DYNAMIC_SIZE → d_tag file (entry_at file at DYNAMIC_SIZE index) ≡ DT_NULL
FindsDynamicEntry file at index (Some entry) = IsDynamicEntry file at index entry

-- THE OWN NAME is found, if there is one, or an entry is refused
abbrev pub FindsOwnName : Result (Option (List ℕ)) LinkRefusal → (bytes : List ℕ) → Result (Option HeldText) LinkFault → Type 0
FindsOwnName known bytes (Ok text) = (own : Option (List ℕ)) × (known ≡ Ok own) × HoldsSome bytes text own
FindsOwnName known bytes (Err fault) = IsRecordRefusal (refusal_of known) fault
