-- A link without shared libraries, as a resolver has it at its end.
use Rattle.std.specs.Prelude.{◌≡◌, ℕ, List, length, get_or, Option, None, Some}
use Rattle.std.specs.List.{slice_get}
use Rattle.elf_model.specs.LinkLines.{FileNames}
use Rattle.elf_model.specs.Names.DisplayedName.{Whole}
use Rattle.elf_model.specs.declared.link_states.LinkRow.{LinkRow}
use Rattle.elf_resolve.specs.EntryRows.{AreConsecutive}
use Rattle.elf_resolve.specs.KeyChains.{HasLists, first_number}
use Rattle.elf_resolve.specs.KeyFinds.{entry_held}
use Rattle.elf_resolve.specs.KeyLists.{entry_numbers, further_places}
use Rattle.elf_resolve.specs.KeyStates.{IsOwnState}
use Rattle.elf_resolve.specs.MemberNames.{RowName, RowsAscend, name_of_row_in}
use Rattle.elf_resolve.specs.declared.resolver.Resolver.{Resolver}

-- its keys, and the lists by keys of the entries of indexes and of the further definitions
pub record AreKeysListed (link : Resolver) : Type 0 where
  pub own : (key : ℕ) → IsOwnState (entry_held link key).state
  pub spare : (key : ℕ) → first_number link.spare.chains key ≡ None
  pub further : HasLists link.further 0 (λ key. further_places key 0 link.link.keys.keys.further)
  pub offers : HasLists link.offers 0 (λ key. entry_numbers key 0 link.tables.entries.items)
  pub archives : AreConsecutive 0 link.tables.archives.items (length link.tables.entries.items)

-- THE NAMES of its files: the path of an input is known, and a member's name is the one that is held
-- for its row
abbrev pub IsNameOfRow : (text : ℕ → Option (List ℕ)) → FileNames → List RowName → (index input : ℕ) → (member : Option ℕ) → Type 0
IsNameOfRow text names held index input None = (bytes : List ℕ) × (text input ≡ Some bytes) × (names.path input ≡ Whole bytes)
IsNameOfRow text names held index input (Some member) = names.member input member ≡ name_of_row_in held index

pub record AreRowsNamed (text : ℕ → Option (List ℕ)) (names : FileNames) (link : Resolver) : Type 0 where
  pub kinds : (index : ℕ) → get_or link.kinds.items index None ≡ None
  pub ascend : RowsAscend link.room.names
  pub named : (index : ℕ) (row : LinkRow) → slice_get link.link.rows.rows index ≡ Some row → IsNameOfRow text names link.room.names index row.input row.member
