-- Links without shared libraries, by their keys.
use Rattle.std.specs.Prelude.{ℕ, List, [], ◌∷◌, length}
use Rattle.elf_model.specs.LinkInputs.{Linking, OpenArchive}
use Rattle.elf_model.specs.LinkKeys.{LinkKeys}
use Rattle.elf_model.specs.declared.link_states.KeyEntry.{KeyEntry}
use Rattle.elf_resolve.specs.KeyLists.{AreKeyedEntries, AreKeyedFurther}
use Rattle.elf_resolve.specs.KeyStates.{IsOwnState}

-- the state of each entry is an own one
abbrev pub AreOwnEntries : List KeyEntry → Type 0
AreOwnEntries [] = Unit {0}
AreOwnEntries (e ∷ entries) = IsOwnState e.state × AreOwnEntries entries

-- keys without shared libraries: that of each is, and further definitions are of keys
pub record AreOwnKeys (keys : LinkKeys) : Type 0 where
  pub own : AreOwnEntries keys.entries
  pub further : AreKeyedFurther (length keys.names) keys.further

-- the entries of archives are of keys
abbrev pub AreKeyedArchives : (keys : ℕ) → List OpenArchive → Type 0
AreKeyedArchives keys [] = Unit {0}
AreKeyedArchives keys (archive ∷ archives) = AreKeyedEntries keys archive.entries × AreKeyedArchives keys archives

-- A LINK WITHOUT SHARED LIBRARIES
pub record IsOwnLink (link : Linking) : Type 0 where
  pub keys : AreOwnKeys link.keys
  pub archives : AreKeyedArchives (length link.keys.names) link.archives
