-- What passes over the index of an archive do.
use Rattle.std.specs.Prelude.{ℕ, ◌≡◌, ◌≤◌, List, Bool, Some}
use Rattle.elf_model.specs.LinkObjects.{LinkObject, object_taken}
use Rattle.elf_model.specs.LinkPasses.{ArchiveMembers, ArchivePass, LinkArchive, untaken}
use Rattle.elf_resolve.specs.KeyTables.{KeyList}
use Rattle.elf_resolve.specs.declared.passes.ArchiveInput.{ArchiveInput}
use Rattle.elf_resolve.specs.declared.passes.Link.{Link}

-- what a link and the taken members of an archive hold
abbrev pub pass_of : Link → List Bool → ArchivePass
pass_of link taken = record { keys = link.keys.keys; rows = link.rows.rows; taken = taken }

-- an archive by its members
abbrev pub searched_archive : ArchiveInput → ArchiveMembers → LinkArchive
searched_archive archive members = record { input = archive.input; row = archive.row; members = members }

-- an object was taken, of a row
pub record TookObject (object : LinkObject) (old new : KeyList) (row : ℕ) : Type 0 where
  pub keys : new.keys ≡ object_taken (Some row) old.keys object
  pub most : new.most ≡ old.most
  pub most_further : new.most_further ≡ old.most_further

-- ONE PASS MOVES ANOTHER, whatever members are: of the members not fewer are taken, and if not more,
-- the keys are what they were
pub record Moved (old new : ArchivePass) : Type 0 where
  pub fewer : untaken new.taken ≤ untaken old.taken
  pub still : untaken new.taken ≡ untaken old.taken → new.keys ≡ old.keys

-- members are what they were; and if they were known, they are, and this is what some entries, or
-- passes, make of what was held
pub record PassedTo (before after : ArchiveMembers) (were_known are_known : Type 0) (made now : ArchivePass) : Type 0 where
  pub same : after ≡ before
  pub known : were_known → are_known
  pub holds : were_known → now ≡ made
