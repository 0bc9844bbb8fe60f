-- A link as a resolver has it.
use Rattle.std.specs.Prelude.{ℕ, ◌-◌, Bool, List, drop, map, take}
use Rattle.elf_model.specs.LinkInputs.{Linking, OpenArchive}
use Rattle.elf_model.specs.declared.link_states.IndexEntry.{IndexEntry}
use Rattle.elf_resolve.specs.declared.archives.OpenedArchive.{OpenedArchive}
use Rattle.elf_resolve.specs.declared.resolver.Resolver.{Resolver}

-- the elements of a list from an index to another
abbrev pub elements_in : {A : Type 0} → List A → ℕ × ℕ → List A
elements_in items range = take (range.1 - range.0) (drop range.0 items)

-- an archive, by the entries of all indexes, and whether each member of all archives is taken
abbrev pub open_archive : List IndexEntry → (taken : List Bool) → OpenedArchive → OpenArchive
open_archive entries taken archive = record {
  input = archive.input;
  row = archive.row;
  entries = elements_in entries archive.entries;
  taken = elements_in taken archive.members;
}

abbrev pub linking_of : Resolver → Linking
linking_of link = record {
  keys = link.link.keys.keys;
  rows = link.link.rows.rows;
  archives = map (open_archive link.tables.entries.items link.taken.items) link.tables.archives.items;
}
