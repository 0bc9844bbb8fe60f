use Rattle.std.proofs.Common.{ℕ, ◌≡◌, List, drop}
use Rattle.std.specs.Prelude.{map}
use Rattle.std.specs.List.Sorted.{IsStrictlyIncreasing}
use Rattle.elf_model.specs.LinkArchives.{LinkMember}
use Rattle.elf_resolve.specs.ArchiveIndexes.{HoldsIndex}
use Rattle.elf_resolve.specs.ListRooms.{KeepsWithin}
use Rattle.elf_resolve.specs.Taken.{header_of}
use Rattle.elf_resolve.proofs.IndexPasses.{EnteredSoFar}
use Rattle.elf_resolve.proofs.archive_index.enter_index.Given as goal

abbrev pub invariant-loop-index : goal.invariant-loop-index
invariant-loop-index l = record {
  buffer : l.strings.bytes ≡ l.initial.strings.bytes;
  members : l.tables.members ≡ l.initial.tables.members;
  archives : l.tables.archives ≡ l.initial.tables.archives;
  within : KeepsWithin l.initial.tables l.tables;
  entered : (bytes : List ℕ) (start : ℕ) (members : List LinkMember) → HoldsIndex l.initial.strings.bytes bytes start l.parts → drop l.first l.initial.tables.members.items ≡ map header_of members
      → IsStrictlyIncreasing (map header_of members)
      → EnteredSoFar members bytes start l.parts.width l.parts.count l.index l.name l.initial.keys l.keys l.initial.tables.entries.items l.tables.entries.items;
}
