use Rattle.std.proofs.Common.{◌≡◌, ◌-◌, ◌/◌, ℕ, List, []}
use Rattle.std.specs.Prelude.{None}
use Rattle.elf_model.specs.declared.versions.VersionKind.TheVariants.{Definition}
use Rattle.elf_resolve.specs.LibraryVersions.{version_names}
use Rattle.elf_resolve.specs.VersionWalks.{HoldsVersionNames, HoldsVersions, WalksNames}
use Rattle.elf_resolve.proofs.version_room.VersionNames.read_definitions.Given as goal

abbrev pub invariant-loop : goal.invariant-loop
invariant-loop l = record {
  needed : l.self.needed ≡ l.initial.self.needed;
  walks : (file : List ℕ) (at : ℕ) → HoldsVersions file l.strings.bytes at l.table → HoldsVersionNames l.strings.bytes l.initial.self.defined.items []
      → WalksNames file l.strings.bytes at Definition 0 None (version_names Definition file at) [] (l.table.records.size / 20 - l.counter) l.self.defined.items l.next;
}
