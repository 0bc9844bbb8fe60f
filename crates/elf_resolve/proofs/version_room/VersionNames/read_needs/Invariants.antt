use Rattle.std.proofs.Common.{◌≡◌, ◌+◌, ◌≤◌, ℕ, List, []}
use Rattle.std.specs.Prelude.{None}
use Rattle.elf_model.specs.declared.versions.VersionKind.TheVariants.{File}
use Rattle.elf_resolve.specs.LibraryVersions.{version_names}
use Rattle.elf_resolve.specs.VersionWalks.{HoldsVersionNames, HoldsVersions, WalksNames}
use Rattle.elf_resolve.proofs.version_room.VersionNames.read_needs.Given as goal

abbrev pub invariant-loop : goal.invariant-loop
invariant-loop l = record {
  defined : l.self.defined ≡ l.initial.self.defined;
  fewer : l.left + l.counter ≤ l.most;
  walks : (file : List ℕ) (at : ℕ) → HoldsVersions file l.strings.bytes at l.table → HoldsVersionNames l.strings.bytes l.initial.self.needed.items []
      → WalksNames file l.strings.bytes at File 0 None (version_names File file at) [] l.left l.self.needed.items l.next;
}
