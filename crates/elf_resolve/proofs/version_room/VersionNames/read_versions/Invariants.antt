use Rattle.std.proofs.Common.{◌≡◌, ◌-◌, ℕ, List}
use Rattle.std.specs.Prelude.{Some}
use Rattle.elf_model.specs.Records.{sh_offset}
use Rattle.elf_model.specs.declared.versions.VersionKind.TheVariants.{Need}
use Rattle.elf_resolve.specs.LibraryVersions.{NumberedName}
use Rattle.elf_resolve.specs.VersionWalks.{HoldsVersionNames, HoldsVersions, IsRecordPlace, WalksNames, after_file, names_from, state_at}
use Rattle.elf_resolve.proofs.version_room.VersionNames.read_versions.Given as goal

abbrev pub invariant-loop-count : goal.invariant-loop-count
invariant-loop-count l = record {
  defined : l.self.defined ≡ l.initial.self.defined;
  walks : (file : List ℕ) (at owner p from : ℕ) (names : List NumberedName) → HoldsVersions file l.strings.bytes at l.table → IsRecordPlace (sh_offset file at) p from l.fn.first
      → HoldsVersionNames l.strings.bytes l.initial.self.needed.items names
      → WalksNames file l.strings.bytes at Need owner (after_file file at owner) (names_from file at (Some (state_at Need owner p from)) l.left) names (l.left - l.count) l.self.needed.items l.next;
}
