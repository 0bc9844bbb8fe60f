use Rattle.std.proofs.Common.{ℕ, ◌≡◌, ◌-◌, ◌<◌, ◌^◌, List, length}
use Rattle.std.specs.Prelude.{Some}
use Rattle.elf_archive.specs.Members.{extent_of_names}
use Rattle.elf_source.specs.Prelude.{KeepsSource}
use Rattle.elf_resolve.proofs.MemberPasses.{PassedSoFar}
use Rattle.elf_resolve.proofs.archives.ArchiveTables.pass_members.Given as goal

abbrev pub invariant-loop-at : goal.invariant-loop-at
invariant-loop-at g l = record {
  keeps : KeepsSource l.initial.src.seen l.src.seen;
  archives : l.self.archives ≡ l.initial.self.archives;
  entries : l.self.entries ≡ l.initial.self.entries;
  limit : l.self.most ≡ l.initial.self.most;
  most : l.src.most ≡ l.initial.src.most;
  passed : (file : List ℕ) → l.initial.src.seen.file ≡ Some file → length file < 2 ^ 63 → PassedSoFar file l.initial.self.members.items l.self.members.items l.at (extent_of_names l.names);
}

abbrev pub decreases-loop-at : goal.decreases-loop-at
decreases-loop-at g l = l.fn.src.seen.size - l.at
