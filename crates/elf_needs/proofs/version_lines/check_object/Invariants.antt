-- The lines of the records before this one are written.
use Rattle.std.proofs.Common.{ℕ, List, get_or}
use Rattle.elf_needs.specs.Prelude.{AreObjectFiles, AsksAll}
use Rattle.elf_library.specs.Prelude.{LookupObjectState, StepsNeeds, need_records_left}
use Rattle.elf_needs.specs.VersionLines.{WalksVersions}
use Rattle.elf_needs.proofs.version_lines.check_object.Given as goal

abbrev pub invariant-needs : goal.invariant-needs
invariant-needs g l = record {
  asks : AsksAll l.fn.objects l.objects l.fn.left l.left;
  steps : (d : LookupObjectState) → StepsNeeds (get_or l.objects l.place d).src.seen.size l.walk;
  known : (headers : ℕ) (files : List (List ℕ)) → AreObjectFiles headers l.fn.objects files → WalksVersions files l.scope l.place l.walk l.fn.out l.out l.fails;
}

abbrev pub decreases-needs : goal.decreases-needs
decreases-needs g l = need_records_left l.walk
