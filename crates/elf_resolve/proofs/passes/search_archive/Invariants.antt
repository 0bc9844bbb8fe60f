use Rattle.std.proofs.Common.{◌≡◌}
use Rattle.elf_model.specs.LinkPasses.{archive_searched, untaken}
use Rattle.elf_resolve.specs.KeptLimits.{KeepsLimits}
use Rattle.elf_resolve.specs.Passing.{PassedTo, searched_archive, pass_of}
use Rattle.elf_resolve.proofs.SearchStopLaws.{AddedSoFar}
use Rattle.elf_resolve.specs.RowNames.{HeldNames}
use Rattle.elf_resolve.proofs.passes.search_archive.Given as goal

-- the passes that are left make the same of what is held as all passes make of what was held first
abbrev pub invariant-loop : goal.invariant-loop
invariant-loop g l =
    (g.M.ArchiveObjects.kept l.members ≡ g.M.ArchiveObjects.kept l.initial.members)
    × PassedTo (g.M.ArchiveObjects.members l.initial.members) (g.M.ArchiveObjects.members l.members) (g.M.ArchiveObjects.known l.initial.members) (g.M.ArchiveObjects.known l.members)
    (archive_searched (searched_archive l.archive (g.M.ArchiveObjects.members l.initial.members)) l.entries (pass_of l.initial.link l.initial.taken))
    (archive_searched (searched_archive l.archive (g.M.ArchiveObjects.members l.initial.members)) l.entries (pass_of l.link l.taken))
    × (g.M.ArchiveObjects.known l.initial.members → KeepsLimits l.initial.link.keys l.link.keys)
    × AddedSoFar (g.M.ArchiveObjects.known l.initial.members) (g.M.ArchiveObjects.refusal l.initial.members) (g.M.ArchiveObjects.refusal l.members) l.archive.input l.initial.link.rows.rows l.link.rows.rows
    × HeldNames l.archive.input (g.M.ArchiveObjects.known l.initial.members) (g.M.ArchiveObjects.named l.initial.members) (g.M.ArchiveObjects.named l.members)
    l.initial.link.rows.rows l.link.rows.rows (g.M.ArchiveObjects.names l.initial.members) (g.M.ArchiveObjects.names l.members)
    × (l.link.rows.most ≡ l.initial.link.rows.most)

abbrev pub decreases-loop : goal.decreases-loop
decreases-loop g l = untaken l.taken
