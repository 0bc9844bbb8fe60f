use Rattle.std.proofs.Common.{◌≡◌, take}
use Rattle.elf_model.specs.LinkPasses.{index_passed}
use Rattle.elf_resolve.specs.KeptLimits.{KeepsLimits}
use Rattle.elf_resolve.specs.Passing.{Moved, PassedTo, searched_archive, pass_of}
use Rattle.elf_resolve.proofs.SearchStopLaws.{AddedSoFar}
use Rattle.elf_resolve.specs.RowNames.{HeldNames}
use Rattle.elf_resolve.proofs.passes.pass_index.Given as goal

abbrev pub invariant-loop-i : goal.invariant-loop-i
invariant-loop-i g l =
    Moved (pass_of l.initial.link l.initial.taken) (pass_of l.link l.taken)
    × PassedTo (g.M.ArchiveObjects.members l.initial.members) (g.M.ArchiveObjects.members l.members) (g.M.ArchiveObjects.known l.initial.members) (g.M.ArchiveObjects.known l.members)
    (index_passed (searched_archive l.archive (g.M.ArchiveObjects.members l.initial.members)) (pass_of l.initial.link l.initial.taken) (take l.i l.entries)) (pass_of l.link l.taken)
    × (g.M.ArchiveObjects.kept l.members ≡ g.M.ArchiveObjects.kept l.initial.members)
    × (g.M.ArchiveObjects.known l.initial.members → KeepsLimits l.initial.link.keys l.link.keys)
    × AddedSoFar (g.M.ArchiveObjects.known l.initial.members) (g.M.ArchiveObjects.refusal l.initial.members) (g.M.ArchiveObjects.refusal l.members) l.archive.input l.initial.link.rows.rows l.link.rows.rows
    × HeldNames l.archive.input (g.M.ArchiveObjects.known l.initial.members) (g.M.ArchiveObjects.named l.initial.members) (g.M.ArchiveObjects.named l.members)
    l.initial.link.rows.rows l.link.rows.rows (g.M.ArchiveObjects.names l.initial.members) (g.M.ArchiveObjects.names l.members)
    × (l.link.rows.most ≡ l.initial.link.rows.most)
