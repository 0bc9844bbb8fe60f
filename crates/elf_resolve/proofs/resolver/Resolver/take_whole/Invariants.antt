use Rattle.std.proofs.Common.{◌≡◌, ℕ, List, drop}
use Rattle.std.specs.Prelude.{Some}
use Rattle.elf_model.specs.LinkArchives.{LinkFiles, link_members, whole_members}
use Rattle.elf_model.specs.LinkInputs.{members_taken}
use Rattle.elf_resolve.specs.EndsAtRefusal.{NoneRefused}
use Rattle.elf_resolve.specs.LinkMembers.{file_of_range}
use Rattle.elf_resolve.specs.NamedRows.{KeepsRowNames}
use Rattle.elf_resolve.specs.OpenedArchives.{HasMembers}
use Rattle.elf_resolve.specs.Resolved.{linking_of}
use Rattle.elf_resolve.specs.ResolvedInputs.{TookMembers}
use Rattle.elf_resolve.proofs.resolver.Resolver.take_whole.Given as goal

-- the members that are left make of the link what all of them make of the first
abbrev pub invariant-loop-number : goal.invariant-loop-number
invariant-loop-number g l =
    (l.src.seen.whole ≡ l.initial.src.seen.whole)
    × ((file : List ℕ) → file_of_range l.initial.src.seen ≡ Some file → HasMembers file l.initial.self.tables.members.items l.archive
    → TookMembers l.initial.self l.self (linking_of l.self)
    × (members_taken l.archive.input l.archive.row (linking_of l.self) (whole_members file l.number (drop l.number (link_members file).members) l.initial.self.room.headers)
    ≡ members_taken l.archive.input l.archive.row (linking_of l.initial.self) (whole_members file 0 (link_members file).members l.initial.self.room.headers)))
    × ((files : LinkFiles) (file : List ℕ) → file_of_range l.initial.src.seen ≡ Some file → HasMembers file l.initial.self.tables.members.items l.archive → files.headers ≡ l.initial.self.room.headers → files.file l.archive.input ≡ Some file
    → NoneRefused files l.initial.self.link.rows.rows → NoneRefused files l.self.link.rows.rows)
    × ((files : LinkFiles) (file : List ℕ) → files.file l.archive.input ≡ Some file → file_of_range l.initial.src.seen ≡ Some file → HasMembers file l.initial.self.tables.members.items l.archive → KeepsRowNames files l.initial.self l.self)
    × (l.src.most ≡ l.initial.src.most)
