-- The entry of the GNU hash table, otherwise that of the SysV one.
use Rattle.elf_table.proofs.Absent.{none-of}
use Rattle.elf_hash.proofs.SegmentLaws.{tells_gnu, tells_none, tells_sysv}
use Rattle.elf_hash.proofs.by_segments.hash_entry.Goals as goal

pub returns-in-Some : goal.returns-in-Some
returns-in-Some c = λ bytes at are. tells_gnu bytes at c.args.found.now _ are c.in-Some.is

pub returns-in_default-hash : goal.returns-in_default-hash
returns-in_default-hash c = λ bytes at are.
    tells_none bytes at c.args.found.now are (none-of c.args.found.now.gnu_hash c.in_default.not-Some) (none-of c.args.found.now.hash c.in_default-hash.not-Some)

pub returns : goal.returns
returns c = λ bytes at are. tells_sysv bytes at c.args.found.now _ are (none-of c.args.found.now.gnu_hash c.in_default.not-Some) c.in-Some-hash.is
