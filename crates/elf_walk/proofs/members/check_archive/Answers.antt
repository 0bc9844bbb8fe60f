-- The state does not depend on which rows are shown.
use Rattle.elf_walk.proofs.UnshownLaws.{checks_archive}
use Rattle.elf_walk.proofs.members.check_archive.Goals as goal

pub returns : goal.returns
returns g c = checks_archive c.args.caps c.without_rows.result c.args.parts.0 c.without_rows.ensures c.check_member_rows.ensures
