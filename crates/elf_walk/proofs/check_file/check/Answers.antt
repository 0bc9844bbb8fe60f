-- The state does not depend on which rows are shown.
use Rattle.elf_walk.proofs.UnshownLaws.{checks}
use Rattle.elf_walk.proofs.check_file.check.Goals as goal

pub returns : goal.returns
returns g c = checks c.args.caps c.without_rows.result c.args.parts.0 c.without_rows.ensures c.check_rows.ensures
