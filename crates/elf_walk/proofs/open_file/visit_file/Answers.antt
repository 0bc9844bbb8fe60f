-- What is reported of the source is reported of the file.
use Rattle.std.proofs.Common.{inr}
use Rattle.elf_walk.proofs.open_file.visit_file.Goals as goal

pub returns : goal.returns
returns g c = inr (record { before = c.whole-source.result; after = c.report_source-reported.new.src; unasked = c.whole-source.ensures.unasked; source = rw c.put_pages.ensures (rw c.take_pages.ensures at (rw c.as_bytes-2.ensures.value at c.report_source-reported.ensures)) })
