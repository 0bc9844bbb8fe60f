-- The length passes, so the result is that of the identification's checks.
use Rattle.std.proofs.Common.{sym, ◌∙◌}
use Rattle.elf_capi.proofs.CheckedLaws.{header_checked}
use Rattle.elf_capi.proofs.checked.checked_header.Goals as goal

pub returns-in-None : goal.returns-in-None
returns-in-None c =
    header_checked c.args.file.now c.check.result (sym c.refused_length.ensures ∙ c.in-None.is) (c.check.ensures.in_file c.args.file.now c.chunk_at.ensures)
