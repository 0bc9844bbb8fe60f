-- The entry, and then what would help.
use Rattle.std.proofs.lemmas.Result.{err_from_is_err_and}
use Rattle.elf_model.specs.ExplainLine.{missing_line}
use Rattle.elf_source.proofs.PutsLaws.{SinkTakesPrefix-more}
use Rattle.elf_format.proofs.PutsSteps.{puts_then}
use Rattle.elf_format.proofs.lack_rows.show_missing.Goals as goal

pub returns-in_err-show_entry : goal.returns-in_err-show_entry
unfolding missing_line
returns-in_err-show_entry g c =
    let p = err_from_is_err_and c.from_residual.result c.from_residual.ensures.1 in
    let stopped = c.in_err-show_entry.ensures.puts in
    rw (p.1, p.2) (record { puts = (SinkTakesPrefix-more _ _ stopped.0, stopped.1) })

pub returns : goal.returns
unfolding missing_line
returns g c =
    let first = c.in_ok-show_entry.ensures.puts in
    record { puts = puts_then _ _ _ c.show_help.result first.0 c.show_help.ensures.puts }
