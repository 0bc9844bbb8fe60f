-- The parts of the line, one after another.
use Rattle.std.proofs.lemmas.Result.{err_from_is_err_and}
use Rattle.elf_source.proofs.PutsLaws.{SinkTakesPrefix-more, SinkTakesPrefix-then}
use Rattle.elf_format.proofs.PutsSteps.{puts_then}
use Rattle.elf_format.proofs.object_tree_rows.show_in_tree.Goals as goal

pub returns-in_err-show_indentation : goal.returns-in_err-show_indentation
returns-in_err-show_indentation g c =
    let p = err_from_is_err_and c.from_residual-in_err-show_indentation.result c.from_residual-in_err-show_indentation.ensures.1 in
    let first = c.in_ok-show_index.ensures.puts in
    let stopped = c.in_err-show_indentation.ensures.puts in
    rw (p.1, p.2) (record { puts = (SinkTakesPrefix-then _ _ first.0 (SinkTakesPrefix-more _ _ stopped.0), stopped.1) })

pub returns-in_err-show_name : goal.returns-in_err-show_name
returns-in_err-show_name g c =
    let p = err_from_is_err_and c.from_residual-in_err-show_name.result c.from_residual-in_err-show_name.ensures.1 in
    let first = c.in_ok-show_index.ensures.puts in
    let second = c.in_ok-show_indentation.ensures.puts in
    let stopped = c.in_err-show_name.ensures.puts in
    rw (p.1, p.2) (record { puts = (SinkTakesPrefix-then _ _ first.0 (SinkTakesPrefix-then _ _ second.0 (SinkTakesPrefix-more _ _ stopped.0)), stopped.1) })

pub returns : goal.returns
returns g c =
    let first = c.in_ok-show_index.ensures.puts in
    let second = c.in_ok-show_indentation.ensures.puts in
    let third = c.in_ok-show_name.ensures.puts in
    let last = puts_then _ _ _ c.show_path_end.result third.0 c.show_path_end.ensures.puts in
    record { puts = puts_then _ _ _ c.show_path_end.result first.0 (puts_then _ _ _ c.show_path_end.result second.0 last) }
