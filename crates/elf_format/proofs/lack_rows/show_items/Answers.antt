-- Each base has its items.
use Rattle.std.proofs.lemmas.Result.{err_from_is_err_and}
use Rattle.elf_model.specs.ExplainLine.{items_text}
use Rattle.elf_source.proofs.PutsLaws.{SinkTakesPrefix-more}
use Rattle.elf_format.proofs.PutsSteps.{puts_then}
use Rattle.elf_format.proofs.lack_rows.show_items.Goals as goal

pub returns-in_err-show_item-in-Linkage : goal.returns-in_err-show_item-in-Linkage
unfolding items_text
returns-in_err-show_item-in-Linkage g c =
    let p = err_from_is_err_and c.from_residual.result c.from_residual.ensures.1 in
    let stopped = c.in_err-show_item-in-Linkage.ensures.puts in
    rw (p.1, p.2, c.in-Linkage.is) (record { puts = (SinkTakesPrefix-more _ _ stopped.0, stopped.1) })

pub returns-in_ok-show_item-in-Linkage : goal.returns-in_ok-show_item-in-Linkage
unfolding items_text
returns-in_ok-show_item-in-Linkage g c =
    let first = c.in_ok-show_item-in-Linkage.ensures.puts in
    rw c.in-Linkage.is (record { puts = puts_then _ _ _ c.show_item-in-Linkage-2.result first.0 c.show_item-in-Linkage-2.ensures.puts })

pub returns-in-Table : goal.returns-in-Table
unfolding items_text
returns-in-Table g c = rw c.in-Table.is (record { puts = c.show_item-in-Table.ensures.puts })

pub returns-in-Thread : goal.returns-in-Thread
unfolding items_text
returns-in-Thread g c = rw c.in-Thread.is (record { puts = c.show_item-in-Thread.ensures.puts })
