-- The word, the name and the tail are the item.
use Rattle.elf_format.proofs.LackText.{item_around}
use Rattle.elf_format.proofs.lack_rows.show_item.Goals as goal

pub returns : goal.returns
returns g c =
    record { puts = rw (item_around c.args.word.now c.args.name.now c.args.tail.now) (rw c.line_of.ensures.items at c.show_around.ensures.puts) }
