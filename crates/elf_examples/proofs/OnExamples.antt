-- What unfolds the words of the examples, besides those of the definitions.
use Rattle.elf_model.specs.Checking.{file_status_name, check_front, unnamed_line}
use Rattle.elf_examples.specs.ListedOrder.{with_counts, every_table}

unfoldable pub on_examples : Unit {0}
unfolding with_counts every_table file_status_name check_front unnamed_line
on_examples = tt
