-- What unfolds the words of the examples, besides those of the definitions.
use Rattle.elf_examples.specs.Prelude.{counting, note_head, places_as_bytes}

unfoldable pub on_examples : Unit {0}
unfolding places_as_bytes note_head counting
on_examples = tt
