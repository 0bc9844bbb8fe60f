-- What unfolds the words of the examples of images, besides those of the definitions.
use Rattle.elf_examples.specs.ExamplesImage.{first_words, image_of, items_with}
use Rattle.elf_examples.specs.ExamplesImageTypes.{all_items, base_alone, typed_entry, lines_of_missing, types_met, writes_in_second}

unfoldable pub on_images : Unit {0}
unfolding all_items base_alone typed_entry first_words image_of items_with lines_of_missing types_met writes_in_second
on_images = tt
