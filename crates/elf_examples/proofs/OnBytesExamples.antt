-- What unfolds the words of the examples, besides those of the definitions.
use Rattle.elf_model.specs.Prelude.{bytes_ceiling, bytes_cost, first_section_named, queried_range, range_in, range_of_name, range_of_section, range_of_segment, section_named_from}

unfoldable pub on_examples : Unit {0}
unfolding bytes_ceiling bytes_cost first_section_named queried_range range_in range_of_name range_of_section range_of_segment section_named_from
on_examples = tt
