-- What examples of trees compute.
use Rattle.std.specs.Fmt.{digits}
use Rattle.elf_model.specs.Prelude.{cause_word, digit, escaped, hex, name_byte_text, right_decimal, right_in, short_hex, without_zeros}
use Rattle.elf_format.specs.NeededObjects.{found_by_name, found_by_note, indentation, index_text, path_end, refusal_note, state_note}
use Rattle.elf_needs.specs.Trees.{places_under}

unfoldable pub on_trees : Unit {0}
unfolding digits cause_word digit escaped hex name_byte_text right_decimal right_in short_hex without_zeros found_by_name found_by_note indentation index_text path_end refusal_note state_note places_under
on_trees = tt
