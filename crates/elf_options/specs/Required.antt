-- Required traits, as the definitions have them.
use Rattle.std.specs.Prelude.{List, map}
use Rattle.elf_model.specs.TraitWords.{Required}
use Rattle.elf_options.specs.declared.required.RequiredTrait.{RequiredTrait}

abbrev pub required_word : RequiredTrait → Required
required_word required = record { column = required.column; word = required.word.now }

abbrev pub required_words : List RequiredTrait → List Required
required_words required = map required_word required
