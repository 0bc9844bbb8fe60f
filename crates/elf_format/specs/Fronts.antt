-- The part of a line before its name, in the terms of the model.
use Rattle.elf_model.specs.Fields.{LinePrefix}
use Rattle.elf_format.specs.declared.fields.LinePrefix.{LinePrefix as Built}

abbrev pub front_of : Built → LinePrefix
front_of built = record { format = built.format; key = built.key.now; text = built.line.items }
