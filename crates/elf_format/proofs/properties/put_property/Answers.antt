-- The words of the bits after the title.
use Rattle.std.proofs.Common.{◌++◌, append_assoc}
use Rattle.std.specs.Prelude.{codes}
use Rattle.elf_model.specs.Prelude.{field, property_words, separator}
use Rattle.elf_model.specs.NoteLines.{x86_features, x86_levels}
use Rattle.elf_format.specs.Properties.{property_of}
use Rattle.elf_format.proofs.ContentLaws.{property_features, property_levels}
use Rattle.elf_format.proofs.properties.put_property.Goals as goal

pub returns-in-3221225474-clause-items : goal.returns-in-3221225474-clause-items
unfolding x86_features
returns-in-3221225474-clause-items c =
    rw (c.put_bits.ensures.items, c.append.ensures.items, c.put_separator.ensures.items, c.word_at.ensures, property_features (property_of c.args.property.now) c.if-property-ne4.false c.in-3221225474.is)
    (append_assoc (c.args.text.now.items ++ separator (codes "; ") c.args.is_first) (codes "x86 feature: ") (property_words x86_features (field c.args.property.now.content.now 0 4)))

pub returns-in-3221258242-clause-items : goal.returns-in-3221258242-clause-items
unfolding x86_levels
returns-in-3221258242-clause-items c =
    rw (c.put_bits-in-3221258242.ensures.items, c.append-in-3221258242.ensures.items, c.put_separator.ensures.items, c.word_at-in-3221258242.ensures, property_levels (property_of c.args.property.now) c.if-property-ne4.false c.in-3221258242.is)
    (append_assoc (c.args.text.now.items ++ separator (codes "; ") c.args.is_first) (codes "x86 ISA: ") (property_words x86_levels (field c.args.property.now.content.now 0 4)))
