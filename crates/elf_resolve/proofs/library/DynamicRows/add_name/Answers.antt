-- The name of a library that is needed is not refused.
use Rattle.elf_model.specs.Tables.{strings_of}
use Rattle.elf_resolve.proofs.LibraryEntryLaws.{needed_named}
use Rattle.elf_resolve.proofs.library.DynamicRows.add_name.Goals as goal

pub returns-in_err-name : goal.returns-in_err-name
returns-in_err-name c = λ file at index before after held is step.
    absurd (needed_named file at index c.args.entry is c.args.strings.now.bytes before after c.in_err-name.field-0.0 step c.if-entry-ne-DT_NEEDED.false (c.in_err-name.ensures (strings_of file at) held.strings))
