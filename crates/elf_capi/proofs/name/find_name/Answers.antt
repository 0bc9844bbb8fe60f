use Rattle.std.proofs.Common.{◌∙◌}
use Rattle.elf_capi.proofs.FoundNames.{named_there}
use Rattle.elf_capi.proofs.name.find_name.Goals as goal

pub returns-in-Some : goal.returns-in-Some
returns-in-Some c =
    named_there c.args.file.now c.args.strings c.args.offset c.in-Some.len c.bytes_of-table.result.now c.bytes_of-table.ensures.bytes c.if-offset-table.false
    (c.find_nul.ensures.first ∙ c.in-Some.is)
