use Rattle.std.proofs.Common.{refl, arith}
use Rattle.elf_resolve.proofs.EntryNames.{ended_name, unended_name}
use Rattle.elf_resolve.proofs.StringBufferLaws.{held_size}
use Rattle.elf_resolve.proofs.archive_index.entry_name.Goals as goal

pub returns-in-Ok : goal.returns-in-Ok
returns-in-Ok c = λ is held.
    let sized = held_size c.args.strings.now.bytes c.args.names is held in
    let found = c.in-Ok.ensures is held in
    ended_name c.args.strings.now.bytes is c.args.index 8 c.in-Ok.name found.0 (omega (arith, sized, c.if-index-names.false)) found.1 found.2

pub returns-in-Err : goal.returns-in-Err
returns-in-Err c = λ is held.
    let sized = held_size c.args.strings.now.bytes c.args.names is held in
    rw c.refused-in-Err.ensures (unended_name c.args.strings.now.bytes is c.args.index 8 c.in-Err.field-0 (omega (arith, sized, c.if-index-names.false)) (c.in-Err.ensures is held), refl)
