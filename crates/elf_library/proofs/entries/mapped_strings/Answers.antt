-- The address and the size, and the segment that loads the strings.
use Rattle.elf_table.proofs.Absent.{none-of}
use Rattle.elf_library.proofs.LinkLaws.{strings_found, strings_nowhere, strings_unsized}
use Rattle.elf_library.proofs.entries.mapped_strings.Goals as goal

pub returns-in_default-clause-tells : goal.returns-in_default-clause-tells
returns-in_default-clause-tells c = λ file views.
    let none = none-of _ c.in_default.not-Some in
    rw (c.refused.ensures, none) (strings_nowhere file _ _)

pub returns-in_default-size-clause-tells : goal.returns-in_default-size-clause-tells
returns-in_default-size-clause-tells c = λ file views.
    let none = none-of _ c.in_default-size.not-Some in
    rw (c.refused-in_default-size.ensures, c.in-Some.is, none) (strings_unsized file _ _)

pub returns-clause-tells : goal.returns-clause-tells
returns-clause-tells c = λ file views.
    rw (c.in-Some.is, c.in-Some-size.is) (strings_found file _ _ _ _ (c.mapped.ensures.held file views))
