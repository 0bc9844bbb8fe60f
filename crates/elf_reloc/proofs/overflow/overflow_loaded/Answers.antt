-- The section of entries, and the value there.
use Rattle.std.proofs.Common.{Option, sym, subst, arith}
use Rattle.elf_model.specs.Prelude.{OverflowEntry, section_at}
use Rattle.elf_table.proofs.Absent.{none-of}
use Rattle.elf_table.proofs.LedgerLaws.{CallDid-as, CallDid-none}
use Rattle.elf_reloc.specs.Overflowed.{OverflowLoaded}
use Rattle.elf_reloc.proofs.OverflowLaws.{nowhere, somewhere}
use Rattle.elf_reloc.proofs.overflow.overflow_loaded.Goals as goal

pub returns-in_default : goal.returns-in_default
returns-in_default g c =
    let none = none-of c.entries_at.result c.in_default.not-Some in
    CallDid-as _ (omega arith) (CallDid-none c.args.src.now)
    (λ bytes read costs belongs. sym (nowhere bytes c.args.refused.section c.args.layout.now c.args.refused.at (rw none at (c.entries_at.ensures.found bytes belongs))))

pub returns : goal.returns
returns g c =
    CallDid-as _ (omega arith) c.overflow_at.ensures
    (λ bytes read costs belongs.
    let found = c.in-Some.ensures.found bytes belongs in
    subst (λ (entry : Option OverflowEntry). OverflowLoaded entry c.overflow_at.result c.overflow_at.new.name)
    (sym (somewhere bytes c.args.refused.section c.args.layout.now c.args.refused.at found.0 found.1)) (read (section_at bytes found.0) found.2))
