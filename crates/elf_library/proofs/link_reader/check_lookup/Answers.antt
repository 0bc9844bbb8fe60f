-- The lookup tables, if there is a hash table.
use Rattle.std.proofs.Common.{arith}
use Rattle.elf_table.proofs.LedgerLaws.{CallDid-as}
use Rattle.elf_library.proofs.ReadingLaws.{lookup_passes, passed_did, passed_tells}
use Rattle.elf_library.proofs.link_reader.check_lookup.Goals as goal

pub returns-in-Ok : goal.returns-in-Ok
returns-in-Ok g c =
    CallDid-as _ (omega arith) c.in-Ok.ensures.did
    (λ file told costs views.
    let found = (told views).1 in
    lookup_passes file found.0 found.1)

pub returns-in-Err : goal.returns-in-Err
returns-in-Err g c =
    rw c.without_hash.ensures
    (CallDid-as _ (omega arith) (passed_did _ c.in-Err.ensures.did)
    (λ file told costs views. passed_tells file _ (told views).1))
