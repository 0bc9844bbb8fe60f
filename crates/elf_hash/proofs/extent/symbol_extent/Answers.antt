-- For a GNU hash table, or a SysV one.
use Rattle.std.proofs.Common.{ℕ, min, ap, ◌∙◌, arith}
use Rattle.elf_table.proofs.LedgerLaws.{CallDid-as, CallDid-none}
use Rattle.elf_hash.specs.Prelude.{place_of_table}
use Rattle.elf_hash.specs.declared.table.HashTable.{HashTable}
use Rattle.elf_hash.proofs.ExtentLaws.{gnu_told, sysv_told}
use Rattle.elf_hash.proofs.extent.symbol_extent.Goals as goal

pub returns-in-Gnu-clause-did : goal.returns-in-Gnu-clause-did
returns-in-Gnu-clause-did g c =
    let size = ap (λ (t : HashTable). (place_of_table t).size) c.in-Gnu.is in
    CallDid-as _ (omega (arith, size)) c.gnu_extent.ensures.did
    (λ file told costs scope. rw c.in-Gnu.is (λ is are.
    gnu_told file scope _ _ _ _ is.0 is.1 are (c.before_strings-before.ensures.value scope.table is.1.place) (told scope.table is.1)))

pub returns-in-Sysv-clause-did : goal.returns-in-Sysv-clause-did
returns-in-Sysv-clause-did g c =
    CallDid-as _ (omega arith) (CallDid-none c.args.src.now)
    (λ file told costs scope. rw c.in-Sysv.is (λ is are. sysv_told file scope c.in-Sysv.table is.0 is.1 (costs 0 (omega arith)) (c.min.ensures ∙ ap (λ (n : ℕ). min n c.in-Sysv.table.place.symbols) c.from.ensures)))
