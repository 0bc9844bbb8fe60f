-- Without dynamic entries no symbol is known, and nothing is read.
use Rattle.std.proofs.Common.{sym, ◌∙◌, arith}
use Rattle.elf_table.proofs.LedgerLaws.{CallDid-as, CallDid-none}
use Rattle.elf_hash.proofs.FoundLaws.{index_is}
use Rattle.elf_loader.proofs.KnownLaws.{finds_none}
use Rattle.elf_loader.proofs.known.known_symbols.Goals as goal

pub returns-in-Some-clause-did : goal.returns-in-Some-clause-did
returns-in-Some-clause-did g c =
    CallDid-as _ (omega arith) c.listed_symbols.ensures.did
    (λ file told costs views. told views _ (index_is file ∙ (sym (c.first_segment.ensures.first file views) ∙ c.in-Some.is)))

pub returns-in-None-clause-did : goal.returns-in-None-clause-did
returns-in-None-clause-did g c =
    CallDid-as _ (omega arith) (CallDid-none c.args.src.now)
    (λ file told costs views.
    let none = index_is file ∙ (sym (c.first_segment.ensures.first file views) ∙ c.in-None.is) in
    record { costs = costs _ (omega arith); finds = finds_none file none })
