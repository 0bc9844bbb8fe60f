-- The symbol is at its row, and its name is compared in the strings of its table.
use Rattle.std.proofs.Common.{true, false, Ok, Err, ap, ◌∙◌, arith}
use Rattle.std.proofs.lemmas.Result.{err_from_is_err_and}
use Rattle.elf_table.proofs.LedgerLaws.{CallDid-as, CallDid-of, CallDid-then}
use Rattle.elf_hash.proofs.NamedLaws.{tries}
use Rattle.elf_hash.proofs.named.NameMatcherMatcher.tried.Goals as goal

pub returns-in_err-is_wanted : goal.returns-in_err-is_wanted
returns-in_err-is_wanted g c =
    let p = err_from_is_err_and c.from_residual-in_err-is_wanted.result c.from_residual-in_err-is_wanted.ensures.1 in
    let symbol = CallDid-of c.symbol.ensures.reads tt c.in_ok-symbol.ensures.read in
    rw (p.1, p.2)
    (record {
      did = CallDid-as _ (omega arith) (CallDid-then symbol (CallDid-of c.equals.ensures.reads c.in_err-is_wanted.ensures.says c.in_err-is_wanted.ensures.compared))
          (λ file told costs says is. tries file _ _ _ says is _ _ _ _ (Err _) c.requires.below told.0 c.from-off.ensures c.place-place.ensures told.1);
    })

pub returns-then-is_wanted : goal.returns-then-is_wanted
returns-then-is_wanted g c =
    let symbol = CallDid-of c.symbol.ensures.reads tt c.in_ok-symbol.ensures.read in
    record {
      did = CallDid-as _ (omega arith) (CallDid-then symbol (CallDid-of c.equals.ensures.reads tt c.in_ok-is_wanted.ensures.compared))
          (λ file told costs says is. tries file _ _ _ says is _ _ _ _ (Ok true) c.requires.below told.0 c.from-off.ensures c.place-place.ensures (told.1 ∙ ap Ok c.if-is_wanted.true));
    }

pub returns-else-is_wanted : goal.returns-else-is_wanted
returns-else-is_wanted g c =
    let symbol = CallDid-of c.symbol.ensures.reads tt c.in_ok-symbol.ensures.read in
    record {
      did = CallDid-as _ (omega arith) (CallDid-then symbol (CallDid-of c.equals.ensures.reads tt c.in_ok-is_wanted.ensures.compared))
          (λ file told costs says is. tries file _ _ _ says is _ _ _ _ (Ok false) c.requires.below told.0 c.from-off.ensures c.place-place.ensures (told.1 ∙ ap Ok c.if-is_wanted.false));
    }
