-- The symbol is found, and its name read.
use Rattle.std.proofs.Common.{Result, ◌∙◌, subst, arith}
use Rattle.std.proofs.lemmas.Result.{err_from_is_err_and}
use Rattle.elf_model.specs.Prelude.{DisplayedName}
use Rattle.elf_model.specs.declared.causes.Cause.{Cause}
use Rattle.elf_table.proofs.LedgerLaws.{CallDid-as, CallDid-none, CallDid-then}
use Rattle.elf_reloc.specs.Explained.{ReturnsSymbolName}
use Rattle.elf_reloc.proofs.LackLaws.{found_is, unfound}
use Rattle.elf_reloc.proofs.OverflowLaws.{name_is}
use Rattle.elf_reloc.proofs.overflow.entry_name.Goals as goal

pub returns-in_default : goal.returns-in_default
returns-in_default g c =
    CallDid-as _ (omega arith) (CallDid-none c.args.src.now)
    (λ file read costs header refers symbol passed.
    absurd (unfound file header c.args.at _ _ c.in_default.not-Ok symbol (c.find.ensures.held file header refers) passed))

pub returns-in_err-named : goal.returns-in_err-named
returns-in_err-named g c =
    let p = err_from_is_err_and c.from_residual.result c.from_residual.ensures.1 in
    rw (p.1, p.2)
    (CallDid-as _ (omega arith) c.in_err-named.ensures.did
    (λ file read costs header refers symbol passed.
    read header c.args.at (found_is file header c.args.at _ c.in-Ok.is symbol (c.find.ensures.held file header refers))))

pub returns : goal.returns
returns g c =
    CallDid-as _ (omega arith) (CallDid-then c.in_ok-named.ensures.did c.read_name.ensures)
    (λ file read costs header refers symbol passed.
    let is = read.0 header c.args.at (found_is file header c.args.at _ c.in-Ok.is symbol (c.find.ensures.held file header refers)) in
    subst (λ (answer : Result DisplayedName Cause). ReturnsSymbolName answer c.read_name.result c.read_name.new.name)
    (name_is file header c.args.at c.in_ok-named.named is) read.1)
