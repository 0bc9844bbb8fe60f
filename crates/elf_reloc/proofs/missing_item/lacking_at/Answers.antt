-- The entry is read, then its symbol, and so it is known what is missing.
use Rattle.std.proofs.Common.{◌∙◌, sym, ap, refl, arith}
use Rattle.std.proofs.lemmas.Result.{err_from_is_err_and}
use Rattle.elf_model.specs.Values.{kind_of}
use Rattle.elf_table.proofs.LedgerLaws.{CallDid-as, CallDid-then}
use Rattle.elf_table.proofs.Absent.{none-of}
use Rattle.elf_reloc.proofs.LackLaws.{found_is, lacks_by, missing_by, symbol_is, type_is, unfound, unlinked, untyped}
use Rattle.elf_reloc.proofs.missing_item.lacking_at.Goals as goal

pub returns-in_default-clause-did : goal.returns-in_default-clause-did
returns-in_default-clause-did g c =
    let none = sym c.relocation_type.ensures.value ∙ none-of c.relocation_type.result c.in_default.not-Some in
    CallDid-as _ (omega arith) c.in_ok-entry.ensures
    (λ file read costs header refers.
    untyped file header c.args.layout.now c.args.section c.args.refusal (ap kind_of (sym (type_is file c.args.refusal.at c.in_ok-entry.entry read c.kind-kind.ensures)) ∙ none))

pub returns-in_default-find-clause-did : goal.returns-in_default-find-clause-did
returns-in_default-find-clause-did g c =
    CallDid-as _ (omega arith) c.in_ok-entry.ensures
    (λ file read costs header refers.
    let symbol = symbol_is file c.args.refusal.at c.in_ok-entry.entry read c.symbol.ensures in
    unlinked file header c.args.layout.now c.args.section c.args.refusal (unfound file header c.args.refusal.at _ _ c.in_default-find.not-Ok symbol (c.find.ensures.held file header refers)))

pub returns-in_err-named-clause-did : goal.returns-in_err-named-clause-did
returns-in_err-named-clause-did g c =
    let p = err_from_is_err_and c.from_residual-in_err-named.result c.from_residual-in_err-named.ensures.1 in
    rw (p.1, p.2)
    (CallDid-as _ (omega arith) (CallDid-then c.in_ok-entry.ensures c.in_err-named.ensures.did)
    (λ file read costs header refers.
    let symbol = symbol_is file c.args.refusal.at c.in_ok-entry.entry read.0 c.symbol.ensures in
    read.1 header c.args.refusal.at (found_is file header c.args.refusal.at _ c.in-Ok.is symbol (c.find.ensures.held file header refers))))

pub returns-clause-did : goal.returns-clause-did
returns-clause-did g c =
    CallDid-as _ (omega arith) (CallDid-then c.in_ok-entry.ensures c.in_ok-named.ensures.did)
    (λ file read costs header refers.
    let symbol = symbol_is file c.args.refusal.at c.in_ok-entry.entry read.0 c.symbol.ensures in
    let is = read.1 header c.args.refusal.at (found_is file header c.args.refusal.at _ c.in-Ok.is symbol (c.find.ensures.held file header refers)) in
    let type = type_is file c.args.refusal.at c.in_ok-entry.entry read.0 c.kind-kind.ensures in
    let known = ap kind_of (sym type) ∙ (sym c.relocation_type.ensures.value ∙ c.in-Some.is) in
    let missed = missing_by file header c.args.layout.now c.args.section c.args.refusal c.in_ok-named.named c.in-Some.found is known in
    lacks_by file header c.args.refusal.at c.kind-kind.result c.in_ok-named.named c.wanted-wanted.result _ c.lacking_of.result is
    (missed ∙ rw (c.wanted-wanted.ensures, type) refl) c.lacking_of.ensures)
