-- The entry, its value, and the name of its symbol.
use Rattle.std.proofs.Common.{None, sym, ap, ◌∙◌, arith}
use Rattle.std.proofs.lemmas.Result.{err_from_is_err_and}
use Rattle.elf_model.specs.Prelude.{overflow_with}
use Rattle.elf_table.proofs.Absent.{none-of}
use Rattle.elf_table.proofs.LedgerLaws.{CallDid-as, CallDid-then}
use Rattle.elf_reloc.specs.Entries.{target_as}
use Rattle.elf_reloc.proofs.LackLaws.{symbol_is, type_is}
use Rattle.elf_reloc.proofs.OverflowLaws.{no_value, overflow_is, passes, with_value}
use Rattle.elf_reloc.proofs.overflow.overflow_at.Goals as goal

pub returns-in_err-entry : goal.returns-in_err-entry
returns-in_err-entry g c =
    let p = err_from_is_err_and c.from_residual.result c.from_residual.ensures.1 in
    rw (p.1, p.2) (CallDid-as _ (omega arith) c.in_err-entry.ensures (λ file read costs header refers. read))

pub returns-in_err-value : goal.returns-in_err-value
returns-in_err-value g c =
    let p = err_from_is_err_and c.from_residual-in_err-value.result c.from_residual-in_err-value.ensures.1 in
    rw (p.1, p.2)
    (CallDid-as _ (omega arith) (CallDid-then c.in_ok-entry.ensures c.in_err-value.ensures) (λ file read costs header refers. read.1 header refers read.0))

pub returns-in_default : goal.returns-in_default
returns-in_default g c =
    let none = none-of c.in_ok-value.field-0 c.in_default.not-Some in
    CallDid-as _ (omega arith) (CallDid-then c.in_ok-entry.ensures c.in_ok-value.ensures)
    (λ file read costs header refers. sym (no_value (target_as file c.args.target.now) header c.args.at (read.1 header refers read.0 ∙ none)))

pub returns-in_err-end : goal.returns-in_err-end
returns-in_err-end g c =
    let p = err_from_is_err_and c.from_residual-in_err-end.result c.from_residual-in_err-end.ensures.1 in
    rw (p.1, p.2)
    (CallDid-as _ (omega arith) (CallDid-then (CallDid-then c.in_ok-entry.ensures c.in_ok-value.ensures) c.in_err-end.ensures)
    (λ file read costs header refers.
    let value = read.0.1 header refers read.0.0 ∙ c.in-Some.is in
    let symbol = symbol_is file c.args.at c.in_ok-entry.entry read.0.0 c.symbol-symbol.ensures in
    read.1 header refers symbol (passes (target_as file c.args.target.now) header c.args.at c.in-Some.value value)))

pub returns-in_default-2 : goal.returns-in_default-2
returns-in_default-2 g c =
    let none = none-of c.in_ok-end.field-0 c.in_default-2.not-Some in
    CallDid-as _ (omega arith) (CallDid-then (CallDid-then c.in_ok-entry.ensures c.in_ok-value.ensures) (rw none at c.in_ok-end.ensures))
    (λ file read costs header refers.
    let target = target_as file c.args.target.now in
    let value = read.0.1 header refers read.0.0 ∙ c.in-Some.is in
    let symbol = symbol_is file c.args.at c.in_ok-entry.entry read.0.0 c.symbol-symbol.ensures in
    let named = read.1 header refers symbol (passes target header c.args.at c.in-Some.value value) in
    sym (with_value target header c.args.at c.in-Some.value value ∙ ap (overflow_with file c.args.target.now.section c.args.at c.in-Some.value) named.1))

pub returns : goal.returns
returns g c =
    CallDid-as _ (omega arith) (CallDid-then (CallDid-then c.in_ok-entry.ensures c.in_ok-value.ensures) (rw c.in-Some-2.is at c.in_ok-end.ensures))
    (λ file read costs header refers.
    let target = target_as file c.args.target.now in
    let value = read.0.1 header refers read.0.0 ∙ c.in-Some.is in
    let symbol = symbol_is file c.args.at c.in_ok-entry.entry read.0.0 c.symbol-symbol.ensures in
    let kind = type_is file c.args.at c.in_ok-entry.entry read.0.0 c.kind-kind.ensures in
    let named = read.1 header refers symbol (passes target header c.args.at c.in-Some.value value) in
    sym (with_value target header c.args.at c.in-Some.value value
    ∙ (ap (overflow_with file c.args.target.now.section c.args.at c.in-Some.value) named
    ∙ overflow_is file c.args.target.now.section c.args.at c.in-Some.value _ _ _ _ kind symbol read.0.0.r_offset)))
