-- None is wanted, or all records are compared.
use Rattle.std.proofs.Common.{◌≡◌, ◌+◌, ◌*◌, length, None, Some, [], refl, ap, sym, ◌∙◌, arith, option_map}
use Rattle.std.proofs.lemmas.Result.{err_from_is_err_and}
use Rattle.elf_table.proofs.LedgerLaws.{CallReads-none, CallDid-as, CallDid-none}
use Rattle.elf_model.specs.Prelude.{asked_name, compared_with, pad64, readings, record_cost}
use Rattle.elf_table.proofs.Absent.{none-of}
use Rattle.elf_options.specs.Wants.{asked_of}
use Rattle.elf_loader.specs.Prelude.{comparing_bytes, max_versions_of}
use Rattle.elf_loader.proofs.CollectLaws.{all-compared, collects-all, collects-fault, collects-none, no-version, no-words}
use Rattle.elf_loader.proofs.index_collection.version_indices.Goals as goal

pub returns-in_default : goal.returns-in_default
returns-in_default g c =
    let none = none-of c.args.symbols.now.words c.in_default.not-Some in
    CallDid-as _ (omega arith) (CallDid-none c.args.src.now)
    (λ file read costs scope is.
    collects-none c.args.src.now (record_cost (asked_of c.args.asked.now)) _ c.new-numbers.result (no-words file scope (asked_of c.args.asked.now) (rw none at is.words)) (CallReads-none c.args.src.now) c.new-numbers.ensures)

pub returns-in_default-name : goal.returns-in_default-name
returns-in_default-name g c =
    let none : c.name.result ≡ None = none-of c.name.result c.in_default-name.not-Some in
    let asks : asked_name (asked_of c.args.asked.now) ≡ None = sym c.name.ensures ∙ ap (option_map (λ name. name.now)) none in
    CallDid-as _ (omega arith) (CallDid-none c.args.src.now)
    (λ file read costs scope is.
    collects-none c.args.src.now (record_cost (asked_of c.args.asked.now)) _ c.new-numbers.result (no-version file scope (asked_of c.args.asked.now) asks) (CallReads-none c.args.src.now) c.new-numbers.ensures)

pub returns-in_err-compare_all : goal.returns-in_err-compare_all
returns-in_err-compare_all g c =
    let p = err_from_is_err_and c.from_residual.result c.from_residual.ensures.1 in
    let version = c.in-Some-name.version.now in
    let asks : asked_name (asked_of c.args.asked.now) ≡ Some version = sym c.name.ensures ∙ ap (option_map (λ name. name.now)) c.in-Some-name.is in
    let each : record_cost (asked_of c.args.asked.now) ≡ 28 + pad64 (length version + 1) = rw asks refl in
    let bytes : comparing_bytes (asked_of c.args.asked.now) (max_versions_of c.args.symbols.now) ≡ max_versions_of c.args.symbols.now * (28 + pad64 (length version + 1)) = rw (asks, comparing_bytes) refl in
    rw (p.1, p.2)
    (CallDid-as _ (omega (arith, bytes)) c.in_err-compare_all.ensures
    (λ file read costs scope is.
    collects-fault c.args.src.now c.compare_all.new.src (record_cost (asked_of c.args.asked.now)) (28 + pad64 (length version + 1)) c.new-numbers.result c.compare_all.new.numbers _ (compared_with file version (readings file scope.symbols.records)) (compared_with file version []) _
    each (all-compared file scope (asked_of c.args.asked.now) version c.in-Some._words asks (rw c.in-Some.is at is.words)) (read scope.symbols.records is.records)))

pub returns : goal.returns
returns g c =
    let version = c.in-Some-name.version.now in
    let asks : asked_name (asked_of c.args.asked.now) ≡ Some version = sym c.name.ensures ∙ ap (option_map (λ name. name.now)) c.in-Some-name.is in
    let each : record_cost (asked_of c.args.asked.now) ≡ 28 + pad64 (length version + 1) = rw asks refl in
    let bytes : comparing_bytes (asked_of c.args.asked.now) (max_versions_of c.args.symbols.now) ≡ max_versions_of c.args.symbols.now * (28 + pad64 (length version + 1)) = rw (asks, comparing_bytes) refl in
    rw each
    (CallDid-as _ (omega (arith, bytes)) c.in_ok-compare_all.ensures
    (λ file read costs scope is.
    collects-all c.args.src.now c.compare_all.new.src (28 + pad64 (length version + 1)) file version c.new-numbers.result c.compare_all.new.numbers _ (compared_with file version (readings file scope.symbols.records))
    (all-compared file scope (asked_of c.args.asked.now) version c.in-Some._words asks (rw c.in-Some.is at is.words)) c.new-numbers.ensures (read scope.symbols.records is.records)))
