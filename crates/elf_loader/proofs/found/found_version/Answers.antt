-- The wanted name, no name, or the name of its version index.
use Rattle.std.proofs.Common.{◌≡◌, ◌+◌, ◌*◌, None, Some, refl, ap, sym, ◌∙◌, arith, option_map}
use Rattle.std.proofs.lemmas.Result.{err_from_is_err_and}
use Rattle.elf_table.proofs.LedgerLaws.{CallReads-none, CallDid-as, CallDid-none}
use Rattle.elf_model.specs.Loader.{asked_name}
use Rattle.elf_table.proofs.Absent.{none-of}
use Rattle.elf_options.specs.Wants.{asked_of}
use Rattle.elf_loader.specs.Prelude.{max_versions_of, parsed_member_bytes, telling_bytes}
use Rattle.elf_loader.proofs.FoundLaws.{finds-fault-by, finds-told-by, finds-unnamed, finds-wanted, word-at, word-is}
use Rattle.elf_loader.proofs.found.found_version.Goals as goal

pub returns-in-Some : goal.returns-in-Some
returns-in-Some g c =
    let asks : asked_name (asked_of c.args.asked.now) ≡ Some c.in-Some._version.now = sym c.name.ensures ∙ ap (option_map (λ name. name.now)) c.in-Some.is in
    rw c.reported_as.ensures
    (CallDid-as _ (omega arith) (CallDid-none c.args.src.now)
    (λ file read costs scope told y is words is_at.
    let here = word-is file told c.args.words.now y c.args.found.word words c.args.words.now.entry is_at.1 in
    finds-wanted file scope (asked_of c.args.asked.now) told y c.args.found.word _ c.args.name.now c.args.src.now c.args.words.now asks words here (CallReads-none c.args.src.now)))

pub returns-then-number-lt2 : goal.returns-then-number-lt2
returns-then-number-lt2 g c =
    let none : c.name.result ≡ None = none-of c.name.result c.in_default.not-Some in
    let asks : asked_name (asked_of c.args.asked.now) ≡ None = sym c.name.ensures ∙ ap (option_map (λ name. name.now)) none in
    rw c.reported_as-then-number-lt2.ensures
    (CallDid-as _ (omega arith) (CallDid-none c.args.src.now)
    (λ file read costs scope told y is words is_at.
    let here = word-is file told c.args.words.now y c.args.found.word words c.args.words.now.entry is_at.1 in
    finds-unnamed file scope (asked_of c.args.asked.now) told y c.args.found.word c.args.name.now c.args.src.now c.args.words.now asks words here (rw (← c.version_number-number.ensures) c.if-number-lt2.true) (CallReads-none c.args.src.now)))

pub returns-in_err-told : goal.returns-in_err-told
returns-in_err-told g c =
    let none : c.name.result ≡ None = none-of c.name.result c.in_default.not-Some in
    let asks : asked_name (asked_of c.args.asked.now) ≡ None = sym c.name.ensures ∙ ap (option_map (λ name. name.now)) none in
    let bytes : telling_bytes (asked_of c.args.asked.now) (max_versions_of c.args.symbols.now) ≡ max_versions_of c.args.symbols.now * 28 + parsed_member_bytes = rw (asks, telling_bytes) refl in
    let p = err_from_is_err_and c.from_residual.result c.from_residual.ensures.1 in
    rw (p.1, p.2)
    (CallDid-as _ (omega (arith, bytes)) c.in_err-told.ensures
    (λ file read costs scope told y is words is_at.
    let here = word-is file told c.args.words.now y c.args.found.word words c.args.words.now.entry is_at.1 in
    finds-fault-by file scope (asked_of c.args.asked.now) told y c.args.found.word _ c.parsed_member_name.new.name c.args.src.now c.parsed_member_name.new.src _ c.version_number-number.ensures asks here c.if-number-lt2.false
    (read scope told y is (is_at.0 ∙ word-at told c.args.words.now y words c.args.words.now.entry))))

pub returns : goal.returns
returns g c =
    let none : c.name.result ≡ None = none-of c.name.result c.in_default.not-Some in
    let asks : asked_name (asked_of c.args.asked.now) ≡ None = sym c.name.ensures ∙ ap (option_map (λ name. name.now)) none in
    let bytes : telling_bytes (asked_of c.args.asked.now) (max_versions_of c.args.symbols.now) ≡ max_versions_of c.args.symbols.now * 28 + parsed_member_bytes = rw (asks, telling_bytes) refl in
    rw c.reported_as-2.ensures
    (CallDid-as _ (omega (arith, bytes)) c.in_ok-told.ensures
    (λ file read costs scope told y is words is_at.
    let here = word-is file told c.args.words.now y c.args.found.word words c.args.words.now.entry is_at.1 in
    finds-told-by file scope (asked_of c.args.asked.now) told y c.args.found.word _ c.parsed_member_name.new.name c.args.src.now c.parsed_member_name.new.src c.args.words.now c.in_ok-told.told c.version_number-number.ensures asks words here c.if-number-lt2.false
    (read scope told y is (is_at.0 ∙ word-at told c.args.words.now y words c.args.words.now.entry))))
