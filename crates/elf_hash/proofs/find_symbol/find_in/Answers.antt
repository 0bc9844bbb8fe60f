-- What each stage finds and requests is what the lookup does.
use Rattle.std.proofs.Common.{◌≡◌, ◌/◌, ◌≤◌, None, length, refl, ap, sym, ◌∙◌, arith, mul-le-mul_right}
use Rattle.std.proofs.lemmas.Result.{err_from_is_err_and}
use Rattle.elf_model.specs.Find.{first_hash}
use Rattle.elf_hash.specs.Prelude.{looked_after, step_bytes}
use Rattle.elf_hash.specs.declared.place.HashTableLocation.{HashTableLocation}
use Rattle.elf_table.proofs.Absent.{none-of}
use Rattle.elf_hash.proofs.FindLaws.{finds_checks, finds_counts, looked_there, place_is_of}
use Rattle.elf_table.proofs.LedgerLaws.{CallReads-then, CallDid-as, CallDid-none, CallDid-stop, CallDid-then}
use Rattle.elf_hash.proofs.find_symbol.find_in.Goals as goal

pub returns-in_default-clause-did : goal.returns-in_default-clause-did
returns-in_default-clause-did g c =
    rw c.refused.ensures
    (CallDid-as _ (omega arith) (CallDid-stop _ (λ budget. cc) (CallDid-none c.args.src.now))
    (λ file told costs belongs.
    let none : first_hash file ≡ None = sym (c.first_hash.ensures.first file belongs) ∙ none-of c.first_hash.result c.in_default.not-Some in
    rw (none, looked_after) (record { costs = costs _ (omega arith); finds = λ other. refl })))

pub returns-in_err-section-clause-did : goal.returns-in_err-section-clause-did
returns-in_err-section-clause-did g c =
    let p = err_from_is_err_and c.from_residual.result c.from_residual.ensures.1 in
    rw (p.1, p.2)
    (CallDid-as _ (omega arith) (CallDid-stop _ c.in_err-section.ensures.refusal (CallDid-none c.args.src.now))
    (λ file told costs belongs.
    rw (sym (c.first_hash.ensures.first file belongs) ∙ c.in-Some.is, looked_after)
    (record { costs = costs _ (omega arith); finds = finds_checks file _ c.args.wanted.now _ (c.in_err-section.ensures.checked file belongs) })))

pub returns-in_err-table-clause-did : goal.returns-in_err-table-clause-did
returns-in_err-table-clause-did g c =
    let p = err_from_is_err_and c.from_residual-in_err-table.result c.from_residual-in_err-table.ensures.1 in
    rw (p.1, p.2)
    (CallDid-as _ (omega arith) c.in_err-table.ensures.did
    (λ file counts costs belongs.
    let checks = c.in_ok-section.ensures.checked file belongs in
    let place = place_is_of file _ _ _ checks.1 c.place_of.ensures in
    rw (sym (c.first_hash.ensures.first file belongs) ∙ c.in-Some.is, looked_after)
    (record { costs = costs _ (omega arith); finds = finds_counts file _ c.args.wanted.now _ checks.0 (c.place_of.ensures.head ∙ checks.1.place) (counts _ place) })))

pub returns-clause-did : goal.returns-clause-did
returns-clause-did g c =
    let place = c.in_ok-table.ensures.same in
    let size = ap (λ (p : HashTableLocation). p.size) place in
    let few : c.in_ok-table.table.nchain ≤ c.args.src.now.seen.size / 4 =
    omega (arith, size, c.place_of.ensures.size, c.in_ok-table.table.fits, c.in_ok-section.ensures.lies.words, c.requires.size) in
    let less = mul-le-mul_right (step_bytes (length c.args.wanted.now)) few in
    CallDid-as _ (omega (arith, less)) (CallDid-then c.in_ok-table.ensures.did c.look_up.ensures.did)
    (λ file told costs belongs.
    let checks = c.in_ok-section.ensures.checked file belongs in
    let counts = told.0 _ (place_is_of file _ _ _ checks.1 c.place_of.ensures) in
    let walked = told.1 _ checks.1 counts.1 in
    rw (sym (c.first_hash.ensures.first file belongs) ∙ c.in-Some.is, looked_after) (rw (looked_there file _ c.args.wanted.now checks.0 counts.0)
    (record { costs = CallReads-then _ (omega arith) c.in_ok-table.ensures.did.costs walked.costs; finds = walked.finds })))
