-- The indices of the wanted version, kept or collected, and the walk.
use Rattle.std.proofs.Common.{arith}
use Rattle.std.proofs.lemmas.Result.{err_from_is_err_and}
use Rattle.elf_table.proofs.LedgerLaws.{CallDid-as, CallDid-then}
use Rattle.elf_model.specs.LoaderFind.{version_indices}
use Rattle.elf_loader.proofs.ReadLaws.{after_within}
use Rattle.elf_options.specs.Wants.{query_of}
use Rattle.elf_library.proofs.DefinerLaws.{defines_numbered, defines_unnumbered}
use Rattle.elf_library.proofs.IndexLaws.{collected, collects_kept}
use Rattle.elf_library.proofs.definition.definition_in_table.Goals as goal

pub returns-in-Some-clause-did : goal.returns-in-Some-clause-did
returns-in-Some-clause-did g c =
    let lies = c.requires.may.lies in
    let within = after_within (query_of c.args.wanted.now) c.args.scope.now.symbols c.args.scope.now.hash.at c.args.scope.now.hash.size c.args.src.now.seen.size lies.symbols lies.table in
    CallDid-as _ (omega (arith, within)) c.definition_along.ensures
    (λ file walks costs told is table are.
    let wanted = query_of c.args.wanted.now in
    let numbers = c.in-Some.ensures file told (rw c.use_place-place.ensures.same are) in
    defines_numbered file told wanted c.in-Some.numbers.now _ (collects_kept file told c.args.src.now wanted.asked c.in-Some.numbers.now numbers)
    (walks told is (version_indices file told wanted.asked).read table))

pub returns-in-Some-clause-kept : goal.returns-in-Some-clause-kept
returns-in-Some-clause-kept g c = record { keeps = λ file held told is are. rw c.use_place-place.ensures.same are }

pub returns-in_err-numbers-clause-did : goal.returns-in_err-numbers-clause-did
returns-in_err-numbers-clause-did g c =
    let p = err_from_is_err_and c.from_residual.result c.from_residual.ensures.1 in
    let lies = c.requires.may.lies in
    let within = after_within (query_of c.args.wanted.now) c.args.scope.now.symbols c.args.scope.now.hash.at c.args.scope.now.hash.size c.args.src.now.seen.size lies.symbols lies.table in
    rw (p.1, p.2)
    (CallDid-as _ (omega (arith, within)) c.in_err-numbers.ensures
    (λ file collects costs told is table are. defines_unnumbered file told (query_of c.args.wanted.now) _ (collects told is.symbols)))

pub returns-in_err-numbers-clause-kept : goal.returns-in_err-numbers-clause-kept
returns-in_err-numbers-clause-kept g c = record { keeps = λ file held told is are. rw c.use_place-place.ensures.same are }

pub returns-clause-did : goal.returns-clause-did
returns-clause-did g c =
    let lies = c.requires.may.lies in
    let within = after_within (query_of c.args.wanted.now) c.args.scope.now.symbols c.args.scope.now.hash.at c.args.scope.now.hash.size c.args.src.now.seen.size lies.symbols lies.table in
    CallDid-as _ (omega (arith, within)) (CallDid-then c.in_ok-numbers.ensures c.definition_along-found.ensures)
    (λ file read costs told is table are.
    let wanted = query_of c.args.wanted.now in
    let collects = read.0 told is.symbols in
    defines_numbered file told wanted c.in_ok-numbers.numbers _ collects (read.1 told is (version_indices file told wanted.asked).read table))

pub returns-clause-kept : goal.returns-clause-kept
returns-clause-kept g c = record {
  keeps = λ file held told is are.
      let collects = c.in_ok-numbers.ensures.known file held told is.symbols in
      c.keep.ensures.known file told (rw c.use_place-place.ensures.same are) (collected file told (query_of c.args.wanted.now).asked c.in_ok-numbers.numbers collects);
}
