-- The version that is kept, or the record with the index is found and its name is read.
use Rattle.std.proofs.Common.{arith}
use Rattle.std.proofs.lemmas.Result.{err_from_is_err_and}
use Rattle.elf_table.proofs.LedgerLaws.{CallDid-as, CallDid-none}
use Rattle.elf_library.proofs.NameLaws.{named_anywhere}
use Rattle.elf_library.proofs.reference.version_by_number.Goals as goal

pub returns-in-Some-clause-did : goal.returns-in-Some-clause-did
returns-in-Some-clause-did g c =
    CallDid-as _ (omega arith) (CallDid-none c.args.src.now)
    (λ file read costs told is are.
    let named = c.in-Some.ensures.named file told are in
    rw c.in-Some.ensures.versioned (named.named c.args.at))

pub returns-in-Some-clause-file : goal.returns-in-Some-clause-file
returns-in-Some-clause-file g c = λ file held told is are. (c.in-Some.ensures.named file told are).of_file

pub returns-in_err-file-clause-did : goal.returns-in_err-file-clause-did
returns-in_err-file-clause-did g c =
    let p = err_from_is_err_and c.from_residual.result c.from_residual.ensures.1 in
    rw (p.1, p.2) (CallDid-as _ (omega arith) c.in_err-file.ensures.did (λ file read costs told is are. read told is))

pub returns-clause-did : goal.returns-clause-did
returns-clause-did g c = CallDid-as _ (omega arith) c.in_ok-file.ensures.did (λ file read costs told is are. read told is)

pub returns-clause-file : goal.returns-clause-file
returns-clause-file g c = λ file held told is are. c.in_ok-file.ensures.file file held told is

pub returns-clause-kept : goal.returns-clause-kept
returns-clause-kept g c = record {
  keeps = λ file held told is are.
      let asked = c.in_ok-file.ensures.did.known file held told is in
      c.keep.ensures.known file told are
      (rw c.bytes.ensures.value
      (record { named = named_anywhere file told.records c.args.number c.args.at _ asked; of_file = c.in_ok-file.ensures.file file held told is }));
}
