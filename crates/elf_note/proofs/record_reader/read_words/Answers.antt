-- The record's bytes decode to its fields.
use Rattle.std.proofs.Common.{◌+◌, arith}
use Rattle.std.proofs.lemmas.Result.{err_from_is_err_and}
use Rattle.elf_table.proofs.LedgerLaws.{CallDid-as}
use Rattle.elf_note.proofs.record_reader.read_words.Goals as goal

pub returns-in_ok-read-in-Definition : goal.returns-in_ok-read-in-Definition
returns-in_ok-read-in-Definition g c =
    let at = c.args.held.now.table.at + c.args.stand.now.place in
    rw c.in-Definition.is
    (record { did = CallDid-as _ (omega arith) c.in_ok-read-in-Definition.ensures.did (λ file told costs held. c.of_definition.ensures file at (c.decode.ensures.is_at file at (told held))) })

pub returns-in_ok-read-in-File : goal.returns-in_ok-read-in-File
returns-in_ok-read-in-File g c =
    let at = c.args.held.now.table.at + c.args.stand.now.place in
    rw c.in-File.is
    (record { did = CallDid-as _ (omega arith) c.in_ok-read-in-File.ensures.did (λ file told costs held. c.of_file.ensures file at (c.decode-in-File.ensures.is_at file at (told held))) })

pub returns-in_ok-read-in-Need : goal.returns-in_ok-read-in-Need
returns-in_ok-read-in-Need g c =
    let at = c.args.held.now.table.at + c.args.stand.now.place in
    rw c.in-Need.is
    (record { did = CallDid-as _ (omega arith) c.in_ok-read-in-Need.ensures.did (λ file told costs held. c.of_need.ensures file at (c.decode-in-Need.ensures.is_at file at (told held))) })

pub read-requires : goal.read-requires
read-requires g c = let inside = rw c.in-Definition.is at c.requires.inside in record { has = record { within = c.requires.within; inside = inside; low = c.requires.low }; small = omega arith; some = omega arith }

pub read-requires-in-File : goal.read-requires-in-File
read-requires-in-File g c = let inside = rw c.in-File.is at c.requires.inside in record { has = record { within = c.requires.within; inside = inside; low = c.requires.low }; small = omega arith; some = omega arith }

pub read-requires-in-Need : goal.read-requires-in-Need
read-requires-in-Need g c = let inside = rw c.in-Need.is at c.requires.inside in record { has = record { within = c.requires.within; inside = inside; low = c.requires.low }; small = omega arith; some = omega arith }

pub returns-in_err-read-in-Definition : goal.returns-in_err-read-in-Definition
returns-in_err-read-in-Definition g c =
    let p = err_from_is_err_and c.from_residual.result c.from_residual.ensures.1 in
    rw (p.1, p.2, c.in-Definition.is) (record { did = CallDid-as _ (omega arith) c.in_err-read-in-Definition.ensures.did (λ file told costs. told) })

pub returns-in_err-read-in-File : goal.returns-in_err-read-in-File
returns-in_err-read-in-File g c =
    let p = err_from_is_err_and c.from_residual-in_err-read-in-File.result c.from_residual-in_err-read-in-File.ensures.1 in
    rw (p.1, p.2, c.in-File.is) (record { did = CallDid-as _ (omega arith) c.in_err-read-in-File.ensures.did (λ file told costs. told) })

pub returns-in_err-read-in-Need : goal.returns-in_err-read-in-Need
returns-in_err-read-in-Need g c =
    let p = err_from_is_err_and c.from_residual-in_err-read-in-Need.result c.from_residual-in_err-read-in-Need.ensures.1 in
    rw (p.1, p.2, c.in-Need.is) (record { did = CallDid-as _ (omega arith) c.in_err-read-in-Need.ensures.did (λ file told costs. told) })
