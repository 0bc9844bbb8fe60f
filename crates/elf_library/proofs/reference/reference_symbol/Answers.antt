-- The symbol is read, its name, and its version.
use Rattle.std.proofs.Common.{sym, ◌∙◌, arith}
use Rattle.std.proofs.lemmas.Result.{err_from_is_err_and}
use Rattle.elf_table.proofs.LedgerLaws.{CallDid-as, CallDid-of, CallDid-then}
use Rattle.elf_model.specs.Prelude.{is_weak, symbol_offset}
use Rattle.elf_library.proofs.SoughtLaws.{asks, nameless, nothing, symbol_is, unnamed, versionless}
use Rattle.elf_library.proofs.reference.reference_symbol.Goals as goal

pub returns-then-not-is_reference-clause-did : goal.returns-then-not-is_reference-clause-did
returns-then-not-is_reference-clause-did g c =
    CallDid-as _ (omega arith) (CallDid-of c.symbol.ensures.reads tt c.in_ok-symbol.ensures.read)
    (λ file read costs told is are.
    let here = symbol_is file told c.args.symbols.now c.args.index c.in_ok-symbol.symbol is c.args.symbols.now.rows c.requires.below read in
    nothing file told c.args.symbols.now c.args.index c.in_ok-symbol.symbol is c.args.symbols.now.rows c.requires.below read (sym (c.is_reference.ensures file _ here) ∙ c.if-not-is_reference.true))

pub returns-in_err-whole_name-clause-did : goal.returns-in_err-whole_name-clause-did
returns-in_err-whole_name-clause-did g c =
    let p = err_from_is_err_and c.from_residual-in_err-whole_name.result c.from_residual-in_err-whole_name.ensures.1 in
    let off = c.from.ensures in
    let place = c.place-place.ensures in
    rw (p.1, p.2)
    (CallDid-as _ (omega arith) (CallDid-then (CallDid-of c.symbol.ensures.reads tt c.in_ok-symbol.ensures.read) c.in_err-whole_name.ensures)
    (λ file read costs told is are.
    let here = symbol_is file told c.args.symbols.now c.args.index c.in_ok-symbol.symbol is c.args.symbols.now.rows c.requires.below read.0 in
    nameless file told c.args.symbols.now c.args.index c.in_ok-symbol.symbol is c.args.symbols.now.rows c.requires.below read.0 (sym (c.is_reference.ensures file _ here) ∙ c.if-not-is_reference.false)
    (is_weak file (symbol_offset told c.args.index)) c.whole_name.new.name c.args.version.now _ (rw (off, place) at read.1)))

pub returns-in_err-asked-clause-did : goal.returns-in_err-asked-clause-did
returns-in_err-asked-clause-did g c =
    let p = err_from_is_err_and c.from_residual-in_err-asked.result c.from_residual-in_err-asked.ensures.1 in
    let off = c.from.ensures in
    let place = c.place-place.ensures in
    rw (p.1, p.2)
    (CallDid-as _ (omega arith) (CallDid-then (CallDid-then (CallDid-of c.symbol.ensures.reads tt c.in_ok-symbol.ensures.read) c.in_ok-whole_name.ensures) c.in_err-asked.ensures.did)
    (λ file read costs told is are.
    let here = symbol_is file told c.args.symbols.now c.args.index c.in_ok-symbol.symbol is c.args.symbols.now.rows c.requires.below read.0.0 in
    versionless file told c.args.symbols.now c.args.index c.in_ok-symbol.symbol is c.args.symbols.now.rows c.requires.below read.0.0 (sym (c.is_reference.ensures file _ here) ∙ c.if-not-is_reference.false)
    c.whole_name.new.name (rw (off, place) at read.0.1) (rw (c.bytes.ensures.value) at (sym c.is_empty.ensures ∙ c.if-is_empty.false)) (is_weak file (symbol_offset told c.args.index)) c.reference_version.new.version _ (read.1 told is are)))

pub returns-clause-did : goal.returns-clause-did
returns-clause-did g c =
    let off = c.from.ensures in
    let place = c.place-place.ensures in
    CallDid-as _ (omega arith) (CallDid-then (CallDid-then (CallDid-of c.symbol.ensures.reads tt c.in_ok-symbol.ensures.read) c.in_ok-whole_name.ensures) c.in_ok-asked.ensures.did)
    (λ file read costs told is are.
    let here = symbol_is file told c.args.symbols.now c.args.index c.in_ok-symbol.symbol is c.args.symbols.now.rows c.requires.below read.0.0 in (
      asks file told c.args.symbols.now c.args.index c.in_ok-symbol.symbol is c.args.symbols.now.rows c.requires.below read.0.0 (sym (c.is_reference.ensures file _ here) ∙ c.if-not-is_reference.false)
          c.whole_name.new.name (rw (off, place) at read.0.1) (rw (c.bytes.ensures.value) at (sym c.is_empty.ensures ∙ c.if-is_empty.false)) c.reference_version.new.version c.in_ok-asked.asked.versioned (read.1 told is are),
      c.is_weak.ensures file _ here,
    ))

pub returns-clause-file : goal.returns-clause-file
returns-clause-file g c =
    λ file held told is are.
    c.in_ok-asked.ensures.file file
    (c.in_ok-whole_name.ensures.costs.reads.keeps.same_file ∙ c.symbol.ensures.reads.keeps.same_file ∙ held) told is are

pub returns-in_err-asked-clause-kept : goal.returns-in_err-asked-clause-kept
returns-in_err-asked-clause-kept g c = record {
  keeps = λ file held. c.in_err-asked.ensures.kept.keeps file (c.in_ok-whole_name.ensures.costs.reads.keeps.same_file ∙ c.symbol.ensures.reads.keeps.same_file ∙ held);
}

pub returns-clause-kept : goal.returns-clause-kept
returns-clause-kept g c = record {
  keeps = λ file held. c.in_ok-asked.ensures.kept.keeps file (c.in_ok-whole_name.ensures.costs.reads.keeps.same_file ∙ c.symbol.ensures.reads.keeps.same_file ∙ held);
}

pub returns-then-is_empty-clause-did : goal.returns-then-is_empty-clause-did
returns-then-is_empty-clause-did g c =
    let off = c.from.ensures in
    let place = c.place-place.ensures in
    CallDid-as _ (omega arith) (CallDid-then (CallDid-of c.symbol.ensures.reads tt c.in_ok-symbol.ensures.read) c.in_ok-whole_name.ensures)
    (λ file read costs told is are.
    let here = symbol_is file told c.args.symbols.now c.args.index c.in_ok-symbol.symbol is c.args.symbols.now.rows c.requires.below read.0 in
    unnamed file told c.args.symbols.now c.args.index c.in_ok-symbol.symbol is c.args.symbols.now.rows c.requires.below read.0 (sym (c.is_reference.ensures file _ here) ∙ c.if-not-is_reference.false)
    c.whole_name.new.name (rw (off, place) at read.1) (rw (c.bytes.ensures.value) at (sym c.is_empty.ensures ∙ c.if-is_empty.true)))
