-- The name of the record is read, or refused.
use Rattle.std.proofs.Common.{[], Ok, Err, sym, ◌∙◌, arith}
use Rattle.std.proofs.lemmas.Result.{err_from_is_err_and}
use Rattle.elf_table.proofs.LedgerLaws.{CallDid-as}
use Rattle.elf_table.specs.Prelude.{strings_in}
use Rattle.elf_library.proofs.NeedReadLaws.{definition_met, file_met, name_of_met, need_fails, need_met}
use Rattle.elf_library.proofs.needed_versions.NeedsWalk.take.Goals as goal

pub returns-in_err-whole_name-in-File-clause-did : goal.returns-in_err-whole_name-in-File-clause-did
returns-in_err-whole_name-in-File-clause-did g c =
    let p = err_from_is_err_and c.from_residual.result c.from_residual.ensures.1 in
    let off = c.from-off.ensures in
    let strings = c.args.self.now.records.names in
    rw (p.1, p.2)
    (CallDid-as _ (omega arith) c.in_err-whole_name-in-File.ensures
    (λ file told costs met others is.
    need_fails file c.args.self.now.library (strings_in file strings) met others [] c.args.self.now c.whole_name.new.name c.in_err-whole_name-in-File.field-0.0 (name_of_met file (strings_in file strings) met c.args.given.now is c.whole_name.new.name (Err c.in_err-whole_name-in-File.field-0.0) (rw off at told))))

pub returns-in_err-whole_name-in-Definition-clause-did : goal.returns-in_err-whole_name-in-Definition-clause-did
returns-in_err-whole_name-in-Definition-clause-did g c =
    let p = err_from_is_err_and c.from_residual-in_err-whole_name-in-Definition.result c.from_residual-in_err-whole_name-in-Definition.ensures.1 in
    let off = c.from-off.ensures in
    let strings = c.args.self.now.records.names in
    rw (p.1, p.2)
    (CallDid-as _ (omega arith) c.in_err-whole_name-in-Definition.ensures
    (λ file told costs met others is.
    need_fails file c.args.self.now.library (strings_in file strings) met others [] c.args.self.now c.whole_name-in-Definition.new.name c.in_err-whole_name-in-Definition.field-0.0 (name_of_met file (strings_in file strings) met c.args.given.now is c.whole_name-in-Definition.new.name (Err c.in_err-whole_name-in-Definition.field-0.0) (rw off at told))))

pub returns-in_err-whole_name-in-Need-clause-did : goal.returns-in_err-whole_name-in-Need-clause-did
returns-in_err-whole_name-in-Need-clause-did g c =
    let p = err_from_is_err_and c.from_residual-in_err-whole_name-in-Need.result c.from_residual-in_err-whole_name-in-Need.ensures.1 in
    let off = c.from-off.ensures in
    let strings = c.args.self.now.records.names in
    rw (p.1, p.2)
    (CallDid-as _ (omega arith) c.in_err-whole_name-in-Need.ensures
    (λ file told costs met others is.
    need_fails file c.args.self.now.library (strings_in file strings) met others [] c.args.self.now c.whole_name-in-Need.new.name c.in_err-whole_name-in-Need.field-0.0 (name_of_met file (strings_in file strings) met c.args.given.now is c.whole_name-in-Need.new.name (Err c.in_err-whole_name-in-Need.field-0.0) (rw off at told))))

pub returns-in_ok-whole_name-in-File-clause-did : goal.returns-in_ok-whole_name-in-File-clause-did
returns-in_ok-whole_name-in-File-clause-did g c =
    let off = c.from-off.ensures in
    let strings = c.args.self.now.records.names in
    CallDid-as _ (omega arith) c.in_ok-whole_name-in-File.ensures
    (λ file told costs met others is.
    file_met file c.args.self.now.library (strings_in file strings) met others c.whole_name.new.name (name_of_met file (strings_in file strings) met c.args.given.now is c.whole_name.new.name (Ok tt) (rw off at told)) (sym is.kind ∙ c.in-File.is))

pub returns-in_ok-whole_name-in-Definition-clause-did : goal.returns-in_ok-whole_name-in-Definition-clause-did
returns-in_ok-whole_name-in-Definition-clause-did g c =
    let off = c.from-off.ensures in
    let strings = c.args.self.now.records.names in
    CallDid-as _ (omega arith) c.in_ok-whole_name-in-Definition.ensures
    (λ file told costs met others is.
    definition_met file c.args.self.now.library (strings_in file strings) met others c.whole_name-in-Definition.new.name (name_of_met file (strings_in file strings) met c.args.given.now is c.whole_name-in-Definition.new.name (Ok tt) (rw off at told)) (sym is.kind ∙ c.in-Definition.is))

pub returns-in_ok-whole_name-in-Need-clause-did : goal.returns-in_ok-whole_name-in-Need-clause-did
returns-in_ok-whole_name-in-Need-clause-did g c =
    let off = c.from-off.ensures in
    let strings = c.args.self.now.records.names in
    CallDid-as _ (omega arith) c.in_ok-whole_name-in-Need.ensures
    (λ file told costs met others is.
    need_met file c.args.self.now.library (strings_in file strings) met others c.whole_name-in-Need.new.name (name_of_met file (strings_in file strings) met c.args.given.now is c.whole_name-in-Need.new.name (Ok tt) (rw off at told)) c.args.given.now is (sym is.kind ∙ c.in-Need.is))
