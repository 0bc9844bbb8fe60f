-- The matcher for all symbols finds one, and it is skipped if it is undefined.
use Rattle.std.proofs.Common.{refl, arith}
use Rattle.std.proofs.lemmas.Result.{err_from_is_err_and}
use Rattle.elf_table.proofs.LedgerLaws.{CallDid-as}
use Rattle.elf_loader.specs.NumberSets.{has_number}
use Rattle.elf_model.specs.Loader.{answers}
use Rattle.elf_options.specs.Wants.{query_of}
use Rattle.elf_library.proofs.DefinerLaws.{tries_answer, tries_fault}
use Rattle.elf_library.proofs.definition.DefinitionMatcherMatcher.tried.Goals as goal

pub returns-in_err-tried : goal.returns-in_err-tried
returns-in_err-tried g c =
    let p = err_from_is_err_and c.from_residual.result c.from_residual.ensures.1 in
    let t = c.args.self.now.offered in
    record {
      did = rw (p.1, p.2)
          (CallDid-as _ (omega arith) c.in_err-tried.ensures.did
          (λ file read costs says is.
          tries_fault file t.symbols.now (query_of t.wanted.now) (has_number t.numbers.now) says c.args.index is _
          (read (answers file is.told (query_of t.wanted.now) (has_number t.numbers.now)) (record { told = is.told; are = is.are; says_so = refl }))));
    }

pub returns : goal.returns
returns g c =
    let t = c.args.self.now.offered in
    record {
      did = rw c.if_defined.ensures
          (CallDid-as _ (omega arith) c.in_ok-tried.ensures.did
          (λ file read costs says is.
          tries_answer file t.symbols.now (query_of t.wanted.now) (has_number t.numbers.now) says c.args.index is c.in_ok-tried.field-0 t.symbols.now.rows
          (read (answers file is.told (query_of t.wanted.now) (has_number t.numbers.now)) (record { told = is.told; are = is.are; says_so = refl }))));
    }
