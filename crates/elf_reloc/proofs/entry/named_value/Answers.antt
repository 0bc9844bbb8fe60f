-- The symbol is found, and then its value.
use Rattle.std.proofs.Common.{rules, ap, ◌∙◌, arith}
use Rattle.std.proofs.lemmas.Result.{err_from_is_err_and}
use Rattle.elf_table.specs.Prelude.{strings_in}
use Rattle.elf_table.proofs.LedgerLaws.{CallDid-as, CallDid-then}
use Rattle.elf_reloc.specs.Entries.{target_as}
use Rattle.elf_reloc.proofs.EntrySteps.{term_found, term_refused, term_unnamed}
use Rattle.elf_table.proofs.Absent.{none-of}
use Rattle.elf_reloc.proofs.entry.named_value.Goals as goal

pub returns-in_err-found-clause-did : goal.returns-in_err-found-clause-did
returns-in_err-found-clause-did g c =
    let p = err_from_is_err_and c.from_residual.result c.from_residual.ensures.1 in
    rw (p.1, p.2)
    (record {
      costs = search rules;
      known = λ file held header refers named.
          term_refused (target_as file c.args.target.now) c.args.base header c.args.at c.args.symbol named _ (c.in_err-found.ensures.held file header refers);
    })

pub returns-in_default-clause-did : goal.returns-in_default-clause-did
returns-in_default-clause-did g c = record {
  costs = search rules;
  known = λ file held header refers named.
      let none = none-of c.in_ok-found.field-0 c.in_default.not-Some in
      let zero = rw none at (c.in_ok-found.ensures.held file header refers) in
      term_unnamed (target_as file c.args.target.now) c.args.base header c.args.at c.args.symbol named _ zero c.unnamed_value.ensures.value;
}

pub returns-clause-did : goal.returns-clause-did
returns-clause-did g c =
    CallDid-as _ (omega arith) (CallDid-then c.in_ok-named.ensures.did c.base_value.ensures)
    (λ file read costs header refers named.
    let found = rw c.in-Some.is at (c.in_ok-found.ensures.held file header refers) in
    term_found (target_as file c.args.target.now) c.args.base header c.args.at c.args.symbol named _ _ _ found.0 found.1 (read.0.0 ∙ found.2) (ap (strings_in file) c.in_ok-named.ensures.names ∙ found.3) (read.1 read.0.1))
