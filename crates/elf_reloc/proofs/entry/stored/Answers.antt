use Rattle.std.proofs.Common.{rules, ◌/◌, ◌+◌, nat_lt, sym, ap, ◌∙◌, arith}
use Rattle.std.proofs.lemmas.Bool.Decides.{nat_tests}
use Rattle.std.proofs.lemmas.Grind.{common_steps}
use Rattle.std.proofs.lemmas.Result.{err_from_is_err_and}
use Rattle.elf_reloc.specs.Entries.{target_as}
use Rattle.elf_reloc.proofs.Words.{typed}
use Rattle.elf_reloc.proofs.EntrySteps.{does_unnamed}
use Rattle.elf_reloc.proofs.entry.stored.Goals as goal

pub patch_of-requires-clause-width : goal.patch_of-requires-clause-width
patch_of-requires-clause-width g c = c.requires.width

pub patch_of-requires-clause-sized : goal.patch_of-requires-clause-sized
patch_of-requires-clause-sized g c = c.requires.sized

pub returns-in-Ok-clause-inside : goal.returns-in-Ok-clause-inside
returns-in-Ok-clause-inside g c = grind (arith, nat_tests)

pub returns-then-ends_past-clause-did : goal.returns-then-ends_past-clause-did
unfolding typed
returns-then-ends_past-clause-did g c = record { costs = search rules; same = search rules; refers = λ file header held linked decoded. linked; known = grind (arith, common_steps) }

pub returns-in_err-value-clause-did : goal.returns-in_err-value-clause-did
returns-in_err-value-clause-did g c =
    let p = err_from_is_err_and c.from_residual.result c.from_residual.ensures.1 in
    let e = c.in_err-value.ensures in
    rw (p.1, p.2)
    (record {
      costs = e.costs;
      same = e.same;
      refers = λ file header held linked decoded. e.refers file header held linked (c.symbol.ensures ∙ ap (λ n. n / 4294967296) decoded.r_info);
      known = λ file header held linked decoded.
          does_unnamed (target_as file c.args.target.now) header c.args.at c.args.found _
          (ap (λ n. nat_lt c.args.target.now.size (n + c.args.found.width)) (sym decoded.r_offset) ∙ (sym c.ends_past.ensures ∙ c.if-ends_past.false))
          (e.known file header held linked (c.symbol.ensures ∙ ap (λ n. n / 4294967296) decoded.r_info));
    })

pub returns-in_default-clause-did : goal.returns-in_default-clause-did
unfolding typed
returns-in_default-clause-did g c = record {
  costs = search rules;
  same = search rules;
  refers = λ file header held linked decoded. c.in_ok-value.ensures.refers file header held linked (c.symbol.ensures ∙ ap (λ n. n / 4294967296) decoded.r_info);
  known = grind (arith, common_steps);
}

pub returns-in-Ok-clause-did : goal.returns-in-Ok-clause-did
unfolding typed
returns-in-Ok-clause-did g c = record {
  costs = search rules;
  same = search rules;
  refers = λ file header held linked decoded. c.in_ok-value.ensures.refers file header held linked (c.symbol.ensures ∙ ap (λ n. n / 4294967296) decoded.r_info);
  known = search rules;
}

pub returns-in-Err-clause-did : goal.returns-in-Err-clause-did
unfolding typed
returns-in-Err-clause-did g c = record {
  costs = search rules;
  same = search rules;
  refers = λ file header held linked decoded. c.in_ok-value.ensures.refers file header held linked (c.symbol.ensures ∙ ap (λ n. n / 4294967296) decoded.r_info);
  known = search rules;
}
