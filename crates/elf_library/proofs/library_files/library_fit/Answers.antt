-- The file is too short, or its header is read.
use Rattle.std.proofs.Common.{ℕ, ap, sym, ◌∙◌, arith}
use Rattle.elf_model.specs.Prelude.{RefusedAt}
use Rattle.elf_model.specs.declared.causes.Cause.TheVariants.{Short}
use Rattle.elf_table.proofs.LedgerLaws.{CallDid-of, CallReads-more, CallReads-none}
use Rattle.elf_library.proofs.FitLaws.{front_is, short_is}
use Rattle.elf_library.proofs.library_files.library_fit.Goals as goal

pub returns-then-length : goal.returns-then-length
returns-then-length g c = record {
  costs = CallReads-more 64 (omega arith) (CallReads-none c.args.src.now);
  known = λ file held.
      let sized = c.args.src.now.seen.sized file held in
      c.refused.ensures
      ∙ (ap (λ (n : ℕ). RefusedAt (record { at = n; cause = Short })) (c.length-length.ensures.value ∙ sym sized) ∙ short_is c.args.machine file (omega (arith, sized, c.length-length.ensures.value, c.if-length.true)));
}

pub returns : goal.returns
returns g c =
    CallDid-of c.fill.ensures.reads tt
    (λ file held.
    c.fit_by.ensures
    ∙ front_is c.args.machine file _ (c.in_ok-fill.ensures.read file held) (omega arith) (omega (arith, c.args.src.now.seen.sized file held, c.length-length.ensures.value, c.if-length.false)))
