-- The first section that has the entry is the first one that is found.
use Rattle.std.proofs.Common.{◌≡◌, ℕ, ap, inl, inr, ◌∙◌, arith}
use Rattle.std.proofs.lemmas.Bool.{cases_eq}
use Rattle.elf_model.specs.Prelude.{e_shnum, refused_in, relocates_at, section_at}
use Rattle.elf_model.proofs.LookupSteps.{first_that-none, first_that-some}
use Rattle.elf_reloc.proofs.entries.entries_at.Goals as goal

pub returns-in-Some-clause-found : goal.returns-in-Some-clause-found
unfolding refused_in
returns-in-Some-clause-found c = λ bytes belongs.
    let count : c.sections-index-end.result ≡ e_shnum bytes = c.sections-index-end.ensures ∙ (belongs.count ∙ belongs.header.e_shnum) in
    let has = c.in-Some.ensures.has bytes belongs in (
      c.loop-index.index,
      first_that-some (λ (i : ℕ). relocates_at bytes c.args.section c.args.rela (section_at bytes i)) 0 (e_shnum bytes) c.loop-index.index (omega arith) (omega (arith, c.loop-index-test.true, count))
          (λ j low high. c.loop-index.invariant bytes belongs j high) has.0,
      has.1,
    )

pub loop-index-preserved : goal.loop-index-preserved
loop-index-preserved c = λ bytes belongs i low.
    elim (cases_eq i c.loop-index.index) [
      | inl same ↦ ap (λ (k : ℕ). relocates_at bytes c.args.section c.args.rela (section_at bytes k)) same ∙ c.in_default.ensures.has bytes belongs
      | inr other ↦ c.loop-index.invariant bytes belongs i (omega arith)
    ]

pub returns-clause-found : goal.returns-clause-found
unfolding refused_in
returns-clause-found c = λ bytes belongs.
    let count : c.sections-index-end.result ≡ e_shnum bytes = c.sections-index-end.ensures ∙ (belongs.count ∙ belongs.header.e_shnum) in
    first_that-none (λ (i : ℕ). relocates_at bytes c.args.section c.args.rela (section_at bytes i)) 0 (e_shnum bytes)
    (λ j low high. c.loop-index.invariant bytes belongs j (omega (arith, c.loop-index-test.false, count)))
