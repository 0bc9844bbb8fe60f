-- The lines of what is lacking, one required trait after another.
use Rattle.std.proofs.Common.{◌∙◌, ◌+◌, arith, refl, sym}
use Rattle.std.proofs.lemmas.Result.{err_from_is_err_and}
use Rattle.elf_walk.proofs.LackingLaws.{shows_all, shows_failed, shows_had, shows_lacked, shows_none, shows_nothing, status_of_all, status_of_nothing}
use Rattle.elf_walk.proofs.trait_lines.show_missing_traits.Goals as goal
use Rattle.elf_walk.proofs.trait_lines.show_missing_traits.Goals.{then-not-has_word+in_ok-show_missing_trait, else-not-has_word}

pub loop-wanted-init : goal.loop-wanted-init
loop-wanted-init g c = shows_none _ _ _ _ c.requires

pub returns-in_err-show_missing_trait-clause-puts : goal.returns-in_err-show_missing_trait-clause-puts
returns-in_err-show_missing_trait-clause-puts g c =
    let p = err_from_is_err_and c.from_residual.result c.from_residual.ensures.1 in
    let puts = c.in_err-show_missing_trait.ensures.puts in
    rw (p.1, p.2)
    (shows_failed _ _ _ c.loop-wanted.wanted-index _ _ _ _ _ c.loop-wanted-test.true (sym c.is_program.ensures ∙ c.if-is_program.true) (sym c.has_word.ensures ∙ c.if-not-has_word.true) c.loop-wanted.invariant puts.0, puts.1)

pub loop-wanted-preserved : goal.loop-wanted-preserved
loop-wanted-preserved g c = elim c.if-not-has_word.branch [
  | then-not-has_word+in_ok-show_missing_trait w ↦
      rw (w.out-is, w.status-is)
      (shows_lacked _ _ _ c.loop-wanted.wanted-index (c.loop-wanted.wanted-index + 1) _ _ _ _ _ c.loop-wanted-test.true (omega arith) (sym c.has_word.ensures ∙ w.if-not-has_word.true) c.loop-wanted.invariant w.in_ok-show_missing_trait.ensures.puts.0 w.in_ok-show_missing_trait.ensures.puts.1)
  | else-not-has_word w ↦
      rw (w.out-is, w.status-is)
      (shows_had _ _ _ c.loop-wanted.wanted-index (c.loop-wanted.wanted-index + 1) _ _ _ _ c.loop-wanted-test.true (omega arith) (sym c.has_word.ensures ∙ w.if-not-has_word.false) c.loop-wanted.invariant)
]

pub returns-after-loop-wanted-clause-puts : goal.returns-after-loop-wanted-clause-puts
returns-after-loop-wanted-clause-puts g c =
    shows_all _ _ _ c.loop-wanted.wanted-index _ _ _ (omega (arith, c.loop-wanted-test.false)) (sym c.is_program.ensures ∙ c.if-is_program.true) c.loop-wanted.invariant

pub returns-after-loop-wanted-clause-status : goal.returns-after-loop-wanted-clause-status
returns-after-loop-wanted-clause-status g c =
    status_of_all _ _ _ c.loop-wanted.wanted-index _ _ _ (omega (arith, c.loop-wanted-test.false)) (sym c.is_program.ensures ∙ c.if-is_program.true) c.loop-wanted.invariant

pub returns-else-is_program-clause-puts : goal.returns-else-is_program-clause-puts
returns-else-is_program-clause-puts g c = shows_nothing _ _ _ _ (sym c.is_program.ensures ∙ c.if-is_program.false) c.requires

pub returns-else-is_program-clause-status : goal.returns-else-is_program-clause-status
returns-else-is_program-clause-status g c = status_of_nothing _ _ (sym c.is_program.ensures ∙ c.if-is_program.false)
