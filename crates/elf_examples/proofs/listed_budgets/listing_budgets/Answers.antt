use Rattle.elf_examples.proofs.Budgets.{after_cut, answers_shown, nothing_else, nothing_shown}
use Rattle.elf_examples.proofs.OtherAnswers.{not_shown}
use Rattle.elf_examples.proofs.OtherTexts.{no_cuts}
use Rattle.elf_examples.proofs.listed_budgets.listing_budgets.Goals as goal

pub returns-clause-budget_may_end_a_listing : goal.returns-clause-budget_may_end_a_listing
returns-clause-budget_may_end_a_listing c = after_cut

pub returns-clause-nothing_else_is_allowed : goal.returns-clause-nothing_else_is_allowed
returns-clause-nothing_else_is_allowed c = nothing_else

pub returns-clause-other_texts_are_no_cuts : goal.returns-clause-other_texts_are_no_cuts
returns-clause-other_texts_are_no_cuts c = no_cuts

pub returns-clause-allowed_answers_are_shown : goal.returns-clause-allowed_answers_are_shown
returns-clause-allowed_answers_are_shown c = answers_shown

pub returns-clause-nothing_else_is_shown : goal.returns-clause-nothing_else_is_shown
returns-clause-nothing_else_is_shown c = nothing_shown

pub returns-clause-other_answers_are_not_shown : goal.returns-clause-other_answers_are_not_shown
returns-clause-other_answers_are_not_shown c = not_shown
