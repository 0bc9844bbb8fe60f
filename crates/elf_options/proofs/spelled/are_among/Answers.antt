use Rattle.std.proofs.Common.{rules, arith, ap, sym, ◌∙◌}
use Rattle.std.proofs.lemmas.Str.Pattern.{split_parts}
use Rattle.elf_model.specs.Prelude.{alternatives}
use Rattle.elf_model.proofs.PieceLaws.{first_piece, one_piece}
use Rattle.elf_options.proofs.AlternativeLaws.{all_after, all_here, all_last}
use Rattle.elf_options.proofs.spelled.are_among.Goals as goal

pub returns-then-not-is_among : goal.returns-then-not-is_among
returns-then-not-is_among c =
    let rest = c.loop-word.rest.now in
    let cut = rw c.in-Some.is at (split_parts 124 rest c.split_once.result c.split_once.ensures.cases (omega arith)) in
    sym (all_here _ rest _ _ (ap alternatives cut.0 ∙ first_piece c.in-Some.word.now c.in-Some.others.now cut.1) (sym c.is_among.ensures ∙ c.if-not-is_among.true))
    ∙ c.loop-word.invariant.0

pub loop-word-preserved : goal.loop-word-preserved
loop-word-preserved c =
    let rest = c.loop-word.rest.now in
    let cut = rw c.in-Some.is at (split_parts 124 rest c.split_once.result c.split_once.ensures.cases (omega arith)) in (
      sym (all_after _ rest _ _ (ap alternatives cut.0 ∙ first_piece c.in-Some.word.now c.in-Some.others.now cut.1) (sym c.is_among.ensures ∙ c.if-not-is_among.false))
          ∙ c.loop-word.invariant.0,
      search rules,
    )

pub returns : goal.returns
returns c =
    let rest = c.loop-word.rest.now in
    let lacks = rw c.in_default.is at (split_parts 124 rest c.split_once.result c.split_once.ensures.cases (omega arith)) in
    c.is_among-2.ensures ∙ sym (all_last _ rest (one_piece rest lacks)) ∙ c.loop-word.invariant.0
