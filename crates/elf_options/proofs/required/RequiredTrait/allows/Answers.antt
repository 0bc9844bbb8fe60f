use Rattle.std.proofs.Common.{rules, arith, bytes_eq, ap, sym, ◌∙◌}
use Rattle.std.proofs.lemmas.Str.Pattern.{split_parts}
use Rattle.elf_model.specs.Prelude.{alternatives}
use Rattle.elf_model.proofs.PieceLaws.{first_piece, one_piece}
use Rattle.elf_options.proofs.AlternativeLaws.{any_after, any_here, any_last}
use Rattle.elf_options.proofs.required.RequiredTrait.allows.Goals as goal

pub returns-then-eq : goal.returns-then-eq
returns-then-eq c =
    let rest = c.loop-other.rest.now in
    let cut = rw c.in-Some.is at (split_parts 124 rest c.split_once.result c.split_once.ensures.cases (omega arith)) in
    sym (any_here (bytes_eq c.args.word.now) rest _ _ (ap alternatives cut.0 ∙ first_piece c.in-Some.other.now c.in-Some.others.now cut.1) (sym c.eq.ensures ∙ c.if-eq.true))
    ∙ c.loop-other.invariant.0

pub loop-other-preserved : goal.loop-other-preserved
loop-other-preserved c =
    let rest = c.loop-other.rest.now in
    let cut = rw c.in-Some.is at (split_parts 124 rest c.split_once.result c.split_once.ensures.cases (omega arith)) in (
      sym (any_after (bytes_eq c.args.word.now) rest _ _ (ap alternatives cut.0 ∙ first_piece c.in-Some.other.now c.in-Some.others.now cut.1) (sym c.eq.ensures ∙ c.if-eq.false))
          ∙ c.loop-other.invariant.0,
      search rules,
    )

pub returns : goal.returns
returns c =
    let rest = c.loop-other.rest.now in
    let lacks = rw c.in_default.is at (split_parts 124 rest c.split_once.result c.split_once.ensures.cases (omega arith)) in
    c.eq-2.ensures ∙ sym (any_last (bytes_eq c.args.word.now) rest (one_piece rest lacks)) ∙ c.loop-other.invariant.0
