use Rattle.std.proofs.Common.{rules, arith, ap, sym, ◌∙◌}
use Rattle.std.proofs.lemmas.Str.Pattern.{split_parts}
use Rattle.elf_cli.specs.Pieces.{pieces}
use Rattle.elf_cli.proofs.PartLaws.{name_known, name_last, name_unknown}
use Rattle.elf_model.proofs.PieceLaws.{first_piece, one_piece}
use Rattle.elf_cli.proofs.part_names.unknown_part.Goals as goal

pub returns-then-not-is_part_name : goal.returns-then-not-is_part_name
returns-then-not-is_part_name c =
    let rest = c.loop-name.rest.now in
    let cut = rw c.in-Some.is at (split_parts 44 rest c.split_once.result c.split_once.ensures.cases (omega arith)) in
    name_unknown c.args.archived _ rest c.loop-name.invariant.0 c.in-Some.name.now _ (ap pieces cut.0 ∙ first_piece c.in-Some.name.now c.in-Some.others.now cut.1)
    (sym c.is_part_name.ensures ∙ c.if-not-is_part_name.true)

pub loop-name-preserved : goal.loop-name-preserved
loop-name-preserved c =
    let rest = c.loop-name.rest.now in
    let cut = rw c.in-Some.is at (split_parts 44 rest c.split_once.result c.split_once.ensures.cases (omega arith)) in (
      name_known c.args.archived _ rest c.loop-name.invariant.0 c.in-Some.others.now c.in-Some.name.now
          (ap pieces cut.0 ∙ first_piece c.in-Some.name.now c.in-Some.others.now cut.1) (sym c.is_part_name.ensures ∙ c.if-not-is_part_name.false),
      search rules,
    )

pub returns-then-is_part_name : goal.returns-then-is_part_name
returns-then-is_part_name c =
    let rest = c.loop-name.rest.now in
    let lacks = rw c.in_default.is at (split_parts 44 rest c.split_once.result c.split_once.ensures.cases (omega arith)) in
    name_last c.args.archived _ rest c.loop-name.invariant.0 (one_piece rest lacks) (sym c.is_part_name-2.ensures ∙ c.if-is_part_name.true)

pub returns-else-is_part_name : goal.returns-else-is_part_name
returns-else-is_part_name c =
    let rest = c.loop-name.rest.now in
    let lacks = rw c.in_default.is at (split_parts 44 rest c.split_once.result c.split_once.ensures.cases (omega arith)) in
    name_unknown c.args.archived _ rest c.loop-name.invariant.0 rest _ (one_piece rest lacks) (sym c.is_part_name-2.ensures ∙ c.if-is_part_name.false)
