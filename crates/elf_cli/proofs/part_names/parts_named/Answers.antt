use Rattle.std.proofs.Common.{rules, arith, ap, ◌∙◌}
use Rattle.std.proofs.lemmas.Str.Pattern.{split_parts}
use Rattle.elf_cli.specs.Pieces.{pieces}
use Rattle.elf_cli.proofs.PartLaws.{part_last, part_more}
use Rattle.elf_model.proofs.PieceLaws.{first_piece, one_piece}
use Rattle.elf_cli.proofs.part_names.parts_named.Goals as goal

pub loop-name-preserved : goal.loop-name-preserved
loop-name-preserved c =
    let rest = c.loop-name.rest.now in
    let cut = rw c.in-Some.is at (split_parts 44 rest c.split_once.result c.split_once.ensures.cases (omega arith)) in (
      part_more c.loop-name.parts.0 c.part_named.result.0 _ rest c.in-Some.others.now c.in-Some.name.now c.loop-name.invariant.0
          (ap pieces cut.0 ∙ first_piece c.in-Some.name.now c.in-Some.others.now cut.1) c.part_named.ensures,
      search rules,
    )

pub returns : goal.returns
returns c =
    let rest = c.loop-name.rest.now in
    let lacks = rw c.in_default.is at (split_parts 44 rest c.split_once.result c.split_once.ensures.cases (omega arith)) in
    part_last c.loop-name.parts.0 c.part_named-2.result.0 _ rest c.loop-name.invariant.0 (one_piece rest lacks) c.part_named-2.ensures
