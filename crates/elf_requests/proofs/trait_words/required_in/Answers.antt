use Rattle.std.proofs.Common.{rules, arith, ap, ◌∙◌}
use Rattle.std.proofs.lemmas.Str.Pattern.{split_parts}
use Rattle.elf_cli.specs.Pieces.{pieces}
use Rattle.elf_model.proofs.PieceLaws.{first_piece, one_piece}
use Rattle.elf_requests.proofs.PieceLaws.{unknown_after, word_fault, word_last, word_more}
use Rattle.elf_requests.proofs.trait_words.required_in.Goals as goal

pub returns-in-Err-clause-refused : goal.returns-in-Err-clause-refused
returns-in-Err-clause-refused c =
    let rest = c.loop-piece.rest.now in
    let cut = rw c.in-Some.is at (split_parts 44 rest c.split_once.result c.split_once.ensures.cases (omega arith)) in
    word_fault c.args.text.now rest c.in-Some.piece.now c.loop-piece.invariant.1 _ c.in-Err.fault
    (ap pieces cut.0 ∙ first_piece c.in-Some.piece.now c.in-Some.behind.now cut.1) c.in-Err.ensures.refused

pub loop-piece-preserved : goal.loop-piece-preserved
loop-piece-preserved c =
    let rest = c.loop-piece.rest.now in
    let cut = rw c.in-Some.is at (split_parts 44 rest c.split_once.result c.split_once.ensures.cases (omega arith)) in
    let parts = ap pieces cut.0 ∙ first_piece c.in-Some.piece.now c.in-Some.behind.now cut.1 in (
      word_more _ _ c.args.text.now rest c.in-Some.behind.now c.in-Some.piece.now c.loop-piece.invariant.0 parts c.in_default-put_required.ensures.put,
      unknown_after c.args.text.now rest c.in-Some.piece.now c.loop-piece.invariant.1 c.in-Some.behind.now parts c.in_default-put_required.ensures.known,
      search rules,
    )

pub returns-in-Ok-clause-words : goal.returns-in-Ok-clause-words
returns-in-Ok-clause-words c =
    let rest = c.loop-piece.rest.now in
    let lacks = rw c.in_default.is at (split_parts 44 rest c.split_once.result c.split_once.ensures.cases (omega arith)) in
    word_last _ _ c.args.text.now rest c.loop-piece.invariant.0 (one_piece rest lacks) c.in-Ok.ensures.put

pub returns-clause-refused : goal.returns-clause-refused
returns-clause-refused c =
    let rest = c.loop-piece.rest.now in
    let lacks = rw c.in_default.is at (split_parts 44 rest c.split_once.result c.split_once.ensures.cases (omega arith)) in
    word_fault c.args.text.now rest rest c.loop-piece.invariant.1 _ c.in-Err-put_required.fault (one_piece rest lacks) c.in-Err-put_required.ensures.refused
