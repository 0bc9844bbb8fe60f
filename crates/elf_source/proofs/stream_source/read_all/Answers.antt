-- A turn reads some bytes after those before it, or is interrupted.
use Rattle.std.proofs.Common.{◌+◌, length, ◌∙◌, arith}
use Rattle.std.proofs.lemmas.Slice.{take-put_mid_below}
use Rattle.elf_source.proofs.TurnLaws.{filled_then, filled_all, turn_within, turn_after, turned_at, turns_more}
use borrow.Rule.Slice.PartMut.{same_len_mid}
use Rattle.elf_source.proofs.stream_source.read_all.Goals as goal

pub loop-got-preserved-in-Ok : goal.loop-got-preserved-in-Ok
loop-got-preserved-in-Ok g c =
    let l = c.loop-got in
    let i = l.invariant in
    let e = c.in-Ok.ensures in
    let same = c.read_at.auto.out in
    record {
      within = turn_within l.got c.in-Ok.count l.out c.read_at.new.out i.within same e.within;
      few = i.few;
      same = e.same ∙ i.same;
      counted = omega (arith, e.turn, i.counted);
      turned =
          turns_more g.R.ReadAt.one_turn c.args.reader.now c.read_at.new.self c.args.at (c.args.at + l.got) (c.args.at + (l.got + c.in-Ok.count)) (c.args.at + length c.args.out.now) _ _
          (turn_after g.R.ReadAt.one_turn c.args.reader.now l.reader c.read_at.new.self c.args.at l.got (length c.args.out.now) (l.got + l.interrupted) (c.args.at + l.got) l.out i.within l.auto.out (omega arith) i.turned e.once)
          (omega arith) (omega (arith, c.in-Ok.count-test.1));
      filled = λ file held.
          filled_then file l.out c.read_at.new.out c.args.at l.got c.in-Ok.count _ i.within (omega (arith, e.within, same)) (i.filled file held) (e.gives file (i.same ∙ held)).bytes;
    }

pub loop-got-preserved : goal.loop-got-preserved
loop-got-preserved g c =
    let l = c.loop-got in
    let i = l.invariant in
    let e = c.in-Err-Interrupted in
    let turn = rw e.field-0-is at e.ensures.turn in
    record {
      within = omega (arith, i.within, same_len_mid l.got _ l.out c.read_at.new.out c.read_at.auto.out);
      few = c.if-interrupted-lt-INTERRUPTED_TURNS.true;
      same = e.ensures.same ∙ i.same;
      counted = omega (arith, turn, i.counted);
      turned =
          turns_more g.R.ReadAt.one_turn c.args.reader.now c.read_at.new.self c.args.at (c.args.at + l.got) (c.args.at + l.got) (c.args.at + length c.args.out.now) _ _
          (turn_after g.R.ReadAt.one_turn c.args.reader.now l.reader c.read_at.new.self c.args.at l.got (length c.args.out.now) (l.got + l.interrupted) (c.args.at + l.got) l.out i.within l.auto.out (omega arith) i.turned e.ensures.once)
          (omega arith) (omega arith);
      filled = λ file held. take-put_mid_below l.got _ l.out c.read_at.new.out l.got (omega arith) i.within ∙ i.filled file held;
    }

pub returns-clause-slice : goal.returns-clause-slice
returns-clause-slice g c = λ file held.
    let l = c.loop-got in
    filled_all l.got c.args.at (length c.args.out.now) l.out file l.invariant.within c.loop-got-test.false l.auto.out (l.invariant.filled file held)

pub returns-in-Ok-eq0-clause-turns : goal.returns-in-Ok-eq0-clause-turns
returns-in-Ok-eq0-clause-turns g c =
    let l = c.loop-got in
    let i = l.invariant in
    turned_at g.R.ReadAt.one_turn c.args.reader.now l.reader c.read_at.new.self c.args.at l.got (length c.args.out.now) l.interrupted l.out i.within l.auto.out i.few i.turned c.in-Ok-eq0.ensures.once (omega (arith, c.loop-got-test.true, l.auto.out))

pub returns-in-Err-clause-turns : goal.returns-in-Err-clause-turns
returns-in-Err-clause-turns g c =
    let l = c.loop-got in
    let i = l.invariant in
    turned_at g.R.ReadAt.one_turn c.args.reader.now l.reader c.read_at.new.self c.args.at l.got (length c.args.out.now) l.interrupted l.out i.within l.auto.out i.few i.turned c.in-Err.ensures.once (omega (arith, c.loop-got-test.true, l.auto.out))

pub returns-in-Err-2-clause-turns : goal.returns-in-Err-2-clause-turns
returns-in-Err-2-clause-turns g c =
    let l = c.loop-got in
    let i = l.invariant in
    turned_at g.R.ReadAt.one_turn c.args.reader.now l.reader c.read_at.new.self c.args.at l.got (length c.args.out.now) l.interrupted l.out i.within l.auto.out i.few i.turned c.in-Err.ensures.once (omega (arith, c.loop-got-test.true, l.auto.out))

pub returns-clause-turns : goal.returns-clause-turns
returns-clause-turns g c =
    let l = c.loop-got in
    let i = l.invariant in
    turns_more g.R.ReadAt.one_turn c.args.reader.now l.reader c.args.at (c.args.at + l.got) _ (c.args.at + length c.args.out.now) _ _ i.turned
    (omega (arith, i.within, l.auto.out)) (omega (arith, i.within, l.auto.out, i.few))
