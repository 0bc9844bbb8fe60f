use Rattle.std.proofs.Common.{◌++◌, length, take, sym, ap, subst, ◌∙◌, arith, Ok}
use Rattle.elf_layout.specs.Texts.{HasShortLines, IsCutBefore, PutsPiece}
use Rattle.elf_layout.proofs.TextSteps.{all_read, cut_before, read_more}
use Rattle.elf_layout.proofs.texts.read_text.Goals as goal

pub returns-in-Ok-eq0-clause-text : goal.returns-in-Ok-eq0-clause-text
returns-in-Ok-eq0-clause-text g c = λ bytes known.
    let r = c.loop-turn.invariant.read bytes known in
    let all = all_read bytes c.loop-turn.text.items r.0 _ _ c.read.result c.in-Ok-eq0.field-0 c.read.new.buf r.2 r.1 c.in-Ok-eq0.is c.in-Ok-eq0.field-0-test (omega (arith, c.loop-turn.invariant.room, c.read.auto.buf)) c.read.ensures.bytes in
    (all, subst (λ l. HasShortLines l (length l)) all c.loop-turn.invariant.short)

pub returns-in-Cut-clause-text : goal.returns-in-Cut-clause-text
returns-in-Cut-clause-text g c = λ bytes known.
    let r = c.loop-turn.invariant.read bytes known in
    let put = subst (λ e. PutsPiece c.loop-turn.text.items (take c.min.result c.read.new.buf) c.put_piece.new.text.items c.put_piece.new.line (Ok e)) c.in-Cut.is c.in_ok-put_piece.ensures.put in
    let more = read_more bytes c.loop-turn.text.items r.0 _ _ c.in-Ok.count c.min.result c.read.new.buf r.2 r.1 (omega (arith, c.min.ensures, c.in-Ok.ensures.bound)) c.in-Ok.ensures.bytes.0 in
    subst (IsCutBefore c.put_piece.new.text.items) (sym more.2) (cut_before c.put_piece.new.text.items (c.loop-turn.text.items ++ take c.min.result c.read.new.buf) more.0 put)

pub loop-turn-preserved : goal.loop-turn-preserved
loop-turn-preserved g c =
    let put = subst (λ e. PutsPiece c.loop-turn.text.items (take c.min.result c.read.new.buf) c.put_piece.new.text.items c.put_piece.new.line (Ok e)) c.in-Whole.is c.in_ok-put_piece.ensures.put in
    record {
      few = c.put_piece.ensures.few;
      room = omega (arith, c.loop-turn.invariant.room, c.read.auto.buf);
      within = put.1;
      short = put.2;
      read = λ bytes known.
          let r = c.loop-turn.invariant.read bytes known in
          let more = read_more bytes c.loop-turn.text.items r.0 _ _ c.in-Ok.count c.min.result c.read.new.buf r.2 r.1 (omega (arith, c.min.ensures, c.in-Ok.ensures.bound)) c.in-Ok.ensures.bytes.0 in
          (more.0, more.1, more.2 ∙ ap (λ l. l ++ more.0) (sym put.0));
    }
