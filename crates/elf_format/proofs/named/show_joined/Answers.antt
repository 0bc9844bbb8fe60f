-- The pieces are written one after another: the line with the first name, the text between, the
-- second name, and the tail.
use Rattle.std.proofs.lemmas.Result.{err_from_is_err_and}
use Rattle.elf_source.proofs.PutsLaws.{SinkTakesPrefix-more}
use Rattle.elf_format.specs.Prelude.{shown_as, spelt}
use Rattle.elf_format.proofs.NameText.{joined-pieces}
use Rattle.elf_format.proofs.Pieces.{TakesBefore-more, TakesBefore-then, TakesBefore-front, OutPuts-rest}
use Rattle.elf_format.proofs.named.show_joined.Goals as goal

pub returns-in_err-put_named : goal.returns-in_err-put_named
returns-in_err-put_named g c =
    let p = err_from_is_err_and c.from_residual.result c.from_residual.ensures.1 in rw (p.1, p.2) (
    let front = c.args.front.now in
    let next = c.args.next.now in
    let stopped = c.in_err-put_named.ensures.puts in
    let same = joined-pieces front.format front.key.now front.line.items (shown_as c.args.is_cut c.args.name.now) next.between.now next.name.now next.tail.now in
    record { puts = rw same (SinkTakesPrefix-more _ _ (SinkTakesPrefix-more _ _ (SinkTakesPrefix-more _ _ stopped.0)), stopped.1) })

pub returns-in_err-put_piece : goal.returns-in_err-put_piece
returns-in_err-put_piece g c =
    let failed = c.from_residual-in_err-put_piece in
    let p = err_from_is_err_and failed.result failed.ensures.1 in rw (p.1, p.2) (
    let front = c.args.front.now in
    let next = c.args.next.now in
    let stopped = c.in_err-put_piece.ensures.puts in
    let same = joined-pieces front.format front.key.now front.line.items (shown_as c.args.is_cut c.args.name.now) next.between.now next.name.now next.tail.now in
    let before = TakesBefore-more next.between.now c.in_ok-put_named.ensures.puts in
    record { puts = rw same (SinkTakesPrefix-more _ _ (SinkTakesPrefix-more _ _ (TakesBefore-front before stopped.0)), stopped.1) })

pub returns-in_err-put_name : goal.returns-in_err-put_name
returns-in_err-put_name g c =
    let failed = c.from_residual-in_err-put_name in
    let p = err_from_is_err_and failed.result failed.ensures.1 in rw (p.1, p.2) (
    let front = c.args.front.now in
    let next = c.args.next.now in
    let stopped = c.in_err-put_name.ensures.puts in
    let same = joined-pieces front.format front.key.now front.line.items (shown_as c.args.is_cut c.args.name.now) next.between.now next.name.now next.tail.now in
    let first = TakesBefore-more next.between.now c.in_ok-put_named.ensures.puts in
    let before = TakesBefore-more (spelt front.format next.name.now) (TakesBefore-then first c.in_ok-put_piece.ensures.puts) in
    record { puts = rw same (SinkTakesPrefix-more _ _ (TakesBefore-front before stopped.0), stopped.1) })

pub returns : goal.returns
returns g c =
    let front = c.args.front.now in
    let next = c.args.next.now in
    let same = joined-pieces front.format front.key.now front.line.items (shown_as c.args.is_cut c.args.name.now) next.between.now next.name.now next.tail.now in
    let first = TakesBefore-more next.between.now c.in_ok-put_named.ensures.puts in
    let second = TakesBefore-more (spelt front.format next.name.now) (TakesBefore-then first c.in_ok-put_piece.ensures.puts) in
    let third = TakesBefore-more next.tail.now (TakesBefore-then second c.in_ok-put_name.ensures.puts) in
    record { puts = rw same (OutPuts-rest _ c.show_last.result third c.show_last.ensures.puts) }
