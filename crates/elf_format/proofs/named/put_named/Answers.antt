-- The pieces that are written are the line's prefix, the text before the name, the name, and the
-- text that ends it.
use Rattle.std.proofs.lemmas.Result.{err_from_is_err_and}
use Rattle.elf_source.proofs.PutsLaws.{SinkTakesPrefix-more}
use Rattle.elf_format.specs.Pieces.{spelt, name_closing}
use Rattle.elf_format.proofs.NameText.{named-pieces}
use Rattle.elf_format.proofs.Pieces.{PutsBefore-then, TakesBefore-more, TakesBefore-then, TakesBefore-front}
use Rattle.elf_format.proofs.named.put_named.Goals as goal

pub returns-in_err-begin_name-clause-puts : goal.returns-in_err-begin_name-clause-puts
returns-in_err-begin_name-clause-puts g c =
    let p = err_from_is_err_and c.from_residual.result c.from_residual.ensures.1 in rw (p.1, p.2) (
    let front = c.args.front.now in
    let stopped = c.in_err-begin_name.ensures.puts in
    let same = named-pieces front.format front.key.now front.line.items c.args.name.now c.args.is_cut in
    rw same (SinkTakesPrefix-more _ _ (SinkTakesPrefix-more _ _ stopped.0), stopped.1))

pub returns-in_err-put_name-clause-puts : goal.returns-in_err-put_name-clause-puts
returns-in_err-put_name-clause-puts g c =
    let failed = c.from_residual-in_err-put_name in
    let p = err_from_is_err_and failed.result failed.ensures.1 in rw (p.1, p.2) (
    let front = c.args.front.now in
    let stopped = c.in_err-put_name.ensures.puts in
    let same = named-pieces front.format front.key.now front.line.items c.args.name.now c.args.is_cut in
    let before = TakesBefore-more (spelt front.format c.args.name.now) c.in_ok-begin_name.ensures.puts in
    rw same (SinkTakesPrefix-more _ _ (TakesBefore-front before stopped.0), stopped.1))

pub returns-clause-puts : goal.returns-clause-puts
returns-clause-puts g c =
    let front = c.args.front.now in
    let same = named-pieces front.format front.key.now front.line.items c.args.name.now c.args.is_cut in
    let before = TakesBefore-more (spelt front.format c.args.name.now) c.in_ok-begin_name.ensures.puts in
    let named = TakesBefore-more (name_closing front.format c.args.is_cut) (TakesBefore-then before c.in_ok-put_name.ensures.puts) in
    rw same (PutsBefore-then _ _ c.put_piece.result named (rw c.name_closing.ensures.items at c.put_piece.ensures.puts))
