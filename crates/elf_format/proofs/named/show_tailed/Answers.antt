-- The text after the name is written after the line with the name.
use Rattle.std.proofs.lemmas.Result.{err_from_is_err_and}
use Rattle.elf_source.proofs.PutsLaws.{SinkTakesPrefix-more}
use Rattle.elf_format.specs.Named.{shown_as}
use Rattle.elf_format.proofs.NameText.{tailed-pieces}
use Rattle.elf_format.proofs.Pieces.{TakesBefore-more, OutPuts-rest}
use Rattle.elf_format.proofs.named.show_tailed.Goals as goal

pub returns-in_err-put_named : goal.returns-in_err-put_named
returns-in_err-put_named g c =
    let p = err_from_is_err_and c.from_residual.result c.from_residual.ensures.1 in rw (p.1, p.2) (
    let front = c.args.front.now in
    let stopped = c.in_err-put_named.ensures.puts in
    let same = tailed-pieces front.format front.key.now front.line.items (shown_as c.args.is_cut c.args.name.now) c.args.tail.now in
    record { puts = rw same (SinkTakesPrefix-more _ _ stopped.0, stopped.1) })

pub returns : goal.returns
returns g c =
    let front = c.args.front.now in
    let same = tailed-pieces front.format front.key.now front.line.items (shown_as c.args.is_cut c.args.name.now) c.args.tail.now in
    let before = TakesBefore-more c.args.tail.now c.in_ok-put_named.ensures.puts in
    record { puts = rw same (OutPuts-rest _ c.show_last.result before c.show_last.ensures.puts) }
