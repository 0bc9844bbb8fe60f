-- What was written, the line, and what is left of the name are the text at each turn.
use Rattle.std.proofs.Common.{drop}
use Rattle.std.proofs.lemmas.Result.{err_from_is_err_and}
use Rattle.elf_source.proofs.PutsLaws.{SinkTakesPrefix-more}
use Rattle.elf_format.proofs.Pieces.{TakesBefore-front}
use Rattle.elf_format.specs.Pieces.{spelt}
use Rattle.elf_format.proofs.NameText.{spelt-none, TakesBefore-name_byte}
use Rattle.elf_format.proofs.named.put_escaped.Goals as goal

pub returns-in_err-make_room : goal.returns-in_err-make_room
returns-in_err-make_room g c =
    let p = err_from_is_err_and c.from_residual.result c.from_residual.ensures.1 in rw (p.1, p.2) (
    let stopped = c.in_err-make_room.ensures.puts in
    let left = spelt c.args.format (drop c.loop-byte.byte-index c.args.name.now) in
    let front = TakesBefore-front c.loop-byte.invariant (SinkTakesPrefix-more _ left stopped.0) in
    record { puts = (front, stopped.1) })

pub loop-byte-preserved : goal.loop-byte-preserved
loop-byte-preserved g c =
    let i = c.loop-byte.byte-index in
    let made = c.in_ok-make_room.ensures.puts in
    let put = c.put_byte.ensures.items in
    TakesBefore-name_byte c.args.format c.args.name.now i c.loop-byte-test.true c.loop-byte.invariant made put

pub returns : goal.returns
returns g c =
    let i = c.loop-byte.byte-index in
    let none = spelt-none c.args.format c.loop-byte.line.items c.args.name.now i c.loop-byte-test.false in
    record { puts = rw none at c.loop-byte.invariant }
