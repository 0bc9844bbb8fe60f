-- What was written, the line, and what is left of the text are the text at each turn.
use Rattle.std.proofs.Common.{drop}
use Rattle.std.proofs.lemmas.Result.{err_from_is_err_and}
use Rattle.elf_source.proofs.PutsLaws.{SinkTakesPrefix-more}
use Rattle.elf_format.specs.Told.{reported_text}
use Rattle.elf_format.proofs.Pieces.{TakesBefore-front, OutPuts-rest}
use Rattle.elf_format.proofs.ToldText.{told-none, told-more, told-plain, told-unchanged}
use Rattle.elf_format.proofs.told.show_escaped_text.Goals as goal

pub returns-in_err-make_room : goal.returns-in_err-make_room
returns-in_err-make_room g c =
    let p = err_from_is_err_and c.from_residual.result c.from_residual.ensures.1 in rw (p.1, p.2) (
    let stopped = c.in_err-make_room.ensures.puts in
    let left = reported_text (drop c.loop-byte.byte-index c.args.text.now) in
    let front = TakesBefore-front c.loop-byte.invariant (SinkTakesPrefix-more _ left stopped.0) in
    record { puts = (front, stopped.1); plain = told-plain c.args.text.now; unchanged = told-unchanged c.args.text.now })

pub loop-byte-preserved : goal.loop-byte-preserved
loop-byte-preserved g c =
    let i = c.loop-byte.byte-index in
    let made = c.in_ok-make_room.ensures.puts in
    let put = c.put_told_byte.ensures.items in
    told-more c.args.text.now i c.loop-byte-test.true c.loop-byte.invariant made put

pub returns : goal.returns
returns g c =
    let i = c.loop-byte.byte-index in
    let none = told-none c.loop-byte.line.items c.args.text.now i c.loop-byte-test.false in
    let before = rw none at c.loop-byte.invariant in
    let last = rw c.deref.ensures.0 at c.put.ensures.puts in
    record { puts = OutPuts-rest _ c.put.result before last; plain = told-plain c.args.text.now; unchanged = told-unchanged c.args.text.now }
