-- What was written and what is left are the text at each turn.
use Rattle.std.proofs.Common.{◌≡◌, ◌≢◌, length, sym, subst, arith}
use Rattle.std.proofs.lemmas.Bool.Decides.{nat_tests}
use Rattle.std.proofs.lemmas.Result.{err_from_is_err_and}
use Rattle.elf_source.specs.Output.{OutPuts}
use Rattle.elf_format.specs.Pieces.{TakesBefore}
use Rattle.elf_format.proofs.Pieces.{OutPuts-rest}
use Rattle.elf_cli.specs.Marked.{bytes_beside}
use Rattle.elf_cli.proofs.MarkedText.{beside-front, beside-more, beside-none, beside-other, beside-same}
use Rattle.elf_cli.proofs.program_arguments.show_marked.Goals as goal

pub returns-then-text-marked : goal.returns-then-text-marked
returns-then-text-marked g c =
    let other : length c.args.text.now ≢ length c.args.marked.now = grind (arith, c.if-text-marked.true, nat_tests) in
    subst (λ t. OutPuts c.args.out.now c.show_escaped_text.new.out c.show_escaped_text.result t) (sym (beside-other c.args.text.now c.args.marked.now other)) c.show_escaped_text.ensures.puts

pub returns-in_err-show_byte : goal.returns-in_err-show_byte
returns-in_err-show_byte g c =
    let same : length c.args.text.now ≡ length c.args.marked.now = grind (arith, c.if-text-marked.false, nat_tests) in
    let p = err_from_is_err_and c.from_residual.result c.from_residual.ensures.1 in rw (p.1, p.2, beside-same c.args.text.now c.args.marked.now same) (
    let stopped = c.in_err-show_byte.ensures in
    (beside-front c.args.text.now c.args.marked.now c.loop-i.i c.loop-i-test.true same c.loop-i.invariant stopped.0, stopped.1))

pub loop-i-preserved : goal.loop-i-preserved
loop-i-preserved g c =
    let same : length c.args.text.now ≡ length c.args.marked.now = grind (arith, c.if-text-marked.false, nat_tests) in
    beside-more c.args.text.now c.args.marked.now c.loop-i.i c.loop-i-test.true same c.loop-i.invariant c.in_ok-show_byte.ensures.0

pub returns : goal.returns
returns g c =
    let same : length c.args.text.now ≡ length c.args.marked.now = grind (arith, c.if-text-marked.false, nat_tests) in
    let none = beside-none c.args.text.now c.args.marked.now c.loop-i.i c.loop-i-test.false in
    subst (λ t. OutPuts c.args.out.now c.put.new.self c.put.result t) (sym (beside-same c.args.text.now c.args.marked.now same))
    (OutPuts-rest c.put.new.self c.put.result (subst (TakesBefore c.args.out.now c.loop-i.out (bytes_beside c.args.text.now c.args.marked.now)) none c.loop-i.invariant) c.put.ensures.puts)
