use Rattle.std.proofs.Common.{sym, ◌∙◌, ap, Ok, Err, Option}
use Rattle.std.proofs.lemmas.Result.{err_from_is_err_and}
use Rattle.elf_resolve.specs.ShownLinks.{shown_status, status_if}
use Rattle.elf_resolve.specs.declared.resolver.LinkEnd.{LinkEnd}
use Rattle.elf_resolve.proofs.ShownLaws.{keys_last, refused_last, rows_first, status_is}
use Rattle.elf_resolve.proofs.lines.show_all.Goals as goal

pub returns-in_err-missing-clause-writes : goal.returns-in_err-missing-clause-writes
returns-in_err-missing-clause-writes g c =
    let p = err_from_is_err_and c.from_residual.result c.from_residual.ensures.1 in
    rw (p.1, p.2)
    (λ names listed named.
    rows_first c.args.problems g.R.Render.FORMAT names c.args.link.now c.args.out.now c.show_rows.new.out c.in_err-missing.field-0.0 (c.in_err-missing.ensures.writes names named))

pub returns-in_err-show_refused-in-Some-clause-writes : goal.returns-in_err-show_refused-in-Some-clause-writes
returns-in_err-show_refused-in-Some-clause-writes g c =
    let p = err_from_is_err_and c.from_residual-in_err-show_refused-in-Some.result c.from_residual-in_err-show_refused-in-Some.ensures.1 in
    rw (p.1, p.2)
    (λ names listed named.
    refused_last c.args.problems g.R.Render.FORMAT names c.args.link.now {X = Unit {0}} c.args.out.now c.show_rows.new.out c.show_refused.new.out (Err c.in_err-show_refused-in-Some.field-0.0) c.in-Some.end c.in-Some.is
    (c.in_ok-missing.ensures.writes names named) c.in_err-show_refused-in-Some.ensures.puts)

pub returns-in_err-fails-in-None-clause-writes : goal.returns-in_err-fails-in-None-clause-writes
returns-in_err-fails-in-None-clause-writes g c =
    let p = err_from_is_err_and c.from_residual-in_err-fails-in-None.result c.from_residual-in_err-fails-in-None.ensures.1 in
    rw (p.1, p.2)
    (λ names listed named.
    keys_last c.args.problems g.R.Render.FORMAT names c.args.link.now {X = Unit {0}} c.args.out.now c.show_rows.new.out c.show_keys.new.out (Err c.in_err-fails-in-None.field-0.0) c.in-None.is (c.in_ok-missing.ensures.writes names named)
    (c.in_err-fails-in-None.ensures.writes (listed c.in-None.is)))

pub returns-in_ok-show_refused-in-Some-clause-writes : goal.returns-in_ok-show_refused-in-Some-clause-writes
returns-in_ok-show_refused-in-Some-clause-writes g c = λ names listed named.
    refused_last c.args.problems g.R.Render.FORMAT names c.args.link.now {X = Unit {0}} c.args.out.now c.show_rows.new.out c.show_refused.new.out (Ok tt) c.in-Some.end c.in-Some.is
    (c.in_ok-missing.ensures.writes names named) c.in_ok-show_refused-in-Some.ensures.puts

pub returns-in_ok-fails-in-None-clause-writes : goal.returns-in_ok-fails-in-None-clause-writes
returns-in_ok-fails-in-None-clause-writes g c = λ names listed named.
    keys_last c.args.problems g.R.Render.FORMAT names c.args.link.now {X = Unit {0}} c.args.out.now c.show_rows.new.out c.show_keys.new.out (Ok tt) c.in-None.is (c.in_ok-missing.ensures.writes names named)
    (c.in_ok-fails-in-None.ensures.writes (listed c.in-None.is))

pub returns-in_ok-fails-in-None-clause-status : goal.returns-in_ok-fails-in-None-clause-status
returns-in_ok-fails-in-None-clause-status g c = λ listed.
    c.status_if.ensures ∙ ap status_if c.either.ensures ∙ status_is c.args.link.now c.in_ok-missing.missing c.in_ok-fails-in-None.fails c.in_ok-missing.ensures.missing (c.in_ok-fails-in-None.ensures.fails (listed c.in-None.is))
    ∙ ap (λ (end : Option LinkEnd). shown_status c.args.link.now end) (sym c.in-None.is)
