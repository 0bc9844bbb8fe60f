use Rattle.std.proofs.Common.{sym, ◌∙◌, ap, Ok, Err}
use Rattle.std.specs.List.{concat}
use Rattle.std.proofs.lemmas.Result.{err_from_is_err_and}
use Rattle.elf_resolve.specs.LinkerNames.{output_of}
use Rattle.elf_resolve.specs.Resolved.{linking_of}
use Rattle.elf_resolve.proofs.KeyShownLaws.{key_hidden, key_seen, left_out, put_in, writes_as}
use Rattle.elf_resolve.proofs.key_lines.show_if_own.Goals as goal

pub returns-then-is_left_out-clause-writes : goal.returns-then-is_left_out-clause-writes
returns-then-is_left_out-clause-writes g c = λ listed.
    let held = c.settled-entry.ensures (listed.own c.args.key) in
    key_hidden c.args.problems g.R.Render.FORMAT (output_of c.args.link.now.output) (linking_of c.args.link.now) c.args.key c.args.out.now
    (left_out g.R.Render.FORMAT c.args.link.now c.args.key c.settled-entry.result c.state_of-state.result listed held c.state_of-state.ensures c.args.problems c.is_fault-fails.result c.is_fault-fails.ensures (sym c.is_left_out.ensures ∙ c.if-is_left_out.true)).0

pub returns-then-is_left_out-clause-fails : goal.returns-then-is_left_out-clause-fails
returns-then-is_left_out-clause-fails g c = λ listed.
    let held = c.settled-entry.ensures (listed.own c.args.key) in
    (left_out g.R.Render.FORMAT c.args.link.now c.args.key c.settled-entry.result c.state_of-state.result listed held c.state_of-state.ensures c.args.problems c.is_fault-fails.result c.is_fault-fails.ensures (sym c.is_left_out.ensures ∙ c.if-is_left_out.true)).1

pub returns-in_err-show_key-clause-writes : goal.returns-in_err-show_key-clause-writes
returns-in_err-show_key-clause-writes g c =
    let p = err_from_is_err_and c.from_residual.result c.from_residual.ensures.1 in
    rw (p.1, p.2)
    (λ listed.
    let held = c.settled-entry.ensures (listed.own c.args.key) in
    let is = put_in g.R.Render.FORMAT c.args.link.now c.args.key c.settled-entry.result c.state_of-state.result listed held c.state_of-state.ensures c.args.problems c.is_fault-fails.result c.if-not-entry.false c.is_fault-fails.ensures (sym c.is_left_out.ensures ∙ c.if-is_left_out.false) in
    writes_as {X = Unit {0}} c.args.out.now c.show_key.new.out (Err c.in_err-show_key.field-0.0) _ _
    (ap concat (key_seen c.args.problems g.R.Render.FORMAT (output_of c.args.link.now.output) (linking_of c.args.link.now) c.args.key is.0))
    (c.in_err-show_key.ensures.writes listed held c.state_of-state.ensures))

pub returns-clause-writes : goal.returns-clause-writes
returns-clause-writes g c = λ listed.
    let held = c.settled-entry.ensures (listed.own c.args.key) in
    let is = put_in g.R.Render.FORMAT c.args.link.now c.args.key c.settled-entry.result c.state_of-state.result listed held c.state_of-state.ensures c.args.problems c.is_fault-fails.result c.if-not-entry.false c.is_fault-fails.ensures (sym c.is_left_out.ensures ∙ c.if-is_left_out.false) in
    writes_as {X = Unit {0}} c.args.out.now c.show_key.new.out (Ok tt) _ _
    (ap concat (key_seen c.args.problems g.R.Render.FORMAT (output_of c.args.link.now.output) (linking_of c.args.link.now) c.args.key is.0))
    (c.in_ok-show_key.ensures.writes listed held c.state_of-state.ensures)

pub returns-clause-fails : goal.returns-clause-fails
returns-clause-fails g c = λ listed.
    let held = c.settled-entry.ensures (listed.own c.args.key) in
    (put_in g.R.Render.FORMAT c.args.link.now c.args.key c.settled-entry.result c.state_of-state.result listed held c.state_of-state.ensures c.args.problems c.is_fault-fails.result c.if-not-entry.false c.is_fault-fails.ensures (sym c.is_left_out.ensures ∙ c.if-is_left_out.false)).1
