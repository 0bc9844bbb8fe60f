-- A line that is not held had no room.
use Rattle.std.proofs.Common.{rules, ◌≡◌, ◌≤◌, ◌+◌, ◌^◌, ◌-◌, false, length, inl, inr, sym, ap, ◌∙◌, arith}
use Rattle.elf_source.specs.Output.{FailsOutput, OutState}
use Rattle.elf_source.proofs.holding_sink.Out+DeferredSink+W.defer_line.Goals.{then-failed-via-then-failed, then-failed-via-else-failed+then-start, then-failed-via-else-failed+else-start+then-not-hold}
use Rattle.elf_source.proofs.holding_sink.Out+DeferredSink+W.defer_line.Goals as goal

pub returns-then-failed : goal.returns-then-failed
returns-then-failed g c = elim c.then-failed.branch [
  | then-failed-via-then-failed w ↦ (rw w.self-is at c.fail_output.ensures, inl (sym c.failed.ensures ∙ w.if-failed.true))
  | then-failed-via-else-failed+then-start w ↦
      let full : 2 ^ 128 - 1 ≤ c.self.inside.written + length c.args.line.now = omega (arith, c.saturating_add-start.ensures, w.if-start.true) in
      (rw w.self-is at c.fail_output.ensures, inr (inr (rw (sym c.self.view_is) full)))
  | then-failed-via-else-failed+else-start+then-not-hold w ↦
      let says = w.if-not-hold.ensures in
      let is_at : c.self.inside.sink.failed ≡ false = search rules in
      let p = c.fail_output.ensures in
      let now = w.self-is in
      let view = c.self.view_is in
      let broken : FailsOutput c.args.self.now c.fail_output.new.self c.fail_output.result = record {
        taken = p.taken ∙ (ap (λ (v : OutState). v.taken) now ∙ (rw says.1 (ap (λ (v : OutState). v.taken) view)));
        written = p.written ∙ (ap (λ (v : OutState). v.written) now ∙ ap (λ (v : OutState). v.written) view);
        held = p.held ∙ (ap (λ (v : OutState). v.held) now ∙ (rw says.1 (ap (λ (v : OutState). v.held) view)));
        room = p.room ∙ (ap (λ (v : OutState). v.room) now ∙ (rw says.1 (ap (λ (v : OutState). v.room) view)));
        fails = p.fails;
      } in
      (broken, inr (inl (rw (sym c.self.view_is) (says.2 is_at))))
]
