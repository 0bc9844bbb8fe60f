-- A line that is held is taken back if nothing more is written.
use Rattle.std.proofs.Common.{rules, ◌≡◌, ◌-◌, ◌≤◌, take, drop, refl, sym, ◌∙◌, arith}
use Rattle.elf_source.proofs.HoldLaws.{held_back, held_size}
use Rattle.elf_source.proofs.holding_sink.Out+DeferredSink+W.end_line.Goals as goal

pub returns-then-self-line : goal.returns-then-self-line
returns-then-self-line g c =
    let s = c.self-inside.inside.0.0 in
    let count = c.saturating_sub.result in
    let in_order = c.self-inside.invariant.0 in
    let fits = c.self-inside.invariant.1 in
    let is : c.args.self.now.written ≡ c.args.line.start = search rules in
    let many : c.args.self.now.held ≡ s.to - s.from = rw (sym c.self.view_is, sym c.self-inside.view_is) (held_size s.room.items s.from s.to fits) in
    let enough = c.requires is in
    let less : s.from ≤ s.to - count = omega (arith, enough, many, in_order, c.saturating_sub.ensures) in
    let held = held_back _ s.room.items s.from s.to (s.to - count) count less (omega (arith, enough, many, in_order, c.saturating_sub.ensures)) fits in
    let left = held_size s.room.items s.from (s.to - count) (omega (arith, fits)) in
    record {
      back = λ same. record {
        back = drop (s.to - count) (take s.to s.room.items);
        many = held.1 ∙ c.saturating_sub.ensures;
        bytes = rw (sym c.self.view_is, sym c.self-inside.view_is) held.0;
        counts = refl;
        held = omega (arith, many, left, enough, in_order, c.saturating_sub.ensures);
        room = rw (sym c.self.view_is, sym c.self-inside.view_is) refl;
        failed = rw (sym c.self.view_is, sym c.self-inside.view_is) refl;
      };
      stays = λ other. absurd (other is);
    }
