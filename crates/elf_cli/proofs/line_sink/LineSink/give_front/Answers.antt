-- A prefix of the buffer is written, and the rest moves up.
use Rattle.std.proofs.Common.{rules, ◌≡◌, ◌≤◌, sym, length, arith}
use Rattle.std.proofs.lemmas.List.{length-take-le}
use Rattle.elf_cli.proofs.LineLaws.{front_kept, given_front, moved_up}
use Rattle.elf_cli.proofs.line_sink.LineSink.give_front.Goals as goal

pub returns-clause-gives : goal.returns-clause-gives
returns-clause-gives g c =
    let s = c.self.inside in
    let few = rw (sym c.self.view_is) at c.requires in
    let sized = length-take-le s.len s.room.items c.self.invariant.0 in
    let some = length-take-le c.args.count s.room.items (omega (arith, few, sized, c.self.invariant.0)) in
    let given : c.give-given.result ≤ c.args.count = let within = rw c.deref.ensures.value at c.give-given.ensures.within in omega (arith, within, some) in
    let same : length c.copy_within.new.self.items ≡ length s.room.items = search rules in
    rw (sym c.self.view_is) (record {
      given = c.give-given.result;
      within = given;
      went = front_kept _ _ s.room.items c.give-given.result c.args.count s.len given (omega (arith, few, sized)) (rw c.deref.ensures.value at c.give-given.ensures.bytes);
      left = moved_up s.room.items c.copy_within.new.self.items c.give-given.result s.len (omega (arith, given, few, sized)) c.self.invariant.0 c.copy_within.ensures.items;
      room = same;
      free = omega (arith, same, given, few, sized, c.self.invariant.0);
      all = λ ok. let whole = rw c.deref.ensures.value at (c.give-given.ensures.whole ok) in omega (arith, whole, some);
    })

pub returns-clause-keeps : goal.returns-clause-keeps
returns-clause-keeps g c =
    let s = c.self.inside in
    let few = rw (sym c.self.view_is) at c.requires in
    let sized = length-take-le s.len s.room.items c.self.invariant.0 in
    let some = length-take-le c.args.count s.room.items (omega (arith, few, sized, c.self.invariant.0)) in
    let given : c.give-given.result ≤ c.args.count = let within = rw c.deref.ensures.value at c.give-given.ensures.within in omega (arith, within, some) in
    rw (sym c.self.view_is, moved_up s.room.items c.copy_within.new.self.items c.give-given.result s.len (omega (arith, given, few, sized)) c.self.invariant.0 c.copy_within.ensures.items)
    (given_front _ _ s.room.items c.give-given.result c.args.count s.len given (omega (arith, few, sized)) (rw c.deref.ensures.value at c.give-given.ensures.bytes))
