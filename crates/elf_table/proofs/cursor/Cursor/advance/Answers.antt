-- The window is at the row that was shown: it is skipped, and then the next is held.
use Rattle.std.proofs.Common.{◌≡◌, ◌<◌, None, rules, refl, ◌∙◌, arith}
use Rattle.std.proofs.lemmas.Grind.{common_steps}
use Rattle.elf_table.proofs.Standing.{Stands-skip, Stands-next, fault_at_row, Gives-next, onward_asked}
use Rattle.elf_table.proofs.cursor.Cursor.advance.Goals as goal

pub fill_buf-requires : goal.fill_buf-requires
fill_buf-requires g c = grind (arith, common_steps)

pub invariant_of-self : goal.invariant_of-self
invariant_of-self g c = grind (arith, common_steps)

pub returns-in-Err-clause-account : goal.returns-in-Err-clause-account
returns-in-Err-clause-account g c = grind (arith, common_steps)

pub returns-clause-account : goal.returns-clause-account
returns-clause-account g c = grind (arith, common_steps)

pub returns-in-Err-clause-steps : goal.returns-in-Err-clause-steps
returns-in-Err-clause-steps g c =
    let i = c.self.inside in
    let inv = c.self.invariant in
    let brings = c.in-Err.ensures.brings in
    rw (← c.self.view_is) (record {
      same_table = refl;
      failed = refl;
      at_next = λ nf.
          let is_at = Stands-skip i.table i.index i.shown i.window c.skip.new.self c.skip.ensures.at c.skip.ensures.held (inv.4 nf) in
          let entry = c.entry-entry.ensures.value in
          fault_at_row i.table i.index c.skip.new.self c.in-Err.fault is_at (omega (arith, brings.0)) brings.1;
    })

pub returns-in-Err-clause-onward : goal.returns-in-Err-clause-onward
returns-in-Err-clause-onward g c =
    let ends = c.skip.ensures.end ∙ c.self.invariant.3 in
    rw (← c.self.view_is) (onward_asked _ _ _ _ _ c.skip.new.self c.fill_buf.new.self c.fill_buf.ensures.went.onward ends (c.fill_buf.ensures.went.moves.same_end ∙ ends) c.skip.ensures.unread)

pub invariant_of-self-2 : goal.invariant_of-self-2
invariant_of-self-2 g c =
    let i = c.self.inside in
    let inv = c.self.invariant in
    let below : i.index < i.table.count = let few = inv.0 in let other = c.if-self-len.false in let len = c.len.ensures in omega arith in
    let brings = c.in_default-fill_buf.ensures.brings in
    let moves = c.fill_buf.ensures.went.moves in
    let entry = c.entry-entry.ensures in
    let page = c.skip.ensures.page ∙ inv.2 in
    let ends = c.skip.ensures.end ∙ inv.3 in (
      omega arith,
      brings.long,
      moves.same_page ∙ page,
      moves.same_end ∙ ends,
      λ nf.
          let is_at = Stands-skip i.table i.index i.shown i.window c.skip.new.self c.skip.ensures.at c.skip.ensures.held (inv.4 nf) in
          Stands-next i.table i.index c.entry-entry.result c.skip.new.self c.fill_buf.new.self entry.value (omega arith) (omega arith) below page ends is_at brings,
    )

pub returns-clause-steps : goal.returns-clause-steps
returns-clause-steps g c =
    let i = c.self.inside in
    let inv = c.self.invariant in
    let nf : i.failed ≡ None = search rules in
    let below : i.index < i.table.count = let few = inv.0 in let other = c.if-self-len.false in let len = c.len.ensures in omega arith in
    let is_at = Stands-skip i.table i.index i.shown i.window c.skip.new.self c.skip.ensures.at c.skip.ensures.held (inv.4 nf) in
    rw (← c.self.view_is)
    (Gives-next c.args.src.now.seen.file i.table i.index i.shown c.entry-entry.result i.failed i.window c.skip.new.self c.fill_buf.new.self c.entry-entry.ensures.value nf below
    c.skip.ensures.at c.skip.ensures.held is_at c.in_default-fill_buf.ensures.brings c.in_default-fill_buf.ensures.went.agrees)

pub returns-clause-onward : goal.returns-clause-onward
returns-clause-onward g c =
    let ends = c.skip.ensures.end ∙ c.self.invariant.3 in
    rw (← c.self.view_is) (onward_asked _ _ _ _ _ c.skip.new.self c.fill_buf.new.self c.fill_buf.ensures.went.onward ends (c.fill_buf.ensures.went.moves.same_end ∙ ends) c.skip.ensures.unread)
