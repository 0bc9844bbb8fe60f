use Rattle.std.proofs.Common.{◌∙◌}
use Rattle.elf_image.proofs.RelaRowSteps.{far-entries, filled}
use Rattle.elf_image.proofs.rela_rows.RelaRows.next.Goals as goal

pub pass-requires-clause-alive : goal.pass-requires-clause-alive
pass-requires-clause-alive g c =
    let moves = c.fill_buf.ensures.went.moves in
    (c.args.src.now.seen.size, filled _ c.args.self.now c.fill_buf.new.self c.requires.alive c.requires.some c.in_ok-fill_buf.ensures.brings moves.same_page moves.same_end)

pub returns-then-far-gt0-clause-alive : goal.returns-then-far-gt0-clause-alive
returns-then-far-gt0-clause-alive g c =
    let moves = c.fill_buf.ensures.went.moves in
    c.pass.ensures.alive _ (filled _ c.args.self.now c.fill_buf.new.self c.requires.alive c.requires.some c.in_ok-fill_buf.ensures.brings moves.same_page moves.same_end)

pub returns-then-far-gt0-clause-taken : goal.returns-then-far-gt0-clause-taken
returns-then-far-gt0-clause-taken g c = λ file held holds.
    let now = c.fill_buf.ensures.went.agrees file held holds in
    let place = c.in_ok-fill_buf.ensures.brings.stays ∙ c.requires.alive.place in
    let far = rw c.front.ensures at c.far_rows-far.ensures.far in
    let few = rw c.front.ensures at c.far_rows-far.ensures.few in
    (c.pass.ensures.agrees file now, λ i from below. rw c.in-Some.is (far-entries file c.args.self.now.table.at c.args.self.now.index c.far_rows-far.result c.fill_buf.new.self c.in-Some.reach place now few far i from (rw c.pass.ensures.index at below)))

pub take-requires-clause-alive : goal.take-requires-clause-alive
take-requires-clause-alive g c =
    let moves = c.fill_buf.ensures.went.moves in
    (c.args.src.now.seen.size, filled _ c.args.self.now c.fill_buf.new.self c.requires.alive c.requires.some c.in_ok-fill_buf.ensures.brings moves.same_page moves.same_end)

pub returns-clause-alive : goal.returns-clause-alive
returns-clause-alive g c =
    let moves = c.fill_buf.ensures.went.moves in
    c.take.ensures.passes.alive _ (filled _ c.args.self.now c.fill_buf.new.self c.requires.alive c.requires.some c.in_ok-fill_buf.ensures.brings moves.same_page moves.same_end)
