use Rattle.std.proofs.Common.{◌<◌, arith}
use Rattle.elf_image.proofs.EntryTurnSteps.{row-place}
use Rattle.elf_image.proofs.entries.OrderedEntries.pass_relative.Goals as goal

pub returns-clause-chunks : goal.returns-clause-chunks
returns-clause-chunks c = λ file known.
    let row = c.args.row.now in
    let held = c.requires.held.held in
    let is = held.taken file known.held in
    let a = c.requires.alive.1 in
    let some : 0 < c.args.self.now.rows.table.count = omega (arith, a.place, a.end, a.whole, held.held) in
    c.note.ensures.chunks file is.entry (row-place c.args.self.now row file known held.index some is c.requires.held.direct) known.chunks
