-- The walk begins before the first change.
use Rattle.std.proofs.Common.{ℕ, ◌*◌, false, None, ap, refl, ◌∙◌, arith}
use Rattle.elf_image.specs.declared.walk.ImageWalk.{ImageWalk}
use Rattle.elf_image.proofs.BeginSteps.{changes_begin}
use Rattle.elf_image.proofs.walk.ImageWalk.new.Goals as goal

pub returns-clause-alive : goal.returns-clause-alive
returns-clause-alive c = λ size w. record { rows = c.new-rows.ensures.alive size w.compact; entries = c.new-entries.ensures.alive size w.ranges; last = tt }

pub returns-clause-reads : goal.returns-clause-reads
returns-clause-reads c = λ size w.
    let count = c.args.image.now.told.compact.count in
    let rows = c.new-rows.ensures.reads ∙ ap (λ (entry : ℕ). count * entry) w.compact.wide in
    omega (arith, rows, c.new-entries.ensures.reads)

pub returns-clause-known : goal.returns-clause-known
returns-clause-known c = λ source of. record {
  rows = c.new-rows.ensures.known source.file;
  entries = c.new-entries.ensures.known source.file of.chunks;
  ranges = c.new-entries.ensures.ranges;
  wanted = c.new-entries.ensures.wanted;
}

pub returns-clause-begins : goal.returns-clause-begins
returns-clause-begins c = λ source of.
    let walk : ImageWalk = record { rows = c.new-rows.result; entries = c.new-entries.result; past_rows = false; last = None; wanted = c.args.wanted } in
    changes_begin source c.args.image.now walk of refl c.new-rows.ensures.low (c.new-rows.ensures.begins source.file) (c.new-entries.ensures.begins source)
