use Rattle.std.proofs.Common.{◌≡◌, ◌∙◌, ap, refl, arith}
use Rattle.elf_table.specs.Prelude.{TableRange}
use Rattle.elf_image.proofs.EntryReadSteps.{all-reads}
use Rattle.elf_image.proofs.EntryTurnSteps.{known-at-first, left-at-first}
use Rattle.elf_image.proofs.entries.OrderedEntries.new.Goals as goal

pub returns-clause-alive : goal.returns-clause-alive
returns-clause-alive c = λ size within. record {
  ranges = within;
  rows = c.new.ensures.alive size (record { wide = rw c.new-table.ensures; within = λ some. absurd (omega (arith, rw c.new-table.ensures at some)) });
  begun = omega arith;
  few = rw (c.new.ensures.table, c.new-table.ensures) (omega arith);
}

pub returns-clause-begins : goal.returns-clause-begins
returns-clause-begins c = λ source.
    let none : c.new.result.table.count ≡ 0 = ap (λ (t : TableRange). t.count) (c.new.ensures.table ∙ c.new-table.ensures) in
    left-at-first source _ none

pub returns-clause-known : goal.returns-clause-known
returns-clause-known c = λ file holds.
    let none : c.new.result.table.count ≡ 0 = ap (λ (t : TableRange). t.count) (c.new.ensures.table ∙ c.new-table.ensures) in
    known-at-first file _ (c.new.ensures.held file) none c.new.ensures.index refl holds

pub returns-clause-reads : goal.returns-clause-reads
returns-clause-reads c =
    let none : c.new.result.table.count ≡ 0 = ap (λ (t : TableRange). t.count) (c.new.ensures.table ∙ c.new-table.ensures) in
    let same = ap (λ (t : TableRange). t.count) c.new-table.ensures in
    let unread = c.new.ensures.unread in
    let parts = all-reads c.args.ranges in
    omega (arith, none, same, unread, parts)
