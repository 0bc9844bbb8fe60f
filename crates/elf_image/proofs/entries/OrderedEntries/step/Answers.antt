-- After the last part, the next part, the next entry, or entries that are passed by.
use Rattle.std.proofs.Common.{◌<◌, ◌≤◌, ap, subst, arith}
use Rattle.elf_table.specs.Prelude.{TableRange}
use Rattle.elf_image.specs.EntryOrder.{AreOrderedEntries, TakesOrderedEntry, entry_changes_left}
use Rattle.elf_image.specs.declared.entries.OrderedEntries.{OrderedEntries}
use Rattle.elf_image.proofs.EntryReadSteps.{reads-at-part}
use Rattle.elf_image.proofs.EntryTurnSteps.{far-unresolved, known-at-part, known-over, known-row, row-place, left-at-end, left-at-part, moved-as, passes-one, passes-some, takes-far, takes-next, takes-none}
use Rattle.elf_image.proofs.RelativeSteps.{ok-then}
use Rattle.elf_image.proofs.entries.OrderedEntries.step.Goals as goal

pub returns-then-self-ge4-clause-takes : goal.returns-then-self-ge4-clause-takes
returns-then-self-ge4-clause-takes g c = λ source held known.
    left-at-end source c.args.self.now (c.is_empty.ensures.none c.if-is_empty.true) c.if-self-ge4.true

pub returns-then-is_empty-clause-account : goal.returns-then-is_empty-clause-account
returns-then-is_empty-clause-account g c =
    let less = reads-at-part c.args.self.now c.begin_part.new.self c.if-self-ge4.false c.begin_part.ensures.begins in
    omega (arith, less)

pub returns-then-is_empty-clause-takes : goal.returns-then-is_empty-clause-takes
returns-then-is_empty-clause-takes g c = λ source held known.
    takes-none source c.args.self.now.wanted _ _
    (left-at-part source c.args.self.now c.begin_part.new.self known (c.is_empty.ensures.none c.if-is_empty.true) c.begin_part.ensures.begins c.if-self-ge4.false)

pub returns-then-is_empty-clause-known : goal.returns-then-is_empty-clause-known
returns-then-is_empty-clause-known g c = λ file held known.
    known-at-part file c.args.self.now c.begin_part.new.self known (c.is_empty.ensures.none c.if-is_empty.true) c.begin_part.ensures.begins

pub returns-in-Some-clause-takes : goal.returns-in-Some-clause-takes
returns-in-Some-clause-takes g c = λ source held known.
    let old = c.args.self.now in
    let rows = c.next.new.self in
    let t = c.taken.ensures in
    let new = c.taken.new.self in
    let found = rw c.in-Some.is at (c.in_ok-row.ensures.taken source.file held known.held) in
    let one = passes-one old.rows rows old.wanted c.in-Some.row (rw c.in-Some.is at c.in_ok-row.ensures.passes) in
    let differs = c.is_empty.ensures.some c.if-is_empty.false in
    let within = c.requires.rows.index in
    let some : old.rows.index < old.rows.table.count = omega (arith, differs, within) in
    let takes = takes-next old rows new.indirect new.chunks c.in-Some.row c.next.ensures.table some one source old.wanted c.taken.result found.1 (t.takes source found.1.entry) in
    subst (λ (n : OrderedEntries). TakesOrderedEntry source old.wanted (entry_changes_left source old) (entry_changes_left source n) c.taken.result)
    (moved-as old new rows t.rows t.ranges t.begun t.part t.wanted) takes

pub returns-in-Some-clause-known : goal.returns-in-Some-clause-known
returns-in-Some-clause-known g c = λ file held known.
    let old = c.args.self.now in
    let rows = c.next.new.self in
    let t = c.taken.ensures in
    let new = c.taken.new.self in
    let found = rw c.in-Some.is at (c.in_ok-row.ensures.taken file held known.held) in
    let one = passes-one old.rows rows old.wanted c.in-Some.row (rw c.in-Some.is at c.in_ok-row.ensures.passes) in
    let differs = c.is_empty.ensures.some c.if-is_empty.false in
    let within = c.requires.rows.index in
    let some : old.rows.index < old.rows.table.count = omega (arith, differs, within) in
    ok-then c.taken.result {Q = AreOrderedEntries file new} (λ clear.
    subst (AreOrderedEntries file) (moved-as old new rows t.rows t.ranges t.begun t.part t.wanted)
    (known-row old rows new.indirect new.chunks c.in-Some.row c.next.ensures.table some one file known found.0 (t.chunks file found.1.entry (λ direct. row-place old c.in-Some.row file known one.1 (omega (arith, some)) found.1 direct) known.chunks) found.1 t.keeps (clear file found.1.entry))) t.noted

pub returns-in-None-clause-takes : goal.returns-in-None-clause-takes
returns-in-None-clause-takes g c = λ source held known.
    let old = c.args.self.now in
    let rows = c.next.new.self in
    let found = rw c.in-None.is at (c.in_ok-row.ensures.taken source.file held known.held) in
    let some = passes-some old.rows rows old.wanted (rw c.in-None.is at c.in_ok-row.ensures.passes) in
    let same = ap (λ (t : TableRange). t.count) c.next.ensures.table in
    let within = c.in_ok-row.ensures.alive.index in
    let few : rows.index ≤ old.rows.table.count = omega (arith, same, within) in
    takes-far source old.wanted old rows old.indirect old.chunks c.next.ensures.table few c.next.ensures.rises found.1 some

pub returns-in-None-clause-known : goal.returns-in-None-clause-known
returns-in-None-clause-known g c = λ file held known.
    let old = c.args.self.now in
    let rows = c.next.new.self in
    let found = rw c.in-None.is at (c.in_ok-row.ensures.taken file held known.held) in
    let same = ap (λ (t : TableRange). t.count) c.next.ensures.table in
    let within = c.in_ok-row.ensures.alive.index in
    let few : rows.index ≤ old.rows.table.count = omega (arith, same, within) in
    known-over old rows old.indirect old.chunks c.next.ensures.table few file known found.0 known.chunks (λ second unnoted. unnoted) (λ i low high direct unnoted.
    far-unresolved file _ old.wanted (found.1 i low high))

pub returns-then-far-gt0-clause-takes : goal.returns-then-far-gt0-clause-takes
returns-then-far-gt0-clause-takes g c = λ source held known.
    let old = c.args.self.now in
    let rows = c.pass.new.self in
    let p = c.pass.ensures in
    takes-far source old.wanted old rows old.indirect old.chunks p.table (omega (arith, p.index, c.far_entries-far.ensures.few, c.requires.rows.index)) (omega (arith, p.index))
    (λ i from below. c.far_entries-far.ensures.far source.file i known from (rw p.index at below)) (omega (arith, p.index, c.if-far-gt0.true))

pub returns-then-far-gt0-clause-known : goal.returns-then-far-gt0-clause-known
returns-then-far-gt0-clause-known g c = λ file held known.
    let old = c.args.self.now in
    let rows = c.pass.new.self in
    let p = c.pass.ensures in
    known-over old rows old.indirect old.chunks p.table (omega (arith, p.index, c.far_entries-far.ensures.few, c.requires.rows.index)) file known (p.agrees file known.held) known.chunks (λ second unnoted. unnoted) (λ i low high direct unnoted.
    far-unresolved file _ old.wanted (c.far_entries-far.ensures.far file i known low (rw p.index at high)))
