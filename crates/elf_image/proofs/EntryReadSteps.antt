-- How much of a file may be read for the entries that are left.
use Rattle.std.proofs.Common.{◌≡◌, ◌∙◌, ℕ, suc, ◌+◌, ◌-◌, ◌*◌, ◌<◌, ◌≤◌, Bool, true, false, inl, inr, ap, arith}
use Rattle.elf_model.specs.Apply.{places_from}
use Rattle.elf_model.specs.Tables.{RELA_SIZE}
use Rattle.elf_table.specs.Prelude.{TableRange}
use Rattle.elf_image.specs.EntryOrder.{BeginsPart, IsPartTable, entries_reads, numbered_reads, part_kind, part_reads, parts_reads, range_table, symbols_left}
use Rattle.elf_image.specs.Within.{entries_ahead}
use Rattle.elf_image.specs.declared.entries.OrderedEntries.{OrderedEntries}
use Rattle.elf_image.specs.declared.ranges.EntryRanges.{EntryRanges}

-- ALL PARTS
all-of : (first second : TableRange) (relative : ℕ) (joined : Bool)
    → parts_reads (record { first = first; second = second; joined = joined; relative = relative }) (places_from (λ k. k) 0 4) ≡ 72 * (first.count + second.count)
unfolding parts_reads places_from
all-of first second relative true = omega arith
all-of first second relative false = omega arith

pub all-reads : (ranges : EntryRanges) → parts_reads ranges (places_from (λ k. k) 0 4) ≡ 72 * (ranges.first.count + ranges.second.count)
all-reads ranges = all-of ranges.first ranges.second ranges.relative ranges.joined

-- the part of a number, and those after it
parts-reads-next : (ranges : EntryRanges) (begun : ℕ) → begun < 4
    → parts_reads ranges (places_from (λ k. k) begun (4 - begun)) ≡ numbered_reads ranges begun + parts_reads ranges (places_from (λ k. k) (begun + 1) (4 - (begun + 1)))
unfolding parts_reads places_from
parts-reads-next ranges begun some =
    let four : 4 - begun ≡ suc (3 - begun) = omega (arith, some) in
    let next : suc begun ≡ begun + 1 = omega arith in
    let left : 3 - begun ≡ 4 - (begun + 1) = omega arith in
    ap (λ n. parts_reads ranges (places_from (λ k. k) begun n)) four
    ∙ ap (λ j. numbered_reads ranges begun + parts_reads ranges (places_from (λ k. k) j (3 - begun))) next
    ∙ ap (λ n. numbered_reads ranges begun + parts_reads ranges (places_from (λ k. k) (begun + 1) n)) left

part-cost : (indirect : Bool) (count most : ℕ) → count ≤ most → RELA_SIZE * count + symbols_left indirect count ≤ part_reads indirect most
part-cost true count most few = omega (arith, few)
part-cost false count most few = omega (arith, few)

table-fits : (old new : OrderedEntries) → IsPartTable old.ranges old.indirect new.part new.rows.table → new.rows.table.count ≤ (range_table old.ranges new.part.second).count
table-fits old new (inl same) = let e = ap (λ (t : TableRange). t.count) same in omega (arith, e)
table-fits old new (inr none) = let e = none.1 in omega (arith, e)

pub reads-at-part : (old new : OrderedEntries) → old.begun < 4 → BeginsPart old new → entries_reads new ≤ entries_reads old
reads-at-part old new some b =
    let count = new.rows.table.count in
    let ahead : entries_ahead new.rows ≡ count = let e = b.index in omega (arith, e) in
    let cost = part-cost new.part.indirect count (range_table old.ranges new.part.second).count (table-fits old new b.table) in
    let kind : part_reads new.part.indirect (range_table old.ranges new.part.second).count ≡ numbered_reads old.ranges old.begun
    = ap (λ second. part_reads new.part.indirect (range_table old.ranges second).count) b.kind.0
    ∙ ap (λ indirect. part_reads indirect (range_table old.ranges (part_kind old.ranges.joined old.begun).0).count) b.kind.1 in
    let symbols : symbols_left new.part.indirect (entries_ahead new.rows) ≡ symbols_left new.part.indirect count = ap (symbols_left new.part.indirect) ahead in
    let parts : parts_reads new.ranges (places_from (λ k. k) new.begun (4 - new.begun)) ≡ parts_reads old.ranges (places_from (λ k. k) (old.begun + 1) (4 - (old.begun + 1)))
    = ap (λ (r : EntryRanges). parts_reads r (places_from (λ k. k) new.begun (4 - new.begun))) b.ranges ∙ ap (λ n. parts_reads old.ranges (places_from (λ k. k) n (4 - n))) b.begun in
    let next = parts-reads-next old.ranges old.begun some in
    let unread = b.unread in
    omega (arith, cost, kind, symbols, parts, next, unread)
