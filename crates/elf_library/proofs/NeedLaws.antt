-- What the versions that a file needs or defines cost to read.
use Rattle.std.proofs.Common.{◌≡◌, ℕ, zero, suc, ◌+◌, ◌-◌, ◌*◌, ◌/◌, ◌<◌, ◌≤◌, Some, Ok, Err, arith}
use Rattle.elf_model.specs.Prelude.{max_records}
use Rattle.elf_model.specs.declared.versions.VersionKind.{VersionKind}
use Rattle.elf_model.specs.declared.versions.VersionKind.TheVariants.{Definition, File, Need}
use Rattle.elf_hash.specs.Prelude.{VersionRecordsInBounds}
use Rattle.elf_hash.specs.declared.symbols.VersionRecordTable.{VersionRecordTable}
use Rattle.elf_note.specs.Prelude.{KeepsWalk, LeavesWalk, VersionCursorState, unread}
use Rattle.elf_note.specs.declared.record.VersionRecord.{VersionRecord}
use Rattle.elf_table.specs.declared.fault.Fault.{Fault}
use Rattle.elf_loader.proofs.RecordWalk.{StepsRelocationWalk, walk-pays, walk-spends}
use Rattle.elf_library.specs.NeedWalks.{StepsNeeds}
use Rattle.elf_library.specs.declared.needed_versions.NeedsWalk.{NeedsWalk}

-- a table has no more records than bytes over eight
most_kind : (kind : VersionKind) (count size : ℕ) → count ≤ size → max_records kind count ≤ size / 8
most_kind Definition count size low = omega (arith, low)
most_kind File count size low = omega (arith, low)
most_kind Need count size low = omega (arith, low)

count_low : (at count entry size : ℕ) → entry ≡ 1 → (0 < count → at + count * entry ≤ size) → count ≤ size
count_low at zero entry size one within = omega arith
count_low at (suc n) entry size one within = let low = rw one at (within (omega arith)) in omega (arith, low)

pub max_need_records : (records : VersionRecordTable) (size : ℕ) → VersionRecordsInBounds size records → max_records records.kind records.table.count ≤ size / 8
max_need_records records size lies =
    most_kind records.kind records.table.count size (count_low records.table.at records.table.count records.table.entry size records.bytes lies.table)

-- the walk over the records
pub as_walk : {size : ℕ} {walk : NeedsWalk} → StepsNeeds size walk → StepsRelocationWalk walk.records walk.cursor
as_walk s = record { going = s.going; its_table = s.its_table; alone = s.alone; each = s.each; fewer = s.fewer }

pub of_walk : (size : ℕ) (walk : NeedsWalk) → VersionRecordsInBounds size walk.records → StepsRelocationWalk walk.records walk.cursor → StepsNeeds size walk
of_walk size walk lies w = record { lies = lies; going = w.going; its_table = w.its_table; alone = w.alone; each = w.each; fewer = w.fewer }

-- a step reads at most one record
module _ {records : VersionRecordTable} {old new : VersionCursorState} (w : StepsRelocationWalk records old) (keeps : KeepsWalk old new) where
  pub one_pays : (given : VersionRecord) → LeavesWalk old new (Ok (Some given)) → unread old - unread new ≤ 28
  one_pays given leaves = omega (arith, walk-pays w keeps given 0 leaves, leaves.2, w.fewer)

  pub one_spends : (fault : Fault) → LeavesWalk old new (Err fault) → unread old - unread new ≤ 28
  one_spends fault leaves = omega (arith, (walk-spends w keeps {fault = fault} 0 leaves).0, leaves.1.one, keeps.fewer, w.fewer)

pub none_spends : (old new : VersionCursorState) → new ≡ old → unread old - unread new ≤ 28
none_spends old new same = rw same (omega arith)
