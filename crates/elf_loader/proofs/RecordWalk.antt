-- A walk over the records of a table that reads each alone: what its steps request, and which
-- record they yield.
use Rattle.std.proofs.Common.{◌≡◌, ℕ, zero, suc, ◌+◌, ◌-◌, ◌*◌, ◌<◌, ◌≤◌, false, List, ◌∷◌, inl, inr, None, Some, Ok, Err, ◌∙◌, arith, mul-le-mul_right, suc-mul}
use Rattle.std.proofs.lemmas.Bool.{cases_lt}
use Rattle.elf_model.specs.Prelude.{Meets, Refuses, VersionRecordRead, VersionRecordTable, VisitedRecord, max_records}
use Rattle.elf_model.specs.declared.versions.VersionKind.TheVariants.{Definition, File, Need}
use Rattle.elf_model.specs.declared.causes.Refusal.{Refusal}
use Rattle.elf_model.specs.declared.versions.VersionKind.{VersionKind}
use Rattle.elf_table.specs.Prelude.{strings_in}
use Rattle.elf_table.specs.declared.fault.Fault.{Fault}
use Rattle.elf_hash.specs.Prelude.{IsVersionRecordTable}
use Rattle.elf_hash.specs.declared.symbols.VersionRecordTable.{VersionRecordTable as Given}
use Rattle.elf_note.specs.Prelude.{BufferedTable, GivesVersion, KeepsWalk, LeadsOn, LeavesWalk, SpendsRecord, StartsVersions, VersionCursorState, bytes_each, unheld, unread, versions_left}
use Rattle.elf_note.specs.declared.record.VersionRecord.{VersionRecord}
use Rattle.elf_loader.proofs.LeftReadings.{left_of, read-left, step-left}

-- the position of such a walk
pub record StepsRelocationWalk (records : Given) (c : VersionCursorState) : Type 0 where
  pub going : c.failed ≡ None
  pub its_table : c.held.table ≡ records.table
  pub alone : c.held.whole ≡ false
  pub each : c.each ≡ bytes_each records.kind
  pub fewer : c.left ≤ max_records records.kind records.table.count

-- how many records are passed
abbrev pub gone_by : Given → VersionCursorState → ℕ
gone_by records c = max_records records.kind records.table.count - c.left

-- before the first
pub walk-starts : {records : Given} {c : VersionCursorState} → StartsVersions records.kind records.head records.table c → c.held.whole ≡ false → StepsRelocationWalk records c
walk-starts s alone = record { going = s.not_failed; its_table = s.its_table; alone = alone; each = s.each; fewer = omega (arith, s.left) }

-- they are no more than all records of the table
pub gone-most : (records : Given) (c : VersionCursorState) (each : ℕ) → gone_by records c * each ≤ max_records records.kind records.table.count * each
gone-most records c each = mul-le-mul_right each (omega arith)

-- a table with a record has a byte, so that its strings are known
strings-known :
    (file : List ℕ) (told : VersionRecordTable) (records : Given) (left : ℕ) → IsVersionRecordTable file told records → 0 < left
    → left ≤ max_records records.kind records.table.count → strings_in file records.names ≡ told.strings
strings-known file told records left is some few = is.names (go records.table.count few)
  where
    go : (count : ℕ) → left ≤ max_records records.kind count → 0 < count
    go zero few = absurd (omega (arith, some, few))
    go (suc count) few = omega arith

-- what a step of a cursor that holds no bytes requests
one-more : (most new each pad : ℕ) → suc new ≤ most → each ≤ 28 → (most - suc new) * (28 + pad) + (suc new * each - new * each) + pad ≤ (most - new) * (28 + pad)
one-more most new each pad few small =
    let more : most - new ≡ suc (most - suc new) = omega (arith, few) in
    rw more (omega (arith, small, suc-mul new each, suc-mul (most - suc new) (28 + pad)))

step-pays :
    (h : BufferedTable) (most old new each pad : ℕ) → h.whole ≡ false → new + 1 ≡ old → old ≤ most → each ≤ 28
    → (most - old) * (28 + pad) + (unheld h (old * each) - unheld h (new * each)) + pad ≤ (most - new) * (28 + pad)
step-pays h most old new each pad alone one few small =
    let e : old ≡ suc new = omega (arith, one) in
    rw (alone, e) (one-more most new each pad (omega (arith, e, few)) small)

none-more : (most new each pad : ℕ) → (most - new) * (28 + pad) + (new * each - new * each) ≤ ((most - new) + (new - new)) * (28 + pad)
none-more most new each pad = let e : new - new ≡ 0 = omega arith in let f : new * each - new * each ≡ 0 = omega arith in let z : (most - new) + 0 ≡ most - new = omega arith in rw (f, e, z) (omega arith)

one-spent : (most new each pad : ℕ) → each ≤ 28 → (most - suc new) * (28 + pad) + (suc new * each - new * each) ≤ ((most - suc new) + (suc new - new)) * (28 + pad)
one-spent most new each pad small =
    let e : (most - suc new) + (suc new - new) ≡ suc (most - suc new) = omega arith in
    rw e (omega (arith, small, suc-mul new each, suc-mul (most - suc new) (28 + pad)))

spent-pays :
    (h : BufferedTable) (most old new each pad : ℕ) → h.whole ≡ false → old ≤ new + 1 → new ≤ old → each ≤ 28
    → (most - old) * (28 + pad) + (unheld h (old * each) - unheld h (new * each)) ≤ ((most - old) + (old - new)) * (28 + pad)
spent-pays h most old new each pad alone one fewer small =
    elim (cases_lt new old) [
      | inl less ↦ let e : old ≡ suc new = omega (arith, one, less) in rw (alone, e) (one-spent most new each pad small)
      | inr same ↦ let e : old ≡ new = omega (arith, fewer, same) in rw (alone, e) (none-more most new each pad)
    ]

-- how many bytes a record requests at most
each-small : (kind : VersionKind) → bytes_each kind ≤ 28
each-small Definition = omega arith
each-small File = omega arith
each-small Need = omega arith

module _ {records : Given} {old new : VersionCursorState} (w : StepsRelocationWalk records old) (keeps : KeepsWalk old new) where
  small : old.each ≤ 28
  small = let each = w.each in rw each (each-small records.kind)

  -- after a record
  pub walk-next : (given : VersionRecord) → LeavesWalk old new (Ok (Some given)) → StepsRelocationWalk records new
  walk-next given leaves =
      let same = keeps.same_held in
      record {
        going = leaves.1;
        its_table = rw same w.its_table;
        alone = rw same w.alone;
        each = keeps.same_each ∙ w.each;
        fewer = omega (arith, leaves.2, w.fewer);
      }

  -- what it requested is that of one more, also with a number of bytes of its name
  pub walk-pays : (given : VersionRecord) (pad : ℕ) → LeavesWalk old new (Ok (Some given))
      → gone_by records old * (28 + pad) + (unread old - unread new) + pad ≤ gone_by records new * (28 + pad)
  walk-pays given pad leaves =
      let same = keeps.same_held in
      let same_each = keeps.same_each in
      rw (same, same_each) (step-pays old.held (max_records records.kind records.table.count) old.left new.left old.each pad w.alone leaves.2 w.fewer small)

  -- what a step that fails requested is that of the record that it read, if it did, and of no more
  -- than all
  pub walk-spends : {fault : Fault} (pad : ℕ) → LeavesWalk old new (Err fault)
      → (gone_by records old * (28 + pad) + (unread old - unread new) ≤ (gone_by records old + (old.left - new.left)) * (28 + pad))
      × ((gone_by records old + (old.left - new.left)) * (28 + pad) ≤ max_records records.kind records.table.count * (28 + pad))
  walk-spends pad leaves =
      let same = keeps.same_held in
      let same_each = keeps.same_each in (
        rw (same, same_each) (spent-pays old.held (max_records records.kind records.table.count) old.left new.left old.each pad w.alone leaves.1.one keeps.fewer small),
        mul-le-mul_right (28 + pad) (omega (arith, keeps.fewer, w.fewer)),
      )

  -- the record that is yielded is the first of those that are left
  pub walk-gives :
      {given : VersionRecord} (file : List ℕ) (told : VersionRecordTable) (others : List VersionRecordRead) → IsVersionRecordTable file told records → LeavesWalk old new (Ok (Some given))
      → (gives : GivesVersion file (versions_left file old) (versions_left file new) given) → LeadsOn file old new
      → left_of file told.strings others old ≡ Meets (strings_in file records.names) gives.met ∷ left_of file told.strings others new
  walk-gives {given} file told others is leaves gives leads =
      let known = strings-known file told records old.left is (omega (arith, leaves.2)) w.fewer in
      rw known (step-left file told.strings others old new given keeps.same_held leaves.2 gives leads)

-- a step that yields none reads no more than is left to be read
pub walk-read :
    (file strings : List ℕ) (others : List VersionRecordRead) (old new : VersionCursorState) (read : List VersionRecordRead → ℕ)
    → ((refusal : Refusal) → 1 ≤ read (Refuses refusal ∷ others)) → ((met : VisitedRecord) (more : List VersionRecordRead) → 1 ≤ read (Meets strings met ∷ more))
    → SpendsRecord old new → old.left - new.left ≤ read (left_of file strings others old)
walk-read file strings others old new read refused met spends =
    elim (cases_lt new.left old.left) [
      | inl fewer ↦
          let one : 1 ≤ read (left_of file strings others old) =
          read-left file strings old.held.table.at old.held.table.count old.standing old.left others
          (λ (all : List VersionRecordRead). 1 ≤ read all) (omega (arith, fewer)) (spends.there fewer) refused met in
          omega (arith, one, spends.one)
      | inr same ↦ omega (arith, same)
    ]
