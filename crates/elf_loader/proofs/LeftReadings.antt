-- The records that a walk over a table has left to read, record by record.
use Rattle.std.proofs.Common.{◌≡◌, ℕ, zero, suc, ◌+◌, ◌<◌, ◌≤◌, nat_lt, true, false, List, ◌∷◌, ◌++◌, length, inl, inr, Option, None, Some, IfSome, MatchOption, option_map, refl, sym, ap, ◌∙◌, arith}
use Rattle.std.proofs.lemmas.Bool.{cases_Bool}
use Rattle.std.proofs.lemmas.Bool.Decides.{nat_tests}
use Rattle.elf_model.specs.Prelude.{Meets, Misses, RecordCursorState, Refuses, VersionRecordRead, VersionRecordTable, Versions, VisitedRecord, end_reading, first_position, first_refusal, has_record, max_records, meetings, next_position, no_versions, position_after, readings_of, record_checks, record_size, versions_in, visited_at, visited_from, with_visited}
use Rattle.elf_model.specs.declared.causes.Refusal.{Refusal}
use Rattle.elf_model.specs.declared.causes.Cause.TheVariants.{VersionCut}
use Rattle.elf_model.proofs.ReadingLaws.{is_there-next}
use Rattle.elf_model.proofs.VersionSteps.{ends-inside, met-ended, met-most, met-record, met-refused}
use Rattle.elf_hash.specs.Prelude.{IsVersionRecordTable}
use Rattle.elf_hash.specs.declared.symbols.VersionRecordTable.{VersionRecordTable as Given}
use Rattle.elf_note.specs.Prelude.{GivesVersion, LeadsOn, StartsVersions, VersionCursorState, record_position_of, versions_left}
use Rattle.elf_note.specs.declared.record_position.RecordPosition.{RecordPosition}
use Rattle.elf_note.specs.declared.record.VersionRecord.{VersionRecord}

-- the record at the position of a walk is in the table, or there is none
abbrev pub cut_at : RecordCursorState → Refusal
cut_at stand = record { at = stand.from; cause = VersionCut }

abbrev visited_of : Versions → List VisitedRecord
visited_of versions = versions.met

abbrev cut_of : Versions → Option Refusal
cut_of versions = versions.cut

-- what is left at the position of a walk, of a number of records at most, before others
unfoldable pub left_readings : List ℕ → List ℕ → (table size : ℕ) → Option RecordCursorState → ℕ → List VersionRecordRead → List VersionRecordRead
left_readings file strings table size None left others = others
left_readings file strings table size (Some stand) zero others = Misses (cut_at stand) ∷ others
left_readings file strings table size (Some stand) (suc left) others =
    elim (nat_lt size (stand.place + record_size stand.kind)) [
      | true ↦ Misses (cut_at stand) ∷ others
      | false ↦ elim (first_refusal (record_checks file table size stand)) [
        | Some refusal ↦ Refuses refusal ∷ others
        | None ↦ Meets strings (visited_at table stand) ∷ left_readings file strings table size (next_position file table stand) left others
      ]
    ]

-- a record that is not in the table is refused at the structure that led there
past : (file : List ℕ) (table size : ℕ) (stand : RecordCursorState) → nat_lt size (stand.place + record_size stand.kind) ≡ true
    → first_refusal (record_checks file table size stand) ≡ Some (cut_at stand)
unfolding record_checks
past file table size stand far = rw far refl

-- what is left, in the terms of the model: what is visited, and how it ends
left_as : List ℕ → (told : VersionRecordTable) → (done : ℕ) → Versions → List VersionRecordRead → List VersionRecordRead
left_as file told done versions others =
    meetings told.strings versions.met
    (end_reading (has_record told (done + length versions.met) (position_after file told (done + length versions.met))) versions.cut ++ others)

left-is :
    (file : List ℕ) (told : VersionRecordTable) (others : List VersionRecordRead) (left done : ℕ) (stand : Option RecordCursorState)
    → done + left ≡ max_records told.kind told.size → position_after file told done ≡ stand
    → left_as file told done (visited_from file told.place told.size stand left) others
    ≡ left_readings file told.strings told.place told.size stand left others
unfolding left_as left_readings meetings
left-is file told others left done None most is =
    let e = met-ended file told.place told.size left in rw e refl
left-is file told others zero done (Some stand) most is =
    let e = met-most file told.place told.size stand in
    let none : done + 0 ≡ done = omega arith in
    let full : nat_lt done (max_records told.kind told.size) ≡ false = grind (arith, nat_tests) in
    rw (e, none, is, full) refl
left-is file told others (suc left) done (Some stand) most is =
    elim (cases_Bool (nat_lt told.size (stand.place + record_size stand.kind))) [
      | inl far ↦
          let e = met-refused file told.place told.size stand left (cut_at stand) (past file told.place told.size stand far) in
          let none : done + 0 ≡ done = omega arith in
          let room : nat_lt done (max_records told.kind told.size) ≡ true = grind (arith, nat_tests) in
          rw (e, none, is, room, far, left_readings) refl
      | inr near ↦
          let rest = left-is file told others left (suc done) (next_position file told.place stand) (omega (arith, most)) (is_there-next file told done stand is) in
          go near rest (first_refusal (record_checks file told.place told.size stand)) refl
    ]
  where
    go : nat_lt told.size (stand.place + record_size stand.kind) ≡ false
        → left_as file told (suc done) (visited_from file told.place told.size (next_position file told.place stand) left) others
        ≡ left_readings file told.strings told.place told.size (next_position file told.place stand) left others
        → (o : Option Refusal) → first_refusal (record_checks file told.place told.size stand) ≡ o
        → left_as file told done (visited_from file told.place told.size (Some stand) (suc left)) others
        ≡ left_readings file told.strings told.place told.size (Some stand) (suc left) others
    go near rest (Some refusal) c =
        let e = met-refused file told.place told.size stand left refusal c in
        let none : done + 0 ≡ done = omega arith in
        let room : nat_lt done (max_records told.kind told.size) ≡ true = grind (arith, nat_tests) in
        rw (e, none, is, room, near, c, left_readings) refl
    go near rest None c =
        let e = met-record file told.place told.size stand left c in
        let met = visited_from file told.place told.size (next_position file told.place stand) left in
        let count : done + suc (length met.met) ≡ suc done + length met.met = omega arith in
        rw (e, near, c, count, left_readings) (ap (λ (more : List VersionRecordRead). Meets told.strings (visited_at told.place stand) ∷ more) rest)

-- all records of a table are left at first
pub all-left :
    (file : List ℕ) (told : VersionRecordTable) (others : List VersionRecordRead)
    → readings_of file told others
    ≡ left_readings file told.strings told.place told.size (first_position told.kind told.head told.size) (max_records told.kind told.size) others
unfolding readings_of versions_in position_after left_as
all-left file told others =
    let met = (visited_from file told.place told.size (first_position told.kind told.head told.size) (max_records told.kind told.size)).met in
    let e : 0 + length met ≡ length met = omega arith in
    rw e at (left-is file told others (max_records told.kind told.size) 0 (first_position told.kind told.head told.size) (omega arith) refl)

-- a record that is visited is the first that is left
pub meets-left :
    (file strings : List ℕ) (table size : ℕ) (standing : Option RecordPosition) (left : ℕ) (next : Option RecordCursorState) (met : VisitedRecord) (rest : Versions) (others : List VersionRecordRead)
    → visited_from file table size (option_map record_position_of standing) (suc left) ≡ with_visited met rest
    → IfSome standing (λ s. next ≡ next_position file table (record_position_of s))
    → left_readings file strings table size (option_map record_position_of standing) (suc left) others
    ≡ Meets strings met ∷ left_readings file strings table size next left others
unfolding left_readings
meets-left file strings table size None left next met rest others first leads =
    let e = ap visited_of (sym (met-ended file table size (suc left)) ∙ first) in absurd (cc)
meets-left file strings table size (Some s) left next met rest others first leads =
    go (first_refusal (record_checks file table size (record_position_of s))) refl
  where
    go : (o : Option Refusal) → first_refusal (record_checks file table size (record_position_of s)) ≡ o
        → left_readings file strings table size (Some (record_position_of s)) (suc left) others ≡ Meets strings met ∷ left_readings file strings table size next left others
    go (Some refusal) c = let e = ap visited_of (sym (met-refused file table size (record_position_of s) left refusal c) ∙ first) in absurd (cc)
    go None c =
        let e = ap visited_of (sym (met-record file table size (record_position_of s) left c) ∙ first) in
        let inside = ends-inside file table size (record_position_of s) c in
        let near : nat_lt size (s.place + record_size s.kind) ≡ false = grind (arith, nat_tests) in
        let same : visited_at table (record_position_of s) ≡ met = cc in
        rw (near, c, leads, same, left_readings) refl

-- if none is left to be visited, and nothing is refused, the others are
pub ended-left :
    (file strings : List ℕ) (table size : ℕ) (standing : Option RecordPosition) (left : ℕ) (others : List VersionRecordRead)
    → visited_from file table size (option_map record_position_of standing) left ≡ no_versions None
    → left_readings file strings table size (option_map record_position_of standing) left others ≡ others
unfolding left_readings
ended-left file strings table size None left others none = refl
ended-left file strings table size (Some s) zero others none = let e = ap cut_of (sym (met-most file table size (record_position_of s)) ∙ none) in absurd (cc)
ended-left file strings table size (Some s) (suc left) others none = go (first_refusal (record_checks file table size (record_position_of s))) refl
  where
    go : (o : Option Refusal) → first_refusal (record_checks file table size (record_position_of s)) ≡ o
        → left_readings file strings table size (Some (record_position_of s)) (suc left) others ≡ others
    go (Some refusal) c = let e = ap cut_of (sym (met-refused file table size (record_position_of s) left refusal c) ∙ none) in absurd (cc)
    go None c = let e = ap visited_of (sym (met-record file table size (record_position_of s) left c) ∙ none) in absurd (cc)

-- what is refused is the first that is left
pub refused-left :
    (file strings : List ℕ) (table size : ℕ) (standing : Option RecordPosition) (left : ℕ) (others : List VersionRecordRead) (refusal : Refusal) (P : List VersionRecordRead → Type 0)
    → visited_from file table size (option_map record_position_of standing) left ≡ no_versions (Some refusal)
    → P (Refuses refusal ∷ others) → P (Misses refusal ∷ others)
    → P (left_readings file strings table size (option_map record_position_of standing) left others)
unfolding left_readings
refused-left file strings table size None left others refusal P is read missed =
    let e = ap cut_of (sym (met-ended file table size left) ∙ is) in absurd (cc)
refused-left file strings table size (Some s) zero others refusal P is read missed =
    let e : cut_at (record_position_of s) ≡ refusal = let w = ap cut_of (sym (met-most file table size (record_position_of s)) ∙ is) in cc in
    rw e missed
refused-left file strings table size (Some s) (suc left) others refusal P is read missed =
    elim (cases_Bool (nat_lt size (s.place + record_size s.kind))) [
      | inl far ↦
          let e : cut_at (record_position_of s) ≡ refusal =
          let w = ap cut_of (sym (met-refused file table size (record_position_of s) left (cut_at (record_position_of s)) (past file table size (record_position_of s) far)) ∙ is) in cc in
          rw (far, e, left_readings) missed
      | inr near ↦ go near (first_refusal (record_checks file table size (record_position_of s))) refl
    ]
  where
    go : nat_lt size (s.place + record_size s.kind) ≡ false
        → (o : Option Refusal) → first_refusal (record_checks file table size (record_position_of s)) ≡ o
        → P (left_readings file strings table size (Some (record_position_of s)) (suc left) others)
    go near (Some other) c =
        let e : other ≡ refusal = let w = ap cut_of (sym (met-refused file table size (record_position_of s) left other c) ∙ is) in cc in
        rw (near, c, e, left_readings) read
    go near None c = let e = ap visited_of (sym (met-record file table size (record_position_of s) left c) ∙ is) in absurd (cc)

-- a record that is in the table is read: it is visited, or refused
pub read-left :
    (file strings : List ℕ) (table size : ℕ) (standing : Option RecordPosition) (left : ℕ) (others : List VersionRecordRead) (P : List VersionRecordRead → Type 0)
    → 0 < left → MatchOption standing ⊥ (λ s. s.place + record_size s.kind ≤ size)
    → ((refusal : Refusal) → P (Refuses refusal ∷ others)) → ((met : VisitedRecord) (more : List VersionRecordRead) → P (Meets strings met ∷ more))
    → P (left_readings file strings table size (option_map record_position_of standing) left others)
unfolding left_readings
read-left file strings table size None left others P some inside refused met = absurd inside
read-left file strings table size (Some s) zero others P some inside refused met = absurd (omega (arith, some))
read-left file strings table size (Some s) (suc left) others P some inside refused met =
    let near : nat_lt size (s.place + record_size s.kind) ≡ false = grind (arith, nat_tests) in
    rw (near, left_readings) (go (first_refusal (record_checks file table size (record_position_of s))))
  where
    go : (o : Option Refusal)
        → P (elim o [ Some refusal ↦ Refuses refusal ∷ others | None ↦ Meets strings (visited_at table (record_position_of s)) ∷ left_readings file strings table size (next_position file table (record_position_of s)) left others ])
    go (Some refusal) = refused refusal
    go None = met (visited_at table (record_position_of s)) (left_readings file strings table size (next_position file table (record_position_of s)) left others)

-- what is left of a cursor's walk, in the names of some strings and before others
abbrev pub left_of : List ℕ → List ℕ → List VersionRecordRead → VersionCursorState → List VersionRecordRead
left_of file strings others c = left_readings file strings c.held.table.at c.held.table.count (option_map record_position_of c.standing) c.left others

-- at first all records of the table are
pub start-left :
    (file : List ℕ) (told : VersionRecordTable) (records : Given) (others : List VersionRecordRead) (c : VersionCursorState)
    → StartsVersions records.kind records.head records.table c → IsVersionRecordTable file told records
    → readings_of file told others ≡ left_of file told.strings others c
start-left file told records others c starts is =
    let its_table = starts.its_table in
    let standing = starts.standing in
    let left = starts.left in
    let kind = sym is.kind in
    let head = sym is.head in
    let place = sym is.place in
    let size = sym is.size in
    all-left file told others ∙ (rw (its_table, standing, left, kind, head, place, size) refl)

-- then the record that is yielded is the first of them
pub step-left :
    (file strings : List ℕ) (others : List VersionRecordRead) (old new : VersionCursorState) (given : VersionRecord) → new.held ≡ old.held → new.left + 1 ≡ old.left
    → (gives : GivesVersion file (versions_left file old) (versions_left file new) given) → LeadsOn file old new
    → left_of file strings others old ≡ Meets strings gives.met ∷ left_of file strings others new
step-left file strings others old new given held fewer gives leads =
    let e : old.left ≡ suc new.left = omega (arith, fewer) in
    rw (e, held)
    (meets-left file strings old.held.table.at old.held.table.count old.standing new.left (option_map record_position_of new.standing) gives.met (versions_left file new) others (rw e at gives.first) leads)
