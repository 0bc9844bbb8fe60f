-- What a walk over the records of symbol versions leaves, by plain numbers.
use Rattle.std.proofs.Common.{◌≡◌, inl, inr, ℕ, ◌+◌, ◌-◌, ◌^◌, ◌<◌, ◌≤◌, ◌==◌, min, nat_le, true, List, [], ◌∷◌, length, Option, None, Some, option_map, refl, sym, ap, ◌∙◌, arith}
use Rattle.std.specs.Prelude.{IfSome}
use Rattle.std.proofs.lemmas.Bool.{cases_Bool, cases_lt}
use Rattle.std.proofs.lemmas.Bool.Decides.{nat_tests}
use Rattle.elf_model.specs.Prelude.{RecordCursorState, Versions, VisitedRecord, along, along_needs, next_position, next_word, no_versions, record_size, visited_from, vn_next, with_visited}
use Rattle.elf_model.specs.declared.versions.VersionKind.TheVariants.{Definition, File, Need}
use Rattle.elf_model.specs.declared.causes.Cause.TheVariants.{VersionCut}
use Rattle.elf_model.specs.declared.versions.VersionKind.{VersionKind}
use Rattle.elf_table.specs.Tables.{TableRange}
use Rattle.elf_note.specs.Prelude.{IsPositionInTable, VersionCursorState, record_position_of, versions_left}
use Rattle.elf_note.specs.declared.record_position.RecordPosition.{RecordPosition}
use Rattle.elf_note.proofs.LeftLaws.{cut-here}
use Rattle.elf_capi.specs.Prelude.{GoesOnTo, bytes_within, kind_number, records_left, stand_as, standing_in}
use Rattle.elf_capi.specs.declared.records.VersionRecordPosition.{VersionRecordPosition}

-- a record has at least 16 bytes
some_bytes : (kind : VersionKind) → 16 ≤ record_size kind
some_bytes Definition = omega arith
some_bytes File = omega arith
some_bytes Need = omega arith

-- where a walk is by numbers of a kind
pub stands_as : (size : ℕ) (kind : VersionKind) (records : VersionRecordPosition) → records.kind ≡ kind_number kind → records.owner ≤ size → (kind ≡ Need → records.owner + 16 ≤ size)
    → standing_in size records ≡ Some (stand_as kind records)
stands_as size Definition records is owner needs = let within : nat_le records.owner size ≡ true = grind (arith, nat_tests) in rw (is, within) refl
stands_as size File records is owner needs = let within : nat_le records.owner size ≡ true = grind (arith, nat_tests) in rw (is, within) refl
stands_as size Need records is owner needs =
    let its = needs refl in
    let within : nat_le (records.owner + 16) size ≡ true = grind (arith, nat_tests) in rw (is, within) refl

-- a place past all bytes is as good as another
same_past : (file : List ℕ) (table size left place from owner : ℕ) (kind : VersionKind) → size < 2 ^ 64
    → visited_from file table size (Some (record { kind = kind; place = min place (2 ^ 64 - 1); from = from; owner = owner })) left
    ≡ visited_from file table size (Some (record { kind = kind; place = place; from = from; owner = owner })) left
same_past file table size left place from owner kind few = elim (cases_lt place (2 ^ 64)) [
  | inl low ↦
      let same : min place (2 ^ 64 - 1) ≡ place = omega (arith, low) in
      ap (λ p. visited_from file table size (Some (record { kind = kind; place = p; from = from; owner = owner })) left) same
  | inr high ↦
      let some = some_bytes kind in
      let one : RecordCursorState = record { kind = kind; place = min place (2 ^ 64 - 1); from = from; owner = owner } in
      let other : RecordCursorState = record { kind = kind; place = place; from = from; owner = owner } in
      cut-here file table size one left (inr (omega (arith, some, few, high)))
      ∙ sym (cut-here file table size other left (inr (omega (arith, some, few, high))))
]

-- the kind and the owner of where a walk is, if it does
abbrev kind_in : VersionKind → Option RecordCursorState → VersionKind
kind_in none None = none
kind_in none (Some stand) = stand.kind

abbrev owner_in : ℕ → Option RecordCursorState → ℕ
owner_in none None = none
owner_in none (Some stand) = stand.owner

along_kind : (table : ℕ) (kind : VersionKind) (place distance owner : ℕ) → kind_in kind (along table kind place distance owner) ≡ kind
along_kind table kind place distance owner = elim (cases_Bool (distance == 0)) [ inl none ↦ rw none refl | inr some ↦ rw some refl ]

needs_owner : (table place distance owner files : ℕ) → kind_in Definition (along_needs table place distance owner files) ≡ Need → owner_in 0 (along_needs table place distance owner files) ≡ owner
needs_owner table place distance owner files = elim (cases_Bool (distance == 0)) [
  | inl none ↦ rw none (elim (cases_Bool (files == 0)) [ inl last ↦ rw last (λ e. absurd (cc)) | inr more ↦ rw more (λ e. absurd (cc)) ])
  | inr some ↦ rw some (λ e. refl)
]

-- the file of the next version is one of the table's
owned : (file : List ℕ) (table size : ℕ) (kind : VersionKind) (place from owner : ℕ) (s : RecordPosition)
    → Some (record_position_of s) ≡ next_position file table (record { kind = kind; place = place; from = from; owner = owner }) → place + record_size kind ≤ size
    → (kind ≡ Need → owner + 16 ≤ size) → s.kind ≡ Need → s.owner + 16 ≤ size
unfolding next_position
owned file table size Definition place from owner s is fits its need =
    let its_kind = ap (kind_in Definition) is ∙ along_kind table Definition place (next_word file (record { kind = Definition; at = table + place })) 0 in
    absurd (cc)
owned file table size File place from owner s is fits its need =
    let its_owner : s.owner ≡ place = ap (owner_in 0) is in
    omega (arith, its_owner, fits)
owned file table size Need place from owner s is fits its need =
    let word : ℕ = next_word file (record { kind = Need; at = table + place }) in
    let files : ℕ = vn_next file (table + owner) in
    let its_kind : kind_in Definition (along_needs table place word owner files) ≡ Need = sym (ap (kind_in Definition) is) ∙ need in
    let its_owner : s.owner ≡ owner = ap (owner_in 0) is ∙ needs_owner table place word owner files its_kind in
    omega (arith, its_owner, its refl)

-- the numbers of a walk that goes on
abbrev gone : VersionRecordPosition → RecordPosition → VersionRecordPosition
gone old s = record (old) { left = old.left - 1; kind = kind_number s.kind; place = min s.place (2 ^ 64 - 1); from = s.from; owner = s.owner }

abbrev ended : VersionRecordPosition → VersionRecordPosition
ended old = record (old) { left = old.left - 1; kind = 0 }

-- WHAT IS LEFT if a walk goes on, as the numbers have it
pub goes_on : (file : List ℕ) (old new : VersionRecordPosition) (stand : RecordCursorState) (next : Option RecordPosition) (each : ℕ) → bytes_within (length file) old < 2 ^ 64
    → stand.place + record_size stand.kind ≤ bytes_within (length file) old → (stand.kind ≡ Need → stand.owner + 16 ≤ bytes_within (length file) old)
    → option_map record_position_of next ≡ next_position file old.at stand → IfSome next (IsPositionInTable (bytes_within (length file) old) each) → GoesOnTo old new next
    → records_left file new ≡ visited_from file old.at (bytes_within (length file) old) (option_map record_position_of next) (old.left - 1)
goes_on file old new stand None each few fits its leads all is = ap (records_left file) is
goes_on file old new stand (Some s) each few fits its leads all is =
    let size : ℕ = bytes_within (length file) old in
    let owner = owned file old.at size stand.kind stand.place stand.from stand.owner s leads fits its in
    let stood = stands_as size s.kind (gone old s) refl all.owner owner in
    ap (records_left file) is
    ∙ ap (λ o. visited_from file old.at size o (old.left - 1)) stood
    ∙ same_past file old.at size (old.left - 1) s.place s.from s.owner s.kind few

-- what a cursor leaves that goes on by the numbers
pub left_is : (file : List ℕ) (records : VersionRecordPosition) (table : TableRange) (standing : Option RecordPosition) (c : VersionCursorState) → table.at ≡ records.at → table.count ≡ bytes_within (length file) records
    → option_map record_position_of standing ≡ standing_in table.count records → c.held.table ≡ table → c.standing ≡ standing → c.left ≡ records.left
    → versions_left file c ≡ records_left file records
left_is file records table standing c at count is_at its its_standing left =
    rw (its, its_standing, left, at, is_at) (ap (λ n. visited_from file records.at n (standing_in n records) records.left) count)

-- a visited record has its bytes in the table
no_record : (met : VisitedRecord) (versions other : Versions) → other.met ≡ [] → other ≡ with_visited met versions → ⊥
no_record met versions other none is = let e : [] ≡ met ∷ versions.met = sym none ∙ ap (λ (v : Versions). v.met) is in absurd (cc)

pub visited_inside : (file : List ℕ) (table size left : ℕ) (stand : RecordCursorState) (met : VisitedRecord) (versions : Versions) → visited_from file table size (Some stand) left ≡ with_visited met versions
    → stand.place + record_size stand.kind ≤ size
visited_inside file table size left stand met versions is = elim (cases_lt size (stand.place + record_size stand.kind)) [
  | inl far ↦ absurd (no_record met versions (no_versions (Some (record { at = stand.from; cause = VersionCut }))) refl (sym (cut-here file table size stand left (inr far)) ∙ is))
  | inr near ↦ near
]
