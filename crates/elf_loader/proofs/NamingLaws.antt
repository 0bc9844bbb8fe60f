-- Searching the record that names the version of an index, record by record.
use Rattle.std.proofs.Common.{◌≡◌, ℕ, ◌+◌, ◌-◌, ◌*◌, ◌≤◌, Bool, true, false, List, [], ◌∷◌, Option, None, Some, Result, Ok, Err, refl, ◌∙◌, arith}
use Rattle.elf_model.specs.Prelude.{IsBudgetRefusal, Meets, Misses, NumberNameSource, Refuses, VersionRecordRead, VersionRecordTable, VisitedRecord, file_before, file_or, names_version_index, naming_of, one_later, readings_of}
use Rattle.elf_model.specs.declared.causes.Refusal.{Refusal}
use Rattle.elf_source.specs.Source.{CountedState}
use Rattle.elf_table.specs.Prelude.{CallReads}
use Rattle.elf_table.specs.declared.fault.Fault.{Fault}
use Rattle.elf_table.specs.declared.fault.Fault.TheVariants.{Refused, Source}
use Rattle.elf_table.proofs.LedgerLaws.{CallReads-more, CallReads-then}
use Rattle.elf_hash.specs.Prelude.{IsVersionRecordTable}
use Rattle.elf_hash.specs.declared.symbols.VersionRecordTable.{VersionRecordTable as Given}
use Rattle.elf_note.specs.Prelude.{ReturnsVersion, SpendsRecord, StartsVersions, VersionCursorState, versions_left}
use Rattle.elf_note.specs.declared.record.VersionRecord.{VersionRecord}
use Rattle.elf_loader.specs.Prelude.{HasFile, NamedAs, NamesBefore, NamesFile}
use Rattle.elf_loader.specs.declared.version_name_record.VersionNameRecord.{VersionNameRecord}
use Rattle.elf_loader.proofs.TablesLaws.{more-pays}
use Rattle.elf_loader.proofs.LeftReadings.{ended-left, left_of, refused-left, start-left}
use Rattle.elf_loader.proofs.RecordWalk.{walk-read}

-- a record that has the index, and one that does not
naming-here :
    (file strings : List ℕ) (number : ℕ) (met : VisitedRecord) (others : List VersionRecordRead) → names_version_index file number met ≡ true
    → naming_of file number (Meets strings met ∷ others) ≡ record { found = Some (strings, met); refused = None; read = 1 }
unfolding naming_of
naming-here file strings number met others n = rw (n, naming_of) refl

naming-later :
    (file strings : List ℕ) (number : ℕ) (met : VisitedRecord) (others : List VersionRecordRead) → names_version_index file number met ≡ false
    → naming_of file number (Meets strings met ∷ others) ≡ one_later (naming_of file number others)
unfolding naming_of
naming-later file strings number met others n = rw (n, naming_of) refl

-- each that is visited is read
naming-reads : (file strings : List ℕ) (number : ℕ) (met : VisitedRecord) (others : List VersionRecordRead) → 1 ≤ (naming_of file number (Meets strings met ∷ others)).read
naming-reads file strings number met others = go (names_version_index file number met) refl
  where
    go : (n : Bool) → names_version_index file number met ≡ n → 1 ≤ (naming_of file number (Meets strings met ∷ others)).read
    go true n = let e = naming-here file strings number met others n in rw e (omega arith)
    go false n = let e = naming-later file strings number met others n in rw e (omega arith)

refused-reads : (file : List ℕ) (number : ℕ) (refusal : Refusal) (others : List VersionRecordRead) → 1 ≤ (naming_of file number (Refuses refusal ∷ others)).read
unfolding naming_of
refused-reads file number refusal others = omega arith

-- what a fault implies for what is left
abbrev pub FaultNames : NumberNameSource → Fault → Type 0
FaultNames left (Refused refusal) = (IsBudgetRefusal refusal → ⊥) → (left.found ≡ None) × (left.refused ≡ Some refusal)
FaultNames left (Source fault at) = Unit {0}

refused-names :
    (file : List ℕ) (number : ℕ) (refusal : Refusal) (others : List VersionRecordRead)
    → ((naming_of file number (Refuses refusal ∷ others)).found ≡ None) × ((naming_of file number (Refuses refusal ∷ others)).refused ≡ Some refusal)
unfolding naming_of
refused-names file number refusal others = (refl, refl)

missed-names :
    (file : List ℕ) (number : ℕ) (refusal : Refusal) (others : List VersionRecordRead)
    → ((naming_of file number (Misses refusal ∷ others)).found ≡ None) × ((naming_of file number (Misses refusal ∷ others)).refused ≡ Some refusal)
unfolding naming_of
missed-names file number refusal others = (refl, refl)

pub fault-left :
    (file strings : List ℕ) (number : ℕ) (others : List VersionRecordRead) (old new : VersionCursorState) (fault : Fault)
    → ReturnsVersion file (versions_left file old) (versions_left file new) (Err fault)
    → FaultNames (naming_of file number (left_of file strings others old)) fault
fault-left file strings number others old new (Refused refusal) tells =
    λ other. refused-left file strings old.held.table.at old.held.table.count old.standing old.left others refusal
    (λ (all : List VersionRecordRead). ((naming_of file number all).found ≡ None) × ((naming_of file number all).refused ≡ Some refusal)) (tells other)
    (refused-names file number refusal others) (missed-names file number refusal others)
fault-left file strings number others old new (Source fault at) tells = tt

-- a step that yields none reads no more than is left to be read
pub spent-read :
    (file strings : List ℕ) (number : ℕ) (others : List VersionRecordRead) (old new : VersionCursorState) → SpendsRecord old new
    → old.left - new.left ≤ (naming_of file number (left_of file strings others old)).read
spent-read file strings number others old new spends =
    walk-read file strings others old new (λ (all : List VersionRecordRead). (naming_of file number all).read) (λ refusal. refused-reads file number refusal others)
    (λ met more. naming-reads file strings number met more) spends

-- before the first record none is read
pub start-as :
    (file : List ℕ) (number : ℕ) (told : VersionRecordTable) (records : Given) (others : List VersionRecordRead) (c : VersionCursorState) (done : ℕ) → done ≡ 0
    → StartsVersions records.kind records.head records.table c → IsVersionRecordTable file told records
    → NamedAs done (naming_of file number (readings_of file told others)) (naming_of file number (left_of file told.strings others c))
start-as file number told records others c done none starts is =
    let e = start-left file told records others c starts is in
    rw (none, e) (record { found = refl; refused = refl; read = omega arith })

-- one more record that does not have the index
pub later-as :
    (file names : List ℕ) (number : ℕ) (met : VisitedRecord) (old new : List VersionRecordRead) (n k : ℕ) (all : NumberNameSource) → n + 1 ≡ k → old ≡ Meets names met ∷ new
    → names_version_index file number met ≡ false → NamedAs n all (naming_of file number old) → NamedAs k all (naming_of file number new)
later-as file names number met old new n k all sum first other before =
    let b = rw (first, naming-later file names number met new other) at before in
    record { found = b.found; refused = b.refused; read = omega (arith, sum, b.read) }

-- and one that has it
pub here-as :
    (file names : List ℕ) (number : ℕ) (met : VisitedRecord) (old new : List VersionRecordRead) (n : ℕ) (all : NumberNameSource) → old ≡ Meets names met ∷ new
    → names_version_index file number met ≡ true → NamedAs n all (naming_of file number old) → (all.found ≡ Some (names, met)) × (all.read ≡ n + 1)
here-as file names number met old new n all first here before = let b = rw (first, naming-here file names number met new here) at before in (b.found, b.read)

pub ended-as :
    (file strings : List ℕ) (number : ℕ) (others : List VersionRecordRead) (old new : VersionCursorState) (records : ℕ) (all : NumberNameSource)
    → ReturnsVersion file (versions_left file old) (versions_left file new) (Ok None)
    → NamedAs records all (naming_of file number (left_of file strings others old)) → NamedAs records all (naming_of file number others)
ended-as file strings number others old new records all ends before =
    let e = ended-left file strings old.held.table.at old.held.table.count old.standing old.left others ends in
    rw e at before

-- a fault once some records are read, and m more
pub fault-names :
    {before after : CountedState} {n : ℕ} (file : List ℕ) (records m : ℕ) (all left others : NumberNameSource) (fault : Fault)
    → NamedAs records all left → CallReads before after (Some fault) n → n ≤ (records + m) * 28 → m ≤ left.read → FaultNames left fault
    → NamesBefore file before after all others (Err fault)
fault-names file records m all left others (Refused refusal) named charges few read is = (
  CallReads-more (all.read * 28) (omega (arith, few, named.read, read)) charges,
  λ other. let r = is other in (named.found ∙ r.0, named.refused ∙ r.1),
)
fault-names file records m all left others (Source fault at) named charges few read is =
    CallReads-more (all.read * 28) (omega (arith, few, named.read, read)) charges

-- no table
pub names-none : (file : List ℕ) (c : CountedState) (all : NumberNameSource) → CallReads c c None 0 → NamesBefore file c c all all (Ok None)
names-none file c all none = (0, CallReads-more (0 * 28) (omega arith) none, record { found = refl; refused = refl; read = omega arith })

-- a fault of the definitions is one of all
pub fault-of :
    (file : List ℕ) (a b : CountedState) (naming all mid left : NumberNameSource) (fault : Fault) → naming ≡ all → NamesBefore file a b all mid (Err fault)
    → NamesBefore file a b naming left (Err fault)
fault-of file a b naming all mid left (Refused refusal) e p = rw e p
fault-of file a b naming all mid left (Source fault at) e p = rw e p

-- and a record of theirs
pub some-of :
    (file : List ℕ) (a b : CountedState) (naming all mid left : NumberNameSource) (by : VersionNameRecord) → naming ≡ all → NamesBefore file a b all mid (Ok (Some by))
    → NamesBefore file a b naming left (Ok (Some by))
some-of file a b naming all mid left by e p = rw e p

-- the needs after the definitions, none of which has the index
pub names-then :
    (file : List ℕ) (a b c : CountedState) (naming all mid left : NumberNameSource) (result : Result (Option VersionNameRecord) Fault) → naming ≡ all
    → NamesBefore file a b all mid (Ok None) → NamesBefore file b c mid left result → NamesBefore file a c naming left result
names-then file a b c naming all mid left (Ok (Some by)) e p q =
    rw e (q.0, p.2.found ∙ q.1, q.2, CallReads-then _ (more-pays p.0 28 all.read mid.read p.2.read) p.1 q.3)
names-then file a b c naming all mid left (Ok None) e p q =
    rw e (
      p.0 + q.0,
      CallReads-then _ (omega arith) p.1 q.1,
      record { found = p.2.found ∙ q.2.found; refused = p.2.refused ∙ q.2.refused; read = omega (arith, p.2.read, q.2.read) },
    )
names-then file a b c naming all mid left (Err (Refused refusal)) e p q =
    rw e (
      CallReads-then _ (more-pays p.0 28 all.read mid.read p.2.read) p.1 q.0,
      λ other. let r = q.1 other in (p.2.found ∙ r.0, p.2.refused ∙ r.1),
    )
names-then file a b c naming all mid left (Err (Source fault at)) e p q =
    rw e (CallReads-then _ (more-pays p.0 28 all.read mid.read p.2.read) p.1 q)

-- no record has the index if there is none
pub naming-nothing : (file : List ℕ) (number : ℕ) → naming_of file number [] ≡ record { found = None; refused = None; read = 0 }
unfolding naming_of
naming-nothing file number = refl

-- THE NEEDED FILE of a version: before the first record, after one that does not have the index, at
-- one that has it, and after all
module _ (file : List ℕ) (number : ℕ) where
  pub file-starts : (told : VersionRecordTable) (records : Given) (others : List VersionRecordRead) (c : VersionCursorState) (met : Option VisitedRecord)
      → StartsVersions records.kind records.head records.table c → IsVersionRecordTable file told records
      → file_before file number met (readings_of file told others) ≡ file_before file number met (left_of file told.strings others c)
  file-starts told records others c met starts is = let e = start-left file told records others c starts is in rw e refl

  pub file-later : (names : List ℕ) (met : VisitedRecord) (old new : List VersionRecordRead) (before : Option VisitedRecord) → old ≡ Meets names met ∷ new → names_version_index file number met ≡ false
      → file_before file number before old ≡ file_before file number (file_or met before) new
  unfolding file_before
  file-later names met old new before first other = rw (first, file_before) (rw other refl)

  pub file-here : (names : List ℕ) (met : VisitedRecord) (old new : List VersionRecordRead) (before : Option VisitedRecord) → old ≡ Meets names met ∷ new → names_version_index file number met ≡ true
      → file_before file number before old ≡ before
  unfolding file_before
  file-here names met old new before first here = rw (first, file_before) (rw here refl)

  pub file-ended : (strings : List ℕ) (others : List VersionRecordRead) (old new : VersionCursorState) (before : Option VisitedRecord)
      → ReturnsVersion file (versions_left file old) (versions_left file new) (Ok None)
      → file_before file number before (left_of file strings others old) ≡ file_before file number before others
  file-ended strings others old new before ends =
      let e = ended-left file strings old.held.table.at old.held.table.count old.standing old.left others ends in rw e refl

  pub file-none : (all : List VersionRecordRead) (before : Option VersionRecord) → NamesFile file number all all before before (Ok None)
  file-none all before = λ met was. (met, was, refl)

  pub file-some : (all whole left : List VersionRecordRead) (after : Option VersionRecord) (by : VersionNameRecord) → whole ≡ all → NamesFile file number all left None after (Ok (Some by))
      → HasFile file (file_before file number None whole) (Ok (Some by))
  file-some all whole left after by e names = rw e (names None tt)

  pub file-then : (all whole left none : List VersionRecordRead) (mid after : Option VersionRecord) (result : Result (Option VersionNameRecord) Fault) → whole ≡ all
      → NamesFile file number all left None mid (Ok None) → NamesFile file number left none mid after result
      → HasFile file (file_before file number None whole) result
  file-then all whole left none mid after (Ok (Some by)) e first second =
      let f = first None tt in rw (e, f.2) (second f.0 f.1)
  file-then all whole left none mid after (Ok None) e first second = tt
  file-then all whole left none mid after (Err fault) e first second = tt
