-- A version table is compared, step by step of its cursor.
use Rattle.std.proofs.Common.{◌≡◌, ℕ, ◌+◌, ◌-◌, ◌*◌, ◌≤◌, List, ◌∷◌, None, Some, Ok, Err, ◌∙◌, arith, mul-le-mul_right}
use Rattle.elf_model.specs.Prelude.{CompareResult, IsBudgetRefusal, Meets, VersionRecordRead, VersionRecordTable, VisitedRecord, compared_with, readings_of}
use Rattle.elf_source.specs.Source.{CountedState}
use Rattle.elf_table.specs.Prelude.{CallReads}
use Rattle.elf_table.specs.declared.fault.Fault.{Fault}
use Rattle.elf_table.specs.declared.fault.Fault.TheVariants.{Refused, Source}
use Rattle.elf_table.proofs.LedgerLaws.{CallReads-more}
use Rattle.elf_hash.specs.Prelude.{IsVersionRecordTable}
use Rattle.elf_hash.specs.declared.symbols.VersionRecordTable.{VersionRecordTable as Given}
use Rattle.elf_note.specs.Reading.{SpendsRecord, StartsVersions, ReturnsVersion, VersionCursorState, versions_left}
use Rattle.elf_loader.specs.Comparing.{CompareProgress, CompareCosts, ComparesOne}
use Rattle.elf_loader.proofs.CompareLaws.{as-none, as-then, compared-reads, missed-refuses, refused-reads, refused-refuses}
use Rattle.elf_loader.proofs.LeftReadings.{ended-left, left_of, refused-left, start-left}
use Rattle.elf_loader.proofs.RecordWalk.{walk-read}

-- before the first record nothing is done
pub start-as :
    (file wanted set : List ℕ) (told : VersionRecordTable) (records : Given) (others : List VersionRecordRead) (c : VersionCursorState) (done : ℕ) → done ≡ 0
    → StartsVersions records.kind records.head records.table c → IsVersionRecordTable file told records
    → CompareProgress set set done (compared_with file wanted (readings_of file told others)) (compared_with file wanted (left_of file told.strings others c))
start-as file wanted set told records others c done none starts is =
    let e = start-left file told records others c starts is in
    rw (none, e) (as-none set (compared_with file wanted (left_of file told.strings others c)))

-- then one more record is compared
pub step-as :
    (file wanted a b d names : List ℕ) (met : VisitedRecord) (old new : List VersionRecordRead) (n k : ℕ) (all : CompareResult) → n + 1 ≡ k → old ≡ Meets names met ∷ new
    → CompareProgress a b n all (compared_with file wanted old) → ComparesOne b d (compared_with file wanted (Meets names met ∷ new)) (compared_with file wanted new) (Ok tt)
    → CompareProgress a d k all (compared_with file wanted new)
step-as file wanted a b d names met old new n k all sum first before one = as-then a b d n 1 k all _ _ sum (rw first at before) one

-- what a fault implies for what is left
abbrev pub FaultIs : CompareResult → Fault → Type 0
FaultIs left (Refused refusal) = (IsBudgetRefusal refusal → ⊥) → left.refused ≡ Some refusal
FaultIs left (Source fault at) = Unit {0}

-- a fault once some records are compared, and m more are read
pub fault-compares :
    {before after : CountedState} {n : ℕ} (each records m : ℕ) (old mid new : List ℕ) (all left others : CompareResult) (fault : Fault)
    → CompareProgress old mid records all left → CallReads before after (Some fault) n → n ≤ (records + m) * each → m ≤ left.read → FaultIs left fault
    → CompareCosts before after each old new all others (Err fault)
fault-compares each records m old mid new all left others (Refused refusal) compared charges few read is = (
  CallReads-more (all.read * each) (omega (arith, few, mul-le-mul_right each (read-more records m all left compared.read read))) charges,
  λ other. compared.refused ∙ is other,
)
  where
    read-more : (records m : ℕ) (all left : CompareResult) → all.read ≡ records + left.read → m ≤ left.read → records + m ≤ all.read
    read-more records m all left e few = omega (arith, e, few)
fault-compares each records m old mid new all left others (Source fault at) compared charges few read is =
    CallReads-more (all.read * each) (omega (arith, few, mul-le-mul_right each (read-more records m all left compared.read read))) charges
  where
    read-more : (records m : ℕ) (all left : CompareResult) → all.read ≡ records + left.read → m ≤ left.read → records + m ≤ all.read
    read-more records m all left e few = omega (arith, e, few)

-- a step that yields none reads no more than is left to be read
pub spent-read :
    (file wanted strings : List ℕ) (others : List VersionRecordRead) (old new : VersionCursorState) → SpendsRecord old new
    → old.left - new.left ≤ (compared_with file wanted (left_of file strings others old)).read
spent-read file wanted strings others old new spends =
    walk-read file strings others old new (λ (all : List VersionRecordRead). (compared_with file wanted all).read) (λ refusal. refused-reads file wanted refusal others)
    (λ met more. compared-reads file wanted strings met more) spends

-- and its fault is that of what is left
pub fault-left :
    (file wanted strings : List ℕ) (others : List VersionRecordRead) (old new : VersionCursorState) (fault : Fault)
    → ReturnsVersion file (versions_left file old) (versions_left file new) (Err fault)
    → FaultIs (compared_with file wanted (left_of file strings others old)) fault
fault-left file wanted strings others old new (Refused refusal) tells =
    λ other. refused-left file strings old.held.table.at old.held.table.count old.standing old.left others refusal
    (λ (all : List VersionRecordRead). (compared_with file wanted all).refused ≡ Some refusal) (tells other)
    (refused-refuses file wanted refusal others) (missed-refuses file wanted refusal others)
fault-left file wanted strings others old new (Source fault at) tells = tt

-- and of one record
fault-one :
    (old new : List ℕ) (all left : CompareResult) (fault : Fault) → ComparesOne old new all left (Err fault) → (1 ≤ all.read) × FaultIs all fault
fault-one old new all left (Refused refusal) one = one
fault-one old new all left (Source fault at) one = (one, tt)

pub fault-met :
    (file wanted names old new : List ℕ) (met : VisitedRecord) (all others : List VersionRecordRead) (left : CompareResult) (fault : Fault) → all ≡ Meets names met ∷ others
    → ComparesOne old new (compared_with file wanted (Meets names met ∷ others)) left (Err fault)
    → (1 ≤ (compared_with file wanted all).read) × FaultIs (compared_with file wanted all) fault
fault-met file wanted names old new met all others left fault first one = rw first (fault-one old new (compared_with file wanted (Meets names met ∷ others)) left fault one)

-- a cursor that ends leaves the others
pub ended-as :
    (file wanted a b : List ℕ) (told : VersionRecordTable) (others : List VersionRecordRead) (old new : VersionCursorState) (records : ℕ) (all : CompareResult)
    → ReturnsVersion file (versions_left file old) (versions_left file new) (Ok None)
    → CompareProgress a b records all (compared_with file wanted (left_of file told.strings others old))
    → CompareProgress a b records all (compared_with file wanted others)
ended-as file wanted a b told others old new records all ends before =
    let e = ended-left file told.strings old.held.table.at old.held.table.count old.standing old.left others ends in
    rw e at before
