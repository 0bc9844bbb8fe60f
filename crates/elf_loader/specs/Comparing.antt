-- The result of comparing the version records with a wanted version.
use Rattle.std.specs.Prelude.{ℕ, ◌≡◌, ◌+◌, ◌*◌, ◌≤◌, ◌||◌, List, length, None, Some, Result, Ok, Err}
use Rattle.elf_model.specs.Prelude.{CompareResult, IsBudgetRefusal, VersionQuery, VersionRecordRead, asked_name, compared_with, is_among, pad64}
use Rattle.elf_source.specs.Source.{CountedState}
use Rattle.elf_table.specs.Prelude.{CallDid, CallReads, fault_of_result}
use Rattle.elf_table.specs.declared.fault.Fault.{Fault}
use Rattle.elf_table.specs.declared.fault.Fault.TheVariants.{Refused, Source}
use Rattle.elf_loader.specs.NumberSets.{has_number}

-- how many bytes comparing a number of records with the wanted version may request: none if none is
-- wanted
abbrev pub comparing_bytes : VersionQuery → ℕ → ℕ
comparing_bytes asked records = elim (asked_name asked) [ None ↦ 0 | Some version ↦ records * (28 + pad64 (length version + 1)) ]

-- THE PROGRESS OF COMPARING: some records are read, and their indices are in the set; the others
-- are left
pub record CompareProgress (old new : List ℕ) (records : ℕ) (all left : CompareResult) : Type 0 where
  pub numbers : (number : ℕ) → (has_number old number || is_among number all.numbers) ≡ (has_number new number || is_among number left.numbers)
  pub refused : all.refused ≡ left.refused
  pub read : all.read ≡ records + left.read

-- comparing some records, each of which requests at most a number of bytes: they are compared, and
-- the others are left; or comparing is refused, unless a read failed
abbrev pub CompareCosts : CountedState → CountedState → ℕ → List ℕ → List ℕ → CompareResult → CompareResult → Result (Unit {0}) Fault → Type 0
CompareCosts before after each old new all left (Ok x) =
    (records : ℕ) × CallReads before after None (records * each) × CompareProgress old new records all left
CompareCosts before after each old new all left (Err (Refused refusal)) =
    CallReads before after (Some (Refused refusal)) (all.read * each) × ((IsBudgetRefusal refusal → ⊥) → all.refused ≡ Some refusal)
CompareCosts before after each old new all left (Err (Source fault at)) = CallReads before after (Some (Source fault at)) (all.read * each)

-- the effect of a call that compares records, at most a given number, with a version: it requests
-- the records and as many names, and the statement holds of those that are read and those that are
-- left
abbrev pub ComparesRecords : CountedState → CountedState → List ℕ → List ℕ → List ℕ → Result (Unit {0}) Fault → ℕ → (List ℕ → (List VersionRecordRead → List VersionRecordRead → Type 0) → Type 0) → Type 0
ComparesRecords before after version old new result most Of =
    CallDid before after (fault_of_result result) (most * (28 + pad64 (length version + 1)))
    (λ file. Of file (λ all left. CompareCosts before after (28 + pad64 (length version + 1)) old new (compared_with file version all) (compared_with file version left) result))

-- comparing one record, whose refusal is at it
abbrev pub ComparesOne : List ℕ → List ℕ → CompareResult → CompareResult → Result (Unit {0}) Fault → Type 0
ComparesOne old new all left (Ok x) = CompareProgress old new 1 all left
ComparesOne old new all left (Err (Refused refusal)) = (1 ≤ all.read) × ((IsBudgetRefusal refusal → ⊥) → all.refused ≡ Some refusal)
ComparesOne old new all left (Err (Source fault at)) = 1 ≤ all.read

-- the result of the whole: the set of the indices of the wanted version; or that it is refused,
-- unless a read failed
abbrev pub CollectsNumbers : CountedState → CountedState → ℕ → CompareResult → Result (List ℕ) Fault → Type 0
CollectsNumbers before after each compared (Ok numbers) =
    CallReads before after None (compared.read * each) × (compared.refused ≡ None) × ((number : ℕ) → has_number numbers number ≡ is_among number compared.numbers)
CollectsNumbers before after each compared (Err (Refused refusal)) =
    CallReads before after (Some (Refused refusal)) (compared.read * each) × ((IsBudgetRefusal refusal → ⊥) → compared.refused ≡ Some refusal)
CollectsNumbers before after each compared (Err (Source fault at)) = CallReads before after (Some (Source fault at)) (compared.read * each)
