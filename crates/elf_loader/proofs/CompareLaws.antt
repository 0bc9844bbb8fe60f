-- Comparing the version records with a wanted version, record by record.
use Rattle.std.proofs.Common.{◌≡◌, ℕ, suc, ◌+◌, ◌%◌, ◌^◌, ◌≤◌, ◌==◌, ◌||◌, nat_lt, length, Bool, true, false, List, ◌∷◌, Result, Ok, Err, Some, refl, sym, ap, ◌∙◌, arith}
use Rattle.std.proofs.lemmas.Bool.Decides.{nat_tests}
use Rattle.std.specs.List.{position_or_len}
use Rattle.elf_model.specs.Prelude.{CompareResult, Meets, Misses, Refuses, VersionRecordRead, VisitedRecord, compared_with, is_among, name_index, named_at, names_version, number_in, number_word, one_more, same, with_number}
use Rattle.elf_model.specs.declared.causes.Cause.{Cause}
use Rattle.elf_model.specs.declared.causes.Refusal.{Refusal}
use Rattle.elf_model.proofs.ReadingLaws.{compared-fault, compared-is, compared-none}
use Rattle.elf_table.specs.Prelude.{Refuses as RefusesName}
use Rattle.elf_table.specs.declared.fault.Fault.{Fault}
use Rattle.elf_table.specs.declared.fault.Fault.TheVariants.{Refused, Source}
use Rattle.elf_note.specs.Prelude.{IsVersion}
use Rattle.elf_note.specs.declared.record.VersionRecord.{VersionRecord}
use Rattle.elf_loader.specs.Prelude.{CompareProgress, ComparesOne, has_number}

-- an index is one of some with another before them
pub among-more : (n number : ℕ) (numbers : List ℕ) → is_among n (number ∷ numbers) ≡ (number == n || is_among n numbers)
among-more n number numbers = go (number == n) refl (nat_lt (position_or_len (λ other. other == n) numbers) (length numbers)) refl
  where
    go : (here : Bool) → (number == n) ≡ here → (later : Bool) → nat_lt (position_or_len (λ other. other == n) numbers) (length numbers) ≡ later
        → is_among n (number ∷ numbers) ≡ (number == n || is_among n numbers)
    go true e later is = let some : nat_lt 0 (suc (length numbers)) ≡ true = grind (arith, nat_tests) in rw (e, some) refl
    go false e true is =
        let more : nat_lt (1 + position_or_len (λ other. other == n) numbers) (suc (length numbers)) ≡ true = grind (arith, nat_tests) in rw (e, is, more) refl
    go false e false is =
        let more : nat_lt (1 + position_or_len (λ other. other == n) numbers) (suc (length numbers)) ≡ false = grind (arith, nat_tests) in rw (e, is, more) refl

-- a record that is visited is read, whatever its contents
pub compared-reads :
    (file wanted strings : List ℕ) (met : VisitedRecord) (others : List VersionRecordRead) → 1 ≤ (compared_with file wanted (Meets strings met ∷ others)).read
compared-reads file wanted strings met others = go (names_version file met) refl (same strings (name_index file met) wanted) refl
  where
    go : (n : Bool) → names_version file met ≡ n → (e : Result Bool Cause) → same strings (name_index file met) wanted ≡ e
        → 1 ≤ (compared_with file wanted (Meets strings met ∷ others)).read
    go false n e is = let c = compared-none file wanted strings met others n in rw c (omega arith)
    go true n (Err cause) is = let c = compared-fault file wanted strings met others cause n is in rw c (omega arith)
    go true n (Ok b) is = let c = compared-is file wanted strings met others b n is in rw c (omega arith)

-- so is one that is refused
pub refused-reads : (file wanted : List ℕ) (refusal : Refusal) (others : List VersionRecordRead) → 1 ≤ (compared_with file wanted (Refuses refusal ∷ others)).read
unfolding compared_with
refused-reads file wanted refusal others = omega arith

pub refused-refuses : (file wanted : List ℕ) (refusal : Refusal) (others : List VersionRecordRead) → (compared_with file wanted (Refuses refusal ∷ others)).refused ≡ Some refusal
unfolding compared_with
refused-refuses file wanted refusal others = refl

pub missed-refuses : (file wanted : List ℕ) (refusal : Refusal) (others : List VersionRecordRead) → (compared_with file wanted (Misses refusal ∷ others)).refused ≡ Some refusal
unfolding compared_with
missed-refuses file wanted refusal others = refl

-- nothing is done yet
pub as-none : (set : List ℕ) (all : CompareResult) → CompareProgress set set 0 all all
as-none set all = record { numbers = λ number. refl; refused = refl; read = omega arith }

-- what is done, and then more
pub as-then :
    (a b c : List ℕ) (n m k : ℕ) (all mid left : CompareResult) → n + m ≡ k → CompareProgress a b n all mid → CompareProgress b c m mid left
    → CompareProgress a c k all left
as-then a b c n m k all mid left sum p q = record {
  numbers = λ number. p.numbers number ∙ q.numbers number;
  refused = p.refused ∙ q.refused;
  read = omega (arith, sum, p.read, q.read);
}

-- a record without the wanted name
pub as-other : (set : List ℕ) (number : ℕ) (all left : CompareResult) → all ≡ one_more (with_number false number left) → CompareProgress set set 1 all left
as-other set number all left is = rw is (record { numbers = λ n. refl; refused = refl; read = omega arith })

-- one with it
pub as-wanted :
    (old new : List ℕ) (number : ℕ) (all left : CompareResult) → all ≡ one_more (with_number true number left)
    → ((n : ℕ) → has_number new n ≡ (number == n || has_number old n)) → CompareProgress old new 1 all left
as-wanted old new number all left is more =
    rw is (record { numbers = λ n. let m = more n in let a = among-more n number left.numbers in rw (m, a) (swap (has_number old n) (number == n) (is_among n left.numbers)); refused = refl; read = omega arith })
  where
    swap : (a b c : Bool) → (a || (b || c)) ≡ ((b || a) || c)
    swap true true c = refl
    swap true false c = refl
    swap false true c = refl
    swap false false c = refl

-- a record as it is yielded: it names no version, another or the wanted one, or its name has a
-- fault
pub one-none :
    (file wanted strings : List ℕ) (met : VisitedRecord) (others : List VersionRecordRead) (set : List ℕ) → names_version file met ≡ false
    → CompareProgress set set 1 (compared_with file wanted (Meets strings met ∷ others)) (compared_with file wanted others)
one-none file wanted strings met others set n = as-other set 0 _ _ (compared-none file wanted strings met others n)

pub one-other :
    (file wanted strings : List ℕ) (met : VisitedRecord) (others : List VersionRecordRead) (set : List ℕ) (given : VersionRecord) → IsVersion file met given
    → names_version file met ≡ true → same strings given.name wanted ≡ Ok false
    → CompareProgress set set 1 (compared_with file wanted (Meets strings met ∷ others)) (compared_with file wanted others)
one-other file wanted strings met others set given is n e =
    as-other set (number_in (number_word file met)) _ _ (compared-is file wanted strings met others false n (ap (λ (off : ℕ). same strings off wanted) (sym is.name) ∙ e))

pub one-wanted :
    (file wanted strings : List ℕ) (met : VisitedRecord) (others : List VersionRecordRead) (old new : List ℕ) (given : VersionRecord) → IsVersion file met given
    → names_version file met ≡ true → same strings given.name wanted ≡ Ok true
    → ((n : ℕ) → has_number new n ≡ (given.number % 2 ^ 15 == n || has_number old n))
    → CompareProgress old new 1 (compared_with file wanted (Meets strings met ∷ others)) (compared_with file wanted others)
one-wanted file wanted strings met others old new given is n e more =
    as-wanted old new (number_in (number_word file met)) _ _ (compared-is file wanted strings met others true n (ap (λ (off : ℕ). same strings off wanted) (sym is.name) ∙ e))
    (rw is.number at more)

pub one-fault :
    (file wanted strings : List ℕ) (met : VisitedRecord) (others : List VersionRecordRead) (old new : List ℕ) (given : VersionRecord) (fault : Fault) → IsVersion file met given
    → names_version file met ≡ true → RefusesName given.named_at fault (same strings given.name wanted)
    → ComparesOne old new (compared_with file wanted (Meets strings met ∷ others)) (compared_with file wanted others) (Err fault)
one-fault file wanted strings met others old new given (Refused refusal) is n e = (
  compared-reads file wanted strings met others,
  λ other.
      let told = e other in
      let at : named_at file met ≡ refusal.at = sym is.named_at ∙ sym told.0 in
      let c = compared-fault file wanted strings met others refusal.cause n (ap (λ (off : ℕ). same strings off wanted) (sym is.name) ∙ told.1) in
      rw (c, at) refl,
)
one-fault file wanted strings met others old new given (Source fault at) is n e = compared-reads file wanted strings met others
