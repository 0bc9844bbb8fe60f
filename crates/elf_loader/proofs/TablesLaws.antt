-- Consecutive version tables.
use Rattle.std.proofs.Common.{◌≡◌, ℕ, ◌+◌, ◌*◌, ◌≤◌, List, [], ◌∷◌, ◌++◌, None, Result, Ok, Err, refl, ap, ◌∙◌, arith}
use Rattle.elf_model.specs.Loader.{CompareResult, VersionRecordRead, VersionRecordTable as IsTableOf, compared_with, readings, readings_of}
use Rattle.elf_source.specs.Source.{CountedState}
use Rattle.elf_table.specs.Prelude.{CallReads}
use Rattle.elf_table.specs.declared.fault.Fault.{Fault}
use Rattle.elf_table.specs.declared.fault.Fault.TheVariants.{Refused, Source}
use Rattle.elf_table.proofs.LedgerLaws.{CallReads-more, CallReads-then}
use Rattle.elf_hash.specs.Prelude.{AreVersionRecordTables, IsVersionRecordTable}
use Rattle.elf_hash.specs.declared.symbols.VersionRecordTable.{VersionRecordTable}
use Rattle.elf_loader.specs.Prelude.{CompareCosts, readings_before}
use Rattle.elf_loader.proofs.CompareLaws.{as-none, as-then}

-- a prefix of some tables, and the others
pub record Parted (file : List ℕ) (told : List IsTableOf) (first second : List VersionRecordTable) : Type 0 where
  pub front : List IsTableOf
  pub back : List IsTableOf
  pub whole : told ≡ front ++ back
  pub are_front : AreVersionRecordTables file front first
  pub are_back : AreVersionRecordTables file back second

pub part : (file : List ℕ) (told : List IsTableOf) (first second : List VersionRecordTable) → AreVersionRecordTables file told (first ++ second) → Parted file told first second
part file told [] second are = record { front = []; back = told; whole = refl; are_front = tt; are_back = are }
part file [] (table ∷ first) second are = absurd are
part file (one ∷ told) (table ∷ first) second are =
    let rest = part file told first second are.1 in
    record {
      front = one ∷ rest.front;
      back = rest.back;
      whole = ap (λ (more : List IsTableOf). one ∷ more) rest.whole;
      are_front = (are.0, rest.are_front);
      are_back = rest.are_back;
    }

-- what is read of all is read of the prefix and then of the others
read-both : (file : List ℕ) (front back : List IsTableOf) → readings file (front ++ back) ≡ readings_before file front (readings_before file back [])
unfolding readings readings_before
read-both file [] [] = refl
read-both file [] (table ∷ back) = ap (readings_of file table) (read-both file [] back)
read-both file (table ∷ front) back = ap (readings_of file table) (read-both file front back)

pub read-parted :
    (file : List ℕ) (told : List IsTableOf) (first second : List VersionRecordTable) (p : Parted file told first second)
    → readings file told ≡ readings_before file p.front (readings_before file p.back [])
read-parted file told first second p = ap (readings file) p.whole ∙ read-both file p.front p.back

-- no table
pub compared-no-table :
    (file wanted set : List ℕ) (c : CountedState) (each : ℕ) (told : List IsTableOf) (others : List VersionRecordRead) → CallReads c c None 0 → AreVersionRecordTables file told []
    → CompareCosts c c each set set (compared_with file wanted (readings_before file told others)) (compared_with file wanted others) (Ok tt)
unfolding readings_before
compared-no-table file wanted set c each [] others none are = (0, CallReads-more (0 * each) (omega arith) none, as-none set (compared_with file wanted others))
compared-no-table file wanted set c each (table ∷ told) others none are = absurd are

-- one table
pub compared-one-table :
    (a b : CountedState) (file wanted old new : List ℕ) (each : ℕ) (told : List IsTableOf) (others : List VersionRecordRead) (records : VersionRecordTable) (result : Result (Unit {0}) Fault)
    → ((one : IsTableOf) (more : List VersionRecordRead) → IsVersionRecordTable file one records
    → CompareCosts a b each old new (compared_with file wanted (readings_of file one more)) (compared_with file wanted more) result)
    → AreVersionRecordTables file told (records ∷ [])
    → CompareCosts a b each old new (compared_with file wanted (readings_before file told others)) (compared_with file wanted others) result
unfolding readings_before
compared-one-table a b file wanted old new each [] others records result compares are = absurd are
compared-one-table a b file wanted old new each (one ∷ []) others records result compares are = compares one others are.0
compared-one-table a b file wanted old new each (one ∷ two ∷ told) others records result compares are = absurd are.1

-- what two numbers of records request, their sum does
pub sum-pays : (n m each : ℕ) → n * each + m * each ≤ (n + m) * each
sum-pays n m each = grind arith

pub more-pays : (n each m k : ℕ) → m ≡ n + k → n * each + k * each ≤ m * each
more-pays n each m k e = rw e (sum-pays n k each)

-- what compares some records and then others
pub compares-then :
    (a b c : CountedState) (each : ℕ) (old mid new : List ℕ) (all between left : CompareResult) (result : Result (Unit {0}) Fault)
    → CompareCosts a b each old mid all between (Ok tt) → CompareCosts b c each mid new between left result → CompareCosts a c each old new all left result
compares-then a b c each old mid new all between left (Ok x) p q =
    (p.0 + q.0, CallReads-then _ (sum-pays p.0 q.0 each) p.1 q.1, as-then old mid new p.0 q.0 (p.0 + q.0) all between left refl p.2 q.2)
compares-then a b c each old mid new all between left (Err (Refused refusal)) p q =
    (CallReads-then _ (more-pays p.0 each all.read between.read p.2.read) p.1 q.0, λ other. p.2.refused ∙ q.1 other)
compares-then a b c each old mid new all between left (Err (Source fault at)) p q = CallReads-then _ (more-pays p.0 each all.read between.read p.2.read) p.1 q

-- and what is refused by the first is by both
pub compares-fault :
    (a b : CountedState) (each : ℕ) (old mid new : List ℕ) (whole all between left : CompareResult) (fault : Fault) → whole ≡ all
    → CompareCosts a b each old mid all between (Err fault) → CompareCosts a b each old new whole left (Err fault)
compares-fault a b each old mid new whole all between left (Refused refusal) e p = rw e p
compares-fault a b each old mid new whole all between left (Source fault at) e p = rw e p

-- what holds of each table, and if there is none, holds of one if there is one
pub none-before :
    (file : List ℕ) (told : List IsTableOf) (others : List VersionRecordRead) (P : List VersionRecordRead → Type 0) → P others → AreVersionRecordTables file told []
    → P (readings_before file told others)
unfolding readings_before
none-before file [] others P p are = p
none-before file (table ∷ told) others P p are = absurd are

pub one-before :
    (file : List ℕ) (told : List IsTableOf) (others : List VersionRecordRead) (records : VersionRecordTable) (P : List VersionRecordRead → Type 0)
    → ((one : IsTableOf) → IsVersionRecordTable file one records → P (readings_of file one others)) → AreVersionRecordTables file told (records ∷ [])
    → P (readings_before file told others)
unfolding readings_before
one-before file [] others records P p are = absurd are
one-before file (one ∷ []) others records P p are = p one are.0
one-before file (one ∷ two ∷ told) others records P p are = absurd are.1
