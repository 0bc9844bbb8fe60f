-- The indices of a wanted version, from all version records.
use Rattle.std.proofs.Common.{◌≡◌, ℕ, ◌+◌, ◌*◌, ◌≤◌, ◌||◌, Bool, true, false, List, [], Option, None, Some, Ok, Err, refl, sym, ◌∙◌, arith}
use Rattle.elf_model.specs.Prelude.{CompareResult, LookupTables, VersionQuery, VersymTable as AreWordsOf, asked_name, compared_with, readings, version_indices}
use Rattle.elf_source.specs.Source.{CountedState}
use Rattle.elf_table.specs.Prelude.{CallReads}
use Rattle.elf_table.specs.declared.fault.Fault.{Fault}
use Rattle.elf_table.specs.declared.fault.Fault.TheVariants.{Refused, Source}
use Rattle.elf_table.proofs.LedgerLaws.{CallReads-more}
use Rattle.elf_hash.specs.Prelude.{AreVersymTable}
use Rattle.elf_hash.specs.declared.symbols.VersymTable.{VersymTable}
use Rattle.elf_loader.specs.Prelude.{CollectsNumbers, CompareCosts, has_number}

-- without a version symbol table, or without a wanted version, there are none
pub no-words : (file : List ℕ) (scope : LookupTables) (asked : VersionQuery) → AreVersymTable scope.symbols.words None → version_indices file scope asked ≡ record { numbers = []; refused = None; read = 0 }
unfolding version_indices
no-words file scope asked are = go (asked_name asked) refl scope.symbols.words refl are
  where
    go : (name : Option (List ℕ)) → asked_name asked ≡ name → (words : Option AreWordsOf) → scope.symbols.words ≡ words → AreVersymTable words None
        → version_indices file scope asked ≡ record { numbers = []; refused = None; read = 0 }
    go None n words w are = rw (n, version_indices) refl
    go (Some version) n None w are = rw (n, w, version_indices) refl
    go (Some version) n (Some words) w are = absurd are

pub no-version : (file : List ℕ) (scope : LookupTables) (asked : VersionQuery) → asked_name asked ≡ None → version_indices file scope asked ≡ record { numbers = []; refused = None; read = 0 }
unfolding version_indices
no-version file scope asked n = rw (n, version_indices) refl

-- otherwise they are those that comparing finds
pub all-compared :
    (file : List ℕ) (scope : LookupTables) (asked : VersionQuery) (version : List ℕ) (words : VersymTable) → asked_name asked ≡ Some version → AreVersymTable scope.symbols.words (Some words)
    → version_indices file scope asked ≡ compared_with file version (readings file scope.symbols.records)
unfolding version_indices
all-compared file scope asked version words n are = go scope.symbols.words refl are
  where
    go : (told : Option AreWordsOf) → scope.symbols.words ≡ told → AreVersymTable told (Some words)
        → version_indices file scope asked ≡ compared_with file version (readings file scope.symbols.records)
    go None w are = absurd are
    go (Some told) w are = rw (n, w, version_indices) refl

-- nothing is read
pub collects-none :
    (c : CountedState) (each : ℕ) (compared : CompareResult) (numbers : List ℕ) → compared ≡ record { numbers = []; refused = None; read = 0 }
    → CallReads c c None 0 → ((number : ℕ) → has_number numbers number ≡ false) → CollectsNumbers c c each compared (Ok numbers)
collects-none c each compared numbers is none empty =
    rw is (CallReads-more (0 * each) (omega arith) none, refl, λ number. empty number)

-- all is compared
pub collects-all :
    (a b : CountedState) (each : ℕ) (file version old new : List ℕ) (compared all : CompareResult) → compared ≡ all → ((number : ℕ) → has_number old number ≡ false)
    → CompareCosts a b each old new all (compared_with file version []) (Ok tt) → CollectsNumbers a b each compared (Ok new)
unfolding compared_with
collects-all a b each file version old new compared all is empty done =
    rw is (
      CallReads-more (all.read * each) (let read = done.2.read in rw read (rest-pays done.0 each)) done.1,
      done.2.refused,
      λ number. let e = done.2.numbers number in let none = empty number in sym (or-none (has_number new number)) ∙ sym (rw none at e),
    )
  where
    rest-pays : (n each : ℕ) → n * each ≤ (n + 0) * each
    rest-pays n each = omega arith

    or-none : (b : Bool) → (b || false) ≡ b
    or-none true = refl
    or-none false = refl

pub collects-fault :
    (a b : CountedState) (paid each : ℕ) (old new : List ℕ) (compared all left : CompareResult) (fault : Fault) → paid ≡ each → compared ≡ all
    → CompareCosts a b each old new all left (Err fault) → CollectsNumbers a b paid compared (Err fault)
collects-fault a b paid each old new compared all left (Refused refusal) e is done = rw (e, is) done
collects-fault a b paid each old new compared all left (Source fault at) e is done = rw (e, is) done
