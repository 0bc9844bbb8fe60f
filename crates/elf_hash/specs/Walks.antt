-- The result of a walk along a chain, and what it requests.
use Rattle.std.specs.Prelude.{ℕ, ◌≡◌, ◌+◌, ◌*◌, ◌<◌, ◌≤◌, true, false, List, Option, None, Some, Result, Ok, Err, IfSome}
use Rattle.elf_model.specs.Prelude.{ChainResult as NoteScan, IsBudgetRefusal, gnu_start, holds_none}
use Rattle.elf_source.specs.Source.{CountedState}
use Rattle.elf_table.specs.Prelude.{CallReads, IsOfRead, fault_of_result}
use Rattle.elf_table.specs.declared.fault.Fault.{Fault}
use Rattle.elf_table.specs.declared.fault.Fault.TheVariants.{Refused, Source}
use Rattle.elf_hash.specs.declared.answer.SymbolMatch.{SymbolMatch}
use Rattle.elf_hash.specs.declared.chain_result.ChainMatch.{ChainMatch}
use Rattle.elf_hash.specs.declared.chain_result.ChainResult.{ChainResult}

-- a few bytes, the chain words that are read, and the symbols that are tried, each for no more than
-- a cost
abbrev pub walk_bytes : (few read tried cost : ℕ) → ℕ
walk_bytes few read tried cost = few + 4 * read + tried * cost

-- the index of the symbol that matches
abbrev pub index_of : Option ChainMatch → Option ℕ
index_of None = None
index_of (Some found) = Some found.index

-- the result of a walk: the match, with its cost; or its refusal, unless that is `Budget`
abbrev pub GivesWalked : (is_at : ℕ → SymbolMatch → Type 0) → NoteScan → Result ChainResult Fault → Type 0
GivesWalked is_at walk (Ok w) =
    (walk ≡ record { answer = Ok (index_of w.found); tried = w.tried; read = w.read })
    × IfSome w.found (λ found. is_at found.index found.answer)
GivesWalked is_at walk (Err (Refused refusal)) = (IsBudgetRefusal refusal → ⊥) → walk.answer ≡ Err refusal
GivesWalked is_at walk (Err (Source fault at)) = Unit {0}

-- THE EFFECT OF A WALK in a known file: it costs what the definition's walk does, and has its
-- result
pub record WalksChain (is_at : ℕ → SymbolMatch → Type 0) (few cost : ℕ) (walk : NoteScan) (old new : CountedState) (result : Result ChainResult Fault) : Type 0 where
  pub costs : CallReads old new (fault_of_result result) (walk_bytes few walk.read walk.tried cost)
  pub gives : GivesWalked is_at walk result

-- a walk tries no more symbols than a number, and the one that matches has an index below it
abbrev pub IsShort : ℕ → ChainResult → Type 0
IsShort n w = (w.tried ≤ n) × IfSome w.found (λ found. found.index < n)

-- a GNU hash table does not exclude a hash, and its chain starts at a symbol
abbrev pub HoldsHash : List ℕ → (place hash start : ℕ) → Type 0
HoldsHash file place hash start = (holds_none file place hash ≡ false) × (start ≡ gnu_start file place hash)

-- the symbol at which the chain of a hash starts, unless the table excludes the hash
abbrev pub Starts : List ℕ → (place hash : ℕ) → Result (Option ℕ) Fault → Type 0
Starts file place hash (Ok None) = holds_none file place hash ≡ true
Starts file place hash (Ok (Some start)) = HoldsHash file place hash start
Starts file place hash (Err fault) = IsOfRead fault
