-- The offset at which the symbols of a lookup begin, and their strings; and how many there are.
use Rattle.std.proofs.Common.{◌≡◌, ℕ, ◌+◌, ◌<◌, ◌≤◌, min, List, [], ◌∷◌, Option, None, Result, Ok, Err, refl, sym, ap, ◌∙◌, arith}
use Rattle.std.specs.Prelude.{IfOk}
use Rattle.elf_model.specs.LoaderScope.{LookupTables}
use Rattle.elf_model.specs.Prelude.{counts_check, first_refusal, hashed_symbol_count, symbols_hashed}
use Rattle.elf_source.specs.Source.{CountedState}
use Rattle.elf_table.proofs.LedgerLaws.{CallReads-then}
use Rattle.elf_table.specs.Prelude.{CallReads, IsRead}
use Rattle.elf_table.specs.declared.fault.Fault.{Fault}
use Rattle.elf_table.specs.declared.fault.Fault.TheVariants.{Refused, Source}
use Rattle.elf_hash.specs.Prelude.{HasCounts, IsDynamicSymbols, IsLookupTables, IsPlaceIn, IsTable, RefusesAs, ReturnsAs, SymbolsBegin, counts_bytes, extent_bytes, place_of_table}
use Rattle.elf_hash.specs.declared.hash_style.HashStyle.{HashStyle}
use Rattle.elf_hash.specs.declared.hash_style.HashStyle.TheVariants.{Gnu as GnuStyle, Sysv as SysvStyle}
use Rattle.elf_hash.specs.declared.lookup_tables.LookupTables.{LookupTables as Found}
use Rattle.elf_hash.specs.declared.symbols.DynamicSymbols.{DynamicSymbols}
use Rattle.elf_hash.specs.declared.table.HashTable.{HashTable}
use Rattle.elf_hash.specs.declared.table.HashTable.TheVariants.{Gnu, Sysv}

-- a table covers as many symbols as the definitions say
as_many : (file : List ℕ) (scope : LookupTables) (table : HashTable) → IsTable file scope table → (place_of_table table).symbols ≡ scope.table.symbols
as_many file scope (Gnu t) is = is.1.place.symbols
as_many file scope (Sysv t) is = is.1.place.symbols

pub symbols_after : (file : List ℕ) (scope : LookupTables) (table : HashTable) (found : DynamicSymbols) (symbols strings : ℕ) → IsTable file scope table
    → IsDynamicSymbols file scope.symbols found → found.table.count ≡ (place_of_table table).symbols → symbols ≡ found.table.at → strings ≡ found.names.at
    → SymbolsBegin scope symbols strings
symbols_after file scope table found symbols strings is are count begin names =
    let many = as_many file scope table is in
    record {
      place = sym (begin ∙ are.place);
      strings_at = λ some. sym (names ∙ are.names_at (omega (arith, some, many, count)));
    }

-- the counts have few bytes
pub few_counts : (kind : HashStyle) → counts_bytes kind ≤ 16
few_counts GnuStyle = omega arith
few_counts SysvStyle = omega arith

-- the location of the table
pub place_of : (file : List ℕ) (told : LookupTables) (scope : Found) → IsLookupTables file told scope → IsPlaceIn told scope.hash
place_of file told scope is = record { kind = is.kind; head = is.head; table = record { start = is.place; size = is.size; symbols = is.count } }

-- HOW MANY SYMBOLS a lookup has
module _ (file : List ℕ) (told : LookupTables) where
  hashed : first_refusal (counts_check file told ∷ []) ≡ None → symbols_hashed file told ≡ Ok (min (hashed_symbol_count file told) told.table.symbols)
  unfolding symbols_hashed
  hashed e = rw (e, symbols_hashed) refl

  pub uncounted : (fault : Fault) → HasCounts file told (Err fault) → RefusesAs (symbols_hashed file told) fault
  unfolding symbols_hashed
  uncounted (Refused refusal) counts = λ unless. let e = counts unless in rw (e, symbols_hashed) refl
  uncounted (Source fault at) counts = tt

  extends : (count : ℕ) → first_refusal (counts_check file told ∷ []) ≡ None → count ≡ hashed_symbol_count file told → count ≤ told.table.symbols → symbols_hashed file told ≡ Ok count
  extends count e read few =
      let all : min (hashed_symbol_count file told) told.table.symbols ≡ count = omega (arith, read, few) in
      hashed e ∙ ap Ok all

  -- the words of the table are read, or one cannot be
  pub told_count : (result : Result ℕ Fault) (room : ℕ) → first_refusal (counts_check file told ∷ []) ≡ None → IsRead result (hashed_symbol_count file told)
      → IfOk result (λ count. count ≤ room) → room ≡ told.table.symbols → ReturnsAs (symbols_hashed file told) result
  told_count (Ok count) room e read few all = extends count e read (omega (arith, few, all))
  told_count (Err (Refused refusal)) room e read few all = λ unless. absurd (unless read)
  told_count (Err (Source fault at)) room e read few all = tt

  -- what that costs
  pub costs_counted : {a b c : CountedState} {stop : Option Fault} (kind : HashStyle) → CallReads a b None (counts_bytes kind) → CallReads b c stop (extent_bytes file told) → CallReads a c stop (16 + extent_bytes file told)
  costs_counted kind counts words = CallReads-then (16 + extent_bytes file told) (omega (arith, few_counts kind)) counts words
