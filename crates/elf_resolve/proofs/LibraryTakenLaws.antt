-- The symbols of a shared library, taken one after the other.
use Rattle.std.proofs.Common.{◌≡◌, ℕ, suc, ◌+◌, ◌-◌, ◌<◌, ◌≤◌, List, [], ◌∷◌, ◌++◌, length, take, refl, sym, ap, subst, ◌∙◌, arith}
use Rattle.std.specs.Prelude.{Option, None, Some, Result, Ok}
use Rattle.elf_model.specs.HeaderTables.{file_sections, first_typed}
use Rattle.elf_model.specs.LinkArchives.{refusal_of}
use Rattle.elf_model.specs.LinkKeys.{LinkKeys, LinkSymbol, symbol_taken, symbols_taken}
use Rattle.elf_model.specs.LinkSymbols.{and_then}
use Rattle.elf_model.specs.Numbers.{SHT_DYNSYM}
use Rattle.elf_model.specs.Records.{section_at}
use Rattle.elf_model.specs.Tables.{SYMBOL_SIZE, entry_count}
use Rattle.elf_model.specs.declared.link_states.LinkRefusal.{LinkRefusal}
use Rattle.elf_resolve.specs.KeyTables.{KeyList}
use Rattle.elf_resolve.specs.LibraryKeys.{LibraryVersions, library_symbol_at, library_symbols, library_symbols_from}
use Rattle.elf_resolve.specs.LibraryTables.{HoldsDynamicSymbols, HoldsSomeSymbols, TakesLibrarySymbols, TookLibraryRows}
use Rattle.elf_resolve.specs.StringBuffers.{KeptTexts, TableTexts}
use Rattle.elf_resolve.specs.Taken.{IsLinkFault}
use Rattle.elf_resolve.specs.declared.link_faults.LinkFault.{LinkFault}
use Rattle.elf_resolve.specs.declared.object.SymbolRows.{SymbolRows}
use Rattle.elf_resolve.proofs.FollowedLaws.{followed_all, followed_fault, followed_more, followed_none}

-- NO SYMBOL is taken
pub takes_none : (known : Result (List LinkSymbol) LinkRefusal) (keys : KeyList) (row : ℕ) → known ≡ Ok [] → TakesLibrarySymbols known keys keys row (Ok tt)
takes_none known keys row is = ([], is, record { keys = refl; most = refl; most_further = refl })

-- what the symbols up to an index leave is forgotten
pub forgotten : (old now new : TableTexts) (used : ℕ) → now ≡ old → used ≡ length old.bytes → KeptTexts now new → record new { bytes = take used new.bytes } ≡ old
forgotten old now new used same size kept =
    let first : take used new.bytes ≡ old.bytes =
    ap (λ n. take n new.bytes) (size ∙ ap (λ (t : TableTexts). length t.bytes) (sym same)) ∙ kept.first ∙ ap (λ (t : TableTexts). t.bytes) same in
    let most : new.most ≡ old.most = kept.most ∙ ap (λ (t : TableTexts). t.most) same in
    ap (λ (b : List ℕ). record new { bytes = b }) first ∙ ap (λ m. record { bytes = old.bytes; most = m }) most

-- THE ROWS of a table, one after the other
pub library_next : (file : List ℕ) (versions : LibraryVersions) (table_at index count : ℕ) → index < count
    → library_symbols_from file versions table_at index (count - index) ≡ and_then (library_symbol_at file versions table_at index) (library_symbols_from file versions table_at (index + 1) (count - (index + 1)))
unfolding library_symbols_from
library_next file versions table_at index count below =
    let e : count - index ≡ suc (count - (index + 1)) = omega arith in
    let n : suc index ≡ index + 1 = omega arith in
    rw e (ap (λ i. and_then (library_symbol_at file versions table_at index) (library_symbols_from file versions table_at i (count - (index + 1)))) n)

pub library_rows_none : (file : List ℕ) (versions : LibraryVersions) (table_at first count : ℕ) (keys : KeyList) (row : ℕ) → TookLibraryRows file versions table_at first first count keys keys row
library_rows_none file versions table_at first count keys row =
    ([], followed_none (library_symbols_from file versions table_at first (count - first)), record { keys = refl; most = refl; most_further = refl })

pub library_rows_more : (file : List ℕ) (versions : LibraryVersions) (table_at first index count : ℕ) (old now next : KeyList) (row : ℕ) → index < count → TookLibraryRows file versions table_at first index count old now row
    → TakesLibrarySymbols (library_symbol_at file versions table_at index) now next row (Ok tt) → TookLibraryRows file versions table_at first (index + 1) count old next row
library_rows_more file versions table_at first index count old now next row below before more =
    let one = library_symbol_at file versions table_at index in
    let rest = library_symbols_from file versions table_at (index + 1) (count - (index + 1)) in (
      before.0 ++ more.0,
      followed_more (library_symbols_from file versions table_at first (count - first)) (library_symbols_from file versions table_at index (count - index)) one rest before.0 more.0 before.1
          (library_next file versions table_at index count below) more.1,
      record {
        keys = rw symbols_taken-append (more.2.keys ∙ ap (λ k. symbols_taken (Some row) k more.0) before.2.keys);
        most = more.2.most ∙ before.2.most;
        most_further = more.2.most_further ∙ before.2.most_further;
      },
    )
  where
    symbols_taken-append : (row : Option ℕ) (keys : LinkKeys) (xs ys : List LinkSymbol) → symbols_taken row keys (xs ++ ys) ≡ symbols_taken row (symbols_taken row keys xs) ys
    symbols_taken-append row keys [] ys = refl
    symbols_taken-append row keys (x ∷ xs) ys = symbols_taken-append row (symbol_taken row keys x) xs ys

pub library_rows_fault : (file : List ℕ) (versions : LibraryVersions) (table_at first index count : ℕ) (old now : KeyList) (row : ℕ) (fault : LinkFault) → index < count
    → TookLibraryRows file versions table_at first index count old now row → IsLinkFault (refusal_of (library_symbol_at file versions table_at index)) fault
    → IsLinkFault (refusal_of (library_symbols_from file versions table_at first (count - first))) fault
library_rows_fault file versions table_at first index count old now row fault below before is =
    followed_fault (library_symbols_from file versions table_at first (count - first)) (library_symbols_from file versions table_at index (count - index)) (library_symbol_at file versions table_at index)
    (library_symbols_from file versions table_at (index + 1) (count - (index + 1))) before.0 fault before.1 (library_next file versions table_at index count below) is

pub library_rows_end : (file : List ℕ) (versions : LibraryVersions) (table_at index count : ℕ) → count ≤ index → library_symbols_from file versions table_at index (count - index) ≡ Ok []
unfolding library_symbols_from
library_rows_end file versions table_at index count past =
    let none : count - index ≡ 0 = omega arith in
    ap (library_symbols_from file versions table_at index) none

pub library_rows_all : (file : List ℕ) (versions : LibraryVersions) (table_at first index count : ℕ) (old now : KeyList) (row : ℕ) → count ≤ index → TookLibraryRows file versions table_at first index count old now row
    → TakesLibrarySymbols (library_symbols_from file versions table_at first (count - first)) old now row (Ok tt)
library_rows_all file versions table_at first index count old now row past before = (
  before.0,
  followed_all (library_symbols_from file versions table_at first (count - first)) (library_symbols_from file versions table_at index (count - index)) before.0 before.1 (library_rows_end file versions table_at index count past),
  before.2,
)

-- THE SYMBOLS OF A LIBRARY are those of its table, or none
pub library_known : (file bytes : List ℕ) (versions : LibraryVersions) (table : Option SymbolRows) (P : Result (List LinkSymbol) LinkRefusal → Type 0) → HoldsSomeSymbols file bytes table
    → ((symbols : SymbolRows) → table ≡ Some symbols → HoldsDynamicSymbols file bytes symbols → P (library_symbols_from file versions (section_at file symbols.section) symbols.first (symbols.count - symbols.first)))
    → (table ≡ None → P (Ok [])) → P (library_symbols file versions (first_typed (file_sections file) SHT_DYNSYM))
library_known file bytes versions None P held some none = subst P (sym (ap (library_symbols file versions) held)) (none refl)
library_known file bytes versions (Some symbols) P held some none =
    let at = section_at file symbols.section in
    let same : library_symbols_from file versions at symbols.first (symbols.count - symbols.first) ≡ library_symbols file versions (first_typed (file_sections file) SHT_DYNSYM) =
    ap (λ c. library_symbols_from file versions at symbols.first (c - symbols.first)) held.holds.count
    ∙ ap (λ f. library_symbols_from file versions at f (entry_count file at SYMBOL_SIZE - f)) held.first
    ∙ ap (library_symbols file versions) (sym held.table) in
    subst P same (some symbols refl held)

pub library_taken : (file bytes : List ℕ) (versions : LibraryVersions) (table : Option SymbolRows) (old new : KeyList) (row : ℕ) (result : Result (Unit {0}) LinkFault) → HoldsSomeSymbols file bytes table
    → ((symbols : SymbolRows) → table ≡ Some symbols → HoldsDynamicSymbols file bytes symbols
    → TakesLibrarySymbols (library_symbols_from file versions (section_at file symbols.section) symbols.first (symbols.count - symbols.first)) old new row result)
    → (table ≡ None → TakesLibrarySymbols (Ok []) old new row result)
    → TakesLibrarySymbols (library_symbols file versions (first_typed (file_sections file) SHT_DYNSYM)) old new row result
library_taken file bytes versions table old new row result held some none = library_known file bytes versions table (λ known. TakesLibrarySymbols known old new row result) held some none
