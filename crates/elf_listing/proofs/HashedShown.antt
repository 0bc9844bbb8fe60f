-- The symbols that dynamic entries locate.
use Rattle.std.proofs.Common.{◌≡◌, ℕ, zero, suc, ◌+◌, ◌*◌, ◌/◌, ◌<◌, ◌≤◌, true, List, [], None, Some, Ok, refl, sym, ap, ◌∙◌, arith}
use Rattle.std.proofs.Math.Nat.{mul-le-mul_right}
use Rattle.elf_model.specs.Prelude.{HashStyle, LinePrefix, ListingItem, ListingStyle, LookupTables as IsScopeOf, chosen_row, class_choice, counted_rows, e_machine, each, first_refusal, guarded, hash_row, hashed_symbol_row, hashed_symbol_rows, name_bytes, rows_by_hash, segment_checks, segment_lookup_tables, segment_symbol_rows, shown, st_name, symbol_prefix, symbols_hashed, table_most}
use Rattle.elf_model.proofs.ListingLemmas.{guarded-passes}
use Rattle.elf_source.specs.Output.{OutState}
use Rattle.elf_table.specs.Prelude.{RefusedBy, stop_of}
use Rattle.elf_table.specs.declared.fault.Fault.{Fault}
use Rattle.elf_table.specs.declared.fault.Fault.TheVariants.{Refused, Source}
use Rattle.elf_hash.specs.Prelude.{RefusesAs}
use Rattle.elf_listing.specs.Shows.{WroteUntilStop}
use Rattle.elf_listing.specs.Viewed.{HasLength}
use Rattle.elf_listing.proofs.LocatedShown.{entries_most, guarded_fails}
use Rattle.elf_listing.proofs.RowLaws.{Ends-first, WrotePrefix-none}

-- the row of a symbol at its place
pub hashed_is : (file : List ℕ) (style : ListingStyle) (segment : ℕ) (strings : List ℕ) (table_at at index : ℕ) (front : LinePrefix) (off : ℕ)
    → at ≡ table_at + index * 24 → front ≡ symbol_prefix style.format style.gnu (e_machine file) file at segment index → off ≡ st_name file at
    → hashed_symbol_row file style segment strings table_at index ≡ chosen_row (class_choice file style true at) front at (shown strings off style.cap)
unfolding hashed_symbol_row
hashed_is file style segment strings table_at at index front off here same named =
    let place : at ≡ table_at + 24 * index = omega arith in
    let row : LinePrefix → ℕ → ℕ → List ListingItem = λ text name p. chosen_row (class_choice file style true p) text p (shown strings name style.cap) in
    sym (ap (λ text. row text off at) same ∙ (ap (λ name. row (symbol_prefix style.format style.gnu (e_machine file) file at segment index) name at) named
    ∙ ap (λ p. row (symbol_prefix style.format style.gnu (e_machine file) file p segment index) (st_name file p) p) place))

module _ (file : List ℕ) (style : ListingStyle) (segment at : ℕ) where
  -- no entry locates a hash table
  pub hashed_none : hash_row file at ≡ None → segment_symbol_rows file style segment at ≡ []
  unfolding segment_symbol_rows rows_by_hash
  hashed_none none = ap (rows_by_hash file style segment at) none

  module _ (found : HashStyle × ℕ) (is : hash_row file at ≡ Some found) where
    -- one does
    by_checks : segment_symbol_rows file style segment at
        ≡ guarded (segment_checks file found.0 at found.1) (hashed_symbol_rows file style (segment_lookup_tables file found.0 segment at found.1))
    unfolding segment_symbol_rows rows_by_hash
    by_checks = ap (rows_by_hash file style segment at) is

    -- the lookup tables are refused, or found
    pub hashed_fails : (a : OutState) (fault : Fault) → RefusedBy (segment_checks file found.0 at found.1) fault → WroteUntilStop a a (stop_of fault) (segment_symbol_rows file style segment at)
    hashed_fails a fault by = rw by_checks (guarded_fails (segment_checks file found.0 at found.1) _ a fault by)

    pub hashed_found : first_refusal (segment_checks file found.0 at found.1) ≡ None
        → segment_symbol_rows file style segment at ≡ hashed_symbol_rows file style (segment_lookup_tables file found.0 segment at found.1)
    hashed_found passed = by_checks ∙ guarded-passes (segment_checks file found.0 at found.1) _ passed

module _ (file : List ℕ) (style : ListingStyle) (told : IsScopeOf) where
  -- the counts of the hash table are refused
  pub counted_refused : (a : OutState) (fault : Fault) → RefusesAs (symbols_hashed file told) fault → WroteUntilStop a a (stop_of fault) (hashed_symbol_rows file style told)
  unfolding hashed_symbol_rows counted_rows
  counted_refused a (Refused refusal) is = Ends-first a refusal _ (λ other. ap (counted_rows file style told.symbols) (is other))
  counted_refused a (Source fault offset) is = WrotePrefix-none a _

  -- or as many symbols as it covers are listed, whose strings matter only if there are any
  pub counted_are : (count listed segment place : ℕ) (strings : List ℕ) → symbols_hashed file told ≡ Ok count → listed ≡ count → segment ≡ told.symbols.index → place ≡ told.symbols.place → (0 < count → strings ≡ told.symbols.strings)
      → hashed_symbol_rows file style told ≡ each (hashed_symbol_row file style segment strings place) 0 listed
  unfolding hashed_symbol_rows counted_rows each
  counted_are count listed segment place strings is all same here named =
      ap (counted_rows file style told.symbols) is ∙ sym (rw (all, same, here) (rows count named))
    where
      rows : (n : ℕ) → (0 < n → strings ≡ told.symbols.strings)
          → each (hashed_symbol_row file style told.symbols.index strings told.symbols.place) 0 n ≡ each (hashed_symbol_row file style told.symbols.index told.symbols.strings told.symbols.place) 0 n
      rows zero texts = refl
      rows (suc n) texts = ap (λ (t : List ℕ). each (hashed_symbol_row file style told.symbols.index t told.symbols.place) 0 (suc n)) (texts (omega arith))

-- the hash table reads no more than is allowed for a table, and the symbols another
pub hashed_most : (size cap count at bytes : ℕ) → HasLength size → at + bytes ≤ size → count * 24 ≤ size
    → 16 + bytes + count * (24 + name_bytes cap) ≤ 2 * table_most size cap
hashed_most size cap count at bytes fits within rows =
    let symbols = entries_most size cap count 24 (name_bytes cap) (omega arith) (omega arith) rows in
    let some : 1 ≤ size / 16 = omega (arith, fits.least) in
    let words : 1 * (32 + name_bytes cap) ≤ size / 16 * (32 + name_bytes cap) = mul-le-mul_right (32 + name_bytes cap) some in
    omega (arith, symbols, words, within)
