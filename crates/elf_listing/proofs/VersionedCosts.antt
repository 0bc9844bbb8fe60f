-- What the rows of symbols' versions read, and what finds the names of their version indices.
use Rattle.std.proofs.Common.{◌≡◌, ℕ, ◌+◌, ◌*◌, ◌/◌, ◌≤◌, ◌==◌, not, min, if◌then◌else◌, Bool, true, false, [], ◌∷◌, Option, None, Some, Ok, refl, sym, ap, ◌∙◌, arith}
use Rattle.std.specs.Prelude.{is_none}
use Rattle.elf_model.specs.Prelude.{HeaderTable, SHT_GNU_VERSYM, first_typed, has_symbol_table, header_field, is_inside, is_outside, max_records, name_bytes, pass, record_size, refuse, sh_link, sh_offset, sh_size, sh_type, symbol_versions, table_checks_of, table_cost, versioned_cost, walk_cost, walks_cost}
use Rattle.elf_model.specs.declared.causes.Cause.TheVariants.{TableOutside}
use Rattle.elf_model.specs.declared.versions.VersionKind.{VersionKind}
use Rattle.elf_model.proofs.StoreLemmas.{places_decide_nothing}
use Rattle.elf_table.specs.Prelude.{IsReadFault, StoreState, TableRange, byte_rows, checked, row, rows, table_of}
use Rattle.elf_table.specs.declared.fault.Fault.{Fault}
use Rattle.elf_table.specs.declared.fault.Fault.TheVariants.{Refused, Source}
use Rattle.elf_source.specs.Source.{CountedState, ReadsUpTo}
use Rattle.elf_source.proofs.ReadsLaws.{IsSourceFault-then, ExceedsBudget-then}
use Rattle.elf_table.proofs.RelocationLaws.{passed_first}
use Rattle.elf_listing.specs.Prelude.{kind_type, store_sections}
use Rattle.elf_note.specs.Reading.{bytes_each}

-- the rows of a section, with what finds the names, are what its header counts for
pub versioned-within : (store : StoreState) (i size place cap symbols : ℕ) (table : TableRange) → (sh_type (row store i) 0 == SHT_GNU_VERSYM) ≡ true
    → table_of (row store i) 0 size place 2 ≡ Ok table → (sh_size (row store i) 0 == 0) ≡ false → has_symbol_table (store_sections store) i size ≡ true
    → table.count ≡ sh_size (row store i) 0 / 2 → symbols ≡ header_field (store_sections store) sh_size (sh_link (row store i) 0) / 24
    → walks_cost (store_sections store) size + min table.count symbols * (2 + name_bytes cap) ≤ table_cost symbol_versions (store_sections store) i size cap
unfolding table_cost symbol_versions versioned_cost
versioned-within store i size place cap symbols table has held some linked count counted =
    let bytes = row store i in
    let own : pass (table_checks_of bytes 0 size 0 2) ≡ true =
    places_decide_nothing bytes 0 size 0 place 2 ∙ ap is_none (passed_first _ _ _ (rw (some, table_of) at held)).0 in
    rw (has, own, some, linked, count, counted) (omega arith)

-- what one walk over the first section of a type reads
pub walk-is : (headers : HeaderTable) (file_size type size bytes i : ℕ) → Some i ≡ first_typed headers type → is_inside headers i file_size ≡ true
    → walk_cost headers file_size type size bytes ≡ header_field headers sh_size i / size * bytes
unfolding walk_cost
walk-is headers file_size type size bytes i first inside =
    ap (λ (found : Option ℕ). elim found as (λ _. ℕ) [
      | None ↦ 0
      | Some i ↦ if is_inside headers i file_size then header_field headers sh_size i / size * bytes else 0
    ]) (sym first) ∙ rw inside refl

-- bytes that are returned are in the file
pub range-inside : (size offset n place : ℕ) (table : TableRange) → (n == 0) ≡ false → byte_rows size offset n place ≡ Ok table
    → (not (is_outside size offset n) ≡ true) × (rows offset n 1 ≡ table)
range-inside size offset n place table some h = by_cases (is_outside size offset n) (rw (some, byte_rows) at h)
  where
    by_cases : (outside : Bool) → checked (refuse outside place TableOutside ∷ []) (rows offset n 1) ≡ Ok table → (not outside ≡ true) × (rows offset n 1 ≡ table)
    by_cases true h = cc
    by_cases false h = (refl, cc)

-- what a fault says after reads, in a bound on what both read
pub IsReadFault-account : (a b c : CountedState) (fault : Fault) (n m k : ℕ) → b.asked + m ≤ a.asked + k → ReadsUpTo a b n → IsReadFault b c m fault → IsReadFault a c k fault
IsReadFault-account a b c (Refused refusal) n m k within p q = λ budget. let over = q budget in (rw (sym p.keeps.same_size) over.0, ExceedsBudget-then n k within p over.1, over.2)
IsReadFault-account a b c (Source fault at) n m k within p q = (IsSourceFault-then a.seen b.seen c.seen fault p.keeps q.0, q.1)

pub walk-cost : (store : StoreState) (size i : ℕ) (kind : VersionKind) (type offset n place : ℕ) (table : TableRange) → Some i ≡ first_typed (store_sections store) type
    → type ≡ kind_type kind → offset ≡ sh_offset (row store i) 0 → n ≡ sh_size (row store i) 0 → (n == 0) ≡ false → byte_rows size offset n place ≡ Ok table
    → walk_cost (store_sections store) size (kind_type kind) (record_size kind) (bytes_each kind) ≡ max_records kind table.count * bytes_each kind
walk-cost store size i kind type offset n place table first typed off len some h =
    let inside = range-inside size offset n place table some h in
    let within : is_inside (store_sections store) i size ≡ true = rw (off, len) at inside.0 in
    walk-is (store_sections store) size (kind_type kind) (record_size kind) (bytes_each kind) i (rw typed at first) within
    ∙ ap (λ (k : ℕ). k / record_size kind * bytes_each kind) (sym len ∙ ap (λ (t : TableRange). t.count) inside.1)
