-- How many bytes the rows of a table read at most, by the size of the file.
use Rattle.std.proofs.Common.{◌≡◌, ℕ, if◌then◌else◌, Option, None, Some, ◌+◌, ◌*◌, ◌/◌, ◌%◌, ◌≤◌, ◌==◌, not, Bool, true, false, List, [], ◌∷◌, refl, arith}
use Rattle.std.proofs.Math.Nat.{mul-le-mul_right, mul-le-mul, div-mul-le_self, mul-add}
use Rattle.std.proofs.lemmas.Bool.{ltb-false}
use Rattle.std.proofs.lemmas.Nat.{le-div}
use Rattle.elf_model.specs.Prelude.{Check, HeaderTable, TableKind, cost_where, first_typed, header_field, is_inside, is_outside, name_bytes, pass, range_checks_of, refuse, sh_entsize, sh_offset, sh_size, suffixes_most, table_checks_of, table_cost, walk_cost, whole_checks_of}
use Rattle.elf_model.specs.declared.causes.Cause.TheVariants.{EntrySize, SizeNotWhole, TableOutside}
use Rattle.elf_model.specs.declared.causes.Refusal.{Refusal}
use Rattle.elf_model.proofs.SumLemmas.{cost_where-within, cost_where-and, fewer}

-- what one table costs at most, in a file of this many bytes
abbrev pub table_bound : ℕ → ℕ → ℕ
table_bound size cap = size + size / 16 * (32 + name_bytes cap)

-- what the tables of one section header cost at most, with or without versions after the names of
-- symbols
abbrev pub most_bound : Bool → (size cap : ℕ) → ℕ
most_bound versions size cap = table_bound size cap + (if versions then suffixes_most size cap else 0)

-- a table's size in entries, each at a cost
pub entries_within : (entry further cap size table : ℕ) → 16 ≤ entry → further ≤ 32 + cap → table ≤ size
    → table / entry * (entry + further) ≤ size + size / 16 * (32 + cap)
entries_within entry further cap size table e f t =
    let d : table / entry * entry ≤ table = div-mul-le_self table entry in
    let n : table / entry ≤ size / 16 = fewer entry size table e t in
    let m : table / entry * further ≤ size / 16 * (32 + cap) = mul-le-mul n f in
    let s : table / entry * (entry + further) ≡ table / entry * entry + table / entry * further = mul-add (table / entry) entry further in
    omega arith

pub pass-second : (fails : Bool) (refusal : Refusal) (checks : List Check) → pass (record { fails = fails; refusal = refusal } ∷ checks) ≡ true → pass checks ≡ true
pass-second true refusal checks h = cc
pass-second false refusal checks h = h

-- a range that is within the file has a size within it
pub range_within : (size offset table place : ℕ) → pass (range_checks_of size offset table place) ≡ true → table ≤ size
range_within size offset table place h = by_cases (is_outside size offset table) refl h
  where
    by_cases : (outside : Bool) → is_outside size offset table ≡ outside → pass (record { fails = outside; refusal = record { at = place; cause = TableOutside } } ∷ []) ≡ true → table ≤ size
    by_cases true o h = cc
    by_cases false o h = let low = ltb-false size (offset + table) o in omega arith

pub whole_within : (size offset table place entry_size : ℕ) → pass (whole_checks_of size offset table place entry_size) ≡ true → table ≤ size
whole_within size offset table place entry_size h =
    range_within size offset table place
    (pass-second (not (table % entry_size == 0)) (record { at = place; cause = SizeNotWhole }) (range_checks_of size offset table place) h)

pub table_within : (bytes : List ℕ) (at size place entry_size : ℕ) → pass (table_checks_of bytes at size place entry_size) ≡ true → sh_size bytes at ≤ size
table_within bytes at size place entry_size h =
    whole_within size (sh_offset bytes at) (sh_size bytes at) place entry_size
    (pass-second (not (sh_entsize bytes at == entry_size)) (record { at = place; cause = EntrySize }) (whole_checks_of size (sh_offset bytes at) (sh_size bytes at) place entry_size) h)

-- a table costs nothing if the header is of another kind
pub kind-le : (kind : TableKind) (headers : HeaderTable) (i size cap bound : ℕ)
    → (pass (kind.checks.own (headers.bytes i) (headers.at i) size) ≡ true → kind.asks headers i size cap ≤ bound)
    → table_cost kind headers i size cap ≤ cost_where (kind.has_table (headers.bytes i) (headers.at i)) bound
unfolding table_cost
kind-le kind headers i size cap bound h =
    cost_where-and (kind.has_table (headers.bytes i) (headers.at i)) (pass (kind.checks.own (headers.bytes i) (headers.at i) size)) (kind.asks headers i size cap) bound h

-- records of a table, each at a cost
pub records_within : (entry each cap size table : ℕ) → 16 ≤ entry → each ≤ 32 + cap → table ≤ size → table / entry * each ≤ size + size / 16 * (32 + cap)
records_within entry each cap size table e f t =
    let m : table / entry * each ≤ size / 16 * (32 + cap) = mul-le-mul (fewer entry size table e t) f in omega arith

-- one walk over records in a file of this many bytes
pub walk_within : (headers : HeaderTable) (size type entry bytes : ℕ) → 16 ≤ entry → walk_cost headers size type entry bytes ≤ size / entry * bytes
unfolding walk_cost
walk_within headers size type entry bytes e = by_found (first_typed headers type)
  where
    inside : (i : ℕ) → is_inside headers i size ≡ true → header_field headers sh_size i / entry * bytes ≤ size / entry * bytes
    inside i h =
        let table : ℕ = header_field headers sh_size i in
        let low : table ≤ size = range_within size (header_field headers sh_offset i) table 0 (within (is_outside size (header_field headers sh_offset i) table) h) in
        let d : table / entry * entry ≤ table = div-mul-le_self table entry in
        mul-le-mul_right bytes (le-div (table / entry) size entry (omega arith) (omega arith))
      where
        within : (outside : Bool) → not outside ≡ true → pass (refuse outside 0 TableOutside ∷ []) ≡ true
        within true h = cc
        within false h = refl

    by_found : (found : Option ℕ)
        → (elim found as (λ _. ℕ) [ None ↦ 0 | Some i ↦ if is_inside headers i size then header_field headers sh_size i / entry * bytes else 0 ]) ≤ size / entry * bytes
    by_found None = omega arith
    by_found (Some i) = cost_where-within (is_inside headers i size) (header_field headers sh_size i / entry * bytes) (size / entry * bytes) (inside i)

-- this many entries of 16 bytes, each processed twice and with a name
pub twice_within : (size table name : ℕ) → table ≤ size → table / 16 * (2 * 16 + name) ≤ size + size / 16 * (32 + name)
twice_within size table name t = records_within 16 (2 * 16 + name) name size table (omega arith) (omega arith) t

-- a table of a section, and what it reads, within the file
module _ (headers : HeaderTable) (i size : ℕ) where
  pub table_fits : (entry : ℕ) → pass (table_checks_of (headers.bytes i) (headers.at i) size (headers.at i) entry) ≡ true → header_field headers sh_size i ≤ size
  table_fits entry h = table_within (headers.bytes i) (headers.at i) size (headers.at i) entry h

  pub range_fits : pass (range_checks_of size (header_field headers sh_offset i) (header_field headers sh_size i) (headers.at i)) ≡ true → header_field headers sh_size i ≤ size
  range_fits h = range_within size (header_field headers sh_offset i) (header_field headers sh_size i) (headers.at i) h

-- without versions after the names of symbols a table costs no more than with them
pub within_most : (versions : Bool) (size cap : ℕ) {amount : ℕ} → amount ≤ table_bound size cap → amount ≤ most_bound versions size cap
within_most versions size cap h = omega (arith, h)
