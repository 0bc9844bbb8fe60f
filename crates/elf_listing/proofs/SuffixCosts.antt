-- What the rows of a table read with the versions after their names, and what the version lookup
-- reads.
use Rattle.std.proofs.Common.{◌≡◌, ℕ, ◌+◌, ◌*◌, ◌/◌, ◌≤◌, ◌==◌, if◌then◌else◌, Bool, true, false, Option, None, Some, Ok, sym, ap, ◌∙◌, subst, arith}
use Rattle.std.proofs.Math.Nat.{mul-add}
use Rattle.std.specs.Prelude.{is_none}
use Rattle.elf_model.specs.Prelude.{HeaderTable, TableKind, first_numbers, name_bytes, pass, sh_offset, sh_size, suffixes_cost, table_checks_of, table_cost, walks_cost}
use Rattle.elf_model.proofs.StoreLemmas.{places_decide_nothing}
use Rattle.elf_table.specs.Prelude.{StoreState, TableRange, row, rows, table_of}
use Rattle.elf_listing.specs.Prelude.{store_sections, suffix_bytes, walks_asked}
use Rattle.elf_listing.proofs.SectionCosts.{within_kind}

-- n names cost what their rows do, an entry and a name each, and the version lookup
pub asked_is : (headers : HeaderTable) (table names size cap each : ℕ)
    → walks_asked headers table names size + names * (each + suffix_bytes headers table cap) ≤ names * each + suffixes_cost headers table names size cap
unfolding suffixes_cost
asked_is headers table names size cap each = by_found (first_numbers headers table) (names == 0)
  where
    by_found : (found : Option ℕ) (empty : Bool)
        → (if empty then 0 else elim found as (λ _. ℕ) [ None ↦ 0 | Some i ↦ walks_cost headers size ])
        + names * (each + (elim found as (λ _. ℕ) [ None ↦ 0 | Some i ↦ 2 + name_bytes cap ]))
        ≤ names * each + (elim found as (λ _. ℕ) [ None ↦ 0 | Some i ↦ names * (2 + name_bytes cap) + walks_cost headers size ])
    by_found None true = omega arith
    by_found None false = omega arith
    by_found (Some i) true = omega (arith, mul-add names each (2 + name_bytes cap))
    by_found (Some i) false = omega (arith, mul-add names each (2 + name_bytes cap))

-- a table of entries with versions, whose symbols' table has an index: the version lookup, and the
-- rows
pub suffixed_within : (kind : TableKind) (store : StoreState) (i symbols size place cap entry each : ℕ) (table : TableRange) → kind.has_table (row store i) 0 ≡ true
    → kind.checks.own (row store i) 0 size ≡ table_checks_of (row store i) 0 size 0 entry
    → (let names : ℕ = sh_size (row store i) 0 / entry in
    names * each + suffixes_cost (store_sections store) symbols names size cap ≡ kind.asks (store_sections store) i size cap)
    → Ok table ≡ table_of (row store i) 0 size place entry
    → walks_asked (store_sections store) symbols table.count size + table.count * (each + suffix_bytes (store_sections store) symbols cap)
    ≤ table_cost kind (store_sections store) i size cap
suffixed_within kind store i symbols size place cap entry each table has own asks h =
    let bytes = row store i in
    let headers = store_sections store in
    let amount : ℕ → ℕ = λ n. walks_asked headers symbols n size + n * (each + suffix_bytes headers symbols cap) in
    let most = asked_is headers symbols (sh_size bytes 0 / entry) size cap each in
    within_kind kind headers i size cap (sh_size bytes 0) amount (table_checks_of bytes 0 size place entry)
    (rows (sh_offset bytes 0) 0 entry) (rows (sh_offset bytes 0) (sh_size bytes 0 / entry) entry) table has
    (λ none. ap pass own ∙ (places_decide_nothing bytes 0 size 0 place entry ∙ ap is_none none)) (λ _. omega arith) (omega (arith, most, asks)) (sym h)

-- the version lookup of some names costs what it does for others, and nothing for none
pub walks_fewer : (headers : HeaderTable) (table names entries size : ℕ) → (entries == 0) ≡ false → walks_asked headers table names size ≤ walks_asked headers table entries size
walks_fewer headers table names entries size some = rw some (by_empty (names == 0))
  where
    by_empty : (empty : Bool)
        → (if empty then 0 else elim (first_numbers headers table) as (λ _. ℕ) [ None ↦ 0 | Some i ↦ walks_cost headers size ])
        ≤ (elim (first_numbers headers table) as (λ _. ℕ) [ None ↦ 0 | Some i ↦ walks_cost headers size ])
    by_empty true = omega arith
    by_empty false = omega arith

-- fewer than a part of a sum, and with less besides it
less : (a b n k : ℕ) → b ≤ a → a + n ≤ k → b ≤ k
less a b n k fewer within = omega arith

less_and : (a b count each bytes k : ℕ) → b ≤ a → a + count * (each + bytes) ≤ k → b + count * each ≤ k
less_and a b count each bytes k fewer within = let split = mul-add count each bytes in omega (arith, fewer, within, split)

less_with : (a b count own name bytes after k : ℕ) → b ≤ a → a + count * (own + name + bytes) ≤ k → bytes ≡ after → b + count * (own + (name + after)) ≤ k
less_with a b count own name bytes after k fewer within is =
    let same : own + name + bytes ≡ own + (name + after) = omega (arith, is) in
    let more : a + count * (own + (name + after)) ≤ k = subst (λ (n : ℕ). a + count * n ≤ k) same within in
    omega (arith, fewer, more)

-- the version lookup of some names, alone, with rows that have none, and with rows that have them
module _ (headers : HeaderTable) (table size cap own name names count k : ℕ) (fewer : walks_asked headers table names size ≤ walks_asked headers table count size)
    (within : walks_asked headers table count size + count * (own + name + suffix_bytes headers table cap) ≤ k) where
  pub walks_within : walks_asked headers table names size ≤ k
  walks_within = less (walks_asked headers table count size) (walks_asked headers table names size) (count * (own + name + suffix_bytes headers table cap)) k fewer within

  pub plain_within : walks_asked headers table names size + count * (own + name) ≤ k
  plain_within = less_and (walks_asked headers table count size) (walks_asked headers table names size) count (own + name) (suffix_bytes headers table cap) k fewer within

  pub rows_within : (after : ℕ) → suffix_bytes headers table cap ≡ after → walks_asked headers table names size + count * (own + (name + after)) ≤ k
  rows_within after is = less_with (walks_asked headers table count size) (walks_asked headers table names size) count own name (suffix_bytes headers table cap) after k fewer within is

pub no_fewer : (n : ℕ) → n ≤ n
no_fewer n = omega arith

-- rows without versions, counted as rows whose versions cost nothing
pub rows_plain : (a count own name k : ℕ) → a + count * (own + name) ≤ k → a + count * (own + (name + 0)) ≤ k
rows_plain a count own name k within =
    let same : name + 0 ≡ name = omega arith in
    rw same within

pub table_plain : (count own name k : ℕ) → count * (own + name) ≤ k → count * (own + (name + 0)) ≤ k
table_plain count own name k within =
    let same : name + 0 ≡ name = omega arith in
    rw same within

-- and rows without a lookup
pub plain_alone : (headers : HeaderTable) (table size cap own name count k : ℕ)
    → walks_asked headers table count size + count * (own + name + suffix_bytes headers table cap) ≤ k → count * (own + (name + 0)) ≤ k
plain_alone headers table size cap own name count k within =
    let plain = plain_within headers table size cap own name count count k (no_fewer (walks_asked headers table count size)) within in
    table_plain count own name k (omega (arith, plain))
