-- How many dynamic entries are listed, by those that were read.
use Rattle.std.proofs.Common.{ℕ, ◌≡◌, ◌≢◌, ◌+◌, ◌*◌, ◌<◌, ◌≤◌, ◌⊎◌, inl, inr, true, List, None, Ok, Err, ap, arith}
use Rattle.std.proofs.lemmas.Bool.{cases_lt}
use Rattle.elf_model.specs.Prelude.{DT_NULL, d_tag, dynamic_count, e_shnum, section_at}
use Rattle.elf_model.specs.declared.causes.Refusal.{Refusal}
use Rattle.elf_model.proofs.DynamicLaws.{counted_is_listed}
use Rattle.elf_table.specs.Tables.{TableRange as Table, StringTableRange}
use Rattle.elf_capi.specs.Prelude.{IsDynamicTable, ListsWithin, ReadsListed, ReadsRows, all_listed, holds, rows_from_first}
use Rattle.elf_capi.specs.Checked.{load_refused}
use Rattle.elf_capi.specs.declared.rows.RowPosition.{RowPosition}
use Rattle.elf_capi.specs.declared.kind.RowKind.TheVariants.{Dynamic}

-- if none of those before one has the tag DT_NULL, that one is listed too
pub count_past : (file : List ℕ) (at n done : ℕ) → done < n → ((i : ℕ) → i < done → d_tag file (at + 16 * i) ≢ DT_NULL) → done < dynamic_count file at n
count_past file at n done below none = go (cases_lt done (dynamic_count file at n))
  where
    go : (done < dynamic_count file at n) ⊎ (dynamic_count file at n ≤ done) → done < dynamic_count file at n
    go (inl past) = past
    go (inr few) =
        let listed = counted_is_listed file at n in
        let last = listed.ended (omega (arith, few, below)) in
        let counted = last.1 in
        absurd (none last.0 (omega (arith, counted, few)) last.2)

-- no more are listed than there are
pub count_fitting : (file : List ℕ) (at n : ℕ) → dynamic_count file at n ≤ n
count_fitting file at n = (counted_is_listed file at n).within

-- a table of which more entries are listed than may be read
pub table_past : (file held : List ℕ) (headers section most : ℕ) (table : Table) (names : StringTableRange) (all : RowPosition) (refusal : Refusal) → held ≡ file → load_refused file headers ≡ None
    → section < e_shnum held → holds Dynamic held (section_at held section) ≡ true → IsDynamicTable held (section_at held section) (Ok (table, names)) → all ≡ rows_from_first table names
    → ListsWithin file all most (Err refusal) → ReadsListed (ReadsRows Dynamic file headers section) most (Err refusal)
table_past file held headers section most table names all refusal same loads below kind passes is lists =
    inr (all_listed file all, (loads, (rw same at below, rw same at kind), (table, names, rw same at passes, ap (all_listed file) is)), lists.0, lists.1)
