-- Which section of entries a refusal points into.
use Rattle.std.proofs.Common.{◌≡◌, ℕ, ◌-◌, ◌*◌, ◌/◌, ◌<◌, ◌&&◌, true, false, List, None, refl, arith}
use Rattle.std.proofs.lemmas.Bool.Decides.{nat_tests}
use Rattle.elf_model.specs.Prelude.{RELA_SIZE, applies_to, entry_count, first_refusal, has_entry, relocates_at, relocation_table_checks, sh_offset}
use Rattle.elf_table.specs.Prelude.{RefusedBy, TableRange}
use Rattle.elf_table.specs.declared.fault.Fault.{Fault}
use Rattle.elf_table.specs.declared.fault.Fault.TheVariants.{Refused, Source}
use Rattle.elf_reloc.specs.Explained.{has_row}

-- an entry of the table is one of the section
pub row_is : (file : List ℕ) (header rela : ℕ) (table : TableRange) → table.at ≡ sh_offset file header → table.count ≡ entry_count file header RELA_SIZE
    → table.entry ≡ 24 → has_row table rela ≡ has_entry file header rela
unfolding has_entry
row_is file header rela table at count entry =
    let i = (rela - sh_offset file header) / 24 in
    let same : i * 24 ≡ 24 * i = omega arith in
    rw (at, count, entry, same) refl

-- then the table has entries
pub row_some : (table : TableRange) (rela : ℕ) → has_row table rela ≡ true → 0 < table.count
row_some table rela there = grind (arith, nat_tests)

module _ (file : List ℕ) (section rela header : ℕ) where
  pub not_applied : applies_to file section header ≡ false → relocates_at file section rela header ≡ false
  unfolding relocates_at
  not_applied h = rw h refl

  pub not_passed : (fault : Fault) → RefusedBy (relocation_table_checks file header) fault → relocates_at file section rela header ≡ false
  unfolding relocates_at
  not_passed (Refused refusal) h = grind arith
  not_passed (Source fault at) h = absurd h

  pub not_there : has_entry file header rela ≡ false → relocates_at file section rela header ≡ false
  unfolding relocates_at
  not_there h = grind arith

  pub there : applies_to file section header ≡ true → first_refusal (relocation_table_checks file header) ≡ None → has_entry file header rela ≡ true
      → relocates_at file section rela header ≡ true
  unfolding relocates_at
  there applies passes has = rw (applies, passes, has) refl
