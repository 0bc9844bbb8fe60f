-- The first PT_DYNAMIC segment, as a pass over its entries finds it.
use Rattle.std.proofs.Common.{◌≡◌, ℕ, ◌*◌, ◌/◌, ◌≤◌, List, Some, Ok, Err, refl, ap, arith}
use Rattle.std.proofs.Math.Nat.{div-mul-le_self}
use Rattle.elf_model.specs.Prelude.{dynamic_segment_index, p_filesz, p_offset, segment_at, segment_dynamic_checks, trait_entries_asked}
use Rattle.elf_table.specs.Prelude.{IsOfRead, TableRange, dynamic_table_at, rows, size_of}
use Rattle.elf_table.specs.declared.fault.Fault.{Fault}
use Rattle.elf_table.specs.declared.fault.Fault.TheVariants.{Refused, Source}
use Rattle.elf_hash.proofs.FoundLaws.{dynamic_is}
use Rattle.elf_hash.proofs.SettleLaws.{checked_fails}
use Rattle.elf_loader.specs.Entries.{ReturnsTraitEntries}

module _ (file : List ℕ) (i : ℕ) (e : dynamic_segment_index file ≡ Some i) where
  -- its checks fail
  pub entries_refused : (fault : Fault) → Err fault ≡ dynamic_table_at file (segment_at file i) → ReturnsTraitEntries file (Err fault)
  entries_refused (Refused refusal) h = λ other.
      let at = segment_at file i in
      record { index = i; first = e; fails = checked_fails (segment_dynamic_checks file at) (rows (p_offset file at) (p_filesz file at / 16) 16) (Refused refusal) h }
  entries_refused (Source fault at) h = tt

  -- they pass, and what is requested is what the table has
  pub entries_within : (table : TableRange) → Ok table ≡ dynamic_table_at file (segment_at file i) → size_of table ≤ trait_entries_asked file
  unfolding trait_entries_asked
  entries_within table h =
      let at = segment_at file i in
      let is = dynamic_is file i e table h in
      let asked : trait_entries_asked file ≡ p_filesz file at = rw (e, is.0, trait_entries_asked) refl in
      let size : p_filesz file at / 16 * 16 ≡ size_of table = ap size_of is.1 in
      let low = div-mul-le_self (p_filesz file at) 16 in
      omega (arith, asked, size, low)

-- a fault of a read implies nothing
pub read_entries : (file : List ℕ) (fault : Fault) → IsOfRead fault → ReturnsTraitEntries file (Err fault)
read_entries file (Refused refusal) budget = λ other. absurd (other budget)
read_entries file (Source fault at) budget = tt
