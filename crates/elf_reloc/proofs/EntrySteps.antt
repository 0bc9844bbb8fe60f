-- What an entry yields.
use Rattle.std.proofs.Common.{◌≡◌, ◌≢◌, ℕ, ◌+◌, nat_lt, false, List, None, Some, Result, Ok, Err, arith}
use Rattle.elf_model.specs.Prelude.{ApplyTarget, Fails, Layout, base_value, change_of, entry_checks, entry_value, first_refusal, linked_at, named_value, plt_entry_value, r_offset, r_sym, section_symbol_value, strings_of, symbol_at, symbol_checks_of, symbol_value, system_value, unnamed_value}
use Rattle.elf_model.specs.declared.relocation_types.RelocationBase.TheVariants.{Linkage, Symbol, Table, Thread}
use Rattle.elf_model.specs.declared.causes.Refusal.{Refusal}
use Rattle.elf_model.specs.declared.relocation_types.RelocationBase.{RelocationBase}
use Rattle.elf_model.specs.declared.relocation_types.RelocationType.{RelocationType}
use Rattle.elf_table.specs.Prelude.{RefusedBy}
use Rattle.elf_table.specs.declared.fault.Fault.{Fault}
use Rattle.elf_table.specs.declared.fault.Fault.TheVariants.{Refused, Source}
use Rattle.elf_reloc.specs.Prelude.{Does, ValueOrRefusal, term_of}

-- a value that is there for one entry is there for each that names the symbol
module _ (rela rela' v : ℕ) where
  value_again : (file strings : List ℕ) (layout : Layout) (at : ℕ) → symbol_value file strings layout rela at ≡ Ok v → symbol_value file strings layout rela' at ≡ Ok v
  unfolding symbol_value system_value section_symbol_value entry_value
  value_again file strings layout at h = grind arith

  linkage_again : (file strings : List ℕ) (layout : Layout) (at : ℕ) → plt_entry_value file strings layout rela at ≡ Ok v → plt_entry_value file strings layout rela' at ≡ Ok v
  unfolding plt_entry_value
  linkage_again file strings layout at h = grind (arith, value_again)

  entry_again :
      (items : List (List ℕ × ℕ)) (file strings : List ℕ) (at : ℕ)
      → entry_value items file strings rela at ≡ Ok v → entry_value items file strings rela' at ≡ Ok v
  unfolding entry_value
  entry_again items file strings at h = grind arith

  base_again :
      (base : RelocationBase) (file strings : List ℕ) (layout : Layout) (at : ℕ)
      → base_value base file strings layout rela at ≡ Ok v → base_value base file strings layout rela' at ≡ Ok v
  unfolding base_value
  base_again Symbol file strings layout at h = value_again file strings layout at h
  base_again Linkage file strings layout at h = linkage_again file strings layout at h
  base_again Table file strings layout at h = entry_again layout.table file strings at h
  base_again Thread file strings layout at h = entry_again layout.thread file strings at h

  unnamed_again : (base : RelocationBase) → unnamed_value base rela ≡ Ok v → unnamed_value base rela' ≡ Ok v
  unfolding unnamed_value
  unnamed_again Symbol h = h
  unnamed_again Linkage h = h
  unnamed_again Table h = absurd (cc)
  unnamed_again Thread h = absurd (cc)

  pub term_again :
      (t : ApplyTarget) (header : ℕ) (base : RelocationBase) → r_sym t.file rela ≡ r_sym t.file rela'
      → term_of base t header rela ≡ Ok v → term_of base t header rela' ≡ Ok v
  unfolding term_of named_value
  term_again t header base named h = grind (arith, base_again, unnamed_again)

-- a symbol without a value refuses the entry
unnamed :
    (t : ApplyTarget) (header rela : ℕ) (type : RelocationType) → nat_lt t.size (r_offset t.file rela + type.width) ≡ false
    → (refusal : Refusal) → term_of type.base t header rela ≡ Err refusal → change_of t header rela (Some type) ≡ Fails refusal
unfolding change_of entry_checks term_of
unnamed t header rela type within refusal h = grind arith

pub does_unnamed :
    (t : ApplyTarget) (header rela : ℕ) (type : RelocationType) (fault : Fault) → nat_lt t.size (r_offset t.file rela + type.width) ≡ false
    → ValueOrRefusal {X = ℕ} (Err fault) (term_of type.base t header rela) → Does (Err fault) (change_of t header rela (Some type))
does_unnamed t header rela type (Refused refusal) within h = λ other. unnamed t header rela type within refusal (h other)
does_unnamed t header rela type (Source fault at) within h = tt

-- B of an entry, by the symbol that is found: its checks refuse it, it is symbol 0, or it is one of
-- the table
module _ (t : ApplyTarget) (base : RelocationBase) (header rela symbol : ℕ) (named : symbol ≡ r_sym t.file rela) where
  pub term_refused : (fault : Fault) → RefusedBy (symbol_checks_of t.file header rela symbol) fault → ValueOrRefusal {X = ℕ} (Err fault) (term_of base t header rela)
  unfolding term_of
  term_refused (Refused refusal) by = λ other. grind (arith, named, by)
  term_refused (Source fault at) by = tt

  pub term_unnamed : (result : Result ℕ Fault) → symbol ≡ 0 → ValueOrRefusal result (unnamed_value base rela) → ValueOrRefusal result (term_of base t header rela)
  unfolding term_of named_value
  term_unnamed result zero value = let is : term_of base t header rela ≡ unnamed_value base rela = grind (arith, named, zero) in rw is value

  pub term_found : (result : Result ℕ Fault) (strings : List ℕ) (at : ℕ) → symbol ≢ 0 → first_refusal (symbol_checks_of t.file header rela symbol) ≡ None
      → at ≡ symbol_at t.file (linked_at t.file header) symbol → strings ≡ strings_of t.file (linked_at t.file header)
      → ValueOrRefusal result (base_value base t.file strings t.layout rela at) → ValueOrRefusal result (term_of base t header rela)
  unfolding term_of named_value
  term_found result strings at some passed here names value =
      let is : term_of base t header rela ≡ base_value base t.file strings t.layout rela at = grind (arith, named, some, passed, here, names) in rw is value
