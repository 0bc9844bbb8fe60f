-- The symbol of an entry, and its checks.
use Rattle.std.proofs.Common.{◌≡◌, ℕ, ◌+◌, ◌*◌, ◌<◌, ◌==◌, true, false, List, None, Some, Result, Ok, Err, IfErr, IfOk, refl, sym, ap, subst, ◌∙◌, arith}
use Rattle.std.specs.Prelude.{IfSome}
use Rattle.std.proofs.lemmas.Bool.{lt-ltb, ne_eqb}
use Rattle.elf_model.specs.Checks.{first_refusal}
use Rattle.elf_model.specs.ImageValues.{dynamic_symbol_checks, entry_symbol, is_thread_local, uses_no_symbol}
use Rattle.elf_model.specs.LoaderScope.{segment_symbols}
use Rattle.elf_model.specs.Prelude.{r_sym}
use Rattle.elf_model.specs.declared.causes.Cause.TheVariants.{Unsupported}
use Rattle.elf_model.specs.declared.causes.Refusal.{Refusal}
use Rattle.elf_model.specs.declared.dynamic_types.DynamicType.{DynamicType}
use Rattle.elf_model.specs.declared.dynamic_types.DynamicType.TheVariants as type
use Rattle.elf_record.specs.Sym.{IsSym}
use Rattle.elf_record.specs.declared.sym.Sym.{Sym}
use Rattle.elf_table.specs.Prelude.{IsAt, TableRange, fault_of_result, row_at}
use Rattle.elf_table.specs.declared.fault.Fault.{Fault}
use Rattle.elf_table.specs.declared.fault.Fault.TheVariants.{Refused, Source}
use Rattle.elf_image.specs.Relocated.{AreEntrySymbols, ReadsAfter, located_symbol_checks}
use Rattle.elf_image.specs.Values.{IsUsed}

-- why a call stopped, by what its fault is
pub stop_says : {X : Type 0} (P : Fault → Type 0) (result : Result X Fault) → IfErr result P → IfSome (fault_of_result result) P
stop_says P (Ok x) p = tt
stop_says P (Err fault) p = p

-- the symbol of an index among those that are located
module _ (file : List ℕ) (at rela index : ℕ) (table : TableRange) (are : AreEntrySymbols file at (Some table)) where
  symbol_place : row_at table index ≡ (segment_symbols file at).0 + 24 * index
  symbol_place = ap (λ (t : TableRange). row_at t index) are.1 ∙ omega arith

  pub symbol_within : index < table.count → first_refusal (located_symbol_checks file at rela index) ≡ None
  symbol_within low =
      let below : index < (segment_symbols file at).1 = subst (λ (t : TableRange). index < t.count) are.1 low in
      rw (are.0.1, lt-ltb index (segment_symbols file at).1 below) refl

  pub symbol_reads : (result : Result Sym Fault) → index < table.count → IfErr result (IsAt (row_at table index)) → IfOk result (IsSym file (row_at table index))
      → ReadsAfter (located_symbol_checks file at rela index) (IsSym file ((segment_symbols file at).0 + 24 * index)) result
  symbol_reads (Ok symbol) low stop read = (symbol_within low, subst (λ (place : ℕ). IsSym file place symbol) symbol_place read)
  symbol_reads (Err (Refused refusal)) low stop read = λ other. absurd (other (ap (λ (r : Refusal). r.cause) stop))
  symbol_reads (Err (Source fault offset)) low stop read = tt

-- THE CHECKS by the type and the index of the symbol
module _ (file : List ℕ) (at rela : ℕ) (kind : DynamicType) where
  pub unused_passes : uses_no_symbol kind ≡ true → first_refusal (dynamic_symbol_checks kind file at rela) ≡ None
  unfolding dynamic_symbol_checks
  unused_passes unused = rw (unused, dynamic_symbol_checks) refl

  module _ (uses : uses_no_symbol kind ≡ false) where
    pub thread_passes : r_sym file rela ≡ 0 → is_thread_local kind ≡ true → first_refusal (dynamic_symbol_checks kind file at rela) ≡ None
    unfolding dynamic_symbol_checks
    thread_passes zero local = rw (uses, zero, local, dynamic_symbol_checks) refl

    pub unnamed_refused : r_sym file rela ≡ 0 → is_thread_local kind ≡ false
        → first_refusal (dynamic_symbol_checks kind file at rela) ≡ Some (record { at = rela; cause = Unsupported })
    unfolding dynamic_symbol_checks
    unnamed_refused zero local = rw (uses, zero, local, dynamic_symbol_checks) refl

    pub named_checks : (r_sym file rela == 0) ≡ false → first_refusal (dynamic_symbol_checks kind file at rela) ≡ first_refusal (located_symbol_checks file at rela (r_sym file rela))
    unfolding dynamic_symbol_checks
    named_checks some = rw (uses, some, dynamic_symbol_checks) refl

-- THE SYMBOL that is used by a type
module _ (file : List ℕ) (place index : ℕ) (symbol : Sym) where
  -- a type that uses none
  pub unused : (kind : DynamicType) → uses_no_symbol kind ≡ true → IsUsed kind file place index symbol
  unused type.Relative no_use = tt
  unused type.Resolved no_use = tt
  unused type.Absolute no_use = cc
  unused type.Address no_use = cc
  unused type.Call no_use = cc
  unused type.Low no_use = cc
  unused type.RelativeLow no_use = cc
  unused type.Module no_use = cc
  unused type.BlockOffset no_use = cc
  unused type.ThreadOffset no_use = cc
  unused type.Copy no_use = cc
  unused type.Descriptor no_use = cc

  -- symbol 0 of a thread-local type
  pub own_block : (kind : DynamicType) → is_thread_local kind ≡ true → index ≡ 0 → IsUsed kind file place index symbol
  own_block type.Relative local zero = tt
  own_block type.Resolved local zero = tt
  own_block type.Absolute local zero = cc
  own_block type.Address local zero = cc
  own_block type.Call local zero = cc
  own_block type.Low local zero = cc
  own_block type.RelativeLow local zero = cc
  own_block type.Module local zero = λ some. absurd (some zero)
  own_block type.BlockOffset local zero = λ some. absurd (some zero)
  own_block type.ThreadOffset local zero = λ some. absurd (some zero)
  own_block type.Copy local zero = cc
  own_block type.Descriptor local zero = λ some. absurd (some zero)

  -- another one that is read
  used : (kind : DynamicType) → IsSym file place symbol → IsUsed kind file place index symbol
  used type.Relative is = tt
  used type.Resolved is = tt
  used type.Absolute is = is
  used type.Address is = is
  used type.Call is = is
  used type.Low is = is
  used type.RelativeLow is = is
  used type.Module is = λ some. is
  used type.BlockOffset is = λ some. is
  used type.ThreadOffset is = λ some. is
  used type.Copy is = is
  used type.Descriptor is = λ some. is

-- the result for a symbol of an index other than 0
module _ (file : List ℕ) (at rela index : ℕ) (kind : DynamicType) (uses : uses_no_symbol kind ≡ false) (some : index ≡ 0 → ⊥) (is : index ≡ r_sym file rela) where
  same_checks : first_refusal (dynamic_symbol_checks kind file at rela) ≡ first_refusal (located_symbol_checks file at rela index)
  same_checks =
      let other : (r_sym file rela == 0) ≡ false = ne_eqb (r_sym file rela) 0 (λ zero. some (is ∙ zero)) in
      named_checks file at rela kind uses other ∙ ap (λ (i : ℕ). first_refusal (located_symbol_checks file at rela i)) (sym is)

  pub used_reads : (result : Result Sym Fault) → ReadsAfter (located_symbol_checks file at rela index) (IsSym file ((segment_symbols file at).0 + 24 * index)) result
      → ReadsAfter (dynamic_symbol_checks kind file at rela) (IsUsed kind file (entry_symbol file at rela) index) result
  used_reads (Ok symbol) reads =
      let here = subst (λ (i : ℕ). IsSym file ((segment_symbols file at).0 + 24 * i) symbol) is reads.1 in
      (same_checks ∙ reads.0, used file (entry_symbol file at rela) index symbol kind here)
  used_reads (Err (Refused refusal)) reads = λ other. same_checks ∙ reads other
  used_reads (Err (Source fault offset)) reads = tt
