-- What a relocation entry stores, as the code has it, in the terms of the model.
use Rattle.std.specs.Prelude.{ℕ, ◌≡◌, ◌+◌, ◌≤◌, IfSome, true, false, List, [], ◌∷◌, length, Option, None, Some, Result, Ok, Err}
use Rattle.elf_model.specs.Prelude.{ApplyTarget, Fails, IsBudgetRefusal, Put, SectionChange, StoredBytes, first_refusal, layout_names_cost, named_value, place_value, r_sym, symbol_checks, takes_place}
use Rattle.elf_model.specs.declared.causes.Cause.{Cause}
use Rattle.elf_model.specs.declared.relocation_types.Formula.{Formula}
use Rattle.elf_model.specs.declared.causes.Refusal.{Refusal}
use Rattle.elf_model.specs.declared.relocation_types.RelocationBase.{RelocationBase}
use Rattle.elf_reloc.specs.Types.{patched_bytes}
use Rattle.elf_source.specs.Source.{CountedState}
use Rattle.elf_table.specs.Prelude.{CallReads, RefersTo}
use Rattle.elf_table.specs.declared.fault.Fault.{Fault}
use Rattle.elf_table.specs.declared.fault.Fault.TheVariants.{Refused, Source}
use Rattle.elf_reloc.specs.declared.entry.PlacedPatch.{PlacedPatch}
use Rattle.elf_reloc.specs.declared.entry.RelocationSymbols.{RelocationSymbols}
use Rattle.elf_reloc.specs.declared.entry.CachedAddress.{CachedAddress}
use Rattle.elf_reloc.specs.declared.entry.ApplyTarget.{ApplyTarget as TargetCode}

-- the target of relocations
abbrev pub target_as : List ℕ → TargetCode → ApplyTarget
target_as file target = record { file = file; section = target.section; size = target.size; layout = target.layout.now }

-- the bytes that are stored
abbrev pub patch_as : PlacedPatch → StoredBytes
patch_as placed = record { at = placed.offset; bytes = patched_bytes placed.patch }

-- they lie within a size
abbrev pub IsPlacedInside : ℕ → PlacedPatch → Type 0
IsPlacedInside size placed = placed.offset + length (patched_bytes placed.patch) ≤ size

-- the result for an entry: nothing, bytes that are stored, or its fault, unless that is `Budget`
abbrev pub Changes : Result (Option PlacedPatch) Fault → List SectionChange → Type 0
Changes (Ok None) changes = changes ≡ []
Changes (Ok (Some placed)) changes = changes ≡ Put (patch_as placed) ∷ []
Changes (Err (Refused refusal)) changes = (IsBudgetRefusal refusal → ⊥) → changes ≡ Fails refusal ∷ []
Changes (Err (Source fault at)) changes = Unit {0}

-- the result for an entry of a type: bytes that are stored, or its fault, unless that is `Budget`
abbrev pub Does : Result PlacedPatch Fault → SectionChange → Type 0
Does (Ok placed) change = change ≡ Put (patch_as placed)
Does (Err (Refused refusal)) change = (IsBudgetRefusal refusal → ⊥) → change ≡ Fails refusal
Does (Err (Source fault at)) change = Unit {0}

-- a value, or the cause of its absence at an offset
abbrev pub value_or : Option ℕ → ℕ → Cause → Result ℕ Refusal
value_or (Some value) at cause = Ok value
value_or None at cause = Err (record { at = at; cause = cause })

-- B, if the symbol's checks pass
unfoldable pub term_of : RelocationBase → ApplyTarget → ℕ → ℕ → Result ℕ Refusal
term_of base target at rela =
    elim (first_refusal (symbol_checks target.file at rela)) [
      | Some refusal ↦ Err refusal
      | None ↦ named_value base target at rela
    ]

-- P if the formula uses it, otherwise 0
unfoldable pub taken_place : Formula → ApplyTarget → ℕ → Result ℕ Refusal
taken_place formula target rela =
    elim (takes_place formula) [
      | true ↦ place_value target.file target.layout target.section rela
      | false ↦ Ok 0
    ]

-- the address that an entry used of a symbol is that which each entry uses that names it in the
-- same way
abbrev IsSymbolTaken : List ℕ → TargetCode → ℕ → CachedAddress → Type 0
IsSymbolTaken file target header taken =
    (rela : ℕ) → taken.symbol ≡ r_sym file rela → term_of taken.base (target_as file target) header rela ≡ Ok taken.value

-- the symbols that the entries of the section with this header refer to, and the address that the
-- last of them used
pub record Refers (file : List ℕ) (target : TargetCode) (header : ℕ) (symbols : RelocationSymbols) : Type 0 where
  pub linked : RefersTo file header symbols.linked
  pub last : IfSome symbols.last (IsSymbolTaken file target header)

-- what an entry requests besides its own bytes: a symbol and names
abbrev pub beside_entry_cost : TargetCode → ℕ
beside_entry_cost target = 24 + layout_names_cost target.layout.now

-- the effect of a call for an entry of a section: its cost, that the symbols stay those that the
-- section's entries refer to, and its result for the entry, which is read from the file
pub record DidFor (before after : CountedState) (target : TargetCode) (old new : RelocationSymbols) (stop : Option Fault) (reads : List ℕ → Type 0) (tells : List ℕ → ℕ → Type 0) : Type 0 where
  pub costs : CallReads before after stop (beside_entry_cost target)
  pub same : new.linked ≡ old.linked
  pub refers : (file : List ℕ) (header : ℕ) → before.seen.file ≡ Some file → Refers file target header old → reads file → Refers file target header new
  pub known : (file : List ℕ) (header : ℕ) → before.seen.file ≡ Some file → Refers file target header old → reads file → tells file header
