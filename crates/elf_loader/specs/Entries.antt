-- The values of the first dynamic entries with each of the tags that affect hardening.
use Rattle.std.specs.Prelude.{ℕ, ◌≡◌, List, Option, None, Some, Result, Ok, Err}
use Rattle.elf_model.specs.Prelude.{DT_BIND_NOW, DT_FLAGS, DT_FLAGS_1, DT_RPATH, DT_RUNPATH, DT_SONAME, DT_TEXTREL, IsBudgetRefusal, dynamic_entry_value, dynamic_segment_index, first_refusal, listed_value, segment_at, segment_dynamic_checks, trait_entries_asked}
use Rattle.elf_model.specs.declared.causes.Refusal.{Refusal}
use Rattle.elf_source.specs.Source.{CountedState}
use Rattle.elf_table.specs.Prelude.{CallReads, TableRange, fault_of_result}
use Rattle.elf_table.specs.declared.fault.Fault.{Fault}
use Rattle.elf_table.specs.declared.fault.Fault.TheVariants.{Refused, Source}
use Rattle.elf_note.specs.DynCursors.{first_value, value_here}
use Rattle.elf_loader.specs.declared.trait_tags.TraitTags.{TraitTags}

-- a predicate holds of the value with each tag
pub record EachValue (P : Option ℕ → ℕ → Type 0) (found : TraitTags) : Type 0 where
  pub soname : P found.soname DT_SONAME
  pub rpath : P found.rpath DT_RPATH
  pub runpath : P found.runpath DT_RUNPATH
  pub textrel : P found.textrel DT_TEXTREL
  pub bind_now : P found.bind_now DT_BIND_NOW
  pub flags : P found.flags DT_FLAGS
  pub flags_1 : P found.flags_1 DT_FLAGS_1

-- no value
abbrev pub no_values : TraitTags
no_values = record { soname = None; rpath = None; runpath = None; textrel = None; bind_now = None; flags = None; flags_1 = None }

-- the entry at an offset is added after others
pub record TakesValues (file : List ℕ) (at : ℕ) (old new : TraitTags) : Type 0 where
  pub soname : new.soname ≡ first_value old.soname (value_here file at DT_SONAME)
  pub rpath : new.rpath ≡ first_value old.rpath (value_here file at DT_RPATH)
  pub runpath : new.runpath ≡ first_value old.runpath (value_here file at DT_RUNPATH)
  pub textrel : new.textrel ≡ first_value old.textrel (value_here file at DT_TEXTREL)
  pub bind_now : new.bind_now ≡ first_value old.bind_now (value_here file at DT_BIND_NOW)
  pub flags : new.flags ≡ first_value old.flags (value_here file at DT_FLAGS)
  pub flags_1 : new.flags_1 ≡ first_value old.flags_1 (value_here file at DT_FLAGS_1)

-- they are those of the first listed entries of a table
abbrev pub AreListedValues : List ℕ → TableRange → TraitTags → Type 0
AreListedValues file table found = EachValue (λ value tag. value ≡ listed_value file table.at table.count tag) found

-- they are those of a file
abbrev pub AreTraitEntries : List ℕ → TraitTags → Type 0
AreTraitEntries file found = EachValue (λ value tag. value ≡ dynamic_entry_value file tag) found

-- the first PT_DYNAMIC segment is refused
pub record EntriesRefused (file : List ℕ) (refusal : Refusal) : Type 0 where
  pub index : ℕ
  pub first : dynamic_segment_index file ≡ Some index
  pub fails : first_refusal (segment_dynamic_checks file (segment_at file index)) ≡ Some refusal

-- the values are those of a file, or its entries are refused, unless that is `Budget`
abbrev pub ReturnsTraitEntries : List ℕ → Result TraitTags Fault → Type 0
ReturnsTraitEntries file (Ok found) = AreTraitEntries file found
ReturnsTraitEntries file (Err (Refused refusal)) = (IsBudgetRefusal refusal → ⊥) → EntriesRefused file refusal
ReturnsTraitEntries file (Err (Source fault at)) = Unit {0}

-- THE VALUES OF THE DYNAMIC ENTRIES of a known file
pub record FindsTraitEntries (file : List ℕ) (old new : CountedState) (result : Result TraitTags Fault) : Type 0 where
  pub costs : CallReads old new (fault_of_result result) (trait_entries_asked file)
  pub finds : ReturnsTraitEntries file result
