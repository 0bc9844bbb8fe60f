-- The stack of a relocatable file, as it is found.
use Rattle.std.specs.Prelude.{ℕ, ◌≡◌, ◌+◌, ◌*◌, ◌≤◌, ◌++◌, ◌∷◌, true, false, Bool, List, Option, None, Some, Result, Ok, Err}
use Rattle.elf_model.specs.Prelude.{IsBudgetRefusal, e_shstrndx, e_shnum, first_refusal, first_that, header_checks, is_stack_section, load_checks, section_at, sections_asked, segment_traits_cost, stack_by_sections, traits_by_segments, without_sections}
use Rattle.elf_model.specs.Tables.{section_bytes}
use Rattle.elf_model.specs.declared.causes.Refusal.{Refusal}
use Rattle.elf_model.specs.declared.traits.Hardening.{Hardening}
use Rattle.elf_source.specs.Source.{CountedState}
use Rattle.elf_table.specs.Prelude.{CallReads, HoldsSectionHeaders, IsOfRead, LoadedFile, StoreState, StringTableRange, fault_of_result, strings_in}
use Rattle.elf_table.specs.declared.fault.Fault.{Fault}
use Rattle.elf_table.specs.declared.fault.Fault.TheVariants.{Refused, Source}
use Rattle.elf_loader.specs.Features.{ReturnsValue}

-- a value is found, or a read failed
abbrev pub FoundUnlessRead : {X : Type 0} → X → Result X Fault → Type 0
FoundUnlessRead value (Ok found) = value ≡ found
FoundUnlessRead value (Err fault) = IsOfRead fault

-- a fault is the refusal of a check; or it is one of a read
abbrev pub IsRefusedByCheck : Fault → Bool → Type 0
IsRefusedByCheck fault true = (refusal : Refusal) × (fault ≡ Refused refusal) × (IsBudgetRefusal refusal → ⊥)
IsRefusedByCheck fault false = IsOfRead fault

-- a file was loaded: of this size, with no more section headers than there are slots
pub record IsOpenIn (bytes slots : ℕ) (store : StoreState) (loaded : LoadedFile) : Type 0 where
  pub size : loaded.size ≡ bytes
  pub count : store.loaded ≡ loaded.header.e_shnum
  pub few : store.loaded ≤ slots

-- the result of loading a known file, and what it requests: the file header and all section headers;
-- or the first check that fails, unless the refusal is `Budget`, within what the stack may
pub record HoldsLoaded (file : List ℕ) (headers : ℕ) (store : StoreState) (loaded : LoadedFile) : Type 0 where
  pub header : first_refusal (header_checks file) ≡ None
  pub load : first_refusal (load_checks file headers) ≡ None
  pub belongs : HoldsSectionHeaders file loaded store

abbrev pub LoadsAs : List ℕ → (headers : ℕ) → StoreState → Result LoadedFile Fault → Type 0
LoadsAs file headers store (Ok loaded) = HoldsLoaded file headers store loaded
LoadsAs file headers store (Err (Refused refusal)) = (IsBudgetRefusal refusal → ⊥) → first_refusal (header_checks file ++ load_checks file headers) ≡ Some refusal
LoadsAs file headers store (Err (Source fault at)) = Unit {0}

abbrev pub load_asked : List ℕ → (headers : ℕ) → Result LoadedFile Fault → ℕ
load_asked file headers (Ok loaded) = 64 + 64 * e_shnum file
load_asked file headers (Err fault) = sections_asked file headers

pub record LoadsForStack (file : List ℕ) (headers : ℕ) (store : StoreState) (old new : CountedState) (result : Result LoadedFile Fault) : Type 0 where
  pub costs : CallReads old new (fault_of_result result) (load_asked file headers result)
  pub loads : LoadsAs file headers store result

-- the names of a file's sections
abbrev pub AreSectionNames : List ℕ → StringTableRange → Type 0
AreSectionNames file names = strings_in file names ≡ section_bytes file (section_at file (e_shstrndx file))

-- the first of some sections, from an index on, that has the name
abbrev pub stack_section_from : List ℕ → (index : ℕ) → (count : ℕ) → Option ℕ
stack_section_from file index count = first_that (is_stack_section file) index count

-- THE STACK of a known file by its sections
pub record FindsStack (file : List ℕ) (headers : ℕ) (old new : CountedState) (result : Result (Option Bool) Fault) : Type 0 where
  pub costs : CallReads old new (fault_of_result result) (sections_asked file headers)
  pub finds : FoundUnlessRead (stack_by_sections file headers) result

-- THE TRAITS of a known file by its segments
pub record FindsMasked (file : List ℕ) (headers : ℕ) (old new : CountedState) (result : Result Hardening Fault) : Type 0 where
  pub costs : CallReads old new (fault_of_result result) (segment_traits_cost (without_sections file) headers)
  pub finds : ReturnsValue (traits_by_segments (without_sections file) headers) result
