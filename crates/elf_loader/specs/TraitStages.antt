-- The traits of a file, stage by stage, and the cost of finding them.
use Rattle.std.specs.Prelude.{ℕ, ◌+◌, ◌-◌, ◌*◌, ◌/◌, List, None, Some, Result, Ok, Err}
use Rattle.elf_model.specs.Prelude.{SYMBOL_SIZE, SymbolTraitFlags, TRAIT_NAME_BYTES, find_symbol_traits, hashed_symbol_count, known_symbols, loaded_traits, name_bytes, properties_asked, segment_traits_cost, symbols_asked, trait_entries_asked, traits_by_segments, traits_cost, traits_of}
use Rattle.elf_model.specs.declared.traits.Hardening.{Hardening}
use Rattle.elf_model.specs.declared.causes.Refusal.{Refusal}
use Rattle.elf_source.specs.Source.{CountedState}
use Rattle.elf_table.specs.Prelude.{CallReads, fault_of_result}
use Rattle.elf_table.specs.declared.fault.Fault.{Fault}
use Rattle.elf_hash.specs.Prelude.{entries_asked, extent_bytes}
use Rattle.elf_loader.specs.Features.{ReturnsValue}
use Rattle.elf_loader.specs.Marks.{ReturnsMarks}
use Rattle.elf_loader.specs.declared.symbol_traits.SymbolTraits.{SymbolTraits}

-- how many bytes symbols request in a file of this size: the words of their hash table, and each
-- with its name
abbrev pub marks_bytes : ℕ → ℕ
marks_bytes size = size + size / 24 * 88

-- how many bytes are requested after a number of program headers, in a file of this size
abbrev pub view_bytes : (segments size : ℕ) → ℕ
view_bytes segments size = size + 16 + size + (segments * size + size) + marks_bytes size

-- the same for a known file, after the counts of its hash table
abbrev pub marks_asked : List ℕ → ℕ
marks_asked file = elim (known_symbols file) [
  | Err refusal ↦ 0
  | Ok None ↦ 0
  | Ok (Some scope) ↦
      extent_bytes file scope + (hashed_symbol_count file scope - 1) * (SYMBOL_SIZE + name_bytes TRAIT_NAME_BYTES)
]

-- the traits of the symbols of a file, if they are known
abbrev pub marks_told : List ℕ → Result SymbolTraitFlags Refusal
marks_told file = elim (known_symbols file) [ Err refusal ↦ Err refusal | Ok scope ↦ find_symbol_traits file scope ]

-- THE TRAITS OF THE SYMBOLS of a known file
pub record FindsMarks (file : List ℕ) (old new : CountedState) (result : Result SymbolTraits Fault) : Type 0 where
  pub costs : CallReads old new (fault_of_result result) (marks_asked file)
  pub finds : ReturnsMarks (marks_told file) result

-- THE TRAITS of a known file, whose program headers are loaded
pub record FindsViewed (file : List ℕ) (old new : CountedState) (result : Result Hardening Fault) : Type 0 where
  pub costs : CallReads old new (fault_of_result result) (entries_asked file + trait_entries_asked file + properties_asked file + symbols_asked file)
  pub finds : ReturnsValue (loaded_traits file) result

-- of one whose header locates no section headers
pub record FindsShown (file : List ℕ) (headers : ℕ) (old new : CountedState) (result : Result Hardening Fault) : Type 0 where
  pub costs : CallReads old new (fault_of_result result) (segment_traits_cost file headers)
  pub finds : ReturnsValue (traits_by_segments file headers) result

-- of any
pub record FindsTraits (file : List ℕ) (headers : ℕ) (old new : CountedState) (result : Result Hardening Fault) : Type 0 where
  pub costs : CallReads old new (fault_of_result result) (traits_cost file headers)
  pub finds : ReturnsValue (traits_of file headers) result
