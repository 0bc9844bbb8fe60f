-- Loading a file that locates no section headers: its file header and its program headers.
use Rattle.std.specs.Prelude.{ℕ, ◌≡◌, ◌+◌, ◌*◌, ◌^◌, ◌<◌, ◌≤◌, List, ◌++◌, is_none, None, Some, Result, Ok, Err}
use Rattle.elf_model.specs.Prelude.{FILE_HEADER_SIZE, IsBudgetRefusal, PROGRAM_HEADER_SIZE, before_headers, cost_where, e_phnum, first_refusal, header_checks, load_checks}
use Rattle.elf_source.specs.Source.{CountedState}
use Rattle.elf_table.specs.Prelude.{CallReads, HoldsProgramHeaders, LoadedFile, StoreState, fault_of_result}
use Rattle.elf_table.specs.declared.fault.Fault.{Fault}
use Rattle.elf_table.specs.declared.fault.Fault.TheVariants.{Refused, Source}

-- how many bytes it requests: the file header, and if the early checks pass the program headers
abbrev pub segments_load_cost : List ℕ → ℕ → ℕ
segments_load_cost file headers = FILE_HEADER_SIZE + cost_where (is_none (first_refusal (before_headers file headers))) (PROGRAM_HEADER_SIZE * e_phnum file)

-- for every source: the file is as long as it, and its program headers are loaded, no more than the
-- store has slots
pub record FitsSource (size : ℕ) (store : StoreState) (loaded : LoadedFile) : Type 0 where
  pub same_size : loaded.size ≡ size
  pub small : loaded.size < 2 ^ 63
  pub whole : store.segments ≡ loaded.header.e_phnum
  pub few : store.segments ≤ store.slots

-- the checks pass, and the store holds the program headers; or the first check that fails, unless a
-- read failed
abbrev pub LoadsSegments : List ℕ → ℕ → StoreState → Result LoadedFile Fault → Type 0
LoadsSegments file headers store (Ok loaded) = (first_refusal (header_checks file ++ load_checks file headers) ≡ None) × HoldsProgramHeaders file loaded store
LoadsSegments file headers store (Err (Refused refusal)) = (IsBudgetRefusal refusal → ⊥) → first_refusal (header_checks file ++ load_checks file headers) ≡ Some refusal
LoadsSegments file headers store (Err (Source fault at)) = Unit {0}

-- THE LOAD of a known file, under a limit on headers: its cost, and its result
pub record LoadsShown (file : List ℕ) (headers : ℕ) (store : StoreState) (old new : CountedState) (result : Result LoadedFile Fault) : Type 0 where
  pub costs : CallReads old new (fault_of_result result) (segments_load_cost file headers)
  pub loads : LoadsSegments file headers store result
