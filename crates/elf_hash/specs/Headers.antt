-- What is found by the headers of a loaded file.
use Rattle.std.specs.Prelude.{ℕ, ◌≡◌, ◌^◌, ◌<◌, List, Result, IfOk, IfErr}
use Rattle.elf_source.specs.Source.{CountedState}
use Rattle.elf_table.specs.Prelude.{IsOfCheck, LoadedFile, StoreState}
use Rattle.elf_table.specs.declared.fault.Fault.{Fault}

-- a loaded file is as long as the source, and offsets in it may be added
pub record IsOfSource (src : CountedState) (loaded : LoadedFile) : Type 0 where
  pub size : loaded.size ≡ src.seen.size
  pub small : loaded.size < 2 ^ 63

-- the index of a header is below the count, and offsets in a file of this size may be added
pub record HasHeader (index count size : ℕ) : Type 0 where
  pub below : index < count
  pub small : size < 2 ^ 63

-- WHAT IS FOUND by the headers of a loaded file: it lies within the file, or a check refuses; and
-- if the file's bytes are known, the statement holds of them
pub record FindsIn {X : Type 0} (Of : List ℕ → LoadedFile → StoreState → Type 0) (loaded : LoadedFile) (store : StoreState) (result : Result X Fault) (Lies : ℕ → X → Type 0) (Tells : List ℕ → Type 0) : Type 0 where
  pub held : (bytes : List ℕ) → Of bytes loaded store → Tells bytes
  pub within : IfOk result (Lies loaded.size)
  pub refusal : IfErr result IsOfCheck
