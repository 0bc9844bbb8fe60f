-- At which addresses the entries of a table store, chunk by chunk.
use Rattle.std.specs.Prelude.{ℕ, ◌≡◌, ◌+◌, ◌-◌, ◌*◌, ◌/◌, ◌^◌, ◌<◌, ◌≤◌, List, get_or}
use Rattle.elf_model.specs.Numbers.{R_X86_64_COPY, R_X86_64_IRELATIVE}
use Rattle.elf_model.specs.Records.{r_offset, r_type}
use Rattle.elf_image.specs.declared.chunks.EntryChunks.{EntryChunks}

-- an entry stores at an address between two; one of R_X86_64_COPY or R_X86_64_IRELATIVE at any
pub record IsWithinChunk (file : List ℕ) (rela lowest highest : ℕ) : Type 0 where
  pub low : lowest ≤ r_offset file rela
  pub high : highest < 2 ^ 64 - 1 → r_offset file rela ≤ highest
  pub copy : r_type file rela ≡ R_X86_64_COPY → (lowest ≡ 0) × (2 ^ 64 - 1 ≤ highest)
  pub resolved : r_type file rela ≡ R_X86_64_IRELATIVE → (lowest ≡ 0) × (2 ^ 64 - 1 ≤ highest)

-- the entries of a table at an offset, as far as they are noted, are within their chunks
abbrev pub HoldsChunks : List ℕ → (at : ℕ) → EntryChunks → Type 0
HoldsChunks file at chunks =
    (i : ℕ) → i < chunks.noted → IsWithinChunk file (at + 24 * i) (get_or chunks.lowest (i / 8192) 0) (get_or chunks.highest (i / 8192) 0)
