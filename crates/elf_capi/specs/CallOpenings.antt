-- The result of opening a table of a file in memory, if limits and room are in range.
use Rattle.std.specs.Prelude.{ℕ, List, Option, None, Some, Result}
use Rattle.elf_model.specs.declared.causes.Refusal.{Refusal}
use Rattle.elf_capi.specs.TableOpenings.{ReadsSectionNames, ReadsRows}
use Rattle.elf_capi.specs.VersionRecords.{ReadsRecords}
use Rattle.elf_capi.specs.declared.kind.RowKind.{RowKind}
use Rattle.elf_table.specs.declared.byte_range.ByteRange.{ByteRange}
use Rattle.elf_capi.specs.declared.records.VersionRecordPosition.{VersionRecordPosition}
use Rattle.elf_capi.specs.declared.rows.RowPosition.{RowPosition}
use Rattle.elf_capi.specs.Limits.{AreInRange, headers_of}
use Rattle.elf_capi.specs.declared.limits.CallerLimits.{CallerLimits}

-- what a call has of a reading, with the given number of headers allowed: limits in range, and room
-- for a header
abbrev pub OpensBy : {A : Type 0} → (ℕ → Result (Option A) Refusal → Type 0) → CallerLimits → ℕ → Option (Result (Option A) Refusal) → Type 0
OpensBy reads limits room (Some read) = AreInRange limits room × reads (headers_of limits room) read
OpensBy reads limits room None = AreInRange limits room → ⊥

-- of a section of rows of a kind
abbrev pub OpensRows : RowKind → List ℕ → CallerLimits → ℕ → ℕ → Option (Result (Option RowPosition) Refusal) → Type 0
OpensRows kind file limits room section opened = OpensBy (λ headers. ReadsRows kind file headers section) limits room opened

-- of the section names
abbrev pub OpensNames : List ℕ → CallerLimits → ℕ → Option (Result (Option ByteRange) Refusal) → Type 0
OpensNames file limits room opened = OpensBy (ReadsSectionNames file) limits room opened

-- of a section of version definitions or needs
abbrev pub OpensRecords : List ℕ → CallerLimits → ℕ → ℕ → Option (Result (Option VersionRecordPosition) Refusal) → Type 0
OpensRecords file limits room section opened = OpensBy (λ headers. ReadsRecords file headers section) limits room opened
