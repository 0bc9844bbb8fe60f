-- How a call ended, as numbers.
use Rattle.std.specs.Prelude.{ℕ, ◌≡◌, Option, None, Some, Result, Ok, Err}
use Rattle.elf_model.specs.declared.causes.Refusal.{Refusal}
use Rattle.elf_capi.specs.declared.end.CallEnd.{CallEnd}
use Rattle.elf_capi.specs.Causes.{cause_number}

-- the cause of a refusal and its file offset
abbrev pub ReturnsCause : CallEnd → Refusal → Type 0
ReturnsCause end refusal = (end.cause ≡ cause_number refusal.cause) × (end.at ≡ refusal.at)

-- no refusal
abbrev pub ReturnsNone : CallEnd → Type 0
ReturnsNone end = (end.cause ≡ 0) × (end.at ≡ 0)

-- nothing to report: no refusal, nothing written and nothing requested
abbrev pub no_end : CallEnd
no_end = record { at = 0; written = 0; asked = 0; cause = 0; none = 0 }

-- a refusal alone
abbrev pub refused_end : Refusal → CallEnd
refused_end refusal = record { at = refusal.at; written = 0; asked = 0; cause = cause_number refusal.cause; none = 0 }

-- A READ OF A ROW AS NUMBERS: status 0 and the row; 2 if there is none, and 1 if the file is
-- refused, with the row unchanged
abbrev pub IsRowReported : {A : Type 0} → ℕ → A → A → CallEnd → Result (Option A) Refusal → Type 0
IsRowReported status old new end (Ok (Some row)) = (status ≡ 0) × (new ≡ row) × (end ≡ no_end)
IsRowReported status old new end (Ok None) = (status ≡ 2) × (new ≡ old) × (end ≡ no_end)
IsRowReported status old new end (Err refusal) = (status ≡ 1) × (new ≡ old) × (end ≡ refused_end refusal)

-- WHAT A CALL READS, AS NUMBERS: a result of that reading, reported so
abbrev pub ReturnsRead : {A : Type 0} → (Result (Option A) Refusal → Type 0) → ℕ → A → A → CallEnd → Type 0
ReturnsRead {A} reads status old new end = (read : Result (Option A) Refusal) × reads read × IsRowReported status old new end read

-- AN OPENED TABLE AS NUMBERS: like a row that is read; status 4, with nothing changed, if a number
-- of the call is out of range
abbrev pub IsOpenedTable : {A : Type 0} → ℕ → A → A → CallEnd → Option (Result (Option A) Refusal) → Type 0
IsOpenedTable status old new end (Some read) = IsRowReported status old new end read
IsOpenedTable status old new end None = (status ≡ 4) × (new ≡ old) × (end ≡ no_end)

-- WHAT A CALL OPENS, AS NUMBERS: a result of that opening, reported so
abbrev pub ReturnsOpened : {A : Type 0} → (Option (Result (Option A) Refusal) → Type 0) → ℕ → A → A → CallEnd → Type 0
ReturnsOpened {A} opens status old new end = (opened : Option (Result (Option A) Refusal)) × opens opened × IsOpenedTable status old new end opened
