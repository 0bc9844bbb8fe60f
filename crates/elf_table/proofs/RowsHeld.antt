-- The rows of one size that some bytes are.
use Rattle.std.proofs.Common.{◌≡◌, ℕ, zero, suc, ◌+◌, ◌*◌, ◌<◌, ◌≤◌, List, [], take, Result, Ok, Err, OnOk, sym, ap, ◌∙◌, arith, mul-suc}
use Rattle.std.specs.Prelude.{slice_index_or}
use Rattle.std.proofs.Math.Nat.{mul-le-mul_left}
use Rattle.elf_model.specs.Bytes.{slice}
use Rattle.elf_model.proofs.Slices.{slice-slice}
use Rattle.elf_table.specs.Prelude.{AreRowSlices, rows_from}
use Rattle.elf_table.specs.declared.fault.Fault.{Fault}

-- the row of an index
pub row_held : (bytes : List ℕ) (at entry count i : ℕ) → i < count → slice_index_or (rows_from bytes at entry count) i [] ≡ slice bytes (at + entry * i) entry
unfolding rows_from
row_held bytes at entry zero i below = absurd (omega arith)
row_held bytes at entry (suc count) zero below = ap (λ (x : ℕ). slice bytes x entry) (omega arith)
row_held bytes at entry (suc count) (suc i) below =
    row_held bytes (at + entry) entry count i (omega arith) ∙ ap (λ (x : ℕ). slice bytes x entry) (omega arith)

-- the same for rows at the start
pub row_front : (bytes : List ℕ) (entry count i : ℕ) → i < count → slice_index_or (rows_from bytes 0 entry count) i [] ≡ slice bytes (entry * i) entry
row_front bytes entry count i below = row_held bytes 0 entry count i below ∙ ap (λ (x : ℕ). slice bytes x entry) (omega arith)

-- a row ends within the rows
rows-within : (entry i count : ℕ) → i < count → entry * i + entry ≤ entry * count
rows-within entry i count below = rw (← mul-suc entry i) (mul-le-mul_left entry (omega arith))

-- bytes that were read to the start are a file's rows
pub rows_read_ok : (result : Result (Unit {0}) Fault) (entry : ℕ) (file bytes : List ℕ) (from count : ℕ) → OnOk result (take (entry * count) bytes ≡ slice file from (entry * count))
    → OnOk result (AreRowSlices file from entry count (rows_from bytes 0 entry count))
rows_read_ok (Ok x) entry file bytes from count read = λ i below.
    let within : entry * i + entry ≤ entry * count = rows-within entry i count below in
    row_held bytes 0 entry count i below
    ∙ ap (λ (x : ℕ). slice bytes x entry) (omega arith)
    ∙ sym (slice-slice bytes 0 (entry * count) (entry * i) entry within)
    ∙ ap (λ (x : List ℕ). slice x (entry * i) entry) read
    ∙ slice-slice file from (entry * count) (entry * i) entry within
rows_read_ok (Err fault) entry file bytes from count read = tt
