-- Bytes of a table that are held, and bytes that are read.
use Rattle.std.proofs.Common.{◌≡◌, ℕ, ◌+◌, ◌≤◌, List, take, IfSome, IfErr, OnOk, Result, Ok, Err, sym, ap, ◌∙◌, arith}
use Rattle.elf_model.specs.Bytes.{slice}
use Rattle.elf_model.proofs.Slices.{slice-slice}
use Rattle.elf_table.specs.Prelude.{IsAt, fault_of_result}
use Rattle.elf_table.specs.declared.fault.Fault.{Fault}
use Rattle.elf_table.specs.declared.fault.Fault.TheVariants.{Refused, Source}
use Rattle.elf_note.specs.Reading.{GivesBytes}

-- a part of the bytes that are held is the file's
pub part-held :
    (file bytes : List ℕ) (at count place n : ℕ) → take count bytes ≡ slice file at count → place + n ≤ count
    → slice bytes place n ≡ slice file (at + place) n
part-held file bytes at count place n held inside =
    let whole : slice bytes 0 count ≡ slice file at count = held in
    let place_is : 0 + place ≡ place = omega arith in
    ap (λ (x : ℕ). slice bytes x n) (sym place_is) ∙ sym (slice-slice bytes 0 count place n inside)
    ∙ ap (λ (x : List ℕ). slice x place n) whole ∙ slice-slice file at count place n inside

-- a read returns bytes of the file, or its fault
pub read-gives :
    {X : Type 0} (wanted bytes : List ℕ) (at : ℕ) (result : Result X Fault) → IfErr result (IsAt at) → OnOk result (bytes ≡ wanted)
    → GivesBytes wanted bytes result
read-gives wanted bytes at (Ok x) fails reads = reads
read-gives wanted bytes at (Err (Refused refusal)) fails reads = cc
read-gives wanted bytes at (Err (Source fault offset)) fails reads = tt

-- a statement on a fault is one on a stop
pub stop-says : {X : Type 0} (P : Fault → Type 0) (result : Result X Fault) → IfErr result P → IfSome (fault_of_result result) P
stop-says P (Ok x) says = tt
stop-says P (Err fault) says = says
