-- What is left of a walk after a step.
use Rattle.std.proofs.Common.{◌≡◌, ℕ, zero, suc, ◌+◌, ◌-◌, ◌*◌, ◌<◌, ◌≤◌, nat_lt, Bool, true, false, if◌then◌else◌, List, ◌⊎◌, inl, inr, Option, Some, Err, option_map, refl, arith}
use Rattle.std.proofs.lemmas.Bool.Decides.{nat_tests}
use Rattle.elf_model.specs.Prelude.{RecordCursorState, Versions, first_refusal, no_versions, record_checks, record_size, visited_at, visited_from, with_visited}
use Rattle.elf_model.specs.declared.causes.Refusal.{Refusal}
use Rattle.elf_model.specs.declared.causes.Cause.TheVariants.{VersionCut}
use Rattle.elf_model.proofs.VersionSteps.{met-most, met-record, met-refused}
use Rattle.elf_table.specs.declared.fault.Fault.{Fault}
use Rattle.elf_table.specs.declared.fault.Fault.TheVariants.{Refused, Source}
use Rattle.elf_note.specs.Prelude.{BufferedTable, IsStep, ReadsRecord, ReturnsMet, record_position_of, unheld}
use Rattle.elf_note.specs.declared.record_position.RecordPosition.{RecordPosition}
use Rattle.elf_note.specs.declared.record_reader.VersionRecordStep.{VersionRecordStep}

-- a record that is not in the table
past : (file : List ℕ) (table size : ℕ) (stand : RecordCursorState) → size < stand.place + record_size stand.kind
    → first_refusal (record_checks file table size stand) ≡ Some (record { at = stand.from; cause = VersionCut })
unfolding record_checks
past file table size stand far =
    let t : nat_lt size (stand.place + record_size stand.kind) ≡ true = grind (arith, nat_tests) in
    rw t refl

-- what is left is malformed if no record may be visited any more, or none is in the table
pub cut-here :
    (file : List ℕ) (table size : ℕ) (stand : RecordCursorState) (left : ℕ) → (left ≡ 0) ⊎ (size < stand.place + record_size stand.kind)
    → visited_from file table size (Some stand) left ≡ no_versions (Some (record { at = stand.from; cause = VersionCut }))
cut-here file table size stand zero why = met-most file table size stand
cut-here file table size stand (suc left) (inl none) = absurd (omega arith)
cut-here file table size stand (suc left) (inr far) = met-refused file table size stand left _ (past file table size stand far)

-- a record that is read is visited
pub step-met :
    (file : List ℕ) (table size : ℕ) (stand : RecordCursorState) (left : ℕ) (step : VersionRecordStep) → 0 < left → IsStep file table size stand step
    → visited_from file table size (Some stand) left
    ≡ with_visited (visited_at table stand) (visited_from file table size (option_map record_position_of step.next) (left - 1))
step-met file table size stand zero step some is = absurd (omega arith)
step-met file table size stand (suc left) step some is =
    let less : suc left - 1 ≡ left = omega arith in
    let leads = is.leads in
    rw (less, leads) (met-record file table size stand left is.passes)

-- one that is refused ends what is left
refused-cuts :
    (file : List ℕ) (table size : ℕ) (stand : RecordCursorState) (left : ℕ) (refusal : Refusal) → 0 < left
    → first_refusal (record_checks file table size stand) ≡ Some refusal
    → visited_from file table size (Some stand) left ≡ no_versions (Some refusal)
refused-cuts file table size stand zero refusal some e = absurd (omega arith)
refused-cuts file table size stand (suc left) refusal some e = met-refused file table size stand left refusal e

pub step-refused :
    (file : List ℕ) (table size : ℕ) (standing : Option RecordPosition) (s : RecordPosition) (left : ℕ) (new : Versions) (fault : Fault)
    → standing ≡ Some s → 0 < left → ReadsRecord file table size (record_position_of s) (Err fault)
    → ReturnsMet file (visited_from file table size (option_map record_position_of standing) left) new (Err fault)
step-refused file table size standing s left new (Refused refusal) is some reads =
    λ other. rw is (refused-cuts file table size (record_position_of s) left refusal some (reads other))
step-refused file table size standing s left new (Source fault at) is some reads = tt

-- a step requests no more than the decrease of the unread bytes
pub step-pays :
    (h : BufferedTable) (left each b : ℕ) → 0 < left → b ≤ each
    → unheld h b ≤ unheld h (left * each) - unheld h ((left - 1) * each)
step-pays h left each b some less = go h.whole left some
  where
    go : (whole : Bool) (left : ℕ) → 0 < left
        → (if whole then 0 else b) ≤ (if whole then 0 else (left * each)) - (if whole then 0 else ((left - 1) * each))
    go true left some = omega arith
    go false zero some = absurd (omega arith)
    go false (suc left) some =
        let one_less : suc left - 1 ≡ left = omega arith in
        let more : suc left * each ≡ each + left * each = grind arith in
        rw (one_less, more) (omega arith)
