-- What was written of a section or of a program header as an answer.
use Rattle.std.proofs.Common.{◌≡◌, ℕ, if◌then◌else◌, Bool, true, false, List, [], Option, None, Some, Result, Ok, Err, refl, arith}
use Rattle.elf_model.specs.Archive.{FileRange}
use Rattle.elf_model.specs.BytesQuery.{BytesQuery, bytes_answer, bytes_status, bytes_text, queried_range}
use Rattle.elf_model.specs.Prelude.{IsBudgetRefusal, refusal_line}
use Rattle.elf_model.specs.declared.formats.Format.TheVariants.{Columns}
use Rattle.elf_model.specs.declared.causes.Refusal.{Refusal}
use Rattle.elf_source.specs.Prelude.{CountedState, OutState, SinkTakesPrefix}
use Rattle.elf_source.proofs.PutsLaws.{SinkTakes-nothing, SinkTakesPrefix-more}
use Rattle.elf_table.specs.declared.run_fault.RunFault.{RunFault}
use Rattle.elf_table.specs.declared.run_fault.RunFault.TheVariants.{Refused, Source, Out}
use Rattle.elf_reloc.specs.Prelude.{ApplySays, BudgetTooSmall}
use Rattle.elf_reloc.specs.Queried.{WritesFound, found_bytes}
use Rattle.elf_requests.specs.Prelude.{WroteAnswer}
use Rattle.elf_requests.proofs.TaskLaws.{StopsIn}

-- the bytes were written, or there is no section of the name
pub bytes_wrote : (a b : OutState) (written : Bool) (file : List ℕ) (answer : Result (Option FileRange) Refusal) → WritesFound a b (Ok written) file answer
    → WroteAnswer a b (Ok (if written then 0 else 1)) (record { text = bytes_text file answer; status = bytes_status answer })
bytes_wrote a b true file answer wrote = rw wrote.1 (wrote.2, refl)
bytes_wrote a b false file answer wrote = rw (wrote.0, wrote.1) (SinkTakes-nothing a, refl)

-- a prefix of the bytes is one of the answer's text
front_of_bytes : {old new : OutState} (file : List ℕ) (answer : Result (Option FileRange) Refusal) → SinkTakesPrefix old new (found_bytes file answer) → SinkTakesPrefix old new (bytes_text file answer)
front_of_bytes file (Ok (Some range)) front = front
front_of_bytes file (Ok None) front = front
front_of_bytes file (Err refusal) front = SinkTakesPrefix-more [] (refusal_line Columns refusal) front

-- when the writing stopped
pub bytes_stops : (s1 s2 : CountedState) (a b out : OutState) (file : List ℕ) (headers : ℕ) (query : BytesQuery) (n cost : ℕ) (stop : RunFault) → ApplySays s1 s2 out n stop → BudgetTooSmall s1 cost stop
    → WritesFound a b (Err stop) file (queried_range file headers query) → StopsIn Columns s1 cost a b (bytes_answer file headers query) stop
bytes_stops s1 s2 a b out file headers query n cost (Refused refusal) says wants wrote =
    (λ budget. let over = wants budget in ((says budget).0, (over.most, over.is_set, over.above)), wrote.1, λ other. rw (wrote.0 other) refl)
bytes_stops s1 s2 a b out file headers query n cost (Source fault at) says wants wrote = front_of_bytes file (queried_range file headers query) wrote
bytes_stops s1 s2 a b out file headers query n cost (Out fault) says wants wrote = front_of_bytes file (queried_range file headers query) wrote
