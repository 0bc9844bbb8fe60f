-- How the writing of a link ends.
use Rattle.std.proofs.Common.{◌≡◌, ℕ, Bool, true, false, List, Option, Result, Ok, Err}
use Rattle.elf_source.specs.declared.faults.OutFault.{OutFault}
use Rattle.elf_resolve.specs.declared.link_faults.LinkFault.{LinkFault}
use Rattle.elf_resolve.specs.declared.link_faults.LinkFault.TheVariants as fault
use Rattle.elfsee.specs.Links.{AnswersLink, failure_of, lines_end}
use Rattle.elfsee.specs.declared.resolve.LinkFailure.{LinkFailure}

-- lines that were written are what a link did, however the output ended
written_answer : (did : Type 0) (old new : Option (List ℕ)) (shown : Result ℕ OutFault) (failed : Bool) → did → AnswersLink did old new (lines_end shown failed)
unfolding lines_end
written_answer did old new (Ok status) false lines = lines
written_answer did old new (Ok status) true lines = lines
written_answer did old new (Err fault) false lines = lines
written_answer did old new (Err fault) true lines = lines

pub lines_answer : (did : Type 0) (old new : Option (List ℕ)) (answer : Result ℕ LinkFailure) (shown : Result ℕ OutFault) (failed : Bool) → answer ≡ lines_end shown failed → did → AnswersLink did old new answer
lines_answer did old new answer shown failed ends lines = rw ends (written_answer did old new shown failed lines)

-- and a link whose files fail writes nothing
pub failure_answer : (did : Type 0) (old new : Option (List ℕ)) (why : LinkFault) → new ≡ old → AnswersLink did old new (Err (failure_of why))
unfolding failure_of
failure_answer did old new (fault.Refused refusal) same = same
failure_answer did old new fault.Read same = same
failure_answer did old new fault.Open same = same
failure_answer did old new fault.Memory same = same
