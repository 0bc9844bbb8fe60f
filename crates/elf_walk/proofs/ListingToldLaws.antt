-- What is reported of a file, and what that reads.
use Rattle.std.proofs.Common.{◌≡◌, ℕ, ◌+◌, ◌-◌, ◌≤◌, Bool, true, false, List, Option, None, Some, Result, Ok, Err, option_map, refl, arith}
use Rattle.std.specs.Prelude.{IfSome, IfErr}
use Rattle.elf_model.specs.declared.states.FileMagic.{FileMagic}
use Rattle.elf_model.specs.declared.formats.Format.{Format}
use Rattle.elf_model.specs.declared.states.FileStatus.TheVariants.{Unread}
use Rattle.elf_model.specs.declared.states.FileMagic.TheVariants as sort
use Rattle.elf_source.specs.Prelude.{CountedState, IsSourceFault, KeepsSource, OutState}
use Rattle.elf_source.specs.declared.faults.SourceFault.TheVariants.{Device, Ended}
use Rattle.elf_source.specs.declared.faults.OutFault.{OutFault}
use Rattle.elf_source.specs.declared.faults.SourceFault.{SourceFault}
use Rattle.elf_walk.specs.Prelude.{EndsListing, FailsRead, ListsFile, ToldOf}
use Rattle.elf_walk.specs.declared.options.ListOptions.{ListOptions}
use Rattle.elf_table.specs.declared.run_fault.RunFault.TheVariants.{Out}
use Rattle.elf_table.specs.declared.run_fault.RunFault.{RunFault}
use Rattle.elf_table.specs.declared.run_fault.RunFault.TheVariants.{Refused, Source}
use Rattle.elf_archive.specs.Listed.{ArchiveSays}
use Rattle.elf_walk.specs.ToldListings.{is_unlisted}

-- the magic bytes of a file, and what follows them within what they leave, are within a budget
pub rest_within : (budget : Option ℕ) (before between after : ℕ) → before ≤ between → IfSome budget (λ bytes. between ≤ before + bytes)
    → IfSome (option_map (λ bytes. bytes - (between - before)) budget) (λ bytes. after ≤ between + bytes) → IfSome budget (λ bytes. after ≤ before + bytes)
rest_within None before between after grows within more = tt
rest_within (Some bytes) before between after grows within more = omega (arith, grows, within, more)

-- a read that failed
pub fault_fails : (before after : CountedState) (fault : SourceFault) → IsSourceFault before.seen after.seen fault → FailsRead before after Unread
fault_fails before after Device rose = λ honest. rose
fault_fails before after Ended never = λ honest. absurd (never honest)

pub fault_after : (a b c : CountedState) → KeepsSource a.seen b.seen → FailsRead b c Unread → FailsRead a c Unread
fault_after a b c keeps fails = λ honest. let rose = fails honest in omega (arith, keeps.no_fewer, rose)

-- what is reported of a file that is not of another type
pub file_told : (kind : FileMagic) (rule : ListOptions) (path : List ℕ) (before : CountedState) (old new : OutState) (answer : Result ℕ OutFault) → is_unlisted kind ≡ false
    → ListsFile kind rule path before old new answer → ToldOf (Some kind) rule path before old new answer
file_told sort.Elf rule path before old new answer other lists = lists
file_told sort.Archive rule path before old new answer other lists = lists
file_told sort.Undecided rule path before old new answer other lists = lists
file_told sort.Foreign rule path before old new answer other lists = absurd (cc)
file_told sort.Thin rule path before old new answer other lists = absurd (cc)

-- and of one of which nothing is written
pub nothing_told : (kind : FileMagic) (rule : ListOptions) (path : List ℕ) (before : CountedState) (old : OutState) → is_unlisted kind ≡ true → ToldOf (Some kind) rule path before old old (Ok 0)
nothing_told sort.Elf rule path before old is = absurd (cc)
nothing_told sort.Archive rule path before old is = absurd (cc)
nothing_told sort.Undecided rule path before old is = absurd (cc)
nothing_told sort.Foreign rule path before old is = (refl, refl)
nothing_told sort.Thin rule path before old is = (refl, refl)

-- a listing that ended in a failed read
pub end_fails : (format : Format) (path : List ℕ) (result : Result Bool RunFault) (old new : OutState) (answer : Result ℕ OutFault) (a b : CountedState) → EndsListing format path result old new answer
    → IfErr result (ArchiveSays a b old) → answer ≡ Ok 3 → FailsRead a b Unread
end_fails format path (Ok true) old new answer a b ends says is = let e = ends.1 in absurd (cc)
end_fails format path (Ok false) old new answer a b ends says is = let e = ends.1 in absurd (cc)
end_fails format path (Err (Refused refusal)) old new answer a b ends says is = let e = ends.1 in absurd (cc)
end_fails format path (Err (Source fault at)) old new answer a b ends says is = fault_fails a b fault says
end_fails format path (Err (Out fault)) old new answer a b ends says is = let e = ends.1 in absurd (cc)
