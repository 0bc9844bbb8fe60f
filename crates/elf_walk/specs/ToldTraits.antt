-- What is reported of one file's traits among many.
use Rattle.std.specs.Prelude.{ℕ, ◌≡◌, ◌+◌, ◌≤◌, List, Some, Result, Ok, Err, IfErr, IfOk}
use Rattle.elf_model.specs.Prelude.{Required, check_line, traits_status, traits_text}
use Rattle.elf_model.specs.declared.states.FileStatus.{FileStatus}
use Rattle.elf_model.specs.declared.formats.Format.{Format}
use Rattle.elf_model.specs.declared.traits.Hardening.{Hardening}
use Rattle.elf_model.specs.declared.states.FileStatus.TheVariants as state
use Rattle.elf_source.specs.Prelude.{CountedState, OutPuts, OutState}
use Rattle.elf_source.specs.declared.faults.OutFault.{OutFault}
use Rattle.elf_options.specs.Required.{required_words}
use Rattle.elf_walk.specs.Checked.{FailsRead}
use Rattle.elf_walk.specs.Statuses.{state_status}
use Rattle.elf_walk.specs.CheckedFile.{AsksNoMore}
use Rattle.elf_walk.specs.Found.{FindsWithin, file_traits_ceiling, file_traits_cost}
use Rattle.elf_walk.specs.declared.trait_lines.TraitOptions.{TraitOptions}

-- a text is written, and the result is a status
pub record PutsWith (text : List ℕ) (its_status : ℕ) (old new : OutState) (answer : Result ℕ OutFault) : Type 0 where
  pub puts : OutPuts old new answer text
  pub status : IfOk answer (λ status. status ≡ its_status)

-- what is written by what is found for a file: the lines of its traits; nothing for a file of
-- another type; otherwise the line of its state
abbrev pub PutsFound : Format → List Required → List ℕ → Result Hardening FileStatus → (old new : OutState) → Result ℕ OutFault → Type 0
PutsFound format required path (Ok traits) old new answer =
    PutsWith (traits_text format traits required path) (traits_status traits required) old new answer
PutsFound format required path (Err state.NoElf) old new answer = (new ≡ old) × (answer ≡ Ok 0)
PutsFound format required path (Err found) old new answer = PutsWith (check_line format found path) (state_status found) old new answer

-- THE TRAITS of a file among many, by its source and the output before and after: the line of those
-- that it has, by its own bytes if the file is known, and that of what it lacks; nothing for a file
-- of another type; otherwise the line of its state, unread only if a read failed; at most what the
-- traits cost, and the budget of a file, is requested from the source
pub record ReturnsTraits (rule : TraitOptions) (path : List ℕ) (before after : CountedState) (old new : OutState) (answer : Result ℕ OutFault) : Type 0 where
  pub found : Result Hardening FileStatus
  pub finds : (file : List ℕ) → before.seen.file ≡ Some file → FindsWithin rule.limits.budget rule.limits.headers file found
  pub read : IfErr found (FailsRead before after)
  pub puts : PutsFound rule.format (required_words rule.required.now) path found old new answer
  pub cost : (file : List ℕ) → before.seen.file ≡ Some file → after.asked ≤ before.asked + file_traits_cost file rule.limits.headers
  pub asks : AsksNoMore (file_traits_ceiling before.seen.size rule.limits.headers) rule.limits.budget before after
