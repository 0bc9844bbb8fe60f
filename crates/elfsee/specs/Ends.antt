-- How the program ends, by what it did.
use Rattle.std.specs.Prelude.{ℕ, ◌≡◌, ◌⊎◌, ◌≤◌, ◌+◌, ◌==◌, ⊤, Bool, true, false, List, [], codes, Option, None, Some, Result, Ok, Err, IfErr, IfOk}
use Rattle.std.specs.Io.Buffered.{writer_buffer, writer_contents, writer_inner}
use Rattle.std.specs.declared.io.buffered.BufWriter.{BufWriter}
use Rattle.elf_model.specs.Fixtures.{one_symbol_table}
use Rattle.elf_model.specs.Prelude.{archive_cost}
use Rattle.elf_model.specs.declared.causes.Refusal.{Refusal}
use Rattle.elf_source.specs.Prelude.{CountedState, OutGrows, OutState, SourceState, Writing}
use Rattle.elf_options.specs.Prelude.{style_of}
use Rattle.elf_options.specs.declared.caps.Caps.{Caps}
use Rattle.elf_table.specs.declared.run_fault.RunFault.{RunFault}
use Rattle.elf_table.specs.declared.run_fault.RunFault.TheVariants.{Refused}
use Rattle.elf_listing.specs.Reports.{KeepsSourceUnlimited}
use Rattle.elf_archive.specs.Listed.{ArchiveSays, AsksInArchive, ReportsArchive}
use Rattle.elf_walk.specs.declared.lists.ListFault.{ListFault}
use Rattle.elf_walk.specs.declared.lists.ListFault.TheVariants as list
use Rattle.elf_cli.specs.Prelude.{ProgramEnds, PutsRest, wants_rest}
use Rattle.elf_requests.specs.ArchiveAnswers.{refused_by}
use Rattle.elf_requests.specs.declared.requests.Task.TheVariants.{Bytes}
use Rattle.elf_requests.specs.declared.requests.Task.{Task}
use Rattle.elfsee.specs.declared.many.FilesEnd.{FilesEnd}
use Rattle.elfsee.specs.declared.many.FilesEnd.TheVariants as visit

-- out of memory
abbrev pub EndsWithoutMemory : ℕ → List ℕ → Type 0
EndsWithoutMemory status line = (status ≡ 3) × (line ≡ codes "elfsee: out of memory")

-- a file cannot be opened or read
abbrev pub EndsWithoutFile : ℕ → List ℕ → Type 0
EndsWithoutFile status line = (status ≡ 3) × ((line ≡ codes "elfsee: cannot open") ⊎ (line ≡ codes "elfsee: read fault"))

-- whether the bytes of a section are requested and no section has its name: their status is 1 only
-- then
unfoldable pub lacks_section : Task → Result ℕ RunFault → Bool
lacks_section (Bytes query) (Ok status) = status == 1
lacks_section task answer = false

-- how the program ends if a section is lacking, unless the output failed; otherwise as its run
abbrev pub EndsLacking : Bool → Result ℕ RunFault → Bool → ℕ → List ℕ → Type 0
EndsLacking true answer false status line = (status ≡ 1) × (line ≡ codes "elfsee: no such section")
EndsLacking lacking answer failed status line = ProgramEnds answer failed status line

-- how the program ends that carries out a task
abbrev pub EndsTask : Task → Result ℕ RunFault → Bool → ℕ → List ℕ → Type 0
EndsTask task answer failed status line = EndsLacking (lacks_section task answer) answer failed status line

-- A RUN ENDS THE PROGRAM: over a source from which nothing was requested, and an output, it did
-- what is requested; by its result, and by whether the output failed, the program ends; and the
-- rest of the output was written, as far as its writer took it
pub record EndsRunOver {W A : Type 0} (contents : W → Option (List ℕ)) (does : CountedState → CountedState → OutState → OutState → Result ℕ RunFault → Type 0)
    (ends_by : Result ℕ RunFault → Bool → ℕ → List ℕ → Type 0) (seen : SourceState) (output : BufWriter W A) (status : ℕ) (line : List ℕ) (sink : Writing W) : Type 0 where
  pub old : CountedState
  pub new : CountedState
  pub same_size : old.seen.size ≡ seen.size
  pub same_file : old.seen.file ≡ seen.file
  pub unasked : old.asked ≡ 0
  pub before : OutState
  pub after : OutState
  pub answer : Result ℕ RunFault
  pub begins : before.taken ≡ writer_contents contents output
  pub did : does old new before after answer
  pub last : BufWriter W A
  pub is_at : after.taken ≡ writer_contents contents last
  pub ends : ends_by answer sink.failed status line
  pub rest : PutsRest (wants_rest answer) sink.failed (writer_buffer last) (contents (writer_inner last)) (contents sink.writer)

-- A RUN OVER THE FILE AT A PATH ENDS THE PROGRAM, or over the sample if there is no path
pub record AnswersFile {P W A : Type 0} (contents : W → Option (List ℕ)) (does : CountedState → CountedState → OutState → OutState → Result ℕ RunFault → Type 0)
    (ends_by : Result ℕ RunFault → Bool → ℕ → List ℕ → Type 0) (path : Option P) (output : BufWriter W A) (status : ℕ) (line : List ℕ) (sink : Writing W) : Type 0 where
  pub seen : SourceState
  pub sample : path ≡ None → seen.file ≡ Some one_symbol_table
  pub ends : EndsRunOver contents does ends_by seen output status line sink

-- the refusal whose line was written
abbrev pub told_refusal : Result ℕ RunFault → Bool → Option Refusal
told_refusal (Err (Refused refusal)) false = Some refusal
told_refusal answer failed = None

-- THE EFFECT OF THE LISTING OF AN ARCHIVE, by its caps and parts; the status says whether the
-- listing of a member was refused
pub record RunsArchive (caps : Caps) (parts : ℕ) (old new : CountedState) (before after : OutState) (answer : Result ℕ RunFault) : Type 0 where
  pub grows : OutGrows before after
  pub leaves : KeepsSourceUnlimited old new
  pub says : IfErr answer (ArchiveSays old new after)
  pub text : (file : List ℕ) → old.seen.file ≡ Some file → ReportsArchive true file caps parts before after (refused_by answer)
  pub cost : (file : List ℕ) → old.seen.file ≡ Some file → new.asked ≤ old.asked + archive_cost file caps.limits.headers (style_of caps.style) parts
  pub asks : AsksInArchive caps old new (refused_by answer)
  pub status : IfOk answer (λ status. status ≤ 1)

-- how a visit ended early whose list was not read to its end
abbrev pub list_end : Result (Unit {0}) ListFault → Result (Unit {0}) FilesEnd
list_end (Ok x) = Ok x
list_end (Err list.Read) = Err visit.Unread
list_end (Err (list.Out fault)) = Err visit.Unwritten

-- a visit stopped before its end: a list cannot be opened or read, or the output failed
abbrev pub StopsFiles : FilesEnd → Type 0
StopsFiles (visit.Status status) = ⊥
StopsFiles visit.NoMemory = ⊥
StopsFiles ended = ⊤

-- how a visit ended, by its status, or how it stopped
abbrev pub visit_end : Result ℕ FilesEnd → FilesEnd
visit_end (Ok status) = visit.Status status
visit_end (Err ended) = ended

-- how a visit ended, by whether the output failed that was written after it
abbrev pub end_after : Bool → FilesEnd → FilesEnd
end_after true (visit.Status status) = visit.Unwritten
end_after failed ended = ended

-- A VISIT OF FILES ENDS THE PROGRAM, with an exit status and a line on standard error
abbrev pub EndsFiles : FilesEnd → ℕ → List ℕ → Type 0
EndsFiles (visit.Status found) status line = (status ≡ found) × (line ≡ [])
EndsFiles visit.NoMemory status line = EndsWithoutMemory status line
EndsFiles visit.NotOpened status line = (status ≡ 3) × (line ≡ codes "elfsee: cannot open")
EndsFiles visit.Unread status line = (status ≡ 3) × (line ≡ codes "elfsee: read fault")
EndsFiles visit.Unwritten status line = (status ≡ 3) × (line ≡ codes "elfsee: write fault")
