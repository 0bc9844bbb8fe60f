-- How a program ends: the exit status of a run, and the line on standard error.
use Rattle.std.specs.Prelude.{ℕ, ◌≡◌, Bool, true, false, List, ◌++◌, Option, Result, Ok, Err, [], codes}
use Rattle.std.specs.Io.KnownBytes.{Appends}
use Rattle.elf_model.specs.Lines.{named_line}
use Rattle.elf_model.specs.Names.DisplayedName.{Whole}
use Rattle.elf_model.specs.declared.formats.Format.TheVariants.{Columns}
use Rattle.elf_table.specs.declared.run_fault.RunFault.TheVariants.{Out}
use Rattle.elf_table.specs.declared.run_fault.RunFault.{RunFault}
use Rattle.elf_table.specs.declared.run_fault.RunFault.TheVariants.{Refused, Source}
use Rattle.elf_cli.specs.declared.faults.RequestFault.{RequestFault}
use Rattle.elf_cli.specs.declared.faults.RequestFault.TheVariants.{Words, BadName, BadSection, NamesFull, BadItem, LayoutFull, LayoutRepeat, UnknownTrait, Memory}
use Rattle.elf_cli.specs.declared.outputs.RunEnd.{RunEnd}
use Rattle.elf_cli.specs.declared.outputs.RunEnd.TheVariants.{Status, Told, Unwritten}

abbrev pub exit_status : Result ℕ RunFault → ℕ
exit_status (Ok status) = status
exit_status (Err (Refused refusal)) = 1
exit_status (Err (Source fault at)) = 3
exit_status (Err (Out fault)) = 3

abbrev pub error_line : Result ℕ RunFault → List ℕ
error_line (Ok status) = []
error_line (Err (Refused refusal)) = []
error_line (Err (Source fault at)) = codes "elfsee: read fault"
error_line (Err (Out fault)) = codes "elfsee: write fault"

-- the exit status for arguments that are no request, and the line on standard error
abbrev pub refused_status : RequestFault → ℕ
refused_status (Words error) = 2
refused_status BadName = 2
refused_status BadSection = 2
refused_status NamesFull = 2
refused_status BadItem = 2
refused_status LayoutFull = 2
refused_status LayoutRepeat = 2
refused_status (UnknownTrait word) = 2
refused_status Memory = 3

abbrev pub refused_line : RequestFault → List ℕ
refused_line (Words error) = []
refused_line BadName = codes "elfsee: bad name"
refused_line BadSection = codes "elfsee: bad section"
refused_line NamesFull = codes "elfsee: too many names"
refused_line BadItem = codes "elfsee: bad item"
refused_line LayoutFull = codes "elfsee: layout-full"
refused_line LayoutRepeat = codes "elfsee: layout-repeat"
refused_line (UnknownTrait word) = []
refused_line Memory = codes "elfsee: out of memory"

-- the message for a required trait that is not a valid one, which is escaped as names are
abbrev pub unknown_trait_line : List ℕ → List ℕ
unknown_trait_line word =
    named_line (record { format = Columns; key = []; text = codes "elfsee: unknown trait: " }) (Whole word)

-- how a program ends whose arguments are no request
abbrev pub EndsWords : RequestFault → ℕ → List ℕ → Type 0
EndsWords fault status line = (status ≡ refused_status fault) × (line ≡ refused_line fault)

-- how a program ends whose output is flushed: as its run, or, if the sink has failed, by a fault of
-- the output; after a fault of the source by that
abbrev pub ProgramEnds : Result ℕ RunFault → Bool → ℕ → List ℕ → Type 0
ProgramEnds (Err (Source fault at)) failed status line = (status ≡ 3) × (line ≡ codes "elfsee: read fault")
ProgramEnds answer true status line = (status ≡ 3) × (line ≡ codes "elfsee: write fault")
ProgramEnds answer false status line = (status ≡ exit_status answer) × (line ≡ error_line answer)

-- whether the rest of an output is to be written: not after its fault
abbrev pub wants_rest : Result ℕ RunFault → Bool
wants_rest (Err (Out fault)) = false
wants_rest answer = true

-- the same for a run whose faults have lines of their own
abbrev pub EndsRun : RunEnd → Bool → ℕ → List ℕ → Type 0
EndsRun (Status status) false now line = (now ≡ status) × (line ≡ [])
EndsRun (Status status) true now line = (now ≡ 3) × (line ≡ codes "elfsee: write fault")
EndsRun (Told ending) failed now line = (now ≡ ending.0) × (line ≡ ending.1.now)
EndsRun Unwritten failed now line = (now ≡ 3) × (line ≡ codes "elfsee: write fault")

abbrev pub wants_rest_of : RunEnd → Bool
wants_rest_of Unwritten = false
wants_rest_of ended = true

-- WHAT HAPPENS TO THE REST of an output: all of it is written, or a prefix if the sink has failed;
-- if it is not wanted, nothing is written
abbrev pub PutsRest : (wanted failed : Bool) (rest : List ℕ) (old new : Option (List ℕ)) → Type 0
PutsRest false failed rest old new = (failed ≡ false) × (new ≡ old)
PutsRest true false rest old new = Appends old new rest
PutsRest true true rest old new = (front : List ℕ) × (after : List ℕ) × (rest ≡ front ++ after) × Appends old new front
