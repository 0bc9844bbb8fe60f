-- The state of an object that was read.
use Rattle.std.specs.Prelude.{ℕ}
use Rattle.elf_library.specs.Prelude.{no_info}
use Rattle.elf_format.specs.declared.needed_objects.ObjectState.{ObjectState}
use Rattle.elf_format.specs.declared.needed_objects.ObjectState.TheVariants.{Found, Missing, Refused, Unused}
use Rattle.elf_needs.specs.declared.object_reports.ObjectReport.{ObjectReport}

-- the exit status once an object of a state is listed: 1 where that is missing or refused
abbrev pub status_with : ObjectState → ℕ → ℕ
status_with Found status = status
status_with Missing status = 1
status_with (Refused refusal) status = 1
status_with Unused status = status

-- the report of an object of which only the state is known
abbrev pub report_alone : ObjectState → ObjectReport
report_alone state = record { state = state; links = no_info; needs = 0; needs_end = 0 }
