-- The result of listing an archive.
use Rattle.std.specs.Prelude.{ℕ, ◌==◌, Bool, Result, Ok, Err}
use Rattle.elf_table.specs.declared.run_fault.RunFault.{RunFault}

-- a status by whether the listing of a member was refused
abbrev pub refused_by : Result ℕ RunFault → Result Bool RunFault
refused_by (Ok status) = Ok (status == 1)
refused_by (Err stop) = Err stop
