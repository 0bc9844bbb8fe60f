-- Why a call that reads and writes stops.
use Rattle.elf_table.specs.declared.fault.Fault.{Fault}
use Rattle.elf_table.specs.declared.fault.Fault.TheVariants.{Refused as Refuses, Source as Unread}
use Rattle.elf_table.specs.declared.run_fault.RunFault.{RunFault}
use Rattle.elf_table.specs.declared.run_fault.RunFault.TheVariants.{Refused, Source}

-- a fault of a read as that of a call that also writes
abbrev pub stop_of : Fault → RunFault
stop_of (Refuses refusal) = Refused refusal
stop_of (Unread fault at) = Source fault at
