-- What the faults of a link come from.
use Rattle.std.specs.Prelude.{⊤, ℕ, ◌+◌, ◌^◌, ◌<◌, Option, None, Some}
use Rattle.elf_model.specs.LinkSymbols.{as_any}
use Rattle.elf_model.specs.declared.link_states.LinkCause.TheVariants as cause
use Rattle.elf_model.specs.declared.link_states.LinkRefusal.{LinkRefusal}
use Rattle.elf_resolve.specs.declared.link_faults.LinkFault.{LinkFault}
use Rattle.elf_resolve.specs.declared.link_faults.LinkFault.TheVariants.{Refused, Read, Memory}
use Rattle.elf_resolve.specs.declared.table.KeyFault.{KeyFault}
use Rattle.elf_resolve.specs.declared.table.KeyFault.TheVariants.{TooManyKeys, TooManyBytes, TooManyFurther, OutOfMemory}
use Rattle.elf_table.specs.declared.fault.Fault.{Fault}
use Rattle.elf_table.specs.declared.fault.Fault.TheVariants as table

-- a fault of a table of a file
abbrev pub fault_of_table : Fault → LinkFault
fault_of_table (table.Refused refusal) = Refused (as_any refusal)
fault_of_table (table.Source fault at) = Read

-- the fault of lack of room for a name, which is at a file offset
abbrev pub fault_of_key : (at : ℕ) → KeyFault → LinkFault
fault_of_key at TooManyKeys = Refused (record { at = at; cause = cause.TooManyKeys })
fault_of_key at TooManyBytes = Refused (record { at = at; cause = cause.TooManyKeys })
fault_of_key at TooManyFurther = Refused (record { at = at; cause = cause.TooManyRows })
fault_of_key at OutOfMemory = Memory

-- a refusal of a member that begins at an offset is at an offset of the archive
abbrev pub MovesWithin : (start : ℕ) → Option LinkRefusal → Type 0
MovesWithin start None = ⊤
MovesWithin start (Some refusal) = start + refusal.at < 2 ^ 64
