-- Why arguments are rejected.
use Rattle.std.specs.Prelude.{◌≡◌, ⊤}
use Rattle.clap.specs.Kinds.{IsAmong, Kinds}
use Rattle.clap.specs.Values.{kind_of}
use Rattle.clap.specs.declared.error.Error.{Error}
use Rattle.clap.specs.declared.error.kind.ErrorKind.TheVariants.{Format, OutOfMemory}
use Rattle.elf_cli.specs.declared.faults.RequestFault.{RequestFault}
use Rattle.elf_cli.specs.declared.faults.RequestFault.TheVariants.{Words, Memory}

-- the fault for an error of the command line's parser: lack of memory is never reported as bad
-- arguments
abbrev pub IsFaultOf : Error → RequestFault → Type 0
IsFaultOf error Memory = kind_of error ≡ OutOfMemory
IsFaultOf error (Words told) = (told ≡ error) × (kind_of error ≡ OutOfMemory → ⊥)
IsFaultOf error _ = ⊥

-- no memory, or an error of one of these kinds
abbrev pub IsOneOf : Kinds → RequestFault → Type 0
IsOneOf kinds Memory = ⊤
IsOneOf kinds (Words error) = IsAmong (kind_of error) kinds
IsOneOf kinds _ = ⊥

-- no memory, or an error of the kind `Format`
abbrev pub IsUnasked : RequestFault → Type 0
IsUnasked Memory = ⊤
IsUnasked (Words error) = kind_of error ≡ Format
IsUnasked _ = ⊥
