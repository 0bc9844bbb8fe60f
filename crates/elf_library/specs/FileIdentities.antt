-- Which file something is.
use Rattle.std.specs.Prelude.{◌==◌, ◌&&◌, Bool, false, Option, None, Some}
use Rattle.elf_library.specs.declared.file_identity.FileIdentity.{FileIdentity}

-- a file that is known is a given one
abbrev pub is_file : Option FileIdentity → FileIdentity → Bool
is_file None file = false
is_file (Some known) file = known.device == file.device && known.number == file.number
