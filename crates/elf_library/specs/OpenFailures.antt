-- Why a path cannot be opened (POSIX, open: its errors).
use Rattle.std.specs.Prelude.{Bool, true, false}
use Rattle.std.specs.declared.io.ErrorKind.{ErrorKind}
use Rattle.std.specs.declared.io.ErrorKind.TheVariants as kind

-- THERE IS NO FILE, or none that this process may open, so that the next path is tried; otherwise
-- the system has a fault, or lacks room
abbrev pub is_no_file : ErrorKind → Bool
is_no_file kind.NotFound = true
is_no_file kind.NotADirectory = true
is_no_file kind.PermissionDenied = true
is_no_file kind.FilesystemLoop = true
is_no_file kind.InvalidFilename = true
is_no_file _ = false
