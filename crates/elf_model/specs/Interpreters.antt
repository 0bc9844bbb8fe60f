-- THE PROGRAM INTERPRETER that a file names, which the system starts in its place (gABI 5, Program
-- Interpreter): its path, which files can be one, and its line. The path is that of a file that has
-- no section headers.
use Rattle.std.specs.Prelude.{ℕ, ◌+◌, ◌-◌, ◌==◌, ◌&&◌, ◌||◌, nat_lt, not, Bool, true, false, List, [], ◌∷◌, ◌++◌, length, codes, Option, None, Some, Result, Ok, Err}
use Rattle.elf_model.specs.Bindings.{whole_name}
use Rattle.elf_model.specs.Bytes.{field, slice}
use Rattle.elf_model.specs.Checks.{Check, first_refusal, header_checks, is_outside, load_checks, refuse}
use Rattle.elf_model.specs.Fields.{Fields, LinePrefix, front}
use Rattle.elf_model.specs.Fields.Field.{ArgSpec}
use Rattle.elf_model.specs.Lines.{named_line}
use Rattle.elf_model.specs.Links.{machine_in}
use Rattle.elf_model.specs.Names.DisplayedName.{Whole}
use Rattle.elf_model.specs.Records.{e_type, p_filesz, p_offset, segment_at}
use Rattle.elf_model.specs.Style.{without_sections}
use Rattle.elf_model.specs.TraitNumbers.{PT_INTERP, is_linked_type}
use Rattle.elf_model.specs.Traits.{segment_of}
use Rattle.elf_model.specs.declared.causes.Cause.TheVariants.{NameUnended, TableOutside}
use Rattle.elf_model.specs.declared.causes.Refusal.{Refusal}
use Rattle.elf_model.specs.declared.formats.Format.{Format}

-- the maximum number of bytes of a path, its NUL among them
abbrev pub INTERPRETER_BYTES : ℕ
INTERPRETER_BYTES = 4096

-- a program header's bytes are within the file, are a byte and a NUL or more, and end in a NUL
abbrev pub interpreter_checks : List ℕ → ℕ → List Check
interpreter_checks file at =
    let size = p_filesz file at in
    refuse (is_outside (length file) (p_offset file at) size) at TableOutside
    ∷ refuse (nat_lt size 2 || nat_lt INTERPRETER_BYTES size) at NameUnended
    ∷ refuse (not (field file (p_offset file at + size - 1) 1 == 0)) at NameUnended
    ∷ []

-- the path that a program header locates: its bytes up to the first NUL
unfoldable pub interpreter_at : List ℕ → ℕ → Result (List ℕ) Refusal
interpreter_at file at = elim (first_refusal (interpreter_checks file at)) [
  | Some refusal ↦ Err refusal
  | None ↦ whole_name (slice file (p_offset file at) (p_filesz file at)) 0 at
]

-- that of the first program header of its type, if there is one
unfoldable pub loaded_interpreter : List ℕ → Result (Option (List ℕ)) Refusal
loaded_interpreter file = elim (segment_of file PT_INTERP) [
  | None ↦ Ok None
  | Some i ↦ elim (interpreter_at file (segment_at file i)) [ Ok path ↦ Ok (Some path) | Err refusal ↦ Err refusal ]
]

unfoldable pub interpreter_by_segments : List ℕ → (headers : ℕ) → Result (Option (List ℕ)) Refusal
interpreter_by_segments file headers = elim (first_refusal (header_checks file ++ load_checks file headers)) [
  | Some refusal ↦ Err refusal
  | None ↦ loaded_interpreter file
]

-- THE INTERPRETER THAT A FILE NAMES, with this many headers allowed: for any section headers
unfoldable pub interpreter_of : List ℕ → (headers : ℕ) → Result (Option (List ℕ)) Refusal
interpreter_of file headers = interpreter_by_segments (without_sections file) headers

-- A FILE CAN BE THE INTERPRETER of a program of a machine: it is of 64 bits, little-endian and of
-- that machine, and executable or shared (gABI 5, Program Interpreter)
unfoldable pub is_interpreter : (machine : ℕ) → List ℕ → Bool
is_interpreter machine file = elim (machine_in file) [
  | None ↦ false
  | Some found ↦ found == machine && is_linked_type (e_type file)
]

-- the word of whether it is found
unfoldable pub interpreter_state : (found : Bool) → List ℕ
interpreter_state true = codes "found"
interpreter_state false = codes "missing"

abbrev pub interpreter_fields : (found : Bool) → Fields
interpreter_fields found = record { letter = codes "I"; fields = ArgSpec (codes "state") 8 (interpreter_state found) ∷ [] }

-- its line up to its path
unfoldable pub interpreter_front : Format → (found : Bool) → LinePrefix
interpreter_front format found = front format (codes "path") (interpreter_fields found)

-- THE LINE OF THE INTERPRETER: whether it is found, and its path
abbrev pub interpreter_line : Format → (found : Bool) → (path : List ℕ) → List ℕ
interpreter_line format found path = named_line (interpreter_front format found) (Whole path)
