-- Worked examples of the interpreter that a file names, of the refusals of its path in order, and
-- of its line.
use Rattle.std.specs.Prelude.{ℕ, ◌≡◌, List, ◌++◌, codes, true, false, Option, None, Some, Result, Ok, Err}
use Rattle.elf_model.specs.Prelude.{interpreter_line, interpreter_of, is_interpreter, little, object, one_load, program_header, with_bytes, zeros}
use Rattle.elf_model.specs.declared.causes.Cause.TheVariants.{NameUnended, NotElf, TableOutside}
use Rattle.elf_model.specs.declared.causes.Refusal.{Refusal}
use Rattle.elf_model.specs.declared.formats.Format.TheVariants.{Columns, Object}

abbrev InterpreterIs : List ℕ → Result (Option (List ℕ)) Refusal → Type 0
InterpreterIs file named = interpreter_of file 2 ≡ named

-- a shared object with a program header of type INTERP: this many bytes from 0x78 on, and these
-- there
abbrev naming : (size : ℕ) → List ℕ → List ℕ
naming size bytes = object 1 (program_header 3 4 0x78 0 size 1 ++ bytes)

-- a path up to its first NUL; an empty one; of the first header alone; none
abbrev pub InterpreterIsItsPath : Type 0
InterpreterIsItsPath =
    InterpreterIs (naming 8 (codes "/lib/ld" ++ zeros 1)) (Ok (Some (codes "/lib/ld")))
    × InterpreterIs (naming 8 (codes "/lib" ++ zeros 1 ++ codes "ld" ++ zeros 1)) (Ok (Some (codes "/lib")))
    × InterpreterIs (naming 2 (zeros 2)) (Ok (Some (codes "")))
    × InterpreterIs (object 2 (program_header 3 4 0xb0 0 3 1 ++ program_header 3 4 0xb0 0 9 1 ++ codes "ld" ++ zeros 1)) (Ok (Some (codes "ld")))
    × InterpreterIs one_load (Ok None)

-- refusals: of the file header; of a range that ends one byte past the file's end; of one byte; of
-- a last byte that is not NUL
abbrev pub InterpretersAreRefusedInOrder : Type 0
InterpretersAreRefusedInOrder =
    InterpreterIs (with_bytes 0 (little 1 0) (naming 3 (codes "ld"))) (Err (record { at = 0; cause = NotElf }))
    × InterpreterIs (naming 3 (codes "ld")) (Err (record { at = 0x40; cause = TableOutside }))
    × InterpreterIs (naming 1 (zeros 1)) (Err (record { at = 0x40; cause = NameUnended }))
    × InterpreterIs (naming 2 (codes "ld")) (Err (record { at = 0x40; cause = NameUnended }))
    × InterpreterIs (naming 5000 (zeros 1)) (Err (record { at = 0x40; cause = TableOutside }))

-- a shared object and an executable of the machine; a relocatable file, and one of another machine
abbrev pub InterpretersAreOfTheirMachine : Type 0
InterpretersAreOfTheirMachine =
    (is_interpreter 62 (naming 2 (zeros 2)) ≡ true)
    × (is_interpreter 62 one_load ≡ true)
    × (is_interpreter 62 (with_bytes 16 (little 2 1) one_load) ≡ false)
    × (is_interpreter 183 one_load ≡ false)

-- the line, in columns and as an object
abbrev pub InterpreterLineIsShown : Type 0
InterpreterLineIsShown =
    (interpreter_line Columns true (codes "/lib/ld") ≡ codes "I found    /lib/ld\n")
    × (interpreter_line Columns false (codes "/l d") ≡ codes "I missing  /l d\n")
    × (interpreter_line Object false (codes "/lib/ld") ≡ codes "{\"line\":\"I\",\"state\":\"missing\",\"path\":\"/lib/ld\"}\n")
