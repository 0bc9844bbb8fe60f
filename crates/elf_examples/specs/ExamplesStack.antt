-- Worked examples of the stack of a relocatable file.
use Rattle.std.specs.Prelude.{ℕ, List, [], ◌∷◌, ◌++◌, codes}
use Rattle.elf_model.specs.Prelude.{file_header, little, section_header, with_bytes, zeros}
use Rattle.elf_examples.specs.TraitFiles.{TraitsAre, TraitsCost}

-- a section header with a name
unfoldable pub named_header : (name type flags size : ℕ) → List ℕ
named_header name type flags size = with_bytes 0 (little 4 name) (section_header type flags 0x40 size 0 0 1 0)

-- A RELOCATABLE FILE of 280 bytes: its names, at 0x40; and its section headers, at 0x58, of which
-- the last is that of the names. The other one has a name and flags
unfoldable pub object_of_section : (name flags : ℕ) → List ℕ
object_of_section name flags =
    file_header 1 0x58 3 2 ++ (0 ∷ codes ".note.GNU-stack") ++ zeros 8
    ++ (zeros 64 ++ named_header name 1 flags 0 ++ named_header 0 3 0 17)

abbrev with_machine : ℕ → List ℕ → List ℕ
with_machine machine file = with_bytes 0x12 (little 2 machine) file

-- the line of an object by the word for its stack
abbrev HasStack : List ℕ → List ℕ → Type 0
HasStack file word = TraitsAre file (codes "T object -       " ++ word ++ codes " -     -     -         -      -       -       p\n")

-- by the flag of the first section of that name, on any machine
abbrev pub StackByFlag : Type 0
StackByFlag =
    HasStack (object_of_section 1 0) (codes "nx   ")
    × HasStack (object_of_section 1 4) (codes "exec ")
    × HasStack (object_of_section 1 3) (codes "nx   ")
    × HasStack (with_machine 183 (object_of_section 1 4)) (codes "exec ")
    × HasStack (with_bytes 0xd8 (little 4 1 ++ little 4 3 ++ little 8 4) (object_of_section 1 0)) (codes "nx   ")

-- without one it is executable on x86-64 and i386: a part of the name is another, and so is one
-- with a fault; also if sections have no names. On other machines it is not known
abbrev pub StackByMachine : Type 0
StackByMachine =
    HasStack (object_of_section 2 0) (codes "exec ")
    × HasStack (object_of_section 17 0) (codes "exec ")
    × HasStack (with_bytes 62 (little 2 0) (object_of_section 1 0)) (codes "exec ")
    × HasStack (with_machine 3 (object_of_section 0 0)) (codes "exec ")
    × HasStack (with_machine 183 (object_of_section 0 0)) (codes "-    ")

-- it is not known if the section headers do not pass their checks: more of them than are allowed,
-- names in a section that is no string table
abbrev pub StackUnknown : Type 0
StackUnknown =
    HasStack (with_bytes 60 (little 2 9) (object_of_section 1 0)) (codes "-    ")
    × HasStack (with_bytes 0xdc (little 4 1) (object_of_section 1 0)) (codes "-    ")

-- what is read: the file header twice, and each section header with its name; without section
-- headers only the file header; nothing more of a file of another type
abbrev pub StackCosts : Type 0
StackCosts =
    TraitsCost (object_of_section 1 0) 512
    × TraitsCost (with_bytes 60 (little 2 9) (object_of_section 1 0)) 128
    × TraitsCost (with_bytes 0x10 (little 2 3) (object_of_section 1 0)) 64
