-- Worked examples of the symbols that a loader takes: their values, sections, types, bindings,
-- visibilities and names.
use Rattle.std.specs.Prelude.{◌++◌, codes}
use Rattle.elf_model.specs.Prelude.{little, versioned_library, with_bytes}
use Rattle.elf_examples.specs.LoaderWords.{LoaderCosts, Fails, LoaderFinds, absent_2, found_2, of_v2}

-- a name that is outside
abbrev pub NamesAreRefused : Type 0
NamesAreRefused =
    Fails (with_bytes 0x128 (little 4 0x30) versioned_library) (codes "f") (codes "! 0000000000000128 name-outside\n")
    × LoaderCosts (with_bytes 0x128 (little 4 0x30) versioned_library) (codes "f") 698

-- an undefined symbol with a value, and without one; a symbol without a value; an absolute one
abbrev pub UndefinedByValue : Type 0
UndefinedByValue =
    LoaderFinds (with_bytes 0x146 (little 2 0) versioned_library) (codes "f") (codes "Y     2          4 00000000000002a9 0000000000000001 FUNC    GLOBAL DEFAULT   UND   f\n" ++ of_v2 ++ found_2)
    × Fails (with_bytes 0x148 (little 8 0) (with_bytes 0x146 (little 2 0) versioned_library)) (codes "f") absent_2
    × Fails (with_bytes 0x148 (little 8 0) versioned_library) (codes "f") absent_2
    × LoaderFinds (with_bytes 0x148 (little 8 0) (with_bytes 0x146 (little 2 0xfff1) versioned_library)) (codes "f") (codes "Y     2          4 0000000000000000 0000000000000001 FUNC    GLOBAL DEFAULT   ABS   f\n" ++ of_v2 ++ found_2)

-- a symbol of thread-local storage at its start, and an undefined one, also with a value
abbrev pub ThreadLocalByPlace : Type 0
ThreadLocalByPlace =
    LoaderFinds (with_bytes 0x148 (little 8 0) (with_bytes 0x144 (little 1 0x16) versioned_library)) (codes "f") (codes "Y     2          4 0000000000000000 0000000000000001 TLS     GLOBAL DEFAULT       7 f\n" ++ of_v2 ++ found_2)
    × Fails (with_bytes 0x146 (little 2 0) (with_bytes 0x144 (little 1 0x16) versioned_library)) (codes "f") absent_2
    × Fails (with_bytes 0x148 (little 8 0) (with_bytes 0x146 (little 2 0) (with_bytes 0x144 (little 1 0x16) versioned_library))) (codes "f") absent_2

-- each binding: local, global, weak, unique, and numbers next to them
abbrev pub BindingsOffer : Type 0
BindingsOffer =
    Fails (with_bytes 0x144 (little 1 2) versioned_library) (codes "f") absent_2
    × LoaderFinds (with_bytes 0x144 (little 1 0x22) versioned_library) (codes "f") (codes "Y     2          4 00000000000002a9 0000000000000001 FUNC    WEAK   DEFAULT       7 f\n" ++ of_v2 ++ found_2)
    × LoaderFinds (with_bytes 0x144 (little 1 0xa2) versioned_library) (codes "f") (codes "Y     2          4 00000000000002a9 0000000000000001 FUNC    UNIQUE DEFAULT       7 f\n" ++ of_v2 ++ found_2)
    × Fails (with_bytes 0x144 (little 1 0x32) versioned_library) (codes "f") absent_2
    × Fails (with_bytes 0x144 (little 1 0x92) versioned_library) (codes "f") absent_2
    × Fails (with_bytes 0x144 (little 1 0xb2) versioned_library) (codes "f") absent_2

-- each type: none, object, common, indirect; section, file, and numbers next to them
abbrev pub TypesOffer : Type 0
TypesOffer =
    LoaderFinds (with_bytes 0x144 (little 1 0x10) versioned_library) (codes "f") (codes "Y     2          4 00000000000002a9 0000000000000001 NOTYPE  GLOBAL DEFAULT       7 f\n" ++ of_v2 ++ found_2)
    × LoaderFinds (with_bytes 0x144 (little 1 0x11) versioned_library) (codes "f") (codes "Y     2          4 00000000000002a9 0000000000000001 OBJECT  GLOBAL DEFAULT       7 f\n" ++ of_v2 ++ found_2)
    × LoaderFinds (with_bytes 0x144 (little 1 0x15) versioned_library) (codes "f") (codes "Y     2          4 00000000000002a9 0000000000000001 COMMON  GLOBAL DEFAULT       7 f\n" ++ of_v2 ++ found_2)
    × LoaderFinds (with_bytes 0x144 (little 1 0x1a) versioned_library) (codes "f") (codes "Y     2          4 00000000000002a9 0000000000000001 IFUNC   GLOBAL DEFAULT       7 f\n" ++ of_v2 ++ found_2)
    × Fails (with_bytes 0x144 (little 1 0x13) versioned_library) (codes "f") absent_2
    × Fails (with_bytes 0x144 (little 1 0x14) versioned_library) (codes "f") absent_2
    × Fails (with_bytes 0x144 (little 1 0x17) versioned_library) (codes "f") absent_2
    × Fails (with_bytes 0x144 (little 1 0x19) versioned_library) (codes "f") absent_2
    × Fails (with_bytes 0x144 (little 1 0x1b) versioned_library) (codes "f") absent_2

-- each visibility: hidden, internal, protected
abbrev pub VisibilitiesOffer : Type 0
VisibilitiesOffer =
    Fails (with_bytes 0x145 (little 1 2) versioned_library) (codes "f") absent_2
    × Fails (with_bytes 0x145 (little 1 1) versioned_library) (codes "f") absent_2
    × LoaderFinds (with_bytes 0x145 (little 1 3) versioned_library) (codes "f") (codes "Y     2          4 00000000000002a9 0000000000000001 FUNC    GLOBAL PROTECTED     7 f\n" ++ of_v2 ++ found_2)
