-- Lines as JSON objects.
use Rattle.std.specs.Prelude.{ℕ, ◌^◌, ◌≡◌, true, false, [], ◌∷◌, ◌++◌, codes}
use Rattle.elf_model.specs.Prelude.{ALL, Cut, EveryRow, ListingStyle, SYMBOLS, check_line, dynamic_prefix, every_place, every_symbol, listing, member_prefix, named_line, note_line, note_prefix, numbers_from, one_symbol_table, refusal_line, relocation_prefix, report_of, section_prefix, segment_line, steps_line, symbol_version_prefix, unnamed_line, version_prefix}
use Rattle.elf_model.specs.declared.versions.VersionKind.TheVariants.{Definition}
use Rattle.elf_model.specs.declared.formats.Format.TheVariants.{Object}
use Rattle.elf_model.specs.declared.causes.Cause.TheVariants.{Short, TableOutside}
use Rattle.elf_model.specs.Names.DisplayedName.{Whole}
use Rattle.elf_model.specs.declared.states.FileStatus.TheVariants as state

-- objects, with this many bytes of a name
abbrev pub objects : ℕ → ListingStyle
objects cap = record { cap = cap; gnu = false; by_segments = false; format = Object; choice = EveryRow; symbols = every_symbol; place = every_place; versions = false }

-- a whole listing: the file header, the section headers and the symbols
abbrev pub ObjectsOfAFile : Type 0
ObjectsOfAFile =
    report_of Object (listing one_symbol_table 3 (objects 63) ALL)
    ≡ codes "{\"line\":\"H\",\"type\":\"REL\",\"machine\":62,\"entry\":0,\"phoff\":0,\"shoff\":120,\"flags\":0,\"phnum\":0,\"shnum\":3,\"shstrndx\":0}\n"
    ++ codes "{\"line\":\"S\",\"index\":0,\"type\":\"NULL\",\"flags\":\"\",\"address\":0,\"offset\":0,\"size\":0,\"link\":0,\"info\":0,\"name\":\"\"}\n"
    ++ codes "{\"line\":\"S\",\"index\":1,\"type\":\"SYMTAB\",\"flags\":\"\",\"address\":0,\"offset\":64,\"size\":48,\"link\":2,\"info\":1,\"name\":\"\"}\n"
    ++ codes "{\"line\":\"S\",\"index\":2,\"type\":\"STRTAB\",\"flags\":\"\",\"address\":0,\"offset\":112,\"size\":6,\"link\":0,\"info\":0,\"name\":\"\"}\n"
    ++ codes "{\"line\":\"Y\",\"table\":1,\"index\":0,\"value\":0,\"size\":0,\"type\":\"NOTYPE\",\"binding\":\"LOCAL\",\"visibility\":\"DEFAULT\",\"place\":\"UND\",\"name\":\"\"}\n"
    ++ codes "{\"line\":\"Y\",\"table\":1,\"index\":1,\"value\":4096,\"size\":16,\"type\":\"FUNC\",\"binding\":\"GLOBAL\",\"visibility\":\"DEFAULT\",\"place\":\"ABS\",\"name\":\"main\"}\n"

-- a name that is cut, and a listing that is refused
abbrev pub ObjectsOfFaults : Type 0
ObjectsOfFaults =
    (report_of Object (listing one_symbol_table 3 (objects 3) SYMBOLS)
    ≡ codes "{\"line\":\"Y\",\"table\":1,\"index\":0,\"value\":0,\"size\":0,\"type\":\"NOTYPE\",\"binding\":\"LOCAL\",\"visibility\":\"DEFAULT\",\"place\":\"UND\",\"name\":\"\"}\n"
    ++ codes "{\"line\":\"Y\",\"table\":1,\"index\":1,\"value\":4096,\"size\":16,\"type\":\"FUNC\",\"binding\":\"GLOBAL\",\"visibility\":\"DEFAULT\",\"place\":\"ABS\",\"name\":\"mai\",\"cut\":true}\n")
    × (report_of Object (listing one_symbol_table 2 (objects 63) SYMBOLS) ≡ codes "{\"line\":\"!\",\"place\":60,\"cause\":\"too-many-headers\"}\n")
    × (refusal_line Object (record { at = 2 ^ 63; cause = Short }) ≡ codes "{\"line\":\"!\",\"place\":9223372036854775808,\"cause\":\"short\"}\n")

-- a name as it is escaped in columns, in a string: a quotation mark, and each backslash of the
-- escapes, have one before them
abbrev pub ObjectsOfNames : Type 0
ObjectsOfNames =
    (check_line Object state.Ok (34 ∷ 92 ∷ 10 ∷ 0xc3 ∷ 47 ∷ [])
    ≡ codes "{\"line\":\"C\",\"state\":\"ok\",\"path\":\"\\\"\\\\\\\\\\\\x0a\\\\xc3/\"}\n")
    × (check_line Object (state.Refused (record { at = 0x28; cause = TableOutside })) (codes "a b")
    ≡ codes "{\"line\":\"C\",\"state\":\"refused\",\"place\":40,\"cause\":\"table-outside\",\"path\":\"a b\"}\n")
    × (unnamed_line Object 3 ≡ codes "{\"line\":\"C\",\"state\":\"unnamed\",\"count\":3}\n")
    × (steps_line Object true 2 ≡ codes "{\"line\":\"F\",\"answer\":\"found\",\"steps\":2}\n")

-- the other kinds of lines, of bytes 0 to 127: numbers without names, letters, an addend
abbrev pub ObjectsOfLines : Type 0
ObjectsOfLines =
    ((section_prefix Object false 0x1312 (numbers_from 0 128) 0x40 7).text
    ≡ codes "{\"line\":\"S\",\"index\":7,\"type\":1195787588,\"flags\":\"IOC?\",\"address\":6293311349960364368,\"offset\":6872032732664977752,\"size\":7450754115369591136,\"link\":1802135912,\"info\":1869507948")
    × (segment_line Object false (numbers_from 0 128) 0x40 7
    ≡ codes "{\"line\":\"P\",\"index\":7,\"type\":1128415552,\"permissions\":\"R--\",\"offset\":5714589967255750984,\"vaddr\":6293311349960364368,\"paddr\":6872032732664977752,\"filesz\":7450754115369591136,\"memsz\":8029475498074204520,\"align\":8608196880778817904}\n")
    × ((relocation_prefix true Object false 62 (numbers_from 0 128) 0x40 3).text
    ≡ codes "{\"line\":\"R\",\"table\":3,\"offset\":5135868584551137600,\"type\":1263159624,\"symbol\":1330531660,\"addend\":6293311349960364368")
    × ((dynamic_prefix Object false (numbers_from 0 128) 0x40 5).text
    ≡ codes "{\"line\":\"D\",\"index\":5,\"tag\":5135868584551137600,\"value\":5714589967255750984")
    × (note_line (note_prefix Object 1 3 4 40) 3 (Whole (codes "GNU")) (numbers_from 0 40)
    ≡ codes "{\"line\":\"N\",\"index\":1,\"type\":3,\"namesz\":4,\"descsz\":40,\"name\":\"GNU\",\"descriptor\":\"000102030405060708090a0b0c0d0e0f101112131415161718191a1b1c1d1e1f\"}\n")
    × (note_line (note_prefix Object 1 3 4 1) 3 (Cut (codes "G")) (5 ∷ [])
    ≡ codes "{\"line\":\"N\",\"index\":1,\"type\":3,\"namesz\":4,\"descsz\":1,\"name\":\"G\",\"cut\":true,\"descriptor\":\"05\"}\n")
    × (named_line (version_prefix Object Definition 4 2 1 0x0d696910) (Whole (codes "V1"))
    ≡ codes "{\"line\":\"V\",\"index\":4,\"kind\":\"DEF\",\"number\":2,\"flags\":1,\"hash\":225011984,\"name\":\"V1\"}\n")
    × (named_line (symbol_version_prefix Object 5 12345678901 0x8002) (Whole [])
    ≡ codes "{\"line\":\"X\",\"table\":5,\"index\":12345678901,\"number\":2,\"hidden\":\"H\",\"name\":\"\"}\n")
    × (named_line (member_prefix Object 0 68 5) (Whole (codes "a.o"))
    ≡ codes "{\"line\":\"A\",\"index\":0,\"offset\":68,\"size\":5,\"name\":\"a.o\"}\n")
