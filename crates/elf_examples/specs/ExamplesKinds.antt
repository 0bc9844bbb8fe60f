-- Worked examples of the kinds of files, and of files that are refused.
use Rattle.std.specs.Prelude.{ℕ, ◌≡◌, ◌+◌, ◌*◌, List, [], ◌∷◌, ◌++◌, codes}
use Rattle.elf_model.specs.Prelude.{little, one_load, one_symbol_table, tagged, traits_ceiling, with_bytes}
use Rattle.elf_examples.specs.TraitFiles.{TraitsCost, TraitsAre, program_with_traits}

-- the program without an interpreter, and with DF_1_NOW alone in FLAGS_1
abbrev without_interpreter : List ℕ → List ℕ
without_interpreter file = with_bytes 0x78 (little 4 0) file

abbrev not_pie : List ℕ → List ℕ
not_pie file = with_bytes 0x290 (little 8 1) file

abbrev typed : ℕ → List ℕ → List ℕ
typed type file = with_bytes 0x10 (little 2 type) file

-- a program at any address, with an interpreter; one that says so and has none; a library, by its
-- name or by neither
abbrev pub SharedKinds : Type 0
SharedKinds =
    TraitsAre program_with_traits (codes "T pie    full    nx    w^x   fixed ibt+shstk canary fortify -       p\n")
    × TraitsCost program_with_traits 880
    × TraitsAre (not_pie program_with_traits) (codes "T pie    full    nx    w^x   fixed ibt+shstk canary fortify -       p\n")
    × TraitsAre (without_interpreter program_with_traits) (codes "T static full    nx    w^x   fixed ibt+shstk canary fortify -       p\n")
    × TraitsAre (without_interpreter (not_pie program_with_traits)) (codes "T lib    full    nx    w^x   fixed ibt+shstk canary fortify -       p\n")
    × TraitsAre (with_bytes 0x298 (tagged 14 0) program_with_traits) (codes "T lib    full    nx    w^x   fixed ibt+shstk canary fortify -       p\n")

-- a program at fixed addresses, with an interpreter or without one: a flag that it may be loaded at
-- any does not matter; files of other types, of which a core has no word for its stack; a file
-- without program headers, and one without dynamic entries
abbrev pub FixedKinds : Type 0
FixedKinds =
    TraitsAre (typed 2 program_with_traits) (codes "T exec   full    nx    w^x   fixed ibt+shstk canary fortify -       p\n")
    × TraitsAre (typed 2 (without_interpreter program_with_traits)) (codes "T static full    nx    w^x   fixed ibt+shstk canary fortify -       p\n")
    × TraitsAre (typed 4 program_with_traits) (codes "T core   full    -     w^x   fixed ibt+shstk canary fortify -       p\n")
    × TraitsAre (typed 0xfe00 program_with_traits) (codes "T other  full    nx    w^x   fixed ibt+shstk canary fortify -       p\n")
    × TraitsAre one_symbol_table (codes "T object -       exec  -     -     -         -      -       -       p\n")
    × TraitsCost one_symbol_table 512
    × TraitsAre one_load (codes "T static none    exec  w^x   fixed -         -      -       -       p\n")
    × TraitsCost one_load 120

-- section headers are not read: more of them than are allowed, and one whose table is not in the
-- file
abbrev pub SectionsDoNotTell : Type 0
SectionsDoNotTell =
    TraitsAre (with_bytes 0x28 (little 8 0x40) (with_bytes 0x3a (little 2 64 ++ little 2 9) program_with_traits))
    (codes "T pie    full    nx    w^x   fixed ibt+shstk canary fortify -       p\n")
    × TraitsAre (with_bytes 0x28 (little 8 0xffff) (with_bytes 0x3a (little 2 64 ++ little 2 1) program_with_traits))
    (codes "T pie    full    nx    w^x   fixed ibt+shstk canary fortify -       p\n")

-- a kernel image: without dynamic entries LOAD segments may overlap, as one at address 0 does
abbrev pub OverlapsWithoutEntries : Type 0
OverlapsWithoutEntries =
    TraitsAre (with_bytes 0xb0 (little 4 0) (with_bytes 0x78 (little 4 1) program_with_traits))
    (codes "T lib    partial nx    w^x   fixed ibt+shstk -      -       -       p\n")

-- files that are refused: by the file header, more program headers than are allowed, overlapping
-- LOAD segments, dynamic entries that are not whole, a filter without a word
abbrev pub RefusedFiles : Type 0
RefusedFiles =
    TraitsAre (with_bytes 4 (1 ∷ []) program_with_traits) (codes "C refused      0000000000000004 class p\n")
    × TraitsAre (with_bytes 0x38 (little 2 9) program_with_traits) (codes "C refused      0000000000000038 too-many-headers p\n")
    × TraitsCost (with_bytes 0x38 (little 2 9) program_with_traits) 64
    × TraitsAre (with_bytes 0x78 (little 4 1) program_with_traits) (codes "C refused      0000000000000078 load-overlap p\n")
    × TraitsAre (with_bytes 0xd0 (little 8 0x6f) program_with_traits) (codes "C refused      00000000000000b0 size-not-whole p\n")
    × TraitsAre (with_bytes 0x198 (little 4 0) program_with_traits) (codes "C refused      0000000000000238 hash-shape p\n")

-- of two faults the one of the hash table is before the one of the notes, and that before the one
-- of a symbol's name
abbrev pub TraitRefusalsInOrder : Type 0
TraitRefusalsInOrder =
    TraitsAre (with_bytes 0x198 (little 4 0) (with_bytes 0x22c (little 4 0xffffffff) program_with_traits)) (codes "C refused      0000000000000238 hash-shape p\n")
    × TraitsAre (with_bytes 0x22c (little 4 0xffffffff) (with_bytes 0x1e0 (little 4 32) program_with_traits)) (codes "C refused      0000000000000228 note-cut p\n")

-- the upper bound of traits in 120 bytes with one header: five symbols have room in them, and of a
-- relocatable file the name of one section is compared
abbrev pub TraitsCeiling : Type 0
TraitsCeiling = traits_ceiling 120 1 ≡ 64 + (56 + 120) + 4 * 120 + 16 + 5 * (24 + 64) + (64 + 1 * (64 + 64))
