-- Worked examples of traits by program headers and dynamic entries: each with both values.
use Rattle.std.specs.Prelude.{ℕ, List, ◌++◌, codes}
use Rattle.elf_model.specs.Prelude.{little, program_header, tagged, with_bytes}
use Rattle.elf_examples.specs.TraitFiles.{TraitsAre, program_with_traits}

-- the program with other words in FLAGS and in FLAGS_1
abbrev flags : (flags flags_1 : ℕ) → List ℕ → List ℕ
flags one other file = with_bytes 0x280 (little 8 one) (with_bytes 0x290 (little 8 other) file)

-- all is bound before the program starts by either entry, or by one of its own; the bits of one
-- mean nothing in the other
abbrev pub RelroRows : Type 0
RelroRows =
    TraitsAre (flags 8 0 program_with_traits) (codes "T pie    full    nx    w^x   fixed ibt+shstk canary fortify -       p\n")
    × TraitsAre (flags 0 1 program_with_traits) (codes "T pie    full    nx    w^x   fixed ibt+shstk canary fortify -       p\n")
    × TraitsAre (flags 0 0 program_with_traits) (codes "T pie    partial nx    w^x   fixed ibt+shstk canary fortify -       p\n")
    × TraitsAre (flags 1 8 program_with_traits) (codes "T pie    partial nx    w^x   fixed ibt+shstk canary fortify -       p\n")
    × TraitsAre (with_bytes 0x278 (tagged 24 0) (flags 0 0 program_with_traits)) (codes "T pie    full    nx    w^x   fixed ibt+shstk canary fortify -       p\n")

-- without a segment that is made read-only nothing is, no matter what is bound at the start; an
-- entry after the first NULL is not one, and of two with a tag the first counts
abbrev pub RelroHostile : Type 0
RelroHostile =
    TraitsAre (with_bytes 0x120 (little 4 0) program_with_traits) (codes "T pie    none    nx    w^x   fixed ibt+shstk canary fortify -       p\n")
    × TraitsAre (with_bytes 0x278 (tagged 0 0 ++ tagged 30 8) program_with_traits) (codes "T pie    partial nx    w^x   fixed ibt+shstk canary fortify -       p\n")
    × TraitsAre (with_bytes 0x278 (tagged 30 0 ++ tagged 30 8) program_with_traits) (codes "T pie    partial nx    w^x   fixed ibt+shstk canary fortify -       p\n")

-- the stack is executable by its segment, and without one; of two the first counts
abbrev pub StackRows : Type 0
StackRows =
    TraitsAre (with_bytes 0xec (little 4 7) program_with_traits) (codes "T pie    full    exec  w^x   fixed ibt+shstk canary fortify -       p\n")
    × TraitsAre (with_bytes 0xe8 (little 4 0) program_with_traits) (codes "T pie    full    exec  w^x   fixed ibt+shstk canary fortify -       p\n")
    × TraitsAre (with_bytes 0xec (little 4 4) program_with_traits) (codes "T pie    full    nx    w^x   fixed ibt+shstk canary fortify -       p\n")
    × TraitsAre (with_bytes 0x78 (little 4 0x6474e551 ++ little 4 7) program_with_traits) (codes "T static full    exec  w^x   fixed ibt+shstk canary fortify -       p\n")
    × TraitsAre (with_bytes 0x78 (little 4 0x6474e551 ++ little 4 6) (with_bytes 0xec (little 4 7) program_with_traits)) (codes "T static full    nx    w^x   fixed ibt+shstk canary fortify -       p\n")

-- a LOAD segment that is writable and executable; one that is only writable; another segment that
-- is both
abbrev pub PagesRows : Type 0
PagesRows =
    TraitsAre (with_bytes 0x44 (little 4 7) program_with_traits) (codes "T pie    full    nx    wx    fixed ibt+shstk canary fortify -       p\n")
    × TraitsAre (with_bytes 0x44 (little 4 3) program_with_traits) (codes "T pie    full    nx    wx    fixed ibt+shstk canary fortify -       p\n")
    × TraitsAre (with_bytes 0x44 (little 4 6) program_with_traits) (codes "T pie    full    nx    w^x   fixed ibt+shstk canary fortify -       p\n")
    × TraitsAre (with_bytes 0x124 (little 4 7) program_with_traits) (codes "T pie    full    nx    w^x   fixed ibt+shstk canary fortify -       p\n")

-- of two LOAD segments the second may be the one that is both; one that is writable and another
-- that is executable are not
abbrev pub TwoLoads : Type 0
TwoLoads =
    TraitsAre (with_bytes 0x78 (program_header 1 7 0x2a8 0x2000 0 0x1000) program_with_traits) (codes "T static full    nx    wx    fixed ibt+shstk canary fortify -       p\n")
    × TraitsAre (with_bytes 0x78 (program_header 1 6 0x2a8 0x2000 0 0x1000) program_with_traits) (codes "T static full    nx    w^x   fixed ibt+shstk canary fortify -       p\n")

-- text that is relocated, by its entry or by its flag, which means nothing in FLAGS_1; where
-- libraries are searched for first
abbrev pub EntryRows : Type 0
EntryRows =
    TraitsAre (with_bytes 0x278 (tagged 22 0) program_with_traits) (codes "T pie    full    nx    w^x   patch ibt+shstk canary fortify -       p\n")
    × TraitsAre (flags 4 0 program_with_traits) (codes "T pie    partial nx    w^x   patch ibt+shstk canary fortify -       p\n")
    × TraitsAre (flags 0 4 program_with_traits) (codes "T pie    partial nx    w^x   fixed ibt+shstk canary fortify -       p\n")
    × TraitsAre (with_bytes 0x278 (tagged 15 0) program_with_traits) (codes "T pie    full    nx    w^x   fixed ibt+shstk canary fortify rpath   p\n")
    × TraitsAre (with_bytes 0x278 (tagged 29 0) program_with_traits) (codes "T pie    full    nx    w^x   fixed ibt+shstk canary fortify runpath p\n")
    × TraitsAre (with_bytes 0x278 (tagged 15 0 ++ tagged 29 0) program_with_traits) (codes "T pie    partial nx    w^x   fixed ibt+shstk canary fortify runpath p\n")
