-- Worked examples of traits by dynamic symbols, and of how many there are.
use Rattle.std.specs.Prelude.{ℕ, ◌+◌, List, [], ◌∷◌, ◌++◌, codes, replicate}
use Rattle.elf_model.specs.Prelude.{little, program_header, with_bytes, words, zeros}
use Rattle.elf_examples.specs.TraitFiles.{TraitsCost, TraitsAre, program_with_traits}

-- the program with other strings after the first, which is empty
abbrev named : List ℕ → List ℕ → List ℕ
named names file = with_bytes 0x1f9 names file

-- a stack protector's function, or its word, needed or defined; another name; one that begins as
-- such a name does
abbrev pub CanaryRows : Type 0
CanaryRows =
    TraitsAre (with_bytes 0x1ce (little 2 7) program_with_traits) (codes "T pie    full    nx    w^x   fixed ibt+shstk canary fortify -       p\n")
    × TraitsAre (named (codes "__stack_chk_fall") program_with_traits) (codes "T pie    full    nx    w^x   fixed ibt+shstk -      fortify -       p\n")
    × TraitsAre (named (codes "__stack_chk_fai" ++ zeros 1) program_with_traits) (codes "T pie    full    nx    w^x   fixed ibt+shstk -      fortify -       p\n")
    × TraitsAre (named (codes "__stack_chk_guard" ++ zeros 1 ++ codes "_printf_chk") (with_bytes 0x1e0 (little 4 19) program_with_traits)) (codes "T pie    full    nx    w^x   fixed ibt+shstk canary -       -       p\n")

-- a fortify call is needed, not defined; its name begins and ends so
abbrev pub FortifyRows : Type 0
FortifyRows =
    TraitsAre (with_bytes 0x1e6 (little 2 7) program_with_traits) (codes "T pie    full    nx    w^x   fixed ibt+shstk canary -       -       p\n")
    × TraitsAre (with_bytes 0x20a (codes "_p") program_with_traits) (codes "T pie    full    nx    w^x   fixed ibt+shstk canary -       -       p\n")
    × TraitsAre (with_bytes 0x215 (codes "x") program_with_traits) (codes "T pie    full    nx    w^x   fixed ibt+shstk canary -       -       p\n")
    × TraitsAre (with_bytes 0x20a (codes "__chk" ++ zeros 1) program_with_traits) (codes "T pie    full    nx    w^x   fixed ibt+shstk canary fortify -       p\n")

-- the symbols are those of the hash table: those before `first`; with a chain, up to its last; a
-- chain that does not end goes on to the last symbol that there is room for, whose name is refused;
-- in a gABI table as many as chains; without a table none
abbrev pub CountRows : Type 0
CountRows =
    TraitsAre (with_bytes 0x194 (little 4 2) program_with_traits) (codes "T pie    full    nx    w^x   fixed ibt+shstk canary -       -       p\n")
    × TraitsAre (with_bytes 0x194 (little 4 2) (with_bytes 0x1a8 (words (2 ∷ 1 ∷ [])) program_with_traits)) (codes "T pie    full    nx    w^x   fixed ibt+shstk canary fortify -       p\n")
    × TraitsAre (with_bytes 0x194 (little 4 1) (with_bytes 0x1a8 (words (1 ∷ 1 ∷ [])) program_with_traits)) (codes "T pie    full    nx    w^x   fixed ibt+shstk canary -       -       p\n")
    × TraitsAre (with_bytes 0x194 (little 4 2) (with_bytes 0x1a8 (words (2 ∷ 0 ∷ [])) program_with_traits)) (codes "C refused      00000000000001f8 name-outside p\n")
    × TraitsAre (with_bytes 0x190 (words (1 ∷ 3 ∷ 0 ∷ 0 ∷ 0 ∷ 0 ∷ [])) (with_bytes 0x238 (little 8 4) program_with_traits)) (codes "T pie    full    nx    w^x   fixed ibt+shstk canary fortify -       p\n")
    × TraitsAre (with_bytes 0x190 (words (1 ∷ 2 ∷ 0 ∷ 0 ∷ 0 ∷ [])) (with_bytes 0x238 (little 8 4) program_with_traits)) (codes "T pie    full    nx    w^x   fixed ibt+shstk canary -       -       p\n")
    × TraitsAre (with_bytes 0x238 (little 8 99) program_with_traits) (codes "T pie    full    nx    w^x   fixed ibt+shstk -      -       -       p\n")
    × TraitsCost (with_bytes 0x238 (little 8 99) program_with_traits) 672

-- the program with strings after it: one name, of six bytes and this many more
abbrev long_named : ℕ → List ℕ
long_named count =
    with_bytes 0x60 (little 8 0x2f0 ++ little 8 0x2f0)
    (with_bytes 0x1c8 (little 4 0) (with_bytes 0x1e0 (little 4 1)
    (with_bytes 0x250 (little 8 0x2a8) (with_bytes 0x270 (little 8 (count + 8)) program_with_traits))))
    ++ zeros 1 ++ codes "__" ++ replicate count 97 ++ codes "_chk" ++ zeros 8

-- A table in which no symbol is found and whose `first` is 1 does not say how many there are: then
-- there are those before their strings; none if the strings come before them, in another segment
-- past the room for symbols, or after the table
abbrev pub EmptyTableRows : Type 0
EmptyTableRows =
    TraitsAre (with_bytes 0x194 (little 4 1) program_with_traits) (codes "T pie    full    nx    w^x   fixed ibt+shstk canary fortify -       p\n")
    × TraitsAre (with_bytes 0x194 (little 4 1) (with_bytes 0x250 (little 8 0x190) program_with_traits)) (codes "T pie    full    nx    w^x   fixed ibt+shstk -      -       -       p\n")
    × TraitsAre
    (with_bytes 0x194 (little 4 1) (with_bytes 0x78 (program_header 1 4 0x2b8 0x12b8 0x10 0x1000)
    (with_bytes 0x250 (little 8 0x12b8) (with_bytes 0x270 (little 8 0x10) program_with_traits))) ++ zeros 0x20)
    (codes "T static full    nx    w^x   fixed ibt+shstk -      -       -       p\n")
    × TraitsAre
    (with_bytes 0x240 (little 8 0x1f8) (with_bytes 0x1f8 (words (1 ∷ 1 ∷ 1 ∷ 0 ∷ 0 ∷ 0 ∷ 0 ∷ [])) (long_named 57)))
    (codes "T pie    full    nx    w^x   fixed ibt+shstk -      -       -       p\n")
    × TraitsCost (with_bytes 0x194 (little 4 1) program_with_traits) 880

-- a fault of a name is at the symbol
abbrev pub NameFaults : Type 0
NameFaults =
    TraitsAre (with_bytes 0x1e0 (little 4 32) program_with_traits) (codes "C refused      00000000000001e0 name-outside p\n")
    × TraitsAre (with_bytes 0x270 (little 8 20) program_with_traits) (codes "C refused      00000000000001e0 name-unended p\n")

-- symbol 0 is none, for any name
abbrev pub FirstSymbolIsNone : Type 0
FirstSymbolIsNone =
    TraitsAre (with_bytes 0x1b0 (little 4 32) program_with_traits) (codes "T pie    full    nx    w^x   fixed ibt+shstk canary fortify -       p\n")

-- a name of 63 bytes is compared, and none of more
abbrev pub LongNamesMarkNothing : Type 0
LongNamesMarkNothing =
    TraitsAre (long_named 57) (codes "T pie    full    nx    w^x   fixed ibt+shstk -      fortify -       p\n")
    × TraitsAre (long_named 58) (codes "T pie    full    nx    w^x   fixed ibt+shstk -      -       -       p\n")
