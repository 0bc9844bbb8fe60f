-- Worked examples of lists of properties, and of the notes that have them.
use Rattle.std.specs.Prelude.{◌≡◌, ◌-◌, ◌^◌, ℕ, List, [], ◌∷◌, ◌++◌, codes, None, Some, Result, Ok, Err}
use Rattle.elf_model.specs.Prelude.{Property, features_in, little, program_header, properties_in, with_bytes}
use Rattle.elf_model.specs.declared.causes.Cause.TheVariants.{NoteCut}
use Rattle.elf_model.specs.declared.causes.Refusal.{Refusal}
use Rattle.elf_examples.specs.TraitFiles.{TraitsAre, program_with_traits, property}

-- the properties that a descriptor lists
abbrev Lists : List ℕ → List Property → Type 0
Lists descriptor properties = properties_in descriptor ≡ record { properties = properties; cut = None }

abbrev IsCut : List ℕ → List Property → ℕ → Type 0
IsCut descriptor properties offset = properties_in descriptor ≡ record { properties = properties; cut = Some offset }

abbrev one : Property
one = record { kind = 1; content = 7 ∷ 0 ∷ 0 ∷ 0 ∷ [] }

-- no property; one, whose padding is there or not; two; data of no byte; then less than a header is
-- left; less than the data; sizes of 2^32 - 1, which no file has
abbrev pub PropertyLists : Type 0
PropertyLists =
    Lists [] []
    × Lists (property 1 4 (little 8 7)) (one ∷ [])
    × Lists (property 1 4 (little 4 7)) (one ∷ [])
    × Lists (property 1 4 (little 8 7) ++ property 1 4 (little 4 7)) (one ∷ one ∷ [])
    × Lists (property 2 0 [] ++ property 1 4 (little 8 7)) (record { kind = 2; content = [] } ∷ one ∷ [])
    × IsCut (property 1 4 (little 8 7) ++ 0 ∷ 0 ∷ 0 ∷ 0 ∷ 0 ∷ 0 ∷ 0 ∷ []) (one ∷ []) 16
    × IsCut (property 1 5 (little 4 7)) [] 0
    × IsCut (property 1 4 (little 8 7) ++ property 1 (2 ^ 32 - 1) (little 8 7)) (one ∷ []) 16
    × IsCut (property 1 (2 ^ 32 - 1) []) [] 0

-- the word of the features: each bit; none; another type; data of another size; another machine,
-- whose properties have the same numbers; the first of the type counts
abbrev pub FeatureRows : Type 0
FeatureRows =
    TraitsAre (with_bytes 0x230 (little 4 1) program_with_traits) (codes "T pie    full    nx    w^x   fixed ibt       canary fortify -       p\n")
    × TraitsAre (with_bytes 0x230 (little 4 2) program_with_traits) (codes "T pie    full    nx    w^x   fixed shstk     canary fortify -       p\n")
    × TraitsAre (with_bytes 0x230 (little 4 0xfffffffc) program_with_traits) (codes "T pie    full    nx    w^x   fixed -         canary fortify -       p\n")
    × TraitsAre (with_bytes 0x228 (little 4 0xc0008002) program_with_traits) (codes "T pie    full    nx    w^x   fixed -         canary fortify -       p\n")
    × TraitsAre (with_bytes 0x22c (little 4 8) program_with_traits) (codes "T pie    full    nx    w^x   fixed -         canary fortify -       p\n")
    × TraitsAre (with_bytes 0x12 (little 2 183) program_with_traits) (codes "T pie    full    nx    w^x   fixed -         canary fortify -       p\n")

-- the features of a list at 0x100
abbrev FeaturesAre : List ℕ → Result ℕ Refusal → Type 0
FeaturesAre bytes word = features_in (record { place = 0x100; bytes = bytes }) ≡ word

-- the first property of the type counts, in any position, also if it has another size; a list that
-- is cut after it is refused at that offset
abbrev pub FirstFeaturesCount : Type 0
FirstFeaturesCount =
    FeaturesAre [] (Ok 0)
    × FeaturesAre (property 1 4 (little 8 7) ++ property 0xc0000002 4 (little 8 1)) (Ok 1)
    × FeaturesAre (property 0xc0000002 4 (little 8 1) ++ property 0xc0000002 4 (little 8 2)) (Ok 1)
    × FeaturesAre (property 0xc0000002 8 (little 8 3) ++ property 0xc0000002 4 (little 8 1)) (Ok 0)
    × FeaturesAre (property 0xc0000002 4 (little 8 1) ++ 0 ∷ []) (Err (record { at = 0x110; cause = NoteCut }))

-- the note is a GNU note of the type, in a segment of notes: not by its name, not by its type, no
-- such segment
abbrev pub NoteRows : Type 0
NoteRows =
    TraitsAre (with_bytes 0x224 (codes "gnu") program_with_traits) (codes "T pie    full    nx    w^x   fixed -         canary fortify -       p\n")
    × TraitsAre (with_bytes 0x220 (little 4 3) program_with_traits) (codes "T pie    full    nx    w^x   fixed -         canary fortify -       p\n")
    × TraitsAre (with_bytes 0x158 (little 4 0x6474e553) program_with_traits) (codes "T pie    full    nx    w^x   fixed -         canary fortify -       p\n")

-- hostile: a size of 2^32 - 1, refused at its property; a note that is cut; notes past the end of
-- the file; two overlapping segments of notes, of which the first counts, whether it reads the list
-- as a note or has the list's note itself
abbrev pub HostileNotes : Type 0
HostileNotes =
    TraitsAre (with_bytes 0x22c (little 4 0xffffffff) program_with_traits) (codes "C refused      0000000000000228 note-cut p\n")
    × TraitsAre (with_bytes 0x21c (little 4 0xffffffff) program_with_traits) (codes "C refused      0000000000000218 note-cut p\n")
    × TraitsAre (with_bytes 0x178 (little 8 0x91) program_with_traits) (codes "C refused      0000000000000158 table-outside p\n")
    × TraitsAre (with_bytes 0x78 (program_header 4 4 0x228 0 0x10 8) program_with_traits) (codes "C refused      0000000000000228 note-cut p\n")
    × TraitsAre (with_bytes 0x78 (program_header 4 4 0x218 0 0x20 8) (with_bytes 0x160 (little 8 0x228) program_with_traits)) (codes "T static full    nx    w^x   fixed ibt+shstk canary fortify -       p\n")

-- a list before the offset at which the notes of its segment are cut counts; a segment of no bytes
-- has no notes, at any offset
abbrev pub ListsBeforeCuts : Type 0
ListsBeforeCuts =
    TraitsAre (with_bytes 0x178 (little 8 0x21) program_with_traits) (codes "T pie    full    nx    w^x   fixed ibt+shstk canary fortify -       p\n")
    × TraitsAre (with_bytes 0x160 (little 8 0xffff) (with_bytes 0x178 (little 8 0) program_with_traits)) (codes "T pie    full    nx    w^x   fixed -         canary fortify -       p\n")
