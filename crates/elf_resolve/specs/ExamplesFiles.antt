-- Worked links of files by their bytes.
use Rattle.std.specs.Prelude.{ℕ, ◌≡◌, ◌==◌, false, List, [], ◌∷◌, ◌++◌, codes, get_or, Some}
use Rattle.elf_model.specs.Archive.{ARCHIVE_MAGIC}
use Rattle.elf_model.specs.Bytes.{field}
use Rattle.elf_model.specs.LinkArchives.{LinkFiles, link_answer, names_of_files}
use Rattle.elf_model.specs.LinkInputs.{LinkInputs}
use Rattle.elf_model.specs.LinkInputs.LinkInputs.{NoInputs, Input}
use Rattle.elf_model.specs.LinkLines.{LinkOutput}
use Rattle.elf_model.specs.Prelude.{archive_of, little, member, one_symbol_table, with_bytes}
use Rattle.elf_model.specs.declared.formats.Format.TheVariants.{Columns}

-- an object that defines `main`, and one that needs it
abbrev defining : List ℕ
defining = one_symbol_table

abbrev needing : List ℕ
needing = with_bytes 0x5e (little 2 0) defining

-- an archive of the first, whose index has `main` at an offset of one byte: the object's is 0x52
abbrev indexed_at : ℕ → List ℕ
indexed_at offset = archive_of (member (codes "/") ((0 ∷ 0 ∷ 0 ∷ 1 ∷ 0 ∷ 0 ∷ 0 ∷ offset ∷ []) ++ codes "main" ++ 0 ∷ []) ++ member (codes "a.o/") defining)

abbrev files_of : List (List ℕ) → LinkFiles
files_of files = record { file = λ input. Some (get_or files input []); is_archive = λ input. field (get_or files input []) 0 8 == ARCHIVE_MAGIC; is_whole = λ input. false; headers = 8 }

abbrev program : LinkOutput
program = record { is_shared = false; is_dynamic = false }

abbrev Answers : LinkInputs → List (List ℕ) → List (List ℕ) → Type 0
Answers inputs files lines = link_answer Columns program (names_of_files (files_of files) (λ input. codes "p")) (files_of files) [] inputs ≡ lines

abbrev two : LinkInputs
two = Input 0 (Input 1 NoInputs)

-- the archive's member is taken for it
abbrev pub MembersAreTakenByBytes : Type 0
MembersAreTakenByBytes =
    Answers two (needing ∷ indexed_at 0x52 ∷ [])
    (codes "I     0 object   -     -     p\n"
    ∷ codes "I     1 archive  -     -     p\n"
    ∷ codes "I     2 member       1     1 a.o\n"
    ∷ codes "W     2     0 main\n"
    ∷ codes "G defined      2     0 main\n"
    ∷ [])

-- an offset of no member, and an object after it
abbrev pub RefusedFilesEndTheAnswer : Type 0
RefusedFilesEndTheAnswer =
    Answers (Input 0 (Input 1 (Input 0 NoInputs))) (needing ∷ indexed_at 0x53 ∷ [])
    (codes "I     0 object   -     -     p\n"
    ∷ codes "I     1 refused  -     -     p\n"
    ∷ codes "! 0000000000000048 index-member\n"
    ∷ [])

-- an object that defines it twice in the words, of one value, defines it once
abbrev pub SameValuesAreOne : Type 0
SameValuesAreOne =
    Answers two (defining ∷ defining ∷ [])
    (codes "I     0 object   -     -     p\n"
    ∷ codes "I     1 object   -     -     p\n"
    ∷ codes "G defined      0 -     main\n"
    ∷ [])
