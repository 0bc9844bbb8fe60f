-- The words of a file's traits, the line that has them in columns, and what is required of them.
use Rattle.std.specs.Prelude.{ℕ, bytes_eq, Bool, true, false, List, [], ◌∷◌, ◌++◌, codes, Option, None, Some}
use Rattle.std.specs.List.{list_any}
use Rattle.elf_model.specs.Fields.{Fields, LinePrefix, closed_line, front}
use Rattle.elf_model.specs.Fields.Field.{ArgSpec}
use Rattle.elf_model.specs.Lines.{named_line}
use Rattle.elf_model.specs.Names.DisplayedName.{Whole}
use Rattle.elf_model.specs.Pieces.{pieces_at}
use Rattle.elf_model.specs.declared.formats.Format.{Format}
use Rattle.elf_model.specs.declared.traits.ProgramKind.{ProgramKind}
use Rattle.elf_model.specs.declared.traits.ProgramKind.TheVariants as kind
use Rattle.elf_model.specs.declared.traits.Relro.{Relro}
use Rattle.elf_model.specs.declared.traits.Relro.TheVariants as relro
use Rattle.elf_model.specs.declared.traits.SearchPath.{SearchPath}
use Rattle.elf_model.specs.declared.traits.SearchPath.TheVariants as path
use Rattle.elf_model.specs.declared.traits.SegmentTraits.{SegmentTraits}
use Rattle.elf_model.specs.declared.traits.TraitColumn.{TraitColumn}
use Rattle.elf_model.specs.declared.traits.TraitColumn.TheVariants as column
use Rattle.elf_model.specs.declared.traits.Hardening.{Hardening}

-- what a file is
unfoldable pub file_kind_name : ProgramKind → List ℕ
file_kind_name kind.Exec = codes "exec"
file_kind_name kind.Pie = codes "pie"
file_kind_name kind.Static = codes "static"
file_kind_name kind.Lib = codes "lib"
file_kind_name kind.Object = codes "object"
file_kind_name kind.Core = codes "core"
file_kind_name kind.Other = codes "other"

-- what is not known, since the file has no program headers
abbrev not_told : List ℕ
not_told = codes "-"

-- a word for a trait of program headers
abbrev pub segments_word : Option SegmentTraits → (SegmentTraits → List ℕ) → List ℕ
segments_word None word = not_told
segments_word (Some segments) word = word segments

unfoldable pub relro_text : Relro → List ℕ
relro_text relro.Full = codes "full"
relro_text relro.Partial = codes "partial"
relro_text relro.Absent = codes "none"

-- one of two words
abbrev pub either_word : Bool → (List ℕ) → (List ℕ) → List ℕ
either_word true first second = first
either_word false first second = second

unfoldable pub relro_word : Option SegmentTraits → List ℕ
relro_word segments = segments_word segments (λ s. relro_text s.relro)

unfoldable pub stack_word : Option Bool → List ℕ
stack_word None = not_told
stack_word (Some executable) = either_word executable (codes "exec") (codes "nx")

unfoldable pub pages_word : Option SegmentTraits → List ℕ
pages_word segments = segments_word segments (λ s. either_word s.pages_writable (codes "wx") (codes "w^x"))

unfoldable pub text_word : Option SegmentTraits → List ℕ
text_word segments = segments_word segments (λ s. either_word s.text_patched (codes "patch") (codes "fixed"))

-- the control flow that is checked: of branches, of returns, of both, or of neither
unfoldable pub cet_word : Bool → Bool → List ℕ
cet_word true true = codes "ibt+shstk"
cet_word true false = codes "ibt"
cet_word false true = codes "shstk"
cet_word false false = codes "-"

unfoldable pub canary_word : Bool → List ℕ
canary_word canary = either_word canary (codes "canary") (codes "-")

unfoldable pub fortify_word : Bool → List ℕ
fortify_word fortify = either_word fortify (codes "fortify") (codes "-")

unfoldable pub path_word : SearchPath → List ℕ
path_word path.Runpath = codes "runpath"
path_word path.Rpath = codes "rpath"
path_word path.Absent = codes "-"

-- THE LINE of a file's traits up to its path
abbrev trait_fields : Hardening → Fields
trait_fields t = record {
  letter = codes "T";
  fields =
      ArgSpec (codes "kind") 6 (file_kind_name t.kind)
      ∷ ArgSpec (codes "relro") 7 (relro_word t.segments)
      ∷ ArgSpec (codes "stack") 5 (stack_word t.stack)
      ∷ ArgSpec (codes "pages") 5 (pages_word t.segments)
      ∷ ArgSpec (codes "text") 5 (text_word t.segments)
      ∷ ArgSpec (codes "cet") 9 (cet_word t.ibt t.shstk)
      ∷ ArgSpec (codes "canary") 6 (canary_word t.canary)
      ∷ ArgSpec (codes "fortify") 7 (fortify_word t.fortify)
      ∷ ArgSpec (codes "rpath") 7 (path_word t.path)
      ∷ [];
}

unfoldable pub trait_front : Format → Hardening → LinePrefix
trait_front format t = front format (codes "path") (trait_fields t)

-- the line of a file: its traits, and its path
abbrev pub trait_line : Format → Hardening → List ℕ → List ℕ
trait_line format traits its_path = named_line (trait_front format traits) (Whole its_path)

-- the name of a column, and its word
unfoldable pub column_name : TraitColumn → List ℕ
column_name column.Kind = codes "kind"
column_name column.Relro = codes "relro"
column_name column.Stack = codes "stack"
column_name column.Pages = codes "pages"
column_name column.Text = codes "text"
column_name column.Cet = codes "cet"
column_name column.Canary = codes "canary"
column_name column.Fortify = codes "fortify"
column_name column.Path = codes "path"

unfoldable pub column_word : Hardening → TraitColumn → List ℕ
column_word t column.Kind = file_kind_name t.kind
column_word t column.Relro = relro_word t.segments
column_word t column.Stack = stack_word t.stack
column_word t column.Pages = pages_word t.segments
column_word t column.Text = text_word t.segments
column_word t column.Cet = cet_word t.ibt t.shstk
column_word t column.Canary = canary_word t.canary
column_word t column.Fortify = fortify_word t.fortify
column_word t column.Path = path_word t.path

-- WHAT IS REQUIRED of a file: a word of a column, or one of some, between which is `|`
pub record Required : Type 0 where
  pub column : TraitColumn
  pub word : List ℕ

abbrev pub alternatives : List ℕ → List (List ℕ)
alternatives word = pieces_at 124 word

-- a file has the word, or one of them
abbrev pub has_word : Hardening → Required → Bool
has_word t required = list_any (bytes_eq (column_word t required.column)) (alternatives required.word)

-- words are required only of programs and libraries
unfoldable pub is_program : ProgramKind → Bool
is_program kind.Exec = true
is_program kind.Pie = true
is_program kind.Static = true
is_program kind.Lib = true
is_program kind.Object = false
is_program kind.Core = false
is_program kind.Other = false

-- the columns of those of some words that a file lacks, in order
unfoldable pub lacking_columns : Hardening → List Required → List TraitColumn
lacking_columns t [] = []
lacking_columns t (required ∷ others) =
    elim (has_word t required) [ true ↦ lacking_columns t others | false ↦ required.column ∷ lacking_columns t others ]

-- what a file lacks of what is required
unfoldable pub lacking : Hardening → List Required → List TraitColumn
lacking t required = elim (is_program t.kind) [ true ↦ lacking_columns t required | false ↦ [] ]

-- the line of what a file lacks: the column's name, and the word that it has
abbrev pub lacking_text : Hardening → TraitColumn → List ℕ
lacking_text t its_column = column_name its_column ++ codes "=" ++ column_word t its_column

unfoldable pub lacking_line : Format → Hardening → TraitColumn → List ℕ
lacking_line format t its_column =
    closed_line format (record { letter = codes "!"; fields = [] }) (ArgSpec (codes "trait") 0 (lacking_text t its_column))

-- the lines of all that a file lacks
unfoldable pub lacking_lines : Format → Hardening → List TraitColumn → List ℕ
lacking_lines format t [] = []
lacking_lines format t (its_column ∷ columns) = lacking_line format t its_column ++ lacking_lines format t columns

-- the lines of a file
unfoldable pub traits_text : Format → Hardening → List Required → List ℕ → List ℕ
traits_text format t required its_path = trait_line format t its_path ++ lacking_lines format t (lacking t required)

-- the exit status by what a file lacks: 1 if it lacks a word
abbrev pub lacking_status : List TraitColumn → ℕ
lacking_status [] = 0
lacking_status (its_column ∷ columns) = 1

unfoldable pub traits_status : Hardening → List Required → ℕ
traits_status t required = lacking_status (lacking t required)
