-- The required traits, as texts.
use Rattle.std.specs.Prelude.{ℕ, ◌≡◌, ◌⊎◌, ◌==◌, All, Bool, bytes_eq, if◌then◌else◌, true, false, List, [], ◌∷◌, ◌++◌, codes, Option, None, Some, option_map}
use Rattle.std.specs.List.{list_all, list_any}
use Rattle.elf_model.specs.Prelude.{Required, alternatives, column_name, column_word, lacking_text}
use Rattle.elf_model.specs.declared.traits.Hardening.{Hardening}
use Rattle.elf_model.specs.declared.traits.TraitColumn.{TraitColumn}
use Rattle.elf_model.specs.declared.traits.TraitColumn.TheVariants as column

-- what is before and after the first byte that is this sign
unfoldable pub split_at_sign : ℕ → List ℕ → Option (List ℕ × List ℕ)
split_at_sign sign [] = None
split_at_sign sign (byte ∷ bytes) = elim (byte == sign) [
  | true ↦ Some ([], bytes)
  | false ↦ option_map (λ parts. (byte ∷ parts.0, parts.1)) (split_at_sign sign bytes)
]

-- the column of this name: that of the search path has its key in a line as another
unfoldable pub column_named : List ℕ → Option TraitColumn
column_named name =
    if bytes_eq name (codes "kind") then Some column.Kind
    else if bytes_eq name (codes "relro") then Some column.Relro
    else if bytes_eq name (codes "stack") then Some column.Stack
    else if bytes_eq name (codes "pages") then Some column.Pages
    else if bytes_eq name (codes "text") then Some column.Text
    else if bytes_eq name (codes "cet") then Some column.Cet
    else if bytes_eq name (codes "canary") then Some column.Canary
    else if bytes_eq name (codes "fortify") then Some column.Fortify
    else if bytes_eq name (codes "path") then Some column.Path
    else if bytes_eq name (codes "rpath") then Some column.Path
    else None

-- the words that a line can have in a column
unfoldable pub column_words : TraitColumn → List (List ℕ)
column_words column.Kind =
    codes "exec" ∷ codes "pie" ∷ codes "static" ∷ codes "lib" ∷ codes "object" ∷ codes "core" ∷ codes "other" ∷ []
column_words column.Relro = codes "full" ∷ codes "partial" ∷ codes "none" ∷ codes "-" ∷ []
column_words column.Stack = codes "nx" ∷ codes "exec" ∷ codes "-" ∷ []
column_words column.Pages = codes "w^x" ∷ codes "wx" ∷ codes "-" ∷ []
column_words column.Text = codes "fixed" ∷ codes "patch" ∷ codes "-" ∷ []
column_words column.Cet = codes "ibt+shstk" ∷ codes "ibt" ∷ codes "shstk" ∷ codes "-" ∷ []
column_words column.Canary = codes "canary" ∷ codes "-" ∷ []
column_words column.Fortify = codes "fortify" ∷ codes "-" ∷ []
column_words column.Path = codes "rpath" ∷ codes "runpath" ∷ codes "-" ∷ []

abbrev pub is_word_in : TraitColumn → List ℕ → Bool
is_word_in its_column word = list_any (bytes_eq word) (column_words its_column)

-- the word of a column, if it is one of those, or if each of its alternatives is
abbrev pub word_in : TraitColumn → List ℕ → Option Required
word_in its_column word = elim (list_all (is_word_in its_column) (alternatives word)) [
  | true ↦ Some (record { column = its_column; word = word })
  | false ↦ None
]

abbrev pub word_under : Option TraitColumn → List ℕ → Option Required
word_under None word = None
word_under (Some its_column) word = word_in its_column word

abbrev pub word_of_parts : Option (List ℕ × List ℕ) → Option Required
word_of_parts None = None
word_of_parts (Some parts) = word_under (column_named parts.0) parts.1

-- THE WORD THAT A TEXT REQUIRES: the name of a column, an equals sign, and a word that a line can
-- have there, or some of them
unfoldable pub parsed_trait_word : List ℕ → Option Required
parsed_trait_word text = word_of_parts (split_at_sign 61 text)

-- a name of a column is its own, or for the search path its key in a line
abbrev pub IsNameOfColumn : List ℕ → TraitColumn → Type 0
IsNameOfColumn name its_column = (name ≡ column_name its_column) ⊎ ((name ≡ codes "rpath") × (its_column ≡ column.Path))

-- each alternative of a text is the word of some file in a column
abbrev pub AreWordsOf : TraitColumn → List ℕ → Type 0
AreWordsOf its_column text = All (λ word. (t : Hardening) × (word ≡ column_word t its_column)) (alternatives text)

-- JUST THOSE texts are words of some files: each name of a column with words of it is taken, as is
-- what a line says of a file; and each text that is taken is such a name with such words
pub record SpellsTraits : Type 0 where
  pub told : (name word : List ℕ) (its_column : TraitColumn) → IsNameOfColumn name its_column → AreWordsOf its_column word
      → parsed_trait_word (name ++ codes "=" ++ word) ≡ Some (record { column = its_column; word = word })
  pub lacked : (t : Hardening) (its_column : TraitColumn) → parsed_trait_word (lacking_text t its_column) ≡ Some (record { column = its_column; word = column_word t its_column })
  pub tells : (text : List ℕ) (required : Required) → parsed_trait_word text ≡ Some required
      → (name : List ℕ) × (text ≡ name ++ codes "=" ++ required.word) × IsNameOfColumn name required.column × AreWordsOf required.column required.word
