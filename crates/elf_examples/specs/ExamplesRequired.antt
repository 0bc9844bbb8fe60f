-- Worked examples of required traits.
use Rattle.std.specs.Prelude.{ℕ, ◌≡◌, List, [], ◌∷◌, ◌++◌, codes, true, false, Some}
use Rattle.elf_model.specs.Prelude.{Required, lacking_text, traits_status, traits_text}
use Rattle.elf_model.specs.declared.formats.Format.TheVariants.{Columns, Object}
use Rattle.elf_model.specs.declared.traits.Hardening.{Hardening}
use Rattle.elf_model.specs.declared.traits.ProgramKind.{ProgramKind}
use Rattle.elf_model.specs.declared.traits.ProgramKind.TheVariants as kind
use Rattle.elf_model.specs.declared.traits.Relro.TheVariants as relro
use Rattle.elf_model.specs.declared.traits.SearchPath.TheVariants as path
use Rattle.elf_model.specs.declared.traits.TraitColumn.TheVariants as column

-- a file of a kind with partial relocation and an executable stack
abbrev weak : ProgramKind → Hardening
weak its_kind = record {
  kind = its_kind;
  segments = Some (record { relro = relro.Partial; pages_writable = false; text_patched = false });
  stack = Some true;
  ibt = false;
  shstk = false;
  canary = false;
  fortify = true;
  path = path.Rpath;
}

abbrev full : Required
full = record { column = column.Relro; word = codes "full" }

abbrev kind_of : List ℕ → Required
kind_of word = record { column = column.Kind; word = word }

abbrev nx : Required
nx = record { column = column.Stack; word = codes "nx" }

abbrev rpath : Required
rpath = record { column = column.Path; word = codes "rpath" }

-- a program that lacks no word has only its line; otherwise each word that it lacks has a line, in
-- the order of the words, and the status is 1
abbrev pub RequiredRows : Type 0
RequiredRows =
    (traits_text Columns (weak kind.Pie) [] (codes "p") ≡ codes "T pie    partial exec  w^x   fixed -         -      fortify rpath   p\n")
    × (traits_status (weak kind.Pie) [] ≡ 0)
    × (traits_text Columns (weak kind.Pie) (rpath ∷ []) (codes "p") ≡ codes "T pie    partial exec  w^x   fixed -         -      fortify rpath   p\n")
    × (traits_status (weak kind.Pie) (rpath ∷ []) ≡ 0)
    × (traits_text Columns (weak kind.Pie) (rpath ∷ full ∷ nx ∷ []) (codes "p")
    ≡ codes "T pie    partial exec  w^x   fixed -         -      fortify rpath   p\n! relro=partial\n! stack=exec\n")
    × (traits_status (weak kind.Pie) (rpath ∷ full ∷ nx ∷ []) ≡ 1)
    × (traits_text Columns (weak kind.Pie) (nx ∷ full ∷ []) (codes "p")
    ≡ codes "T pie    partial exec  w^x   fixed -         -      fortify rpath   p\n! stack=exec\n! relro=partial\n")

-- nothing is required of files that are neither programs nor libraries
abbrev pub NothingRequired : Type 0
NothingRequired =
    (traits_text Columns (weak kind.Core) (full ∷ []) (codes "p") ≡ codes "T core   partial exec  w^x   fixed -         -      fortify rpath   p\n")
    × (traits_status (weak kind.Core) (full ∷ []) ≡ 0)
    × (traits_status (weak kind.Object) (full ∷ []) ≡ 0)
    × (traits_status (weak kind.Other) (full ∷ []) ≡ 0)
    × (traits_status (weak kind.Lib) (full ∷ []) ≡ 1)
    × (traits_status (weak kind.Static) (full ∷ []) ≡ 1)
    × (traits_status (weak kind.Exec) (full ∷ []) ≡ 1)

-- a prefix of a word is not it, nor is a word with more after it
abbrev pub WordsAreWhole : Type 0
WordsAreWhole =
    (traits_status (weak kind.Pie) (record { column = column.Relro; word = codes "partial" } ∷ []) ≡ 0)
    × (traits_status (weak kind.Pie) (record { column = column.Relro; word = codes "part" } ∷ []) ≡ 1)
    × (traits_status (weak kind.Pie) (record { column = column.Relro; word = codes "partially" } ∷ []) ≡ 1)

-- one of two words, in either order; neither, of which only the file's own word has a line; no word
-- is the part of one that has `|` in it
abbrev pub AlternativesAreWords : Type 0
AlternativesAreWords =
    (traits_status (weak kind.Pie) (kind_of (codes "pie|lib") ∷ []) ≡ 0)
    × (traits_status (weak kind.Lib) (kind_of (codes "pie|lib") ∷ []) ≡ 0)
    × (traits_status (weak kind.Exec) (kind_of (codes "pie|lib") ∷ []) ≡ 1)
    × (traits_status (weak kind.Pie) (kind_of (codes "exec|static|pie") ∷ []) ≡ 0)
    × (traits_text Columns (weak kind.Exec) (kind_of (codes "pie|lib") ∷ nx ∷ []) (codes "p")
    ≡ codes "T exec   partial exec  w^x   fixed -         -      fortify rpath   p\n! kind=exec\n! stack=exec\n")
    × (traits_status (weak kind.Pie) (kind_of (codes "|") ∷ []) ≡ 1)

-- a program in which each column has another word
abbrev mixed : Hardening
mixed = record {
  kind = kind.Exec;
  segments = Some (record { relro = relro.Absent; pages_writable = true; text_patched = true });
  stack = Some false;
  ibt = true;
  shstk = false;
  canary = true;
  fortify = false;
  path = path.Runpath;
}

-- each column has its name, and its own word
abbrev pub ColumnsAreNamed : Type 0
ColumnsAreNamed =
    (lacking_text mixed column.Kind ≡ codes "kind=exec")
    × (lacking_text mixed column.Relro ≡ codes "relro=none")
    × (lacking_text mixed column.Stack ≡ codes "stack=nx")
    × (lacking_text mixed column.Pages ≡ codes "pages=wx")
    × (lacking_text mixed column.Text ≡ codes "text=patch")
    × (lacking_text mixed column.Cet ≡ codes "cet=ibt")
    × (lacking_text mixed column.Canary ≡ codes "canary=canary")
    × (lacking_text mixed column.Fortify ≡ codes "fortify=-")
    × (lacking_text mixed column.Path ≡ codes "path=runpath")

-- the lines as objects
abbrev pub TraitsAreObjects : Type 0
TraitsAreObjects =
    traits_text Object (weak kind.Pie) (full ∷ []) (codes "p")
    ≡ codes "{\"line\":\"T\",\"kind\":\"pie\",\"relro\":\"partial\",\"stack\":\"exec\",\"pages\":\"w^x\",\"text\":\"fixed\",\"cet\":\"-\",\"canary\":\"-\",\"fortify\":\"fortify\",\"rpath\":\"rpath\",\"path\":\"p\"}\n"
    ++ codes "{\"line\":\"!\",\"trait\":\"relro=partial\"}\n"
