-- The names of versions that are kept of a file.
use Rattle.std.specs.Prelude.{ℕ, ◌≡◌, List, Option, None, Some, Ok, IfSome, All}
use Rattle.elf_model.specs.Prelude.{DynamicSymbols as AreSymbolsOf, Version, file_before, readings, reference_by_index}
use Rattle.elf_source.specs.Source.{SourceState}
use Rattle.elf_hash.specs.Prelude.{IsDynamicSymbols}
use Rattle.elf_hash.specs.declared.symbols.DynamicSymbols.{DynamicSymbols}
use Rattle.elf_note.specs.declared.record.VersionRecord.{VersionRecord}
use Rattle.elf_loader.specs.Naming.{IsFileIf}
use Rattle.elf_library.specs.declared.kept_version_names.NamedVersion.{NamedVersion}

-- the version with an index has the name, whatever entry has the index, and is of the needed file
-- with the record
pub record HasVersionName (file : List ℕ) (told : AreSymbolsOf) (number : ℕ) (name : List ℕ) (of : Option VersionRecord) : Type 0 where
  pub named : (at : ℕ) → reference_by_index file told.records number at ≡ Ok (Version name)
  pub of_file : IsFileIf file (file_before file number None (readings file told.records)) of

-- the same of the version at a place, if one is kept there
abbrev pub HasVersionNameIf : List ℕ → AreSymbolsOf → Option NamedVersion → Type 0
HasVersionNameIf file told place = IfSome place (λ kept. HasVersionName file told kept.number kept.name.items kept.file)

abbrev pub HaveVersionNames : List ℕ → AreSymbolsOf → List (Option NamedVersion) → Type 0
HaveVersionNames file told places = All (HasVersionNameIf file told) places

-- WHAT IS KEPT OF THE NAMES OF VERSIONS is that of the source's file, whose symbols these are
pub record KnowsNames (seen : SourceState) (symbols : DynamicSymbols) (places : List (Option NamedVersion)) : Type 0 where
  pub known : (file : List ℕ) → seen.file ≡ Some file → (told : AreSymbolsOf) → IsDynamicSymbols file told symbols → HaveVersionNames file told places

-- after a call it remains so
pub record KeepsNames (seen : SourceState) (symbols : DynamicSymbols) (old new : List (Option NamedVersion)) : Type 0 where
  pub keeps : (file : List ℕ) → seen.file ≡ Some file → (told : AreSymbolsOf) → IsDynamicSymbols file told symbols → HaveVersionNames file told old → HaveVersionNames file told new
