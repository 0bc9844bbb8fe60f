-- The version of a symbol that is found, as a lookup returns it.
use Rattle.std.specs.Prelude.{ℕ, ◌≡◌, ◌+◌, ◌*◌, Bool, List, [], Option, None, Some, option_map, Result, Ok, Err, IfOk, IfSome}
use Rattle.elf_model.specs.Prelude.{ChainResult, DisplayedName, FoundVersion as IsVersionOf, IsBudgetRefusal, IsNameBytesAt, LoaderLookup, LookupTables, VersionQuery as IsAsked, VersymTable as AreWordsOf, asked_name, cost_where, found_in, found_lookup}
use Rattle.elf_model.specs.Hash.{Refused as IsRefused}
use Rattle.elf_model.specs.Names.DisplayedName.{Whole}
use Rattle.elf_source.specs.Source.{CountedState}
use Rattle.elf_table.specs.Prelude.{CallReads, fault_of_result, shown_by}
use Rattle.elf_table.specs.declared.fault.Fault.{Fault}
use Rattle.elf_table.specs.declared.fault.Fault.TheVariants.{Refused, Source}
use Rattle.elf_loader.specs.Telling.{parsed_member_bytes}
use Rattle.elf_loader.specs.declared.found.FoundVersion.{FoundVersion}
use Rattle.elf_loader.specs.declared.found.VersionName.{VersionName}
use Rattle.elf_loader.specs.declared.found.VersionName.TheVariants.{Wanted, Unnamed, Told}

-- the name of a version as it is shown: the wanted one, whole; none; or the part that is read
abbrev pub name_shown : Option (List ℕ) → List ℕ → VersionName → DisplayedName
name_shown None told Wanted = Whole []
name_shown (Some version) told Wanted = Whole version
name_shown asked told Unnamed = Whole []
name_shown asked told (Told end) = shown_by end told

-- the version of a symbol that is found, in the terms of the model
abbrev pub version_found : IsAsked → List ℕ → FoundVersion → IsVersionOf
version_found asked told version = record { index = version.index; word = version.word; name = name_shown (asked_name asked) told version.name }

-- the offset of the name of a version that is read: what is held of it is there in the file; 0 if
-- none is held
abbrev pub IsRelocationReported : List ℕ → List ℕ → ℕ → VersionName → Type 0
IsRelocationReported file told at Wanted = at ≡ 0
IsRelocationReported file told at Unnamed = at ≡ 0
IsRelocationReported file told at (Told end) = IsNameBytesAt file at told

-- what a lookup reads: the reads of its walk, a number of records, and a name or none
pub record LookupSpends (lookup : LoaderLookup) (walked : ChainResult) (read : ℕ) (named : Bool) : Type 0 where
  pub tried : lookup.lookup.compared ≡ walked.tried
  pub chain_words : lookup.chain_words ≡ walked.read
  pub records : lookup.records ≡ read
  pub is_named : lookup.is_named ≡ named

-- its result is this version, of the symbol of an index, or none; or the refusal, unless a read
-- failed
abbrev pub IsVersionFound : {X : Type 0} → (X → Option FoundVersion) → LookupTables → IsAsked → ℕ → List ℕ → ChainResult → LoaderLookup → Result X Fault → Type 0
IsVersionFound version scope asked y told walked lookup (Ok found) =
    lookup ≡ found_lookup scope y walked lookup.records lookup.is_named (option_map (version_found asked told) (version found))
IsVersionFound version scope asked y told walked lookup (Err (Refused refusal)) = (IsBudgetRefusal refusal → ⊥) → lookup.lookup.answer ≡ IsRefused refusal
IsVersionFound version scope asked y told walked lookup (Err (Source fault at)) = Unit {0}

-- THE VERSION OF A SYMBOL THAT A WALK FINDS, if there is a version symbol table: a number of
-- records are read, and a name or none, besides those that were read before to find the indices of
-- a wanted version
pub record FindsVersion {X : Type 0} (version : X → Option FoundVersion) (file : List ℕ) (scope : LookupTables) (asked : IsAsked) (words : Option AreWordsOf) (y : ℕ) (old new : CountedState) (told : List ℕ) (result : Result X Fault) : Type 0 where
  pub records : ℕ
  pub is_named : Bool
  pub costs : CallReads old new (fault_of_result result) (records * 28 + cost_where is_named parsed_member_bytes)
  pub spends : (walked : ChainResult) (before : ℕ) → (asked_name asked ≡ None → before ≡ 0) → LookupSpends (found_in file scope asked before y walked words) walked (before + records) is_named
  pub finds : (walked : ChainResult) (before : ℕ) → (asked_name asked ≡ None → before ≡ 0) → IsVersionFound version scope asked y told walked (found_in file scope asked before y walked words) result
  pub is_at : IfOk result (λ found. IfSome (version found) (λ is. IsRelocationReported file told is.name_at is.name))
