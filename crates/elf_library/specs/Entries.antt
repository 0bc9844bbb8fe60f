-- What dynamic entries give about how a file is linked, and what is stored of it.
use Rattle.std.specs.Prelude.{ℕ, ◌≡◌, ◌<◌, ◌==◌, not, Bool, true, false, List, [], ◌∷◌, ◌++◌, length, slice_index_or, Option, None, Some, Result, Ok, Err}
use Rattle.elf_model.specs.Prelude.{Cut, DF_1_NODEFLIB, DT_RPATH, DT_RUNPATH, DT_SONAME, DisplayedName, IsBudgetRefusal, LinkState, NeededName, TextRoom, flags_1_by_segments, has_room, is_program_file, listed_value}
use Rattle.elf_model.specs.TraitNumbers.{DT_FLAGS_1}
use Rattle.std.specs.Int.RustNames.{bit_and}
use Rattle.elf_note.specs.Prelude.{AreStrings}
use Rattle.elf_model.specs.declared.causes.Cause.{Cause}
use Rattle.elf_model.specs.declared.causes.Refusal.{Refusal}
use Rattle.elf_model.specs.declared.causes.Cause.TheVariants.{TooLong}
use Rattle.elf_model.specs.Names.DisplayedName.{Whole}
use Rattle.elf_table.specs.Prelude.{StringTableRange, TableRange, strings_in}
use Rattle.elf_table.specs.declared.fault.Fault.{Fault}
use Rattle.elf_table.specs.declared.fault.Fault.TheVariants.{Refused, Source}
use Rattle.elf_library.specs.Held.{LinkInfoState, with_text}
use Rattle.elf_library.specs.declared.entry_values.EntryValues.{EntryValues}
use Rattle.elf_library.specs.declared.links.LinkInfo.{LinkInfo}
use Rattle.elf_library.specs.declared.links.NeededLibrary.{NeededLibrary}

-- the text of the entry at an offset, by what is shown of it
abbrev pub text_by : TextRoom → ℕ → Result DisplayedName Cause → Result (List ℕ) Refusal
text_by room at text = elim text [
  | Err cause ↦ Err (record { at = at; cause = cause })
  | Ok (Cut front) ↦ Err (record { at = at; cause = TooLong })
  | Ok (Whole text) ↦ elim (has_room room text) [
    | false ↦ Err (record { at = at; cause = TooLong })
    | true ↦ Ok text
  ]
]

-- a text is stored after the others
pub record KeepsText (told : Result (List ℕ) Refusal) (old new : LinkInfoState) (index : ℕ) : Type 0 where
  pub text : List ℕ
  pub reported_text : told ≡ Ok text
  pub kept : new ≡ record { held = with_text old.held text; needs = old.needs }
  pub its_index : index ≡ length old.held.texts
  pub few : length new.needs < length new.held.texts

-- a text that is given is stored, or it is refused, except for lack of budget
abbrev pub ReturnsText : Result (List ℕ) Refusal → LinkInfoState → LinkInfoState → Result ℕ Fault → Type 0
ReturnsText told old new (Ok index) = KeepsText told old new index
ReturnsText told old new (Err (Refused refusal)) = (IsBudgetRefusal refusal → ⊥) → told ≡ Err refusal
ReturnsText told old new (Err (Source fault at)) = Unit {0}

-- a string table is the specified one, or its refusal
abbrev pub ReturnsStrings : List ℕ → Result (List ℕ) Refusal → Result StringTableRange Fault → Type 0
ReturnsStrings file told (Ok names) = told ≡ Ok (strings_in file names)
ReturnsStrings file told (Err (Refused refusal)) = told ≡ Err refusal
ReturnsStrings file told (Err (Source fault at)) = ⊥

-- an index that was given before, or one if an entry has a tag
abbrev pub first_index : Option ℕ → Bool → ℕ → Option ℕ
first_index (Some told) is index = Some told
first_index None true index = Some index
first_index None false index = None

-- with the text of an entry with a tag
abbrev pub with_index : LinkInfo → (tag index : ℕ) → LinkInfo
with_index links tag index = record {
  soname = first_index links.soname (tag == DT_SONAME) index;
  rpath = first_index links.rpath (tag == DT_RPATH) index;
  runpath = first_index links.runpath (tag == DT_RUNPATH) index;
  flags_1 = links.flags_1;
  is_program = links.is_program;
}

-- what a file without entries has
abbrev pub no_info : LinkInfo
no_info = record { soname = None; rpath = None; runpath = None; flags_1 = 0; is_program = false }

-- flags with that of a file whose needs are not searched for in the default directories
abbrev pub has_nodeflib : (flags : ℕ) → Bool
has_nodeflib flags = not (bit_and flags DF_1_NODEFLIB == 0)

-- links with the same texts
pub record SameTexts (old new : LinkInfo) : Type 0 where
  pub same_soname : new.soname ≡ old.soname
  pub same_rpath : new.rpath ≡ old.rpath
  pub same_runpath : new.runpath ≡ old.runpath

-- the flags are a file's, and it is a program or not
abbrev pub HasFlags : List ℕ → Result LinkInfo Fault → Type 0
HasFlags file (Ok links) = (links.flags_1 ≡ flags_1_by_segments file) × (links.is_program ≡ is_program_file file)
HasFlags file (Err fault) = Unit {0}

-- what the listed entries of a table say of its strings, and the value of one with flags
abbrev pub AreEntryValues : List ℕ → TableRange → EntryValues → Type 0
AreEntryValues file table values =
    AreStrings file table values.strings × (values.flags_1 ≡ listed_value file table.at table.count DT_FLAGS_1)

-- a text at an index, if there is one, is a given text
abbrev pub IsHeldText : List (List ℕ) → Option ℕ → Option (List ℕ) → Type 0
IsHeldText texts None told = told ≡ None
IsHeldText texts (Some index) told = (index < length texts) × (told ≡ Some (slice_index_or texts index []))

-- a need, whose name has an index
pub record IsNeed (texts : List (List ℕ)) (need : NeededLibrary) (told : NeededName) : Type 0 where
  pub at : need.at ≡ told.at
  pub below : need.name < length texts
  pub name : slice_index_or texts need.name [] ≡ told.name

abbrev pub AreNeeds : List (List ℕ) → List NeededLibrary → List NeededName → Type 0
AreNeeds texts [] [] = Unit {0}
AreNeeds texts (need ∷ needs) (told ∷ others) = IsNeed texts need told × AreNeeds texts needs others
AreNeeds texts [] (told ∷ others) = ⊥
AreNeeds texts (need ∷ needs) [] = ⊥

-- WHAT IS STORED OF A FILE, after what is there already: its needs and its texts are those that are
-- given
pub record KeepsLinks (old new : LinkInfoState) (links : LinkInfo) (state : LinkState) : Type 0 where
  pub more : List (List ℕ)
  pub texts : new.held.texts ≡ old.held.texts ++ more
  pub needed : List NeededLibrary
  pub needs : new.needs ≡ old.needs ++ needed
  pub are : AreNeeds new.held.texts needed state.links.needed
  pub soname : IsHeldText new.held.texts links.soname state.links.soname
  pub rpath : IsHeldText new.held.texts links.rpath state.links.rpath
  pub runpath : IsHeldText new.held.texts links.runpath state.links.runpath
  pub room : new.held.room ≡ state.room

-- what is given is stored, or it is refused, except for lack of budget
abbrev pub ReturnsLinks : Result LinkState Refusal → LinkInfoState → LinkInfoState → Result LinkInfo Fault → Type 0
ReturnsLinks told old new (Ok links) = (state : LinkState) × (told ≡ Ok state) × KeepsLinks old new links state
ReturnsLinks told old new (Err (Refused refusal)) = (IsBudgetRefusal refusal → ⊥) → told ≡ Err refusal
ReturnsLinks told old new (Err (Source fault at)) = Unit {0}
