-- How keys follow others while symbols of objects are taken.
use Rattle.std.specs.Prelude.{◌≡◌, ℕ, Bool, true, false, List, [], ◌∷◌, None}
use Rattle.elf_model.specs.LinkInputs.{InputFile, OpenArchive, opened_at}
use Rattle.elf_model.specs.LinkInputs.InputFile.{ObjectFile, SearchedFile, WholeFile, MissingFile}
use Rattle.elf_model.specs.LinkKeys.{LinkKeys, entry_named_as}
use Rattle.elf_model.specs.LinkObjects.{LinkObject, ObjectSymbol}
use Rattle.elf_model.specs.LinkPasses.{is_new}
use Rattle.elf_model.specs.declared.link_states.KeyState.{KeyState}
use Rattle.elf_model.specs.declared.link_states.KeyState.TheVariants.{New, Weak, Undefined}
use Rattle.elf_resolve.specs.KeyStates.{IsOwn}

-- a symbol of an object, of default visibility
abbrev pub AreUnrestricted : List ObjectSymbol → Type 0
AreUnrestricted [] = Unit {0}
AreUnrestricted (s ∷ symbols) = ((s.symbol.symbol.restricted ≡ false) × IsOwn s.symbol.symbol.role) × AreUnrestricted symbols

-- a key in a state has not been asked for: no symbol has it, or only weak references
abbrev pub is_unasked : KeyState → Bool
is_unasked New = true
is_unasked Weak = true
is_unasked _ = false

-- no key has been asked for that is in such a state: so it is while no shared definition is removed
abbrev pub AskedAreKnown : LinkKeys → Type 0
AskedAreKnown keys = (i : ℕ) → is_unasked (entry_named_as keys i).state ≡ true → (entry_named_as keys i).is_asked ≡ false

-- NOTHING NEW IS ASKED FOR: a key that is undefined was so before; one that is gone stays so; and one
-- that no symbol has had none before
pub record IsQuiet (before after : LinkKeys) : Type 0 where
  pub undefined : (i : ℕ) → (entry_named_as after i).state ≡ Undefined → (entry_named_as before i).state ≡ Undefined
  pub gone : (i : ℕ) → (entry_named_as before i).is_gone ≡ true → (entry_named_as after i).is_gone ≡ true
  pub new : (i : ℕ) → is_new (entry_named_as after i).state ≡ true → is_new (entry_named_as before i).state ≡ true

-- an input whose objects have symbols of default visibility alone
abbrev pub AreUnrestrictedIn : List (ℕ × LinkObject) → Type 0
AreUnrestrictedIn [] = Unit {0}
AreUnrestrictedIn ((member, object) ∷ members) = AreUnrestricted object.symbols × AreUnrestrictedIn members

abbrev pub IsUnrestricted : InputFile → Type 0
IsUnrestricted (ObjectFile object) = AreUnrestricted object.symbols
IsUnrestricted (SearchedFile count symbols members) = (member : ℕ) → AreUnrestricted (members.objects member).symbols
IsUnrestricted (WholeFile members) = AreUnrestrictedIn members
IsUnrestricted MissingFile = Unit {0}

-- no two archives are the same input
abbrev pub AreDistinctInputs : List OpenArchive → Type 0
AreDistinctInputs [] = Unit {0}
AreDistinctInputs (archive ∷ archives) = (opened_at archives archive.input ≡ None) × AreDistinctInputs archives
