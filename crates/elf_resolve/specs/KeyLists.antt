-- The lists by keys of the entries of indexes, and of the further definitions.
use Rattle.std.specs.Prelude.{◌≡◌, ℕ, ◌+◌, ◌≤◌, ◌==◌, if◌then◌else◌, List, [], ◌∷◌}
use Rattle.elf_model.specs.declared.link_states.FurtherDefinition.{FurtherDefinition}
use Rattle.elf_model.specs.declared.link_states.IndexEntry.{IndexEntry}
use Rattle.elf_resolve.specs.KeyChains.{ChainTable, HasLists, LIST_END}

-- the list of a key with that of an entry's place before it: twice the place if its name is the key,
-- and one more if only its name without the version is
abbrev pub with_place : IndexEntry → (key place : ℕ) → List ℕ → List ℕ
with_place e key place numbers =
    if e.key == key then (place + place) ∷ numbers
    else if e.default_key == key then (place + place + 1) ∷ numbers
    else numbers

-- the entries of a key, from a place on
abbrev pub entry_numbers : (key place : ℕ) → List IndexEntry → List ℕ
entry_numbers key place [] = []
entry_numbers key place (e ∷ entries) = with_place e key place (entry_numbers key (place + 1) entries)

-- the further definitions of a key, from a place on
abbrev pub further_places : (key place : ℕ) → List FurtherDefinition → List ℕ
further_places key place [] = []
further_places key place (f ∷ further) =
    if f.key == key then place ∷ further_places key (place + 1) further else further_places key (place + 1) further

-- there are lists for all keys
abbrev pub AreKeyedEntries : (keys : ℕ) → List IndexEntry → Type 0
AreKeyedEntries keys [] = Unit {0}
AreKeyedEntries keys (e ∷ entries) = (e.key + 1 ≤ keys) × (e.default_key + 1 ≤ keys) × AreKeyedEntries keys entries

abbrev pub AreKeyedFurther : (keys : ℕ) → List FurtherDefinition → Type 0
AreKeyedFurther keys [] = Unit {0}
AreKeyedFurther keys (f ∷ further) = (f.key + 1 ≤ keys) × AreKeyedFurther keys further

-- ROOM for so many numbers, in lists that are empty
pub record HasNumberRoom (chains : ChainTable) (count : ℕ) : Type 0 where
  pub empty : chains.heads ≡ []
  pub fits : count ≤ chains.numbers
  pub ends : chains.numbers ≤ LIST_END

-- AN ENTRY LISTED by its keys
pub record ListsEntry (old new : ChainTable) (e : IndexEntry) (place : ℕ) : Type 0 where
  pub keys : new.keys ≡ old.keys
  pub numbers : new.numbers ≡ old.numbers
  pub lists : (list : ℕ → List ℕ) → e.key + 1 ≤ old.keys → e.default_key + 1 ≤ old.keys → place + place + 2 ≤ old.numbers → old.numbers ≤ LIST_END
      → HasLists old (place + place + 2) list → HasLists new (place + place) (λ key. with_place e key place (list key))
