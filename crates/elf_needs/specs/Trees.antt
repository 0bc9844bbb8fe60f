-- The order of the objects of a program in a tree.
use Rattle.std.specs.Prelude.{ℕ, suc, zero, ◌≡◌, ◌<◌, ◌≤◌, List, [], ◌∷◌, ◌++◌, drop, length, slice_get, Bool, true, false, if◌then◌else◌, ◌==◌, Option, None, Some}
use Rattle.elf_needs.specs.declared.known_object.KnownObject.{KnownObject}
use Rattle.elf_needs.specs.declared.object_lines.ListedPlace.{ListedPlace}
use Rattle.elf_needs.specs.declared.tree_walk.TreeWalk.{TreeWalk}

-- an object is one that another needed first; the program is one that none needed
abbrev pub is_under : Option ℕ → Option ℕ → Bool
is_under None None = true
is_under (Some needer) (Some parent) = needer == parent
is_under None (Some parent) = false
is_under (Some needer) None = false

-- THE ORDER OF A TREE: of the objects from an index on, those that one of them, or none, needed
-- first, in their order, each with its level, and each followed by those that it needed first
unfoldable pub places_under : (level index : ℕ) → (parent : Option ℕ) → List KnownObject → List ListedPlace
places_under level index parent [] = []
places_under level index parent (known ∷ rest) =
    if is_under known.needer parent
    then record { index = index; depth = level } ∷ (places_under (suc level) (suc index) (Some index) rest ++ places_under level (suc index) parent rest)
    else places_under level (suc index) parent rest

-- that of all objects, below none
abbrev pub tree_places : List KnownObject → List ListedPlace
tree_places known = places_under 0 0 None known

-- the object that first needed the one at an index
abbrev pub needer_at : List KnownObject → ℕ → Option ℕ
needer_at known index = elim (slice_get known index) [ None ↦ None | Some object ↦ object.needer ]

-- what is left of a walk after the objects under one at this level: those after it, and after each
-- object above it
unfoldable pub places_after : List KnownObject → (level : ℕ) → (parent : Option ℕ) → List ListedPlace
places_after known zero parent = []
places_after known (suc level) None = []
places_after known (suc level) (Some index) =
    places_under level (suc index) (needer_at known index) (drop (suc index) known) ++ places_after known level (needer_at known index)

-- what is left of a walk
abbrev pub places_left : TreeWalk → List ListedPlace
places_left walk = places_under walk.depth walk.from walk.parent (drop walk.from walk.known.now) ++ places_after walk.known.now walk.depth walk.parent

-- as many objects are above as the level says, each before those that it needed
unfoldable pub IsChain : List KnownObject → (level : ℕ) → (parent : Option ℕ) → Type 0
IsChain known zero parent = Unit {0}
IsChain known (suc level) None = ⊥
IsChain known (suc level) (Some index) = (index < length known) × (level ≤ index) × IsChain known level (needer_at known index)

pub record IsTreeWalk (walk : TreeWalk) : Type 0 where
  pub low : walk.depth ≤ walk.from
  pub chain : IsChain walk.known.now walk.depth walk.parent

-- THE NEXT OBJECT under another, from an index on: none is left, or it is the first
pub record IsNextUnder (known : List KnownObject) (parent : Option ℕ) (from index : ℕ) : Type 0 where
  pub low : from ≤ index
  pub less : index < length known
  pub under : needer_at known index ≡ parent
  pub places : (level : ℕ) → places_under level from parent (drop from known)
      ≡ record { index = index; depth = level } ∷ (places_under (suc level) (suc index) (Some index) (drop (suc index) known) ++ places_under level (suc index) parent (drop (suc index) known))

abbrev pub FindsUnder : List KnownObject → Option ℕ → (from : ℕ) → Option ℕ → Type 0
FindsUnder known parent from None = (level : ℕ) → places_under level from parent (drop from known) ≡ []
FindsUnder known parent from (Some index) = IsNextUnder known parent from index

-- THE EFFECT OF A STEP: the next place, or none is left
abbrev pub StepsTree : TreeWalk → TreeWalk → Option ListedPlace → Type 0
StepsTree old new None = places_left old ≡ []
StepsTree old new (Some place) = places_left old ≡ place ∷ places_left new

-- THE EFFECT OF GOING UP: nothing is left, or the same places of one level fewer
abbrev pub LeavesTree : TreeWalk → TreeWalk → Bool → Type 0
LeavesTree old new false = places_left old ≡ []
LeavesTree old new true = (places_left new ≡ places_left old) × (new.depth < old.depth)
