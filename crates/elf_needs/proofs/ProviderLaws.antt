-- Which object should have a needed version, and in which state that is there.
use Rattle.std.proofs.Common.{◌≡◌, ℕ, zero, suc, ◌+◌, ◌<◌, ◌≤◌, ◌==◌, ◌||◌, nat_lt, Bool, true, false, List, [], ◌∷◌, drop, length, get_or, position, slice_get, Option, None, Some, Result, Ok, refl, sym, ap, subst, ◌∙◌, arith}
use Rattle.std.specs.List.{list_any}
use Rattle.std.proofs.lemmas.Bool.Decides.{nat_tests}
use Rattle.std.proofs.lemmas.List.{drop_all, drop_more}
use Rattle.std.proofs.lemmas.Option.{get_or_from_slice_get, none-some, slice_get_within}
use Rattle.elf_model.specs.Prelude.{InterpreterAlone, Needs, NeededVersion, NoProvider, ProvidedBy, Provider, VersionedObjects, index_of_provider, item_by_state, state_by_segments, state_of_needed, version_item, without_sections}
use Rattle.elf_model.specs.declared.causes.Refusal.{Refusal}
use Rattle.elf_model.specs.declared.states.VersionState.{VersionState}
use Rattle.elf_model.specs.declared.states.VersionState.TheVariants as state
use Rattle.elf_table.specs.declared.fault.Fault.{Fault}
use Rattle.elf_hash.specs.Prelude.{ReturnsAs}
use Rattle.elf_library.specs.declared.links.NeededLibrary.{NeededLibrary}

-- WHETHER ONE OF THE ENTRIES that are left has a name: the next one has, or one of the others
module _ (has : NeededLibrary → Bool) (needs : List NeededLibrary) where
  next_is : (n : ℕ) (need : NeededLibrary) → slice_get needs n ≡ Some need → drop n needs ≡ need ∷ drop (n + 1) needs
  next_is n need e = drop_more needs n need (slice_get_within needs n need e) ∙ ap (λ (one : NeededLibrary). one ∷ drop (n + 1) needs) (get_or_from_slice_get needs n need need e)

  pub any_here : (n : ℕ) (need : NeededLibrary) → slice_get needs n ≡ Some need → has need ≡ true → list_any has (drop n needs) ≡ true
  any_here n need e is = ap (list_any has) (next_is n need e) ∙ ap (λ (b : Bool). b || list_any has (drop (n + 1) needs)) is

  pub any_behind : (n : ℕ) (need : NeededLibrary) → slice_get needs n ≡ Some need → has need ≡ false → list_any has (drop n needs) ≡ list_any has (drop (n + 1) needs)
  any_behind n need e isnt = ap (list_any has) (next_is n need e) ∙ ap (λ (b : Bool). b || list_any has (drop (n + 1) needs)) isnt

  pub any_none : (n : ℕ) → length needs ≤ n → list_any has (drop n needs) ≡ false
  any_none n past = ap (list_any has) (drop_all n needs past)

-- an entry is there
pub need_there : (needs : List NeededLibrary) (n : ℕ) → slice_get needs n ≡ None → length needs ≤ n
need_there [] n e = omega arith
need_there (need ∷ needs) zero e = absurd (none-some need (sym e))
need_there (need ∷ needs) (suc n) e = let past = need_there needs n e in omega (arith, past)

-- THE STATE of a needed version
module _ (objects : VersionedObjects) (needed : NeededVersion) where
  pub state_nowhere : state_of_needed objects needed NoProvider ≡ Some state.NoFile
  unfolding state_of_needed
  state_nowhere = refl

  pub state_alone : state_of_needed objects needed InterpreterAlone ≡ None
  unfolding state_of_needed
  state_alone = refl

  module _ (index : ℕ) where
    pub state_unplaced : position (λ other. other == index) objects.indexes ≡ None → state_of_needed objects needed (ProvidedBy index) ≡ None
    unfolding state_of_needed
    state_unplaced e = rw (e, state_of_needed) refl

    module _ (place : ℕ) (placed : position (λ other. other == index) objects.indexes ≡ Some place) where
      pub state_past : length objects.files ≤ place → state_of_needed objects needed (ProvidedBy index) ≡ None
      unfolding state_of_needed
      state_past past = let out : nat_lt place (length objects.files) ≡ false = grind (arith, nat_tests) in rw (placed, state_of_needed) (rw out refl)

      state_there : place < length objects.files → state_of_needed objects needed (ProvidedBy index) ≡ state_by_segments (without_sections (get_or objects.files place [])) needed
      unfolding state_of_needed
      state_there low = let in_it : nat_lt place (length objects.files) ≡ true = grind (arith, nat_tests) in rw (placed, state_of_needed) (rw in_it refl)

      pub returns_state : place < length objects.files → (result : Result (Option VersionState) Fault) → ReturnsAs (Ok (state_by_segments (without_sections (get_or objects.files place [])) needed)) result
          → ReturnsAs (Ok (state_of_needed objects needed (ProvidedBy index))) result
      returns_state low result returns =
          subst (λ (found : Option VersionState). ReturnsAs (Ok found) result) (sym (state_there low)) returns

-- ITS ITEM, by the state
ok_is : (a b : Option VersionState) → ◌≡◌ {A = Result (Option VersionState) Refusal} (Ok a) (Ok b) → a ≡ b
ok_is a b e = cc

item_is : (objects : VersionedObjects) (object : ℕ) (needed : NeededVersion) (provider : Provider) (found : Option VersionState) → provider ≡ objects.provider needed.library
    → state_of_needed objects needed provider ≡ found → version_item objects object (Needs needed) ≡ item_by_state object (index_of_provider provider) needed.name found
unfolding version_item
item_is objects object needed leads found p e = rw (← p, version_item) (rw e refl)

pub version_by : (objects : VersionedObjects) (object : ℕ) (needed : NeededVersion) (provider : Provider) (found : Option VersionState) → provider ≡ objects.provider needed.library
    → ◌≡◌ {A = Result (Option VersionState) Refusal} (Ok (state_of_needed objects needed provider)) (Ok found)
    → version_item objects object (Needs needed) ≡ item_by_state object (index_of_provider provider) needed.name found
version_by objects object needed leads found p e = item_is objects object needed leads found p (ok_is (state_of_needed objects needed leads) found e)
