-- Where a link is among its steps.
use Rattle.std.specs.Prelude.{ℕ, ◌≡◌, ◌+◌, ◌≤◌, ◌<◌, Bool, true, false, List, [], ◌∷◌, ◌++◌, drop, length, Option, None, Some}
use Rattle.std.specs.List.{slice_get}
use Rattle.elf_model.specs.LinkInputs.{InputFile, LinkInputs, Linking, group_settled, input_again, input_taken, inputs_again, inputs_taken}
use Rattle.elf_resolve.specs.Plans.{plan_steps}
use Rattle.elf_resolve.specs.declared.link_files.LinkStep.{LinkStep}
use Rattle.elf_resolve.specs.declared.link_files.LinkStep.TheVariants as step
use Rattle.elf_resolve.specs.declared.resolver.InputState.{InputState}
use Rattle.elf_resolve.specs.declared.resolver.InputState.TheVariants as state
use Rattle.elf_resolve.specs.declared.resolver.OpenGroup.{OpenGroup}

-- an input was not reached yet
abbrev pub is_new_state : Option InputState → Bool
is_new_state None = true
is_new_state (Some state.New) = true
is_new_state _ = false

abbrev pub is_new_input : List InputState → (input : ℕ) → Bool
is_new_input states input = is_new_state (slice_get states input)

-- A GROUP IN WHICH A LINK IS: its inputs, how many keys had been asked for when its round began, the
-- inputs after it, and whether those are taken once more
pub record EnteredGroup : Type 0 where
  pub group : LinkInputs
  pub asked : ℕ
  pub rest : LinkInputs
  pub again : Bool

-- the steps after the end of a round, from the innermost group on
abbrev pub steps_after : List EnteredGroup → List LinkStep
steps_after [] = []
steps_after (g ∷ groups) = step.Close ∷ (plan_steps g.rest ++ steps_after groups)

module _ (files : ℕ → InputFile) where
  -- inputs taken for the first time, or once more
  abbrev pub inputs_made : (again : Bool) → LinkInputs → Linking → Linking
  inputs_made false inputs link = inputs_taken files inputs link
  inputs_made true inputs link = inputs_again files inputs link

  -- what the steps after the end of a round make
  abbrev pub groups_ended : List EnteredGroup → Linking → Linking
  groups_ended [] link = link
  groups_ended (g ∷ groups) link = groups_ended groups (inputs_made g.again g.rest (group_settled (inputs_again files g.group) g.asked link))

-- an input taken, or what is left of it in a further round
abbrev pub input_made : (is_new : Bool) → Linking → (index : ℕ) → InputFile → Linking
input_made true link index file = input_taken link index file
input_made false link index file = input_again link index file

-- the groups as a resolver has them
pub record IsGroupAt (steps : List LinkStep) (g : EnteredGroup) (groups : List EnteredGroup) (open_group : OpenGroup) : Type 0 where
  pub asked : open_group.asked ≡ g.asked
  pub first : drop open_group.first steps ≡ plan_steps g.group ++ (step.Close ∷ (plan_steps g.rest ++ steps_after groups))

abbrev pub AreGroupsAt : List LinkStep → List EnteredGroup → List OpenGroup → Type 0
AreGroupsAt steps [] open_groups = open_groups ≡ []
AreGroupsAt steps (g ∷ groups) open_groups =
    (before : List OpenGroup) × (last : OpenGroup) × (open_groups ≡ before ++ last ∷ []) × IsGroupAt steps g groups last × AreGroupsAt steps groups before

-- steps are taken for the first time from the one on that was not reached, and once more before it
abbrev pub IsRoundAt : (again : Bool) → (reached count here after : ℕ) → Type 0
IsRoundAt false reached count here after = reached + (here + after) ≡ count
IsRoundAt true reached count here after = count < reached + after

abbrev pub IsRoundAfter : (again : Bool) → (reached count here after : ℕ) → Type 0
IsRoundAfter false reached count here after = reached + (here + after) ≤ count
IsRoundAfter true reached count here after = count < reached + after

abbrev pub AreRoundsAfter : (reached count : ℕ) → List EnteredGroup → Type 0
AreRoundsAfter reached count [] = Unit {0}
AreRoundsAfter reached count (g ∷ groups) = IsRoundAfter g.again reached count (length (plan_steps g.rest)) (length (steps_after groups)) × AreRoundsAfter reached count groups

-- inputs before a step were reached, and those from there on were not
pub record IsReached (steps : List LinkStep) (is_new : ℕ → Bool) (reached : ℕ) : Type 0 where
  pub before : (i input : ℕ) → i < reached → slice_get steps i ≡ Some (step.Input input) → is_new input ≡ false
  pub from : (i input : ℕ) → reached ≤ i → slice_get steps i ≡ Some (step.Input input) → is_new input ≡ true

-- A LINK IS AT A STEP: the inputs that are left there make the whole link of what it has
pub record IsLinkAt (files : ℕ → InputFile) (whole : Linking) (steps : List LinkStep) (link : Linking) (open_groups : List OpenGroup) (is_new : ℕ → Bool) (place : ℕ) : Type 0 where
  pub left : LinkInputs
  pub again : Bool
  pub groups : List EnteredGroup
  pub reached : ℕ
  pub steps_left : drop place steps ≡ plan_steps left ++ steps_after groups
  pub makes : groups_ended files groups (inputs_made files again left link) ≡ whole
  pub groups_are : AreGroupsAt steps groups open_groups
  pub round : IsRoundAt again reached (length steps) (length (plan_steps left)) (length (steps_after groups))
  pub rounds : AreRoundsAfter reached (length steps) groups
  pub is_reached : IsReached steps is_new reached
