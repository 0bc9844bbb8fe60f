-- The plan of a link: its steps as inputs and groups, and its files.
use Rattle.std.specs.Prelude.{ℕ, ◌≡◌, Bool, true, false, List, [], ◌∷◌, ◌++◌, Option, None, Some}
use Rattle.std.specs.List.{slice_get}
use Rattle.elf_model.specs.LinkArchives.{LinkFiles}
use Rattle.elf_model.specs.LinkInputs.{LinkInputs}
use Rattle.elf_model.specs.LinkInputs.LinkInputs.{NoInputs, Input, Group}
use Rattle.elf_resolve.specs.declared.link_files.InputKind.{InputKind}
use Rattle.elf_resolve.specs.declared.link_files.InputKind.TheVariants as kind
use Rattle.elf_resolve.specs.declared.link_files.LinkInput.{LinkInput}
use Rattle.elf_resolve.specs.declared.link_files.LinkPlan.{LinkPlan}
use Rattle.elf_resolve.specs.declared.link_files.LinkStep.{LinkStep}
use Rattle.elf_resolve.specs.declared.link_files.LinkStep.TheVariants as step

-- THE STEPS of inputs in their order: a group's are between its beginning and its end
abbrev pub plan_steps : LinkInputs → List LinkStep
plan_steps NoInputs = []
plan_steps (Input index rest) = step.Input index ∷ plan_steps rest
plan_steps (Group group rest) = step.Open ∷ (plan_steps group ++ (step.Close ∷ plan_steps rest))

-- no input is taken at two steps
abbrev pub AreDistinctSteps : List LinkStep → Type 0
AreDistinctSteps steps = (i j input : ℕ) → slice_get steps i ≡ Some (step.Input input) → slice_get steps j ≡ Some (step.Input input) → i ≡ j

-- what the inputs of a plan are
abbrev pub is_archive_kind : InputKind → Bool
is_archive_kind kind.Archive = true
is_archive_kind _ = false

abbrev pub archive_planned : Option LinkInput → Bool
archive_planned None = false
archive_planned (Some input) = is_archive_kind input.kind

abbrev pub whole_planned : Option LinkInput → Bool
whole_planned None = false
whole_planned (Some input) = input.is_whole

-- an input that is missing has no file
abbrev pub file_of_kind : InputKind → Option (List ℕ) → Option (List ℕ)
file_of_kind kind.Missing file = None
file_of_kind _ file = file

abbrev pub file_planned : Option LinkInput → Option (List ℕ) → Option (List ℕ)
file_planned None file = None
file_planned (Some input) file = file_of_kind input.kind file

-- THE FILES of a plan, of which the bytes are known, and in each of which so many headers are allowed
abbrev pub planned_files : (known : ℕ → Option (List ℕ)) → LinkPlan → (headers : ℕ) → LinkFiles
planned_files known plan headers = record {
  file = λ input. file_planned (slice_get plan.inputs.items input) (known input);
  is_archive = λ input. archive_planned (slice_get plan.inputs.items input);
  is_whole = λ input. whole_planned (slice_get plan.inputs.items input);
  headers = headers;
}

-- the bytes of a file that is read are known, and it is no shared library
abbrev pub IsKnownFile : InputKind → Option (List ℕ) → Type 0
IsKnownFile kind.Shared file = ⊥
IsKnownFile kind.Object file = (bytes : List ℕ) × (file ≡ Some bytes)
IsKnownFile kind.Archive file = (bytes : List ℕ) × (file ≡ Some bytes)
IsKnownFile _ file = Unit {0}

-- A STATIC LINK: each input is taken once, and no shared library; and the bytes of all files are known
pub record IsStaticPlan (known : ℕ → Option (List ℕ)) (plan : LinkPlan) : Type 0 where
  pub distinct : AreDistinctSteps plan.steps.items
  pub are_known : (index : ℕ) (input : LinkInput) → slice_get plan.inputs.items index ≡ Some input → IsKnownFile input.kind (known index)
