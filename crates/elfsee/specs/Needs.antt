-- How the program ends that lists what another needs.
use Rattle.std.specs.Prelude.{ℕ, ◌≡◌, ◌+◌, ◌≤◌, Bool, true, false, List, codes, IfSome, Option, Result, Ok, Err}
use Rattle.elf_model.specs.declared.causes.Cause.{Cause}
use Rattle.elf_model.specs.declared.causes.Cause.TheVariants.{BadClass, NotElf}
use Rattle.elf_source.specs.Prelude.{CountedState, OutState}
use Rattle.elf_source.specs.declared.faults.OutFault.{OutFault}
use Rattle.elf_cli.specs.declared.outputs.RunEnd.{RunEnd}
use Rattle.elf_cli.specs.declared.outputs.RunEnd.TheVariants.{Status, Told, Unwritten}
use Rattle.elf_library.specs.declared.needs_fault.NeedsFault.{NeedsFault}
use Rattle.elfsee.specs.declared.needs_report.NeedsRule.{NeedsRule}
use Rattle.elf_library.specs.declared.needs_fault.NeedsFault.TheVariants.{Open, Out, Read}

-- by the status of the walk, or by its fault
abbrev pub EndsNeeds : Result ℕ NeedsFault → RunEnd → Type 0
EndsNeeds (Ok status) end = end ≡ Status status
EndsNeeds (Err Read) (Told ending) = (ending.0 ≡ 3) × (ending.1.now ≡ codes "elfsee: read fault")
EndsNeeds (Err Read) end = ⊥
EndsNeeds (Err Open) (Told ending) = (ending.0 ≡ 3) × (ending.1.now ≡ codes "elfsee: cannot open")
EndsNeeds (Err Open) end = ⊥
EndsNeeds (Err (Out fault)) end = end ≡ Unwritten

-- a file is of another type: it is no ELF file, or not of 64 bits
abbrev pub is_of_other_type : Cause → Bool
is_of_other_type NotElf = true
is_of_other_type BadClass = true
is_of_other_type cause = false

-- no more is requested from a source than a budget allows
pub record AsksWithinBudget (budget : Option ℕ) (old new : CountedState) : Type 0 where
  pub within : IfSome budget (λ bytes. new.asked ≤ old.asked + bytes)

-- WHAT IS REQUESTED from one of many files to find whether its needs are listed
abbrev pub AsksWithinLimit : NeedsRule → (path : List ℕ) → CountedState → CountedState → OutState → OutState → Result ℕ OutFault → Type 0
AsksWithinLimit rule path old new before after result = AsksWithinBudget rule.limits.budget old new
