-- The LOAD segments so far pass their checks.
use Rattle.std.proofs.Common.{◌≡◌, ◌-◌, ℕ, List}
use Rattle.elf_model.specs.Checks.{first_refusal}
use Rattle.elf_model.specs.ImageChecks.{segments_load_checks}
use Rattle.elf_table.specs.Load.{HoldsProgramHeaders}
use Rattle.elf_model.specs.Prelude.{e_phnum}
use Rattle.elf_image.proofs.HeaderSteps.{loads_left}
use Rattle.elf_image.proofs.headers.check_loads.Given as goal

abbrev pub invariant-loop-segment : goal.invariant-loop-segment
invariant-loop-segment l =
    (file : List ℕ) → HoldsProgramHeaders file l.view.loaded l.view.store.now
    → first_refusal (loads_left file l.segment (e_phnum file - l.segment)) ≡ first_refusal (segments_load_checks file)
