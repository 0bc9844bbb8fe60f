-- The checks of a file header: those of the file's length come before those of its identification.
use Rattle.std.proofs.Common.{◌≡◌, List, ℕ, length, None, Result, Ok, Err, ◌∙◌}
use Rattle.elf_model.specs.Prelude.{first_refusal, ident_checks, length_checks}
use Rattle.elf_model.specs.declared.causes.Refusal.{Refusal}
use Rattle.elf_model.proofs.CheckSteps.{first_refusal-none}
use Rattle.elf_record.specs.Prelude.{IsChecked}
use Rattle.elf_record.specs.declared.ehdr.Ehdr.{Ehdr}
use Rattle.elf_capi.specs.Checked.{HeaderChecked}

-- if the length passes, the result is that of the identification's checks
pub header_checked : (file : List ℕ) (result : Result Ehdr Refusal) → first_refusal (length_checks (length file)) ≡ None
    → IsChecked file result → HeaderChecked file result
header_checked file (Ok header) passes is = (first_refusal-none (length_checks (length file)) (ident_checks file) passes ∙ is.0, is.1)
header_checked file (Err refusal) passes is = first_refusal-none (length_checks (length file)) (ident_checks file) passes ∙ is
