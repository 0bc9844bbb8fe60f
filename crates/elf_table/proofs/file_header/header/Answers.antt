-- The file header's checks are those of the length, and then those of the bytes that were read.
use Rattle.std.proofs.Common.{◌≡◌, ℕ, List, ◌++◌, length, None, Some, refl, sym, ap, ◌∙◌}
use Rattle.elf_model.specs.Prelude.{first_refusal, ident_checks, length_checks}
use Rattle.elf_model.specs.declared.causes.Refusal.{Refusal}
use Rattle.elf_model.proofs.CheckSteps.{first_refusal-none, first_refusal-some}
use Rattle.elf_table.proofs.LoadLaws.{ident_unbudgeted}
use Rattle.elf_table.proofs.file_header.header.Goals as goal

-- after a length that passes
behind_length : (size : ℕ) (file : List ℕ) → length file ≡ size → first_refusal (length_checks size) ≡ None
    → first_refusal (length_checks (length file) ++ ident_checks file) ≡ first_refusal (ident_checks file)
behind_length size file same passes = rw same (first_refusal-none (length_checks size) (ident_checks file) passes)

-- a length that does not
length_refused : (size : ℕ) (file : List ℕ) (refusal : Refusal) → length file ≡ size → Some refusal ≡ first_refusal (length_checks size)
    → first_refusal (length_checks (length file) ++ ident_checks file) ≡ Some refusal
length_refused size file refusal same fails =
    first_refusal-some (length_checks (length file)) (ident_checks file) refusal (ap (λ (n : ℕ). first_refusal (length_checks n)) same ∙ sym fails)

pub returns-in-Some-clause-read : goal.returns-in-Some-clause-read
returns-in-Some-clause-read g c = λ file held other.
    length_refused c.length.result file c.in-Some.refusal (c.args.src.now.seen.sized file held ∙ sym c.length.ensures.value) c.in-Some.ensures

pub returns-in-Err-clause-says : goal.returns-in-Err-clause-says
returns-in-Err-clause-says g c = λ budget. absurd (ident_unbudgeted _ c.in-Err.refusal c.in-Err.ensures.checked budget)

pub returns-in-Ok-clause-read : goal.returns-in-Ok-clause-read
returns-in-Ok-clause-read g c = λ file held.
    let checked = c.in-Ok.ensures.in_file file (c.in_ok-fill.ensures.read file held) in
    (behind_length c.length.result file (c.args.src.now.seen.sized file held ∙ sym c.length.ensures.value) (sym c.in_default.ensures) ∙ checked.0, checked.1)

pub returns-in-Err-clause-read : goal.returns-in-Err-clause-read
returns-in-Err-clause-read g c = λ file held other.
    behind_length c.length.result file (c.args.src.now.seen.sized file held ∙ sym c.length.ensures.value) (sym c.in_default.ensures)
    ∙ c.in-Err.ensures.in_file file (c.in_ok-fill.ensures.read file held)

pub returns-in-Some-clause-unread : goal.returns-in-Some-clause-unread
returns-in-Some-clause-unread g c = λ refusal fails. let same = rw c.length.ensures.value at c.in-Some.ensures ∙ fails in (cc same, refl)
