-- A file header in its own bytes is the one in the file.
use Rattle.std.proofs.Common.{◌≡◌, ℕ, List, Ok, Err, Result, arith}
use Rattle.elf_model.specs.Prelude.{ident_checks, slice}
use Rattle.elf_model.specs.declared.causes.Refusal.{Refusal}
use Rattle.elf_model.proofs.Slices.{field-slice}
use Rattle.elf_record.specs.Prelude.{IsChecked, IsEhdr, ehdr_parts}
use Rattle.elf_record.specs.declared.ehdr.Ehdr.{Ehdr}
use Rattle.elf_record.proofs.PartLaws.{parts_in_file}

pub ehdr_in_file : (file : List ℕ) (at : ℕ) (bytes : List ℕ) (header : Ehdr) → bytes ≡ slice file at 64 → IsEhdr bytes 0 header → IsEhdr file at header
ehdr_in_file file at bytes header is is_at =
    let there = parts_in_file file at bytes (ehdr_parts header) is (assumption is_at) in assumption there

ident_in_file : (file : List ℕ) → ident_checks (slice file 0 64) ≡ ident_checks file
ident_in_file file =
    rw (field-slice file 0 64 0 4 (omega arith), field-slice file 0 64 4 1 (omega arith), field-slice file 0 64 5 1 (omega arith), field-slice file 0 64 6 1 (omega arith))

pub checked_in_file : (file bytes : List ℕ) (result : Result Ehdr Refusal) → bytes ≡ slice file 0 64 → IsChecked bytes result → IsChecked file result
checked_in_file file bytes (Ok header) is checked = (rw (is, ident_in_file file) at checked.0, ehdr_in_file file 0 bytes header is checked.1)
checked_in_file file bytes (Err refusal) is checked = rw (is, ident_in_file file) at checked
