-- The headers of a file in memory are its own.
use Rattle.std.proofs.Common.{ℕ, ◌+◌, ◌*◌, List, ap, ◌∙◌}
use Rattle.elf_model.specs.Bytes.{slice}
use Rattle.elf_record.specs.Prelude.{IsEhdr}
use Rattle.elf_record.specs.declared.ehdr.Ehdr.{Ehdr}
use Rattle.elf_table.specs.Prelude.{HoldsSections, HoldsSegments}
use Rattle.elf_table.proofs.RowsHeld.{row_held}
use Rattle.elf_capi.specs.InPlace.{rows_in_place}

pub sections_in_place : (file : List ℕ) (header : Ehdr) (most : ℕ) → IsEhdr file 0 header → HoldsSections file (rows_in_place file header most)
sections_in_place file header most is = λ i below.
    row_held file header.e_shoff 64 header.e_shnum i below ∙ ap (λ (at : ℕ). slice file (at + 64 * i) 64) is.e_shoff

pub segments_in_place : (file : List ℕ) (header : Ehdr) (most : ℕ) → IsEhdr file 0 header → HoldsSegments file (rows_in_place file header most)
segments_in_place file header most is = λ i below.
    row_held file header.e_phoff 56 header.e_phnum i below ∙ ap (λ (at : ℕ). slice file (at + 56 * i) 56) is.e_phoff
