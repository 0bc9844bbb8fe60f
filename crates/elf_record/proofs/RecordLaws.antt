-- A record in its own bytes is the one in the file.
use Rattle.std.proofs.Common.{◌≡◌, ℕ, ◌+◌, ◌≤◌, List, ap, ◌∙◌, arith}
use Rattle.elf_model.specs.Prelude.{field, slice, twos_complement}
use Rattle.elf_model.proofs.Slices.{field-slice}
use Rattle.elf_record.specs.Prelude.{IsDyn, IsNoteHead, IsPhdr, IsRel, IsRela, IsShdr, IsSym, IsVerdef, IsVernaux, IsVerneed, note_head_parts, phdr_parts, rel_parts, shdr_parts, sym_parts, verdef_parts, vernaux_parts, verneed_parts}
use Rattle.elf_record.specs.declared.dyn_entry.Dyn.{Dyn}
use Rattle.elf_record.specs.declared.note_head.NoteHead.{NoteHead}
use Rattle.elf_record.specs.declared.phdr.Phdr.{Phdr}
use Rattle.elf_record.specs.declared.rel.Rel.{Rel}
use Rattle.elf_record.specs.declared.rela.Rela.{Rela}
use Rattle.elf_record.specs.declared.shdr.Shdr.{Shdr}
use Rattle.elf_record.specs.declared.sym.Sym.{Sym}
use Rattle.elf_record.specs.declared.verdef.Verdef.{Verdef}
use Rattle.elf_record.specs.declared.vernaux.Vernaux.{Vernaux}
use Rattle.elf_record.specs.declared.verneed.Verneed.{Verneed}
use Rattle.elf_record.proofs.PartLaws.{parts_in_file}

pub shdr_in_file : (file : List ℕ) (at : ℕ) (bytes : List ℕ) (r : Shdr) → bytes ≡ slice file at 64 → IsShdr bytes 0 r → IsShdr file at r
shdr_in_file file at bytes r is is_at = let there = parts_in_file file at bytes (shdr_parts r) is (assumption is_at) in assumption there

pub phdr_in_file : (file : List ℕ) (at : ℕ) (bytes : List ℕ) (r : Phdr) → bytes ≡ slice file at 56 → IsPhdr bytes 0 r → IsPhdr file at r
phdr_in_file file at bytes r is is_at = let there = parts_in_file file at bytes (phdr_parts r) is (assumption is_at) in assumption there

pub sym_in_file : (file : List ℕ) (at : ℕ) (bytes : List ℕ) (r : Sym) → bytes ≡ slice file at 24 → IsSym bytes 0 r → IsSym file at r
sym_in_file file at bytes r is is_at = let there = parts_in_file file at bytes (sym_parts r) is (assumption is_at) in assumption there

pub note_head_in_file : (file : List ℕ) (at : ℕ) (bytes : List ℕ) (r : NoteHead) → bytes ≡ slice file at 12 → IsNoteHead bytes 0 r → IsNoteHead file at r
note_head_in_file file at bytes r is is_at = let there = parts_in_file file at bytes (note_head_parts r) is (assumption is_at) in assumption there

pub verdef_in_file : (file : List ℕ) (at : ℕ) (bytes : List ℕ) (r : Verdef) → bytes ≡ slice file at 20 → IsVerdef bytes 0 r → IsVerdef file at r
verdef_in_file file at bytes r is is_at = let there = parts_in_file file at bytes (verdef_parts r) is (assumption is_at) in assumption there

pub verneed_in_file : (file : List ℕ) (at : ℕ) (bytes : List ℕ) (r : Verneed) → bytes ≡ slice file at 16 → IsVerneed bytes 0 r → IsVerneed file at r
verneed_in_file file at bytes r is is_at = let there = parts_in_file file at bytes (verneed_parts r) is (assumption is_at) in assumption there

pub vernaux_in_file : (file : List ℕ) (at : ℕ) (bytes : List ℕ) (r : Vernaux) → bytes ≡ slice file at 16 → IsVernaux bytes 0 r → IsVernaux file at r
vernaux_in_file file at bytes r is is_at = let there = parts_in_file file at bytes (vernaux_parts r) is (assumption is_at) in assumption there

pub rel_in_file : (file : List ℕ) (at : ℕ) (bytes : List ℕ) (r : Rel) → bytes ≡ slice file at 16 → IsRel bytes 0 r → IsRel file at r
rel_in_file file at bytes r is is_at = let there = parts_in_file file at bytes (rel_parts r) is (assumption is_at) in assumption there

-- a field of some bytes of a file is a field of the file
field_in : (file : List ℕ) (at size : ℕ) (bytes : List ℕ) (k width : ℕ) → bytes ≡ slice file at size → k + width ≤ size → field bytes k width ≡ field file (at + k) width
field_in file at size bytes k width is inside = ap (λ b. field b k width) is ∙ field-slice file at size k width inside

pub first_field_in : (file : List ℕ) (at size : ℕ) (bytes : List ℕ) (width : ℕ) → bytes ≡ slice file at size → width ≤ size → field bytes 0 width ≡ field file at width
first_field_in file at size bytes width is inside =
    let here : at + 0 ≡ at = omega arith in
    field_in file at size bytes 0 width is (omega arith) ∙ ap (λ place. field file place width) here

pub rela_in_file : (file : List ℕ) (at : ℕ) (bytes : List ℕ) (r : Rela) → bytes ≡ slice file at 24 → IsRela bytes 0 r → IsRela file at r
rela_in_file file at bytes r is is_at = record {
  r_offset = is_at.r_offset ∙ first_field_in file at 24 bytes 8 is (omega arith);
  r_info = is_at.r_info ∙ field_in file at 24 bytes 8 8 is (omega arith);
  r_addend = is_at.r_addend ∙ ap twos_complement (field_in file at 24 bytes 16 8 is (omega arith));
}

pub dyn_in_file : (file : List ℕ) (at : ℕ) (bytes : List ℕ) (r : Dyn) → bytes ≡ slice file at 16 → IsDyn bytes 0 r → IsDyn file at r
dyn_in_file file at bytes r is is_at = record {
  d_tag = is_at.d_tag ∙ ap twos_complement (first_field_in file at 16 bytes 8 is (omega arith));
  d_tag_bits = is_at.d_tag_bits ∙ first_field_in file at 16 bytes 8 is (omega arith);
  d_tag_low = omega (arith, is_at.d_tag_low, first_field_in file at 16 bytes 8 is (omega arith));
  d_un = is_at.d_un ∙ field_in file at 16 bytes 8 8 is (omega arith);
}
