-- Records at their own bytes.
use Rattle.std.proofs.Common.{◌≡◌, ℕ, ◌+◌, ◌≤◌, Bool, true, false, List, ap, ◌∙◌, arith, add-zero}
use Rattle.elf_model.specs.Prelude.{FieldsOfSlices, LinesOfSlices, dynamic_prefix, field, header_line, relocation_prefix, relocation_size, section_prefix, segment_line, slice, symbol_prefix}
use Rattle.elf_model.specs.declared.formats.Format.{Format}
use Rattle.elf_model.proofs.Slices.{field-slice}

pub fields_of_slices : FieldsOfSlices
fields_of_slices = field-slice

-- the file header at its own bytes
pub header_line_of_slice : (format : Format) (file : List ℕ) → header_line format (slice file 0 64) ≡ header_line format file
unfolding header_line
header_line_of_slice format file =
    let f : (place width : ℕ) → place + width ≤ 64 → field (slice file 0 64) place width ≡ field file place width =
    λ place width h. field-slice file 0 64 place width h ∙ ap (λ n. field file n width) (omega arith) in
    rw (f 16 2 (omega arith), f 18 2 (omega arith), f 24 8 (omega arith), f 32 8 (omega arith), f 40 8 (omega arith), f 48 4 (omega arith), f 56 2 (omega arith), f 60 2 (omega arith), f 62 2 (omega arith))

pub section_front_of_slice : (format : Format) (file : List ℕ) (gnu : Bool) (machine : ℕ) (at index : ℕ) → section_prefix format gnu machine (slice file at 64) 0 index ≡ section_prefix format gnu machine file at index
unfolding section_prefix
section_front_of_slice format file gnu machine at index =
    let f = field-slice file at 64 in
    rw (f 4 4 (omega arith), f 8 8 (omega arith), f 16 8 (omega arith), f 24 8 (omega arith), f 32 8 (omega arith), f 40 4 (omega arith), f 44 4 (omega arith))

pub segment_line_of_slice : (format : Format) (file : List ℕ) (gnu : Bool) (at index : ℕ) → segment_line format gnu (slice file at 56) 0 index ≡ segment_line format gnu file at index
unfolding segment_line
segment_line_of_slice format file gnu at index =
    let f = field-slice file at 56 in
    rw (f 0 4 (omega arith), f 4 4 (omega arith), f 8 8 (omega arith), f 16 8 (omega arith), f 24 8 (omega arith), f 32 8 (omega arith), f 40 8 (omega arith), f 48 8 (omega arith), add-zero at)

pub symbol_front_of_slice : (format : Format) (file : List ℕ) (gnu : Bool) (machine : ℕ) (at section index : ℕ)
    → symbol_prefix format gnu machine (slice file at 24) 0 section index ≡ symbol_prefix format gnu machine file at section index
unfolding symbol_prefix
symbol_front_of_slice format file gnu machine at section index =
    let f = field-slice file at 24 in
    rw (f 4 1 (omega arith), f 5 1 (omega arith), f 6 2 (omega arith), f 8 8 (omega arith), f 16 8 (omega arith))

pub relocation_front_of_slice : (addends : Bool) (format : Format) (file : List ℕ) (gnu : Bool) (machine at section : ℕ)
    → relocation_prefix addends format gnu machine (slice file at (relocation_size addends)) 0 section ≡ relocation_prefix addends format gnu machine file at section
unfolding relocation_prefix
relocation_front_of_slice true format file gnu machine at section =
    let f = field-slice file at 24 in
    rw (f 0 8 (omega arith), f 8 8 (omega arith), f 16 8 (omega arith), add-zero at)
relocation_front_of_slice false format file gnu machine at section =
    let f = field-slice file at 16 in
    rw (f 0 8 (omega arith), f 8 8 (omega arith), add-zero at)

pub dynamic_front_of_slice : (format : Format) (file : List ℕ) (gnu : Bool) (at index : ℕ) → dynamic_prefix format gnu (slice file at 16) 0 index ≡ dynamic_prefix format gnu file at index
unfolding dynamic_prefix
dynamic_front_of_slice format file gnu at index =
    let f = field-slice file at 16 in
    rw (f 0 8 (omega arith), f 8 8 (omega arith), add-zero at)

pub lines_of_slices : LinesOfSlices
lines_of_slices format file gnu addends machine at index section = (
  header_line_of_slice format file,
  section_front_of_slice format file gnu machine at index,
  segment_line_of_slice format file gnu at index,
  symbol_front_of_slice format file gnu machine at section index,
  relocation_front_of_slice addends format file gnu machine at section,
  dynamic_front_of_slice format file gnu at index,
)
