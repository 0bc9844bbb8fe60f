-- The range of the program header, or the check that refuses it.
use Rattle.std.proofs.Common.{◌≡◌, nat_lt, not, true, false, length, arith}
use Rattle.std.proofs.lemmas.Bool.Decides.{nat_tests}
use Rattle.elf_model.specs.Prelude.{e_phnum, is_outside, p_filesz, p_offset, segment_at}
use Rattle.elf_reloc.specs.Queried.{one_range}
use Rattle.elf_reloc.proofs.RangeSteps.{no_segment, refuses_as, segment_found, segment_outside}
use Rattle.elf_reloc.proofs.section_bytes.segment_range.Goals as goal

pub returns-then-segment-segments-clause-held : goal.returns-then-segment-segments-clause-held
returns-then-segment-segments-clause-held c = λ bytes views.
    let index : not (nat_lt c.args.segment (e_phnum bytes)) ≡ true = grind (arith, nat_tests) in
    rw c.refused.ensures (refuses_as one_range _ _ (no_segment bytes c.args.segment index))

pub returns-then-is_out_of_bounds-clause-held : goal.returns-then-is_out_of_bounds-clause-held
returns-then-is_out_of_bounds-clause-held c = λ bytes views.
    let at = segment_at bytes c.args.segment in
    let is_at = c.segment-header.ensures.is_at bytes views in
    let index : not (nat_lt c.args.segment (e_phnum bytes)) ≡ false = grind (arith, nat_tests) in
    let outside : is_outside (length bytes) (p_offset bytes at) (p_filesz bytes at) ≡ true = grind (arith, nat_tests) in
    let here : at ≡ c.place.result = grind arith in
    rw c.refused-then-is_out_of_bounds.ensures (refuses_as one_range _ _ (rw here at (segment_outside bytes c.args.segment index outside)))

pub returns-clause-held : goal.returns-clause-held
returns-clause-held c = λ bytes views.
    let at = segment_at bytes c.args.segment in
    let is_at = c.segment-header.ensures.is_at bytes views in
    let index : not (nat_lt c.args.segment (e_phnum bytes)) ≡ false = grind (arith, nat_tests) in
    let inside : is_outside (length bytes) (p_offset bytes at) (p_filesz bytes at) ≡ false = grind (arith, nat_tests) in
    rw (is_at.p_offset, is_at.p_filesz) (segment_found bytes c.args.segment index inside)
