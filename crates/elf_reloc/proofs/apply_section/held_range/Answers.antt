-- The range of the section, by its header, or the check that refuses it.
use Rattle.std.proofs.Common.{◌≡◌, true, false, sym, ◌∙◌, arith}
use Rattle.std.proofs.lemmas.Bool.Decides.{nat_tests}
use Rattle.elf_model.specs.Prelude.{is_section_outside, section_at}
use Rattle.elf_reloc.specs.Queried.{one_range}
use Rattle.elf_reloc.proofs.RangeSteps.{none_held, outside_at, range_held, refuses_as}
use Rattle.elf_reloc.proofs.apply_section.held_range.Goals as goal

pub returns-then-has_no_bytes-clause-held : goal.returns-then-has_no_bytes-clause-held
returns-then-has_no_bytes-clause-held c = λ bytes belongs.
    let at = section_at bytes c.args.section in
    let is_at = c.section-found.ensures.is_at bytes belongs in
    none_held bytes at (sym (c.has_no_bytes.ensures bytes at is_at) ∙ c.if-has_no_bytes.true)

pub returns-then-is_out_of_bounds-clause-held : goal.returns-then-is_out_of_bounds-clause-held
returns-then-is_out_of_bounds-clause-held c = λ bytes belongs.
    let at = section_at bytes c.args.section in
    let is_at = c.section-found.ensures.is_at bytes belongs in
    let some = sym (c.has_no_bytes.ensures bytes at is_at) ∙ c.if-has_no_bytes.false in
    let outside : is_section_outside bytes at ≡ true = grind (arith, nat_tests) in
    let here : at ≡ c.place.result = grind arith in
    rw c.refused.ensures (refuses_as one_range _ _ (outside_at bytes at _ here some outside))

pub returns-clause-held : goal.returns-clause-held
returns-clause-held c = λ bytes belongs.
    let at = section_at bytes c.args.section in
    let is_at = c.section-found.ensures.is_at bytes belongs in
    let some = sym (c.has_no_bytes.ensures bytes at is_at) ∙ c.if-has_no_bytes.false in
    let inside : is_section_outside bytes at ≡ false = grind (arith, nat_tests) in
    rw (is_at.sh_offset, is_at.sh_size) (range_held bytes at some inside)
