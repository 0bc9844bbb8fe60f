use Rattle.std.proofs.Common.{◌≡◌, Some, None, refl, sym, ◌∙◌, arith}
use Rattle.elf_model.specs.Archive.{parsed_member_size}
use Rattle.elf_archive.proofs.MemberLaws.{told-of, size-none, size-outside, size-inside}
use Rattle.elf_archive.proofs.fields.size_within.Goals as goal

pub returns-in_default-clause-size : goal.returns-in_default-clause-size
returns-in_default-clause-size c = λ file at is sized.
    let none : parsed_member_size file at ≡ None = sym (told-of file c.args.header.now at 60 refl is) ∙ (sym c.parsed_member_size.ensures.value ∙ c.in_default.is) in
    size-none file at none

pub returns-then-left-size-clause-size : goal.returns-then-left-size-clause-size
returns-then-left-size-clause-size c = λ file at is sized.
    let told : parsed_member_size file at ≡ Some c.in-Some.size = sym (told-of file c.args.header.now at 60 refl is) ∙ (sym c.parsed_member_size.ensures.value ∙ c.in-Some.is) in
    size-outside file at c.in-Some.size told (omega (arith, sized))

pub returns-clause-size : goal.returns-clause-size
returns-clause-size c = λ file at is sized.
    let told : parsed_member_size file at ≡ Some c.in-Some.size = sym (told-of file c.args.header.now at 60 refl is) ∙ (sym c.parsed_member_size.ensures.value ∙ c.in-Some.is) in
    size-inside file at c.in-Some.size told (omega (arith, sized))
