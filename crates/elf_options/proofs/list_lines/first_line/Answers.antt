use Rattle.std.proofs.Common.{◌≡◌, ℕ, ◌==◌, zero-le, true, ◌∙◌, refl, add-one, arith}
use Rattle.std.proofs.lemmas.List.{take_rest}
use Rattle.std.proofs.lemmas.Bool.Decides.{nat_tests}
use Rattle.elf_options.proofs.LineLaws.{first_at, one_line}
use Rattle.elf_options.proofs.list_lines.first_line.Goals as goal

sign : (b : ℕ) → (b == 10) ≡ true → b ≡ 10
sign b is = grind (arith, nat_tests)

test : (b : ℕ) → b ≡ 10 → (b == 10) ≡ true
test b is = grind (arith, nat_tests)

pub returns-in-Some-clause-lines : goal.returns-in-Some-clause-lines
returns-in-Some-clause-lines c =
    let text = c.args.text.now in
    let end = c.in-Some.end in
    let first = first_at text end c.in-Some.ensures.0.high (sign _ c.in-Some.ensures.1) (λ k low is. c.in-Some.ensures.0.before k zero-le low (test _ is)) in
    first ∙ rw (add-one, take_rest) refl

pub returns-in-None-clause-lines : goal.returns-in-None-clause-lines
returns-in-None-clause-lines c = one_line c.args.text.now (λ k low is. c.in-None.ensures k zero-le low (test _ is))
