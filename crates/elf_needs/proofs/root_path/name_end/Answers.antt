use Rattle.std.proofs.Common.{◌≡◌, ◌==◌, ◌-◌, ◌<◌, true, ℕ, zero-le, length, length-drop, drop, get_or, ap, ◌∙◌, arith}
use Rattle.std.proofs.lemmas.Bool.Decides.{nat_tests}
use Rattle.std.proofs.lemmas.List.{take_rest}
use Rattle.elf_needs.specs.Searching.{PATH_SLASH}
use Rattle.elf_needs.proofs.RootLaws.{none_before}
use Rattle.elf_needs.proofs.root_path.name_end.Goals as goal

test : (b : ℕ) → b ≡ PATH_SLASH → (b == PATH_SLASH) ≡ true
test b is = grind (arith, nat_tests)

pub returns-in-Some-clause-plain : goal.returns-in-Some-clause-plain
returns-in-Some-clause-plain c =
    none_before c.args.names.now c.args.at c.in-Some.size
    (λ k low is. c.in-Some.ensures.0.before k zero-le low (test _ (ap (λ l. get_or l k 0) (take_rest c.args.names.now c.args.at) ∙ is)))

pub returns-in-None-clause-plain : goal.returns-in-None-clause-plain
returns-in-None-clause-plain c = λ k low high is.
    none_before c.args.names.now c.args.at (length c.args.names.now - c.args.at)
    (λ k low is.
    let below : k < length (drop c.args.at c.args.names.now) = omega (arith, low, length-drop c.args.at c.args.names.now) in
    c.in-None.ensures k zero-le (rw (take_rest c.args.names.now c.args.at) below) (test _ (ap (λ l. get_or l k 0) (take_rest c.args.names.now c.args.at) ∙ is)))
    k low (omega (arith, low, high, c.requires)) is
