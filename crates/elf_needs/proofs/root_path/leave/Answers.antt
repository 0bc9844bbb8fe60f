use Rattle.std.proofs.Common.{◌≡◌, ◌==◌, true, ℕ, ◌+◌, ◌<◌, ◌≤◌, sym, subst, arith, length}
use Rattle.std.proofs.lemmas.Bool.Decides.{nat_tests}
use Rattle.elf_needs.specs.Searching.{PATH_SLASH}
use Rattle.elf_needs.specs.RootPaths.{IsWithinRoot}
use Rattle.elf_needs.proofs.RootLaws.{left_by}
use Rattle.elf_needs.proofs.root_path.leave.Goals as goal

sign : (b : ℕ) → (b == PATH_SLASH) ≡ true → b ≡ PATH_SLASH
sign b is = grind (arith, nat_tests)

test : (b : ℕ) → b ≡ PATH_SLASH → (b == PATH_SLASH) ≡ true
test b is = grind (arith, nat_tests)

after : (slash k : ℕ) → slash < k → slash + 1 ≤ k
after slash k past = omega (arith, past)

pub returns-in-Some : goal.returns-in-Some
returns-in-Some c =
    let found = c.in-Some.ensures in
    let long : length c.args.root.now < length c.args.path.now.items = grind (arith, nat_tests) in
    record {
      within = subst (λ p. IsWithinRoot c.args.root.now p) (sym c.truncate.ensures.items)
          (left_by c.args.root.now c.args.path.now.items c.deref.result.now c.in-Some.slash c.deref.ensures.0 c.requires.within long found.0.high (sign _ found.1) (λ k past below is. found.0.after k (after c.in-Some.slash k past) below (test _ is)));
    }
