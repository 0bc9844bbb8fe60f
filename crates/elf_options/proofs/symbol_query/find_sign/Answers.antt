-- The first byte that is the sign, by position.
use Rattle.std.proofs.Common.{◌≡◌, ℕ, ◌<◌, ◌==◌, true, false, List, length, position, None, Some, get_or, inl, inr, arith}
use Rattle.std.proofs.lemmas.Bool.{cases_eq}
use Rattle.std.proofs.lemmas.Bool.Decides.{nat_tests}
use Rattle.std.proofs.lemmas.List.Sums.{position_or_len_is}
use Rattle.std.specs.List.{position_or_len}
use Rattle.elf_model.specs.Loader.{AT_SIGN}
use Rattle.elf_options.proofs.symbol_query.find_sign.Goals as goal

found : (bytes : List ℕ) (place : ℕ) → place < length bytes → ((i : ℕ) → i < place → (get_or bytes i 0 == AT_SIGN) ≡ false) → get_or bytes place 0 ≡ AT_SIGN
    → position (λ byte. byte == AT_SIGN) bytes ≡ Some place
found bytes place within before here =
    let sign : (get_or bytes place 0 == AT_SIGN) ≡ true = grind (arith, nat_tests) in
    let e : position_or_len (λ byte. byte == AT_SIGN) bytes ≡ place = position_or_len_is (λ byte. byte == AT_SIGN) bytes place 0 (omega arith) before (λ l. sign) in
    grind (arith, nat_tests)

nowhere : (bytes : List ℕ) → ((i : ℕ) → i < length bytes → (get_or bytes i 0 == AT_SIGN) ≡ false) → position (λ byte. byte == AT_SIGN) bytes ≡ None
nowhere bytes before =
    let e : position_or_len (λ byte. byte == AT_SIGN) bytes ≡ length bytes = position_or_len_is (λ byte. byte == AT_SIGN) bytes (length bytes) 0 (omega arith) before (λ l. absurd (omega arith)) in
    grind (arith, nat_tests)

pub loop-place-init : goal.loop-place-init
loop-place-init c = λ i low. absurd (omega (arith, low))

pub returns-then-byte-eq-AT_SIGN-clause-first : goal.returns-then-byte-eq-AT_SIGN-clause-first
returns-then-byte-eq-AT_SIGN-clause-first c = found c.args.text.now c.loop-place.place c.loop-place-test.true c.loop-place.invariant c.if-byte-eq-AT_SIGN.true

pub loop-place-preserved : goal.loop-place-preserved
loop-place-preserved c = λ i low.
    elim (cases_eq i c.loop-place.place) [
      | inl here ↦ let other = c.if-byte-eq-AT_SIGN.false in rw here (grind (arith, nat_tests))
      | inr before ↦ c.loop-place.invariant i (omega (arith, low, before))
    ]

pub returns-clause-first : goal.returns-clause-first
returns-clause-first c = nowhere c.args.text.now (λ i low. c.loop-place.invariant i (omega (arith, low, c.loop-place-test.false)))
