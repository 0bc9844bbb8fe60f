-- One digit after another.
use Rattle.std.proofs.Common.{◌≡◌, ℕ, ◌+◌, ◌-◌, ◌*◌, ◌%◌, ◌^◌, None, Some, length, get_or, take, drop, sym, ap, ◌∙◌, arith}
use Rattle.elf_model.specs.LoaderCache.{name_ranks}
use Rattle.elf_library.proofs.NameRankLaws.{ranks-more, ranks-ended, ranks-past, rest-is, rest-none}
use Rattle.elf_library.proofs.cache_names.digits.Goals as goal
use Rattle.elf_library.proofs.cache_names.digits.Goals.{then-loop-count-test+else-is_digit, else-loop-count-test}

pub loop-count-init : goal.loop-count-init
loop-count-init c =
    let name = c.args.name.now in
    let value : (10 * 0 + (get_or name 0 0 - 48)) % 2 ^ 32 ≡ c.from-number.result = omega (arith, c.from-number.ensures, c.type_inv.name 0) in
    record {
      in_range = c.requires.some;
      same = ranks-more None name 0 c.requires.some c.requires.digit ∙ ap (λ (n : ℕ). name_ranks (Some n) (drop 1 name)) value;
    }

pub loop-count-preserved : goal.loop-count-preserved
loop-count-preserved c =
    let name = c.args.name.now in
    let l = c.loop-count in
    let value : (10 * l.number + (get_or name l.count 0 - 48)) % 2 ^ 32 ≡ (l.number * 10 % 2 ^ 32 + c.from-digit.result) % 2 ^ 32 =
    omega (arith, c.from-digit.ensures, c.type_inv.name l.count) in
    record {
      in_range = omega (arith, c.loop-count-test.true);
      same = l.invariant.same ∙ ranks-more (Some l.number) name l.count (omega (arith, c.loop-count-test.true)) (sym c.if-is_digit.ensures) ∙ ap (λ (n : ℕ). name_ranks (Some n) (drop (l.count + 1) name)) value;
    }

pub returns : goal.returns
returns c =
    let name = c.args.name.now in
    let l = c.loop-count in
    let rest : take (length name - l.count) (drop l.count name) ≡ drop l.count name = rest-is name l.count in
    rw (rest) (l.invariant.same ∙ elim c.loop-count-test.branch [
      | then-loop-count-test+else-is_digit w ↦ ranks-ended l.number name l.count (omega (arith, w.loop-count-test.true)) (sym w.if-is_digit.ensures)
      | else-loop-count-test w ↦ ranks-past l.number _ (rest-none name l.count (omega (arith, w.loop-count-test.false)))
    ])
