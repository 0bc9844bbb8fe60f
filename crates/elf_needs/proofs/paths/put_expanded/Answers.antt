use Rattle.std.proofs.Common.{ℕ, ◌<◌, List, [], length, length-drop, ap, sym, subst, ◌∙◌, arith}
use Rattle.std.proofs.lemmas.List.{take_rest}
use Rattle.elf_needs.specs.Prelude.{token_at, token_of}
use Rattle.elf_needs.proofs.TokenLaws.{goes_all, goes_put, short_put, at_byte, at_token}
use Rattle.elf_needs.proofs.paths.put_expanded.Goals as goal

pub returns-then-not-put_byte : goal.returns-then-not-put_byte
returns-then-not-put_byte c =
    let text = c.args.text.now in
    let none = ap (token_at c.args.origin.now) (sym (take_rest text c.loop-at.at)) ∙ sym c.in-None.ensures.token in
    short_put c.args.path.now.items c.loop-at.path.items [] [] _ _ _ _ c.loop-at.invariant.1
    (at_byte c.args.origin.now text c.loop-at.at c.loop-at-test.true none) c.if-not-put_byte.ensures

pub loop-at-preserved-in-None : goal.loop-at-preserved-in-None
loop-at-preserved-in-None c =
    let text = c.args.text.now in
    let none = ap (token_at c.args.origin.now) (sym (take_rest text c.loop-at.at)) ∙ sym c.in-None.ensures.token in (
      omega (arith, c.loop-at-test.true),
      goes_put c.args.path.now.items c.loop-at.path.items c.put_byte.new.path.items _ _ _ _ c.loop-at.invariant.1
          (at_byte c.args.origin.now text c.loop-at.at c.loop-at-test.true none) c.if-not-put_byte.ensures,
    )

pub returns-then-not-put : goal.returns-then-not-put
returns-then-not-put c =
    let text = c.args.text.now in
    let some = ap (token_at c.args.origin.now) (sym (take_rest text c.loop-at.at)) ∙ sym c.in-Some.ensures.token in
    short_put c.args.path.now.items c.loop-at.path.items [] [] _ _ _ _ c.loop-at.invariant.1
    (at_token c.args.origin.now text c.loop-at.at (token_of c.in-Some.token) c.loop-at-test.true some) c.if-not-put.ensures.puts

pub loop-at-preserved : goal.loop-at-preserved
loop-at-preserved c =
    let text = c.args.text.now in
    let some = ap (token_at c.args.origin.now) (sym (take_rest text c.loop-at.at)) ∙ sym c.in-Some.ensures.token in
    let within = subst (λ (l : List ℕ). c.in-Some.token.size < length l) (take_rest text c.loop-at.at) c.in-Some.ensures.within in
    let n = length-drop c.loop-at.at text in (
      omega (arith, within, n, c.loop-at-test.true),
      goes_put c.args.path.now.items c.loop-at.path.items c.put.new.path.items _ _ _ _ c.loop-at.invariant.1
          (at_token c.args.origin.now text c.loop-at.at (token_of c.in-Some.token) c.loop-at-test.true some) c.if-not-put.ensures.puts,
    )

pub returns : goal.returns
returns c = goes_all c.args.origin.now c.args.path.now.items c.loop-at.path.items c.args.text.now c.loop-at.at _ c.loop-at-test.false c.loop-at.invariant.1
