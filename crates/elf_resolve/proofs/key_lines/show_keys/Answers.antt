use Rattle.std.proofs.Common.{◌≡◌, ◌<◌, List, ℕ, length, get_or, subst, ◌∙◌, ap, arith}
use Rattle.std.specs.List.{concat}
use Rattle.std.proofs.lemmas.Result.{err_from_is_err_and}
use Rattle.elf_model.specs.LinkLines.{is_unresolved}
use Rattle.elf_source.specs.Output.{SinkTakes, SinkTakesPrefix, IsOutFault}
use Rattle.elf_resolve.specs.LinkerNames.{output_of}
use Rattle.elf_resolve.specs.Resolved.{linking_of}
use Rattle.elf_resolve.specs.ShownLinks.{key_if_shown}
use Rattle.elf_resolve.proofs.KeyShownLaws.{keys_fail, keys_more}
use Rattle.elf_resolve.proofs.key_lines.show_keys.Goals as goal

pub returns-in_err-more-clause-writes : goal.returns-in_err-more-clause-writes
returns-in_err-more-clause-writes g c =
    let p = err_from_is_err_and c.from_residual.result c.from_residual.ensures.1 in
    rw (p.1, p.2)
    (λ listed.
    let output = output_of c.args.link.now.output in
    let made = linking_of c.args.link.now in
    let i = c.loop-key.key-index in
    let order = c.args.link.now.link.keys.keys.order in
    let fault = c.in_err-more.field-0.0 in
    let there : i < length order = omega (arith, c.loop-key-test.true, ap (λ (l : List ℕ). length l) c.order-key-items.ensures) in
    let key : get_or c.order-key-items.result.now i 0 ≡ get_or order i 0 = ap (λ (l : List ℕ). get_or l i 0) c.order-key-items.ensures in
    keys_fail c.args.problems g.R.Render.FORMAT output made order i 0 c.loop-key.fails c.args.out.now c.loop-key.out c.show_if_own.new.out fault there (c.loop-key.invariant listed)
    (subst (λ (k : ℕ). SinkTakesPrefix c.loop-key.out c.show_if_own.new.out (concat (key_if_shown c.args.problems g.R.Render.FORMAT output made k)) × IsOutFault c.show_if_own.new.out fault) key
    (c.in_err-more.ensures.writes listed)))

pub loop-key-preserved : goal.loop-key-preserved
loop-key-preserved g c = λ listed.
    let output = output_of c.args.link.now.output in
    let made = linking_of c.args.link.now in
    let i = c.loop-key.key-index in
    let order = c.args.link.now.link.keys.keys.order in
    let there : i < length order = omega (arith, c.loop-key-test.true, ap (λ (l : List ℕ). length l) c.order-key-items.ensures) in
    let key : get_or c.order-key-items.result.now i 0 ≡ get_or order i 0 = ap (λ (l : List ℕ). get_or l i 0) c.order-key-items.ensures in
    rw (c.either-fails.ensures)
    (keys_more c.args.problems g.R.Render.FORMAT output made order i 0 c.loop-key.fails c.in_ok-more.more c.args.out.now c.loop-key.out c.show_if_own.new.out there (c.loop-key.invariant listed)
    (subst (λ (k : ℕ). SinkTakes c.loop-key.out c.show_if_own.new.out (concat (key_if_shown c.args.problems g.R.Render.FORMAT output made k))) key (c.in_ok-more.ensures.writes listed))
    (c.in_ok-more.ensures.fails listed ∙ ap (is_unresolved output made) key))
