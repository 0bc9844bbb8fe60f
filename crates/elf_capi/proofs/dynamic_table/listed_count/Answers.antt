-- The entries before the first DT_NULL, and it, are those that are listed.
use Rattle.std.proofs.Common.{◌≡◌, ◌+◌, ◌*◌, ◌≤◌, arith}
use Rattle.std.proofs.lemmas.Bool.Decides.{nat_tests}
use Rattle.elf_model.specs.Prelude.{DT_NULL, d_tag}
use Rattle.elf_model.proofs.DynamicLaws.{count-all, count-first}
use Rattle.elf_capi.proofs.ListedLaws.{count_past}
use Rattle.elf_capi.proofs.dynamic_table.listed_count.Goals as goal

pub returns-then-done-most : goal.returns-then-done-most
returns-then-done-most c =
    let holds = c.if-done-most.true in
    let past = count_past c.args.file.now c.args.at c.args.count c.loop-done.done c.loop-done-test.true c.loop-done.invariant.2 in
    grind (arith, nat_tests, past, holds)

pub returns-then-ends_at : goal.returns-then-ends_at
returns-then-ends_at c =
    let test = c.ends_at.ensures in
    let holds = c.if-ends_at.true in
    let null : d_tag c.args.file.now (c.args.at + 16 * c.loop-done.done) ≡ DT_NULL = grind (arith, nat_tests) in
    let first = count-first c.args.file.now c.args.at c.args.count c.loop-done.done c.loop-done-test.true c.loop-done.invariant.2 null in
    let few = c.loop-done.invariant.1 in
    let other = c.if-done-most.false in
    let below : c.loop-done.done + 1 ≤ c.args.most = grind (arith, nat_tests) in
    (omega (arith, first), below)

pub returns : goal.returns
returns c =
    let within = c.loop-done.invariant.0 in
    let few = c.loop-done.invariant.1 in
    let done = c.loop-done-test.false in
    let all = count-all c.args.file.now c.args.at c.args.count (λ i below. c.loop-done.invariant.2 i (omega (arith, below, within, done))) in
    (omega (arith, all), omega (arith, within, few, done))
