use Rattle.std.proofs.Common.{◌≡◌, ◌+◌, ◌*◌, length, arith, ap}
use Rattle.elf_model.specs.Names.{pad64}
use Rattle.elf_layout.specs.Layouts.{items_cost}
use Rattle.elf_layout.proofs.LayoutSteps.{cost_step, drop-all}
use Rattle.elf_layout.proofs.named.names_cost.Goals as goal

pub loop-i-init : goal.loop-i-init
loop-i-init c = record { within = omega arith; few = omega arith; left = omega arith }

pub overflow_add-cost : goal.overflow_add-cost
overflow_add-cost c =
    let few = c.loop-i.invariant.few in
    omega (arith, c.div_ceil.ensures, c.name.ensures.few, ap length c.name.ensures.value, few, c.loop-i.auto.i-fits)

pub loop-i-preserved : goal.loop-i-preserved
loop-i-preserved c =
    let known = c.loop-i.invariant in
    let cost = cost_step c.loop-i.i c.args.items.now c.index-items-i.result c.name.result.now c.loop-i-test.true c.index-items-i.is c.name.ensures.value in
    let each : 64 * c.div_ceil.result ≡ pad64 (length c.name.result.now + 1) = omega (arith, c.div_ceil.ensures) in
    record {
      within = omega (arith, c.loop-i-test.true);
      few = omega (arith, known.few, c.div_ceil.ensures, c.name.ensures.few, ap length c.name.ensures.value);
      left = omega (arith, known.left, cost, each);
    }

pub returns-clause-value : goal.returns-clause-value
returns-clause-value c =
    let none = ap items_cost (drop-all c.args.items.now c.loop-i.i c.loop-i-test.false) in omega (arith, c.loop-i.invariant.left, none)

pub returns-clause-few : goal.returns-clause-few
returns-clause-few c = omega (arith, c.loop-i.invariant.few, c.loop-i.auto.i-fits)
