-- The items before the index have other names, and what is left has the same result.
use Rattle.std.proofs.Common.{None, Some, ◌+◌, length, drop, ◌∙◌, arith}
use Rattle.std.proofs.lemmas.Result.{err_from_is_err_and}
use Rattle.elf_model.specs.Prelude.{address_named, pad64}
use Rattle.elf_layout.specs.Layouts.{items_cost}
use Rattle.elf_table.specs.Tables.{strings_in}
use Rattle.elf_reloc.proofs.CompareSteps.{asked_next, item_found, item_passed, item_refuses, left_cost, none_left, reads_next}
use Rattle.elf_reloc.proofs.lookup.compared.Goals as goal

pub returns-in_err-equals : goal.returns-in_err-equals
returns-in_err-equals g c =
    let p = err_from_is_err_and c.from_residual.result c.from_residual.ensures.1 in
    let item = c.index-items-i.result in
    let cost = left_cost c.args.items.now c.loop-i.i item c.name.result.now c.loop-i-test.true c.index-items-i.is c.name.ensures.value in
    rw (p.1, p.2)
    (record {
      costs = reads_next c.args.src.now c.loop-i.src c.equals.new.src (Some c.in_err-equals.field-0.0) (items_cost c.args.items.now) (items_cost (drop c.loop-i.i c.args.items.now)) (items_cost (drop (c.loop-i.i + 1) c.args.items.now)) (pad64 (length c.name.result.now + 1)) c.loop-i.invariant.reads c.loop-i.invariant.asked cost c.in_err-equals.ensures.reads c.in_err-equals.ensures.says;
      known = λ file h.
          item_refuses (strings_in file c.args.symbol.now.names) c.args.symbol.now.fields.st_name c.from-off.result c.name.result.now c.args.items.now c.loop-i.i item (address_named (strings_in file c.args.symbol.now.names) c.args.symbol.now.fields.st_name c.args.items.now) c.loop-i-test.true c.index-items-i.is
          c.name.ensures.value c.from-off.ensures (c.loop-i.invariant.left file h) c.args.symbol.now.at c.in_err-equals.field-0.0
          (c.in_err-equals.ensures.compared file (c.loop-i.invariant.reads.keeps.same_file ∙ h));
    })

pub returns-then-branch : goal.returns-then-branch
returns-then-branch g c =
    let item = c.index-items-i.result in
    let cost = left_cost c.args.items.now c.loop-i.i item c.name.result.now c.loop-i-test.true c.index-items-i.is c.name.ensures.value in
    record {
      costs = reads_next c.args.src.now c.loop-i.src c.equals.new.src None (items_cost c.args.items.now) (items_cost (drop c.loop-i.i c.args.items.now)) (items_cost (drop (c.loop-i.i + 1) c.args.items.now)) (pad64 (length c.name.result.now + 1)) c.loop-i.invariant.reads c.loop-i.invariant.asked cost c.in_ok-equals.ensures.reads tt;
      known = λ file h.
          item_found (strings_in file c.args.symbol.now.names) c.args.symbol.now.fields.st_name c.from-off.result c.name.result.now c.args.items.now c.loop-i.i item (address_named (strings_in file c.args.symbol.now.names) c.args.symbol.now.fields.st_name c.args.items.now) c.loop-i-test.true c.index-items-i.is
          c.name.ensures.value c.from-off.ensures (c.loop-i.invariant.left file h) c.address.result c.address.ensures
          (rw (← c.if-branch.true) (c.in_ok-equals.ensures.compared file (c.loop-i.invariant.reads.keeps.same_file ∙ h)));
    }

pub loop-i-preserved : goal.loop-i-preserved
loop-i-preserved g c =
    let item = c.index-items-i.result in
    let cost = left_cost c.args.items.now c.loop-i.i item c.name.result.now c.loop-i-test.true c.index-items-i.is c.name.ensures.value in
    record {
      within = omega (arith, c.loop-i-test.true);
      reads = (reads_next c.args.src.now c.loop-i.src c.equals.new.src None (items_cost c.args.items.now) (items_cost (drop c.loop-i.i c.args.items.now)) (items_cost (drop (c.loop-i.i + 1) c.args.items.now)) (pad64 (length c.name.result.now + 1)) c.loop-i.invariant.reads c.loop-i.invariant.asked cost c.in_ok-equals.ensures.reads tt).reads;
      asked = asked_next c.args.src.now.asked c.loop-i.src.asked c.equals.new.src.asked (items_cost c.args.items.now) (items_cost (drop c.loop-i.i c.args.items.now)) (items_cost (drop (c.loop-i.i + 1) c.args.items.now)) (pad64 (length c.name.result.now + 1)) c.loop-i.invariant.asked cost c.in_ok-equals.ensures.reads.at_most;
      left = λ file h.
          item_passed (strings_in file c.args.symbol.now.names) c.args.symbol.now.fields.st_name c.from-off.result c.name.result.now c.args.items.now c.loop-i.i item (address_named (strings_in file c.args.symbol.now.names) c.args.symbol.now.fields.st_name c.args.items.now) c.loop-i-test.true c.index-items-i.is
          c.name.ensures.value c.from-off.ensures (c.loop-i.invariant.left file h) (rw (← c.if-branch.false) (c.in_ok-equals.ensures.compared file (c.loop-i.invariant.reads.keeps.same_file ∙ h)));
    }

pub returns : goal.returns
returns g c = record {
  costs = record { reads = c.loop-i.invariant.reads; says = tt };
  known = λ file h. none_left (strings_in file c.args.symbol.now.names) c.args.symbol.now.fields.st_name c.args.items.now c.loop-i.i (address_named (strings_in file c.args.symbol.now.names) c.args.symbol.now.fields.st_name c.args.items.now) c.loop-i-test.false (c.loop-i.invariant.left file h);
}
