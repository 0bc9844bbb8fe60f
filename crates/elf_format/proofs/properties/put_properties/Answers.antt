-- A property, and then those that are left.
use Rattle.std.proofs.Common.{◌≡◌, ◌-◌, length, take, drop, length-drop, ap, ◌∙◌, arith}
use Rattle.std.proofs.lemmas.List.{take_rest}
use Rattle.elf_format.specs.Properties.{property_of}
use Rattle.elf_format.proofs.ContentLaws.{done_cut, done_empty, done_items, list_cut, list_first, list_step}
use Rattle.elf_format.proofs.properties.put_properties.Goals as goal

pub loop-property-preserved : goal.loop-property-preserved
loop-property-preserved c =
    let i = c.loop-property.invariant in
    let rest = c.loop-property.rest.now in
    let one = c.in-Some.property in
    let left = take_rest rest one.size in
    let size : length (take (length rest - one.size) (drop one.size rest)) ≡ length rest - one.size = ap length left ∙ length-drop one.size rest in
    record {
      items = list_step rest _ (property_of one) one.size c.loop-property.is_first _ _ _ c.in-Some.ensures.next left c.put_property.ensures.items i.items;
      first = list_first rest (property_of one) one.size c.loop-property.is_first _ c.in-Some.ensures.next i.first;
      cut = list_cut rest _ (property_of one) one.size _ c.in-Some.ensures.next left i.cut;
      room = omega (arith, size, c.in-Some.ensures.size, c.put_property.ensures.len, i.room);
      few = omega (arith, size, i.few);
    }

pub returns-clause-items : goal.returns-clause-items
returns-clause-items c = done_items c.loop-property.rest.now c.loop-property.is_first _ _ c.in_default.ensures.next c.loop-property.invariant.items

pub returns-clause-empty : goal.returns-clause-empty
returns-clause-empty c = done_empty c.loop-property.rest.now c.loop-property.is_first _ c.in_default.ensures.next c.loop-property.invariant.first

pub returns-clause-cut : goal.returns-clause-cut
returns-clause-cut c = rw c.is_empty.ensures (done_cut c.loop-property.rest.now _ c.in_default.ensures.next c.loop-property.invariant.cut)
