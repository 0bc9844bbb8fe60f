use Rattle.std.proofs.Common.{rules, ◌≡◌, ◌<◌, length, length-set, get_or, arith, sym, ap, ◌∙◌}
use Rattle.elf_model.specs.LinkKeys.{references_after, entry_named_as, is_further, new_key, order_after, used}
use Rattle.elf_model.specs.declared.link_states.KeyEntry.{KeyEntry}
use Rattle.std.proofs.lemmas.List.{length-map}
use Rattle.std.proofs.lemmas.Result.{err_from_is_err_and}
use Rattle.elf_resolve.specs.KeyTables.{KeyList}
use Rattle.elf_resolve.proofs.KeyLaws.{asked_counted, ordered, used_asked, used_met}
use Rattle.elf_resolve.proofs.ListLaws.{count_by_less, get_or_either}
use Rattle.elf_resolve.proofs.table.KeyTable.use_key.Goals as goal

pub add_order-requires : goal.add_order-requires
add_order-requires c not_met =
    let held = c.self.invariant in
    let there : c.args.index < length c.self.inside.entries.items = omega (arith, held.paired, c.requires, ap (λ (t : KeyList). length t.keys.names) c.self.view_is, length-map c.self.inside.names.items (λ n. n.now)) in
    let entry : c.index-entry.result.now ≡ get_or c.self.inside.entries.items c.args.index new_key = c.index-entry.ensures ∙ get_or_either _ _ _ new_key there in
    omega (arith, count_by_less (λ (e : KeyEntry). e.is_met) c.self.inside.entries.items c.args.index new_key there (ap (λ (e : KeyEntry). e.is_met) (sym entry) ∙ not_met), held.met, held.paired, held.within, held.order_fits)

pub returns-in_err-add_further : goal.returns-in_err-add_further
returns-in_err-add_further c =
    let p = err_from_is_err_and c.from_residual.result c.from_residual.ensures.1 in
    let held = c.self.invariant in
    let entries = c.self.inside.entries.items in
    let there : c.args.index < length entries = omega (arith, held.paired, c.requires, ap (λ (t : KeyList). length t.keys.names) c.self.view_is, length-map c.self.inside.names.items (λ n. n.now)) in
    let entry : c.index-entry.result.now ≡ get_or entries c.args.index new_key = c.index-entry.ensures ∙ get_or_either _ _ _ new_key there in
    rw (p.1, p.2) (record {
      same = search rules;
      fault_is = c.in_err-add_further.ensures.adds.fault_is;
      once_more =
          ap (λ (e : KeyEntry). is_further e c.args.symbol) (sym (entry ∙ ap (λ (t : KeyList). entry_named_as t.keys c.args.index) c.self.view_is))
          ∙ sym c.is_further.ensures
          ∙ c.in_err-add_further.ensures.adds.is;
      full = search rules;
    })

pub invariant_of-self-2 : goal.invariant_of-self-2
invariant_of-self-2 c =
    let held = c.self.invariant in
    let entries = c.self.inside.entries.items in
    let there : c.args.index < length entries = omega (arith, held.paired, c.requires, ap (λ (t : KeyList). length t.keys.names) c.self.view_is, length-map c.self.inside.names.items (λ n. n.now)) in
    let entry : c.index-entry.result.now ≡ get_or entries c.args.index new_key = c.index-entry.ensures ∙ get_or_either _ _ _ new_key there in
    let after : c.used-after.result ≡ used (get_or entries c.args.index new_key) c.args.symbol c.args.row = c.used-after.ensures ∙ ap (λ (e : KeyEntry). used e c.args.symbol c.args.row) entry in
    record {
      finds = held.finds;
      paired = omega (arith, length-set entries c.args.index c.used-after.result, held.paired);
      within = held.within;
      names_fit = held.names_fit;
      entries_fit = held.entries_fit;
      order_fits = omega (arith, held.order_fits, c.add_order.ensures.capacity);
      places_fit = held.places_fit;
      indexed = held.indexed;
      met =
          ap length c.add_order.ensures.order
          ∙ ap (λ (e : KeyEntry). length (order_after c.self.inside.order.items c.args.index e.is_met)) entry
          ∙ ordered entries c.self.inside.order.items c.args.index c.used-after.result there
          (ap (λ (e : KeyEntry). e.is_met) after ∙ used_met (get_or entries c.args.index new_key) c.args.symbol c.args.row) held.met;
      asks =
          c.references_after-self-inside.ensures
          ∙ ap (λ (e : KeyEntry). references_after c.self.inside.asked e c.used-after.result) entry
          ∙ asked_counted entries c.self.inside.asked c.args.index c.used-after.result there
          (λ was. ap (λ (e : KeyEntry). e.is_asked) after ∙ used_asked (get_or entries c.args.index new_key) c.args.symbol c.args.row was) held.asks;
      further_within = c.in_ok-add_further.ensures.adds.within;
      further_fit = omega (arith, held.further_fit, c.add_further.ensures.capacity);
    }
