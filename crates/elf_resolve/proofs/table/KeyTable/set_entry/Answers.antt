use Rattle.std.proofs.Common.{◌<◌, length, length-set, arith, ap, sym, ◌∙◌}
use Rattle.std.proofs.lemmas.List.{length-map}
use Rattle.elf_model.specs.LinkKeys.{entry_named_as}
use Rattle.elf_model.specs.declared.link_states.KeyEntry.{KeyEntry}
use Rattle.elf_resolve.specs.KeyTables.{KeyList}
use Rattle.elf_resolve.proofs.KeyLaws.{counted_as_before}
use Rattle.elf_resolve.proofs.table.KeyTable.set_entry.Goals as goal

pub invariant_of-self : goal.invariant_of-self
invariant_of-self c =
    let held = c.self.invariant in
    let entries = c.self.inside.entries.items in
    let there : c.args.index < length entries = omega (arith, held.paired, c.requires.within, ap (λ (t : KeyList). length t.keys.names) c.self.view_is, length-map c.self.inside.names.items (λ n. n.now)) in
    record {
      finds = held.finds;
      paired = omega (arith, length-set entries c.args.index c.args.entry, held.paired);
      within = held.within;
      names_fit = held.names_fit;
      entries_fit = held.entries_fit;
      order_fits = held.order_fits;
      places_fit = held.places_fit;
      indexed = held.indexed;
      met = counted_as_before (λ (e : KeyEntry). e.is_met) entries c.args.index _ c.args.entry there (c.requires.same_met ∙ ap (λ (t : KeyList). (entry_named_as t.keys c.args.index).is_met) (sym c.self.view_is)) held.met;
      asks = counted_as_before (λ (e : KeyEntry). e.is_asked) entries c.args.index _ c.args.entry there (c.requires.same_asked ∙ ap (λ (t : KeyList). (entry_named_as t.keys c.args.index).is_asked) (sym c.self.view_is)) held.asks;
      further_within = held.further_within;
      further_fit = held.further_fit;
    }
