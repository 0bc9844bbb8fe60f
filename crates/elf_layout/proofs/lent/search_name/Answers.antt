use Rattle.std.proofs.Common.{rules}
use Rattle.std.proofs.lemmas.Cmp.{nat_list_cmp_total}
use Rattle.std.proofs.lemmas.List.Sorted.{answers_always}
use Rattle.elf_layout.specs.Lent.{lent_name}
use Rattle.elf_layout.proofs.LentSteps.{searched}
use Rattle.elf_layout.proofs.lent.search_name.Goals as goal

pub returns : goal.returns
returns c =
    let facts = c.binary_search_by_key.ensures in
    let by_key = facts.position (λ item. item.name) (answers_always _ _ _ (λ f a r g called. search rules)) in
    searched nat_list_cmp_total lent_name c.args.items.now c.requires c.args.name.now _ facts.bound by_key
