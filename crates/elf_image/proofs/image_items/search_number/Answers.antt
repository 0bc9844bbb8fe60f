use Rattle.std.proofs.Common.{rules}
use Rattle.std.proofs.lemmas.Cmp.{nat_cmp_total}
use Rattle.std.proofs.lemmas.List.Sorted.{answers_always}
use Rattle.elf_image.specs.Items.{item_rank_of}
use Rattle.elf_layout.proofs.LentSteps.{searched}
use Rattle.elf_image.proofs.image_items.search_number.Goals as goal

pub returns : goal.returns
returns c =
    let facts = c.binary_search_by_key.ensures in
    let by_key = facts.position item_rank_of (answers_always _ _ _ (λ f a r g called. search rules)) in
    searched nat_cmp_total item_rank_of c.args.items.now c.requires c.args.wanted _ facts.bound by_key
