use Rattle.std.proofs.Common.{rules}
use Rattle.std.proofs.lemmas.Cmp.{nat_cmp_total}
use Rattle.std.proofs.lemmas.List.Sorted.{answers_always}
use Rattle.elf_image.specs.Items.{copy_index}
use Rattle.elf_layout.proofs.LentSteps.{searched}
use Rattle.elf_image.proofs.image_items.search_copy.Goals as goal

pub returns : goal.returns
returns c =
    let facts = c.binary_search_by_key.ensures in
    let by_key = facts.position copy_index (answers_always _ _ _ (λ f a r g called. search rules)) in
    searched nat_cmp_total copy_index c.args.items.now c.requires c.args.index _ facts.bound by_key
