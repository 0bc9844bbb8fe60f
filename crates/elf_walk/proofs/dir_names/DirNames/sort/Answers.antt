use Rattle.std.proofs.Common.{rules, ◌+◌, ◌≤◌, ◌∙◌, length}
use Rattle.std.proofs.lemmas.Cmp.{nat_list_cmp_total}
use Rattle.std.proofs.lemmas.List.Sorted.{All-permutation, IsPermutation-map, ranks_by, sum_by-IsPermutation}
use Rattle.std.specs.Ordering.{is_lt}
use Rattle.elf_model.specs.Bytes.{slice}
use Rattle.elf_walk.specs.Order.{order}
use Rattle.elf_walk.proofs.HeldLaws.{answers_so, sorted_mapped}
use Rattle.elf_walk.proofs.dir_names.DirNames.sort.Goals as goal

pub invariant_of-self : goal.invariant_of-self
invariant_of-self c = (
  All-permutation (λ p. p.start + p.len ≤ length c.self.inside.bytes.items) _ _ c.sort_unstable_by.ensures.permutation c.self.invariant.0,
  sum_by-IsPermutation (λ p. p.len) _ _ c.sort_unstable_by.ensures.permutation ∙ c.self.invariant.1,
)

pub returns-clause-permutation : goal.returns-clause-permutation
returns-clause-permutation c = rw (← c.self.view_is) (IsPermutation-map (λ p. slice c.self.inside.bytes.items p.start p.len) _ _ c.sort_unstable_by.ensures.permutation)

pub returns-clause-sorted : goal.returns-clause-sorted
returns-clause-sorted c =
    sorted_mapped (λ p. slice c.self.inside.bytes.items p.start p.len) (λ a b. is_lt (order a b)) c.sort_unstable_by.new.self.items
    (c.sort_unstable_by.ensures.sorted (λ a b. is_lt (order (slice c.self.inside.bytes.items a.start a.len) (slice c.self.inside.bytes.items b.start b.len)))
    (ranks_by nat_list_cmp_total (λ p. slice c.self.inside.bytes.items p.start p.len))
    (answers_so _ _ _ (λ a r g h. search rules)))
