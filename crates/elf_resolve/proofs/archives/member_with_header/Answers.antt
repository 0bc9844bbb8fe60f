use Rattle.std.proofs.Common.{rules, ◌≡◌, ℕ, List, subst, ◌∙◌}
use Rattle.std.specs.List.Sorted.{IsBinarySearchResult, IsStrictlyIncreasing}
use Rattle.std.specs.Ordering.{nat_cmp}
use Rattle.elf_resolve.proofs.MemberOffsets.{found_or_none, member_found}
use Rattle.elf_resolve.proofs.archives.member_with_header.Goals as goal

pub returns : goal.returns
returns c = λ known are rises.
    let place : found_or_none c.binary_search.result ≡ c.ok.result = search rules in
    member_found known c.args.offset c.binary_search.result (subst (λ (l : List ℕ). IsStrictlyIncreasing l) are rises)
    (subst (λ (l : List ℕ). IsBinarySearchResult (λ y. nat_cmp y c.args.offset) l c.binary_search.result) are c.binary_search.ensures.position)
    ∙ place
