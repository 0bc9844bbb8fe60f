-- The member whose header is at an offset, found among headers that ascend; and the table of names.
use Rattle.std.proofs.Common.{◌≡◌, ◌≢◌, ℕ, zero, suc, ◌+◌, ◌-◌, ◌<◌, ◌≤◌, Bool, true, false, nat_lt, List, [], ◌∷◌, ◌++◌, length, get_or, Option, None, Some, Result, Ok, Err, refl, sym, ap, ◌∙◌, arith}
use Rattle.std.specs.Prelude.{if◌then◌else◌, map, ◌==◌}
use Rattle.std.specs.List.{position_or_len}
use Rattle.std.specs.List.Sorted.{IsBinarySearchResult, IsStrictlyIncreasing}
use Rattle.std.specs.Ordering.{nat_cmp}
use Rattle.std.proofs.lemmas.Bool.Decides.{nat_tests}
use Rattle.std.proofs.lemmas.List.{get_or-map, length-map}
use Rattle.std.proofs.lemmas.List.Sums.{position_or_len_is}
use Rattle.std.proofs.lemmas.List.Sorted.{searched}
use Rattle.elf_model.specs.Archive.{is_name_table}
use Rattle.elf_model.specs.LinkArchives.{LinkMember, link_members, link_member_at, name_table, no_member}
use Rattle.elf_resolve.proofs.MemberWalks.{finds_members}
use Rattle.elf_resolve.specs.Taken.{header_of}

-- among numbers that strictly ascend, each is below those after it
far_after : (xs : List ℕ) (i distance : ℕ) → IsStrictlyIncreasing xs → i + (distance + 1) < length xs → get_or xs i 0 < get_or xs (i + (distance + 1)) 0
far_after xs i zero rises below =
    let next : i + (zero + 1) ≡ i + 1 = omega arith in
    omega (arith, rises i (omega (arith, below)), ap (λ n. get_or xs n 0) next)
far_after xs i (suc distance) rises below =
    let next : i + (suc distance + 1) ≡ i + (distance + 1) + 1 = omega arith in
    omega (arith, far_after xs i distance rises (omega (arith, below)), rises (i + (distance + 1)) (omega (arith, below)), ap (λ n. get_or xs n 0) next)

pub far : (xs : List ℕ) (i j : ℕ) → IsStrictlyIncreasing xs → i < j → j < length xs → get_or xs i 0 < get_or xs j 0
far xs i j rises order below =
    let there : i + ((j - i - 1) + 1) ≡ j = omega (arith, order) in
    omega (arith, far_after xs i (j - i - 1) rises (omega (arith, below, there)), ap (λ n. get_or xs n 0) there)

near : (xs : List ℕ) (i distance : ℕ) → IsStrictlyIncreasing xs → i + distance < length xs → get_or xs i 0 ≤ get_or xs (i + distance) 0
near xs i zero rises below =
    let next : i + zero ≡ i = omega arith in
    omega (arith, ap (λ n. get_or xs n 0) next)
near xs i (suc distance) rises below =
    let next : i + suc distance ≡ i + (distance + 1) = omega arith in
    omega (arith, far_after xs i distance rises (omega (arith, below)), ap (λ n. get_or xs n 0) next)

pub no_less : (xs : List ℕ) → IsStrictlyIncreasing xs → (i j : ℕ) → i ≤ j → j < length xs → get_or xs i 0 ≤ get_or xs j 0
no_less xs rises i j order below =
    let there : i + (j - i) ≡ j = omega (arith, order) in
    omega (arith, near xs i (j - i) rises (omega (arith, below, there)), ap (λ n. get_or xs n 0) there)

-- a search among the headers of members
abbrev pub found_or_none : Result ℕ ℕ → Option ℕ
found_or_none (Ok place) = Some place
found_or_none (Err place) = None

pub header_is : (members : List LinkMember) (k : ℕ) → k < length members → get_or (map header_of members) k 0 ≡ (get_or members k no_member).header
header_is members k below = get_or-map header_of members k no_member 0 below

at_place : (members : List LinkMember) (at place : ℕ) → place < length members → ((k : ℕ) → k < place → (get_or members k no_member).header ≢ at) → (get_or members place no_member).header ≡ at
    → link_member_at members at ≡ Some place
at_place members at place below before here =
    let e : position_or_len (λ (other : LinkMember). other.header == at) members ≡ place = position_or_len_is (λ (other : LinkMember). other.header == at) members place no_member (omega (arith, below))
    (λ k less. let other = before k less in grind (arith, nat_tests)) (λ l. grind (arith, nat_tests)) in
    grind (arith, nat_tests)

at_no_place : (members : List LinkMember) (at : ℕ) → ((k : ℕ) → k < length members → (get_or members k no_member).header ≢ at) → link_member_at members at ≡ None
at_no_place members at before =
    let e : position_or_len (λ (other : LinkMember). other.header == at) members ≡ length members = position_or_len_is (λ (other : LinkMember). other.header == at) members (length members) no_member (omega arith)
    (λ k less. let other = before k less in grind (arith, nat_tests)) (λ l. absurd (omega (arith, l))) in
    grind (arith, nat_tests)

-- no header is where a search ended
not_there : (h at k place count : ℕ) → (k < place → h < at) → (place ≤ k → k < count → at < h) → k < count → h ≡ at → ⊥
not_there h at k place count before after less same = by_order (nat_lt k place) refl
  where
    by_order : (t : Bool) → nat_lt k place ≡ t → ⊥
    by_order true is = let order : k < place = grind (arith, nat_tests) in absurd (omega (arith, before order, same))
    by_order false is = let order : place ≤ k = grind (arith, nat_tests) in absurd (omega (arith, after order less, same))

pub member_found : (members : List LinkMember) (at : ℕ) (r : Result ℕ ℕ) → IsStrictlyIncreasing (map header_of members) → IsBinarySearchResult (λ y. nat_cmp y at) (map header_of members) r
    → link_member_at members at ≡ found_or_none r
member_found members at (Ok place) rises found =
    let hs = map header_of members in
    let s = searched hs at (Ok place) found (no_less hs rises) in
    let count = length-map members header_of in
    let within : place < length members = omega (arith, s.0, count) in
    at_place members at place within
    (λ k less same. absurd (omega (arith, far hs k place rises less (omega (arith, within, count)), header_is members k (omega (arith, less, within)), s.1, same)))
    (sym (header_is members place within) ∙ s.1)
member_found members at (Err place) rises found =
    let hs = map header_of members in
    let s = searched hs at (Err place) found (no_less hs rises) in
    let count = length-map members header_of in
    at_no_place members at (λ k less same. not_there (get_or hs k 0) at k place (length hs) (s.1 k) (s.2 k) (omega (arith, less, count)) (header_is members k less ∙ same))

-- the headers of an archive's members ascend
pub members_rise : (file : List ℕ) → IsStrictlyIncreasing (map header_of (link_members file).members)
members_rise file = λ k below.
    let members = (link_members file).members in
    let count = length-map members header_of in
    let less : k + 1 < length members = omega (arith, below, count) in
    omega (arith, (finds_members file).rises k less, header_is members k (omega (arith, less)), header_is members (k + 1) less)

-- the table of names, if one more member follows
abbrev pub earlier_or : Option LinkMember → Option LinkMember → Option LinkMember
earlier_or (Some table) other = Some table
earlier_or None other = other

abbrev pub if_table : List ℕ → LinkMember → Option LinkMember
if_table file member = if is_name_table file member.header then Some member else None

more_by : (is : Bool) (file : List ℕ) (x : LinkMember) (members : List LinkMember) (m : LinkMember) → name_table file (members ++ m ∷ []) ≡ earlier_or (name_table file members) (if_table file m)
    → (if is then Some x else name_table file (members ++ m ∷ [])) ≡ earlier_or (if is then Some x else name_table file members) (if_table file m)
more_by true file x members m more = refl
more_by false file x members m more = more

pub name_table_more : (file : List ℕ) (members : List LinkMember) (m : LinkMember) → name_table file (members ++ m ∷ []) ≡ earlier_or (name_table file members) (if_table file m)
name_table_more file [] m = refl
name_table_more file (x ∷ members) m = more_by (is_name_table file x.header) file x members m (name_table_more file members m)
