-- The position of a member's data, and what the members of an archive cost at most.
use Rattle.std.proofs.Common.{◌≡◌, ℕ, zero, suc, ◌+◌, ◌-◌, ◌≤◌, nat_le, nat_lt, if◌then◌else◌, Bool, true, false, List, length, Option, None, Some, Result, Ok, Err, refl, ap, arith}
use Rattle.std.proofs.lemmas.Bool.Decides.{nat_tests}
use Rattle.elf_model.specs.Prelude.{ArchiveCostIsWithinCeiling, DataLieInTheFile, DisplayedName, FileRange, ListingStyle, Member, MemberWalkState, NextMember, OneMember, allowance, archive_checks, archive_cost, before_members, behind, bytes_in, cost_where, data_after, header_cost, is_elf, is_elsewhere, listing_cost, lists_members, long_name_bytes, member_cost, member_data, member_name, member_named, member_size, members_cost, name_field, name_in_data, next_member, parsed_member_size, pass, style_ceiling}
use Rattle.elf_model.specs.declared.causes.Cause.{Cause}
use Rattle.elf_model.specs.declared.causes.Cause.TheVariants.{MemberCut}
use Rattle.elf_model.specs.Archive.{Ends, Broken}
use Rattle.elf_model.proofs.AllowanceLaws.{allowed, allowance_within, header_allowed}
use Rattle.elf_model.proofs.CostLemmas.{cost_within}
use Rattle.elf_model.proofs.Slices.{slice-size}

-- a result is a size, and a range
abbrev IsSize : Result ℕ Cause → ℕ → Type 0
IsSize answer size = answer ≡ Ok size

abbrev IsExtent : Result FileRange Cause → FileRange → Type 0
IsExtent answer extent = answer ≡ Ok extent

-- header and data lie within the file
size_lies : (file : List ℕ) (at size : ℕ) → member_size file at ≡ Ok size → at + 60 + size ≤ length file
unfolding member_size
size_lies file at size is = by_room (nat_lt (length file) (at + 60)) is
  where
    by_end : (told : ℕ) (t : Bool) → nat_lt (length file) (at + 60 + told) ≡ t → IsSize (if t then Err MemberCut else Ok told) size → at + 60 + size ≤ length file
    by_end told true e same = absurd cc
    by_end told false e same = let one : told ≡ size = cc in grind (arith, nat_tests)

    by_told : (told : Option ℕ) → IsSize (elim told [ None ↦ Err MemberCut | Some n ↦ if nat_lt (length file) (at + 60 + n) then Err MemberCut else Ok n ]) size → at + 60 + size ≤ length file
    by_told None same = absurd cc
    by_told (Some n) same = by_end n (nat_lt (length file) (at + 60 + n)) refl same

    by_room : (t : Bool)
        → IsSize (if t then Err MemberCut else elim (parsed_member_size file at) [ None ↦ Err MemberCut | Some n ↦ if nat_lt (length file) (at + 60 + n) then Err MemberCut else Ok n ]) size
        → at + 60 + size ≤ length file
    by_room true same = absurd cc
    by_room false same = by_told (parsed_member_size file at) same

-- and so does the rest of the data after a name
behind_lies : (at size name : ℕ) (e : FileRange) → data_after at size name ≡ Ok e → (at ≤ e.at) × (e.at + e.size ≤ at + size)
unfolding data_after
behind_lies at size name e is = by_room (nat_lt size name) refl is
  where
    by_room : (t : Bool) → nat_lt size name ≡ t → IsExtent (if t then Err MemberCut else Ok (record { at = at + name; size = size - name })) e → (at ≤ e.at) × (e.at + e.size ≤ at + size)
    by_room true r same = absurd cc
    by_room false r same =
        let begins : at + name ≡ e.at = cc in
        let rest : size - name ≡ e.size = cc in
        let room : name ≤ size = grind (arith, nat_tests) in (omega (arith, begins), omega (arith, begins, rest, room))

data_lies : (file : List ℕ) (at : ℕ) (e : FileRange) → member_data file at ≡ Ok e → (at + 60 ≤ e.at) × (e.at + e.size ≤ length file)
unfolding member_data
data_lies file at e is = go (member_size file at) refl is
  where
    go : (r : Result ℕ Cause) → member_size file at ≡ r → IsExtent (elim r [ Err cause ↦ Err cause | Ok size ↦ data_after (at + 60) size (name_in_data (name_field file at)) ]) e
        → (at + 60 ≤ e.at) × (e.at + e.size ≤ length file)
    go (Err cause) r same = absurd cc
    go (Ok size) r same =
        let lies = behind_lies (at + 60) size _ e same in (lies.0, omega (arith, lies.1, size_lies file at size r))

pub data_in_bounds : DataLieInTheFile
unfolding next_member
data_in_bounds file cap p m is = by_end (nat_lt p.at (length file)) is
  where
    named : (e : FileRange) (name : Result DisplayedName Cause) → member_named p e name ≡ OneMember m → e ≡ m.extent
    named e (Ok shown) same = cc
    named e (Err cause) same = absurd cc

    by_data : (r : Result FileRange Cause) → member_data file p.at ≡ r
        → elim r [ Err cause ↦ Broken (record { at = p.at; cause = cause }) | Ok extent ↦ member_named p extent (member_name file cap p.names p.at) ] ≡ OneMember m
        → (p.at + 60 ≤ m.extent.at) × (m.extent.at + m.extent.size ≤ length file)
    by_data (Err cause) r same = absurd cc
    by_data (Ok e) r same = rw (← named e (member_name file cap p.names p.at) same) (data_lies file p.at e r)

    by_end : (t : Bool)
        → (if t then elim (member_data file p.at) [ Err cause ↦ Broken (record { at = p.at; cause = cause }) | Ok extent ↦ member_named p extent (member_name file cap p.names p.at) ] else Ends) ≡ OneMember m
        → (p.at + 60 ≤ m.extent.at) × (m.extent.at + m.extent.size ≤ length file)
    by_end true same = by_data (member_data file p.at) refl same
    by_end false same = absurd cc

where_most : (t : Bool) (n : ℕ) → cost_where t n ≤ n
where_most true n = omega arith
where_most false n = omega arith

-- a header and a name cost no more than what is allowed in their place
header_most : (file : List ℕ) (cap : ℕ) (p : MemberWalkState) → header_cost file cap p ≤ 60 + long_name_bytes cap
unfolding header_cost
header_most file cap p =
    let name = where_most (is_elsewhere (name_field file p.at)) (long_name_bytes cap) in
    omega (arith, name, where_most (nat_le (p.at + 60) (length file)) (60 + cost_where (is_elsewhere (name_field file p.at)) (long_name_bytes cap)))

header_none : (file : List ℕ) (cap : ℕ) (p : MemberWalkState) → nat_le (p.at + 60) (length file) ≡ false → header_cost file cap p ≡ 0
unfolding header_cost
header_none file cap p is = rw is refl

header_within : (file : List ℕ) (headers : ℕ) (style : ListingStyle) (p : MemberWalkState) → header_cost file style.cap p ≤ allowance (length file - p.at) headers style
header_within file headers style p = by_room (nat_le (p.at + 60) (length file)) refl
  where
    by_room : (t : Bool) → nat_le (p.at + 60) (length file) ≡ t → header_cost file style.cap p ≤ allowance (length file - p.at) headers style
    by_room true r =
        let room : 60 ≤ length file - p.at = grind (arith, nat_tests) in
        omega (arith, header_most file style.cap p, header_allowed (length file - p.at) headers style room)
    by_room false r = omega (arith, header_none file style.cap p r)

-- a member costs no more than what its data are allowed
member_most : (file : List ℕ) (headers : ℕ) (style : ListingStyle) (parts : ℕ) (m : Member) → m.extent.at + m.extent.size ≤ length file
    → member_cost file headers style parts m ≤ 4 + style_ceiling m.extent.size headers style
unfolding member_cost
member_most file headers style parts m lies =
    let content = bytes_in file m.extent in
    let same = ap (λ n. style_ceiling n headers style) (slice-size file m.extent.at m.extent.size lies) in
    let file_cost = cost_within content headers style parts in
    let shown = where_most (is_elf content) (listing_cost content headers style parts) in
    let all = where_most (lists_members style parts) (4 + cost_where (is_elf content) (listing_cost content headers style parts)) in
    omega (arith, same, file_cost, shown, all)

-- and the members at a position cost no more than the bytes from there
members_within : (most : ℕ) (file : List ℕ) (headers : ℕ) (style : ListingStyle) (parts : ℕ) (p : MemberWalkState)
    → members_cost most file headers style parts p ≤ allowance (length file - p.at) headers style
unfolding members_cost
members_within zero file headers style parts p = omega arith
members_within (suc most) file headers style parts p = go (next_member file style.cap p) refl (λ q. members_within most file headers style parts q)
  where
    go : (next : NextMember) → next_member file style.cap p ≡ next
        → ((q : MemberWalkState) → members_cost most file headers style parts q ≤ allowance (length file - q.at) headers style)
        → header_cost file style.cap p
        + elim next [
          | Ends ↦ 0
          | Broken refusal ↦ 0
          | OneMember member ↦ member_cost file headers style parts member + members_cost most file headers style parts (behind file p member)
        ]
        ≤ allowance (length file - p.at) headers style
    go Ends is others = omega (arith, header_within file headers style p)
    go (Broken refusal) is others = omega (arith, header_within file headers style p)
    go (OneMember m) is others =
        let lies = data_in_bounds file style.cap p m is in
        let rest = others (behind file p m) in
        let room = allowed (length file - p.at) (length file - (behind file p m).at) m.extent.size headers style (omega (arith, lies.0, lies.1)) in
        omega (arith, header_most file style.cap p, member_most file headers style parts m lies.1, rest, room)

pub archive_cost_within : ArchiveCostIsWithinCeiling
unfolding archive_cost
archive_cost_within file headers style parts =
    let all = members_within (length file) file headers style parts before_members in
    let some = where_most (pass (archive_checks file)) (members_cost (length file) file headers style parts before_members) in
    omega (arith, all, some, allowance_within (length file) headers style)
