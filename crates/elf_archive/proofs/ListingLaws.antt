-- A member's line, and its listing after it.
use Rattle.std.proofs.Common.{◌≡◌, ℕ, ◌+◌, ◌-◌, ◌≤◌, nat_le, Bool, true, false, List, [], ◌∷◌, Err, refl, ap, ◌∙◌, subst, arith}
use Rattle.std.proofs.lemmas.Bool.Decides.{nat_tests}
use Rattle.elf_model.specs.Prelude.{Fault as FaultItem, FileRange, IsBudgetRefusal, ListingStyle, Member, MemberWalkState, NextMember, OneMember, allowance, bytes_in, cost_where, header_cost, is_elf, listing_cost, lists_members, long_name_bytes, member_cost, next_member, style_ceiling}
use Rattle.elf_model.specs.declared.causes.Refusal.{Refusal}
use Rattle.elf_model.specs.Archive.{Ends, Broken}
use Rattle.elf_table.specs.declared.fault.Fault.{Fault}
use Rattle.elf_table.specs.declared.fault.Fault.TheVariants.{Refused, Source}
use Rattle.elf_archive.specs.Prelude.{ReturnsMember, member_at, next_cost, next_items, step_cost}
use Rattle.elf_model.proofs.AllowanceLaws.{allowed, header_allowed}
use Rattle.elf_archive.proofs.AskLaws.{where_room}

-- what a member costs if listings are requested
pub member_listed : (file : List ℕ) (headers : ℕ) (style : ListingStyle) (parts : ℕ) (m : Member) → lists_members style parts ≡ true
    → member_cost file headers style parts m ≡ 4 + cost_where (is_elf (bytes_in file m.extent)) (listing_cost (bytes_in file m.extent) headers style parts)
unfolding member_cost
member_listed file headers style parts m asked = rw asked refl

pub member_elf : (file : List ℕ) (headers : ℕ) (style : ListingStyle) (parts : ℕ) (m : Member) (extent : FileRange) → lists_members style parts ≡ true → m.extent ≡ extent → is_elf (bytes_in file extent) ≡ true
    → member_cost file headers style parts m ≡ 4 + listing_cost (bytes_in file extent) headers style parts
member_elf file headers style parts m extent asked is elf =
    member_listed file headers style parts m asked
    ∙ (ap (λ (e : FileRange). 4 + cost_where (is_elf (bytes_in file e)) (listing_cost (bytes_in file e) headers style parts)) is
    ∙ ap (λ t. 4 + cost_where t (listing_cost (bytes_in file extent) headers style parts)) elf)

-- a member's cost is that of its data
pub cost_of_data : (file : List ℕ) (headers : ℕ) (style : ListingStyle) (parts : ℕ) (m : Member) → member_cost file headers style parts (member_at m.extent) ≡ member_cost file headers style parts m
unfolding member_cost
cost_of_data file headers style parts m = refl

-- a step reads no more than is allowed
pub step_allowed : (size headers : ℕ) (style : ListingStyle) (p : MemberWalkState) → step_cost size style.cap p ≤ allowance (size - p.at) headers style
step_allowed size headers style p = by_room (nat_le (p.at + 60) size) refl
  where
    by_room : (t : Bool) → nat_le (p.at + 60) size ≡ t → step_cost size style.cap p ≤ allowance (size - p.at) headers style
    by_room true e =
        let room : p.at + 60 ≤ size = grind (arith, nat_tests) in
        let most = header_allowed (size - p.at) headers style (omega (arith, room)) in
        omega (arith, where_room p.at size (60 + long_name_bytes style.cap) room, most)
    by_room false e = let none : step_cost size style.cap p ≡ 0 = ap (λ t. cost_where t (60 + long_name_bytes style.cap)) e in omega (arith, none)

-- a member, and the steps after it
pub member_allowed : (size headers : ℕ) (style : ListingStyle) (bytes : ℕ) (p q : MemberWalkState) → p.at + 60 + bytes ≤ size → p.at + 60 + bytes ≤ q.at
    → step_cost size style.cap p + (4 + style_ceiling bytes headers style) + allowance (size - q.at) headers style ≤ allowance (size - p.at) headers style
member_allowed size headers style bytes p q within behind =
    let all = allowed (size - p.at) (size - q.at) bytes headers style (omega (arith, within, behind)) in
    omega (arith, where_room p.at size (60 + long_name_bytes style.cap) (omega (arith, within)), all)

-- what is next costs its header at least
pub header_first : (file : List ℕ) (headers : ℕ) (style : ListingStyle) (parts : ℕ) (p : MemberWalkState) (next : NextMember) → header_cost file style.cap p ≤ next_cost file headers style parts p next
header_first file headers style parts p Ends = omega arith
header_first file headers style parts p (Broken refusal) = omega arith
header_first file headers style parts p (OneMember member) = omega arith

-- a refusal that a step returns is what is listed
pub unread_next : (alone : Bool) (file : List ℕ) (headers : ℕ) (style : ListingStyle) (parts : ℕ) (old new : MemberWalkState) (name : List ℕ) (fault : Fault) → ReturnsMember file style.cap old new name (Err fault)
    → (refusal : Refusal) → fault ≡ Refused refusal → (IsBudgetRefusal refusal → ⊥) → next_items alone file headers style parts (next_member file style.cap old) ≡ FaultItem refusal ∷ []
unread_next alone file headers style parts old new name (Refused first) tells refusal is other =
    let same : first ≡ refusal = cc in
    ap (next_items alone file headers style parts) (tells (λ budget. other (subst (λ (r : Refusal). IsBudgetRefusal r) same budget))) ∙ ap (λ (r : Refusal). FaultItem r ∷ []) same
unread_next alone file headers style parts old new name (Source fault at) tells refusal is other = cc

-- one more step, within what is allowed
pub step_within : (size now headers slots : ℕ) (style : ListingStyle) (bytes more total : ℕ) (p q : MemberWalkState) → now ≡ size → slots ≡ headers → bytes + allowance (size - p.at) headers style ≤ total
    → more + allowance (now - q.at) slots style ≤ allowance (now - p.at) slots style → (bytes + more) + allowance (size - q.at) headers style ≤ total
step_within size now headers slots style bytes more total p q same_size same_slots so_far step =
    let behind : allowance (now - q.at) slots style ≡ allowance (size - q.at) headers style =
    ap (λ n. allowance (n - q.at) slots style) same_size ∙ ap (λ h. allowance (size - q.at) h style) same_slots in
    let before : allowance (now - p.at) slots style ≡ allowance (size - p.at) headers style =
    ap (λ n. allowance (n - p.at) slots style) same_size ∙ ap (λ h. allowance (size - p.at) h style) same_slots in
    omega (arith, so_far, step, behind, before)

-- the last step, within what is allowed
pub step_ends : (size now headers slots : ℕ) (style : ListingStyle) (bytes more total : ℕ) (p : MemberWalkState) → now ≡ size → slots ≡ headers → bytes + allowance (size - p.at) headers style ≤ total
    → more + 0 ≤ allowance (now - p.at) slots style → bytes + more ≤ total
step_ends size now headers slots style bytes more total p same_size same_slots so_far step =
    let before : allowance (now - p.at) slots style ≡ allowance (size - p.at) headers style =
    ap (λ n. allowance (n - p.at) slots style) same_size ∙ ap (λ h. allowance (size - p.at) h style) same_slots in
    omega (arith, so_far, step, before)
