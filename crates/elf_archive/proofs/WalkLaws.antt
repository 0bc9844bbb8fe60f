-- A walk over members lists their items one after the other.
use Rattle.std.proofs.Common.{◌≡◌, ℕ, zero, suc, ◌+◌, ◌<◌, ◌≤◌, ◌||◌, nat_le, Bool, true, false, List, [], ◌++◌, length, Option, None, Some, Result, Ok, Err, refl, sym, ap, ◌∙◌, arith, append_assoc}
use Rattle.std.proofs.lemmas.Bool.Decides.{nat_tests}
use Rattle.std.specs.List.{list_any}
use Rattle.elf_model.specs.Prelude.{ListingItem, ListingStyle, MemberWalkState, Members, NextMember, OneMember, any_refused, before_members, behind, end_items, header_cost, is_refused, member_cost, member_items, members_cost, members_from, members_items, members_of, next_member, walk_items, with_member}
use Rattle.elf_model.specs.Archive.{Ends, Broken}
use Rattle.elf_source.specs.Prelude.{CountedState, OutState, ReadsUpTo}
use Rattle.elf_source.proofs.ReadsLaws.{ReadsUpTo-none, ReadsUpTo-then}
use Rattle.elf_table.specs.declared.run_fault.RunFault.{RunFault}
use Rattle.elf_listing.specs.Shows.{WroteItems, WroteSome}
use Rattle.elf_listing.proofs.ShowLaws.{Whole-none, Whole-then, WroteUntilStop-then, WroteUntilStop-more}
use Rattle.elf_archive.specs.Listed.{ReadsAtMostIn, ListsMembers, StepsTo, next_cost, next_items}
use Rattle.elf_archive.proofs.ConsumeLaws.{ReadsAtMostIn-then}
use Rattle.elf_archive.proofs.MemberLaws.{next-ends}

-- one fewer, if there is one
unfoldable pub fewer : ℕ → ℕ
fewer zero = zero
fewer (suc n) = n

pub fewer_is : (n : ℕ) → n ≤ fewer n + 1
unfolding fewer
fewer_is zero = omega arith
fewer_is (suc n) = omega arith

-- the members starting at the next position of a walk
abbrev after_members : List ℕ → ℕ → ℕ → MemberWalkState → NextMember → Members
after_members file cap most p Ends = record { members = []; refusal = None }
after_members file cap most p (Broken refusal) = record { members = []; refusal = Some refusal }
after_members file cap most p (OneMember m) = with_member m (members_from (fewer most) file cap (behind file p m))

members_next : (file : List ℕ) (cap most : ℕ) (p : MemberWalkState) (next : NextMember) → length file < p.at + most → next_member file cap p ≡ next → members_from most file cap p ≡ after_members file cap most p next
unfolding members_from fewer
members_next file cap zero p next enough is =
    let ends : next ≡ Ends = sym is ∙ next-ends file cap p (omega (arith, enough)) in rw ends refl
members_next file cap (suc most) p Ends enough is = rw (is, members_from) refl
members_next file cap (suc most) p (Broken refusal) enough is = rw (is, members_from) refl
members_next file cap (suc most) p (OneMember m) enough is = rw (is, members_from) refl

-- what follows the next position
abbrev pub after_items : (alone : Bool) → List ℕ → ℕ → ListingStyle → ℕ → ℕ → MemberWalkState → NextMember → List ListingItem
after_items alone file headers style parts most p Ends = []
after_items alone file headers style parts most p (Broken refusal) = []
after_items alone file headers style parts most p (OneMember m) = walk_items alone file headers style parts (members_from (fewer most) file style.cap (behind file p m))

abbrev pub after_cost : List ℕ → ℕ → ListingStyle → ℕ → ℕ → MemberWalkState → NextMember → ℕ
after_cost file headers style parts most p Ends = 0
after_cost file headers style parts most p (Broken refusal) = 0
after_cost file headers style parts most p (OneMember m) = members_cost (fewer most) file headers style parts (behind file p m)

abbrev pub after_refused : List ℕ → ℕ → ListingStyle → ℕ → ℕ → MemberWalkState → NextMember → Bool
after_refused file headers style parts most p Ends = false
after_refused file headers style parts most p (Broken refusal) = false
after_refused file headers style parts most p (OneMember m) =
    is_refused file headers style parts m || list_any (is_refused file headers style parts) (members_from (fewer most) file style.cap (behind file p m)).members

items_of : (alone : Bool) (file : List ℕ) (headers : ℕ) (style : ListingStyle) (parts most : ℕ) (p : MemberWalkState) (next : NextMember)
    → walk_items alone file headers style parts (after_members file style.cap most p next) ≡ next_items alone file headers style parts next ++ after_items alone file headers style parts most p next
unfolding walk_items members_items
items_of alone file headers style parts most p Ends = refl
items_of alone file headers style parts most p (Broken refusal) = refl
items_of alone file headers style parts most p (OneMember m) =
    append_assoc (member_items alone file headers style parts m) (members_items alone file headers style parts (members_from (fewer most) file style.cap (behind file p m)).members)
    (end_items (members_from (fewer most) file style.cap (behind file p m)).refusal)

any_of : (file : List ℕ) (headers : ℕ) (style : ListingStyle) (parts most : ℕ) (p : MemberWalkState) (next : NextMember)
    → list_any (is_refused file headers style parts) (after_members file style.cap most p next).members ≡ after_refused file headers style parts most p next
any_of file headers style parts most p Ends = refl
any_of file headers style parts most p (Broken refusal) = refl
any_of file headers style parts most p (OneMember m) = refl

-- what a walk that may go on lists
pub walk_next : (alone : Bool) (file : List ℕ) (headers : ℕ) (style : ListingStyle) (parts most : ℕ) (p : MemberWalkState) (next : NextMember) → length file < p.at + most → next_member file style.cap p ≡ next
    → walk_items alone file headers style parts (members_from most file style.cap p) ≡ next_items alone file headers style parts next ++ after_items alone file headers style parts most p next
walk_next alone file headers style parts most p next enough is =
    ap (walk_items alone file headers style parts) (members_next file style.cap most p next enough is) ∙ items_of alone file headers style parts most p next

-- and whether one is refused
pub refused_next : (file : List ℕ) (headers : ℕ) (style : ListingStyle) (parts most : ℕ) (p : MemberWalkState) (next : NextMember) → length file < p.at + most → next_member file style.cap p ≡ next
    → list_any (is_refused file headers style parts) (members_from most file style.cap p).members ≡ after_refused file headers style parts most p next
refused_next file headers style parts most p next enough is =
    ap (λ (walk : Members). list_any (is_refused file headers style parts) walk.members) (members_next file style.cap most p next enough is) ∙ any_of file headers style parts most p next

-- and what it costs
pub cost_next : (file : List ℕ) (headers : ℕ) (style : ListingStyle) (parts most : ℕ) (p : MemberWalkState) (next : NextMember) → length file < p.at + most → next_member file style.cap p ≡ next
    → members_cost most file headers style parts p ≡ next_cost file headers style parts p next + after_cost file headers style parts most p next
unfolding members_cost header_cost fewer
cost_next file headers style parts zero p next enough is =
    let ends : next ≡ Ends = sym is ∙ next-ends file style.cap p (omega (arith, enough)) in
    let none : nat_le (p.at + 60) (length file) ≡ false = grind (arith, nat_tests) in
    rw (ends, none) refl
cost_next file headers style parts (suc most) p Ends enough is = rw is refl
cost_next file headers style parts (suc most) p (Broken refusal) enough is = rw is refl
cost_next file headers style parts (suc most) p (OneMember m) enough is =
    let sum : header_cost file style.cap p + (member_cost file headers style parts m + members_cost most file headers style parts (behind file p m))
    ≡ (header_cost file style.cap p + member_cost file headers style parts m) + members_cost most file headers style parts (behind file p m) = omega arith in
    rw is sum

-- a walk over at most n members wrote what is listed of them, for no more than they cost, and
-- returns whether one was refused
abbrev pub WalksMembers : (alone : Bool) → List ℕ → ℕ → ListingStyle → (parts most : ℕ) → MemberWalkState → (a b : CountedState) → (old new : OutState) → Result Bool RunFault → Type 0
WalksMembers alone file headers style parts most p a b old new result =
    ReadsAtMostIn a b new result (members_cost most file headers style parts p)
    × ListsMembers old new result (walk_items alone file headers style parts (members_from most file style.cap p))
    (list_any (is_refused file headers style parts) (members_from most file style.cap p).members)

-- over all members of an archive
pub of_members : (alone : Bool) (file : List ℕ) (headers : ℕ) (style : ListingStyle) (parts : ℕ) (a b : CountedState) (old new : OutState) (result : Result Bool RunFault)
    → WalksMembers alone file headers style parts (length file) before_members a b old new result
    → ListsMembers old new result (walk_items alone file headers style parts (members_of file style.cap)) (any_refused file headers style parts)
unfolding members_of
of_members alone file headers style parts a b old new result walks = walks.1

-- what a walk has listed so far, what is left, and what that costs
pub record WalkSoFar (alone : Bool) (file : List ℕ) (headers : ℕ) (style : ListingStyle) (parts first : ℕ) (start p : MemberWalkState) (a b : CountedState) (old new : OutState) (any : Bool) : Type 0 where
  pub most : ℕ
  pub enough : length file < p.at + most
  pub listed : List ListingItem
  pub wrote : WroteItems old new listed
  pub left : walk_items alone file headers style parts (members_from first file style.cap start) ≡ listed ++ walk_items alone file headers style parts (members_from most file style.cap p)
  pub spent : ℕ
  pub reads : ReadsUpTo a b spent
  pub cost : spent + members_cost most file headers style parts p ≤ members_cost first file headers style parts start
  pub refused : list_any (is_refused file headers style parts) (members_from first file style.cap start).members
      ≡ (any || list_any (is_refused file headers style parts) (members_from most file style.cap p).members)

pub walk_begins : (alone : Bool) (file : List ℕ) (headers : ℕ) (style : ListingStyle) (parts first : ℕ) (start : MemberWalkState) (a : CountedState) (old : OutState) → length file < start.at + first
    → WalkSoFar alone file headers style parts first start start a a old old false
walk_begins alone file headers style parts first start a old enough = record {
  most = first;
  enough = enough;
  listed = [];
  wrote = Whole-none old;
  left = refl;
  spent = 0;
  reads = ReadsUpTo-none a 0;
  cost = omega arith;
  refused = refl;
}

or_assoc : (a b c : Bool) → (a || (b || c)) ≡ ((a || b) || c)
or_assoc true b c = refl
or_assoc false b c = refl

or_false : (a : Bool) → (a || false) ≡ a
or_false true = refl
or_false false = refl

-- one more member
pub walk_more : (alone : Bool) (file : List ℕ) (headers : ℕ) (style : ListingStyle) (parts first : ℕ) (start p q : MemberWalkState) (a b c : CountedState) (old new out : OutState) (any refused both : Bool)
    → (any || refused) ≡ both → p.at < q.at → WalkSoFar alone file headers style parts first start p a b old new any → StepsTo file headers style parts p q (Ok (Some refused))
    → ReadsAtMostIn {X = Option Bool} b c out (Ok (Some refused)) (next_cost file headers style parts p (next_member file style.cap p))
    → WroteSome {X = Option Bool} new out (Ok (Some refused)) (next_items alone file headers style parts (next_member file style.cap p))
    → WalkSoFar alone file headers style parts first start q a c old out both
walk_more alone file headers style parts first start p q a b c old new out any refused both is_both further known steps takes text =
    let m = steps.0 in
    let is : next_member file style.cap p ≡ OneMember m = steps.1 in
    let here : q ≡ behind file p m = steps.2 in
    let items = rw is at text in
    let cost : ReadsUpTo b c (header_cost file style.cap p + member_cost file headers style parts m) = rw is at takes.0 in
    let whole = walk_next alone file headers style parts known.most p (OneMember m) known.enough is in
    let sum = cost_next file headers style parts known.most p (OneMember m) known.enough is in
    let one = refused_next file headers style parts known.most p (OneMember m) known.enough is in
    record {
      most = fewer known.most;
      enough = omega (arith, known.enough, further, fewer_is known.most);
      listed = known.listed ++ member_items alone file headers style parts m;
      wrote = Whole-then known.wrote items;
      left = known.left ∙ (ap (λ rest. known.listed ++ rest) whole
          ∙ (sym (append_assoc known.listed (member_items alone file headers style parts m) _)
          ∙ ap (λ (r : MemberWalkState). (known.listed ++ member_items alone file headers style parts m) ++ walk_items alone file headers style parts (members_from (fewer known.most) file style.cap r)) (sym here)));
      spent = known.spent + (header_cost file style.cap p + member_cost file headers style parts m);
      reads = ReadsUpTo-then known.reads cost;
      cost =
          let same = ap (λ (r : MemberWalkState). members_cost (fewer known.most) file headers style parts r) here in
          omega (arith, known.cost, sum, same);
      refused = known.refused ∙ (ap (λ more. any || more) one
          ∙ (or_assoc any (is_refused file headers style parts m) _
          ∙ (ap (λ r. (any || r) || list_any (is_refused file headers style parts) (members_from (fewer known.most) file style.cap (behind file p m)).members) (sym steps.3)
          ∙ ap (λ (r : MemberWalkState). (any || refused) || list_any (is_refused file headers style parts) (members_from (fewer known.most) file style.cap r).members) (sym here)
          ∙ ap (λ r. r || list_any (is_refused file headers style parts) (members_from (fewer known.most) file style.cap q).members) is_both)));
    }

-- the file's end
pub walk_ends : (alone : Bool) (file : List ℕ) (headers : ℕ) (style : ListingStyle) (parts first : ℕ) (start p q : MemberWalkState) (a b c : CountedState) (old new out : OutState) (any : Bool)
    → WalkSoFar alone file headers style parts first start p a b old new any → StepsTo file headers style parts p q (Ok None)
    → ReadsAtMostIn {X = Option Bool} b c out (Ok None) (next_cost file headers style parts p (next_member file style.cap p))
    → WroteSome {X = Option Bool} new out (Ok None) (next_items alone file headers style parts (next_member file style.cap p))
    → WalksMembers alone file headers style parts first start a c old out (Ok any)
walk_ends alone file headers style parts first start p q a b c old new out any known steps takes text =
    let items = rw steps at text in
    let cost : ReadsUpTo b c (header_cost file style.cap p) = rw steps at takes.0 in
    let whole = walk_next alone file headers style parts known.most p Ends known.enough steps in
    let sum = cost_next file headers style parts known.most p Ends known.enough steps in
    let none = refused_next file headers style parts known.most p Ends known.enough steps in (
      ReadsAtMostIn-then {X = Bool} a b c out (Ok any) known.spent (header_cost file style.cap p) _ (omega (arith, known.cost, sum)) known.reads (cost, tt),
      (rw (known.left ∙ ap (λ rest. known.listed ++ rest) whole) (Whole-then known.wrote items), sym (known.refused ∙ (ap (λ more. any || more) none ∙ or_false any))),
    )

-- a fault
pub walk_stops : (alone : Bool) (file : List ℕ) (headers : ℕ) (style : ListingStyle) (parts first : ℕ) (start p : MemberWalkState) (a b c : CountedState) (old new out : OutState) (any : Bool) (stop : RunFault)
    → WalkSoFar alone file headers style parts first start p a b old new any
    → ReadsAtMostIn {X = Option Bool} b c out (Err stop) (next_cost file headers style parts p (next_member file style.cap p))
    → WroteSome {X = Option Bool} new out (Err stop) (next_items alone file headers style parts (next_member file style.cap p))
    → WalksMembers alone file headers style parts first start a c old out (Err stop)
walk_stops alone file headers style parts first start p a b c old new out any stop known takes text =
    let next = next_member file style.cap p in
    let whole = walk_next alone file headers style parts known.most p next known.enough refl in
    let sum = cost_next file headers style parts known.most p next known.enough refl in (
      ReadsAtMostIn-then {X = Unit {0}} a b c out (Err stop) known.spent (next_cost file headers style parts p next) _ (omega (arith, known.cost, sum)) known.reads takes,
      (rw (known.left ∙ ap (λ rest. known.listed ++ rest) whole) (WroteUntilStop-then old new out stop known.listed _ known.wrote (WroteUntilStop-more new out stop _ _ text)), tt),
    )
